-- The pages that a reader lends: their type, and their order.
use Rattle.std.proofs.Common.{◌≡◌, ℕ, zero, suc, true, false, List, [], ◌∷◌, map, refl}
use Rattle.std.specs.Prelude.{if◌then◌else◌, Option, None, Some}
use Rattle.std.specs.List.{list_all}
use Rattle.std.proofs.lemmas.Bool.{and_parts}
use Rattle.columns_core.specs.Causes.{NotYetImplemented}
use Rattle.parquet_meta.specs.declared.metadata.PrimitiveType.{PrimitiveType}
use Rattle.parquet_page.specs.Chunk.{ChunkPage, Dictionary, NoDictionary, Undefined, Defined, chunk_dictionary, chunk_pages}
use Rattle.parquet_page.specs.Content.{Content, DataContent, is_data}
use Rattle.parquet_page.specs.Lending.{DataPagesAre, has_data_behind}
use Rattle.parquet_page.specs.Lent.{Lent, behind_dictionary, chunk_lent, lent_data_of, lent_dictionary_of, if_there, in_front, lent_data, lent_parts, located_lent, wanted_page}
use Rattle.parquet_page.specs.Spelling.{has_plain_entries}
use Rattle.parquet_page.specs.declared.page.FilteredPage.{FilteredPage}
use Rattle.parquet_page.proofs.CursorLemmas.{data_alone}
use Rattle.parquet_page.proofs.LocatedLemmas.{data_alone as parts_alone}

module _ (P : DataContent → Type 0) (type : PrimitiveType) (all : (page : DataContent) → page.type ≡ type → P page) where
  data_pages : (pages : List ChunkPage) → DataPagesAre P (map (lent_data_of type None) pages)
  data_pages [] = tt
  data_pages (page ∷ pages) = (all (record { header = page.header; body = page.body; type = type; selected = None }) refl, data_pages pages)

  behind : (dictionary : Dictionary) (others : Lent) → DataPagesAre P others.pages → DataPagesAre P (behind_dictionary dictionary others).pages
  behind NoDictionary others own = own
  behind Undefined others own = tt
  behind (Defined page) others own =
      elim (has_plain_entries page.encoding) as (λ plain. DataPagesAre P (if plain then in_front (lent_dictionary_of page) others else record { pages = []; causes = NotYetImplemented ∷ [] }).pages) [ true ↦ own | false ↦ tt ]

  pub chunk_pages_are : (num_values : ℕ) (chunk : List ℕ) → DataPagesAre P (chunk_lent type num_values chunk).pages
  unfolding chunk_lent
  chunk_pages_are zero chunk = tt
  chunk_pages_are (suc more) chunk = behind (chunk_dictionary chunk) (lent_data type (chunk_pages (suc more) chunk)) (data_pages (chunk_pages (suc more) chunk).pages)

  there : (entry : FilteredPage) (page : Option ChunkPage) (others : Lent) → DataPagesAre P others.pages → DataPagesAre P (if_there type entry page others).pages
  there entry None others own = tt
  there entry (Some page) others own = (all (record { header = page.header; body = page.body; type = type; selected = Some entry.selected_rows }) refl, own)

  parts : (wanted : List (FilteredPage × List ℕ)) → DataPagesAre P (lent_parts type wanted).pages
  unfolding lent_parts
  parts [] = tt
  parts (part ∷ others) = there part.0 (wanted_page part.0 part.1) (lent_parts type others) (parts others)

  pub located_pages_are : (before : Dictionary) (wanted : List (FilteredPage × List ℕ)) → DataPagesAre P (located_lent type before wanted).pages
  unfolding located_lent
  located_pages_are before [] = tt
  located_pages_are before (part ∷ others) = behind before (lent_parts type (part ∷ others)) (parts (part ∷ others))

-- ---- data pages alone

alone-behind : (pages : List Content) → list_all is_data pages ≡ true → has_data_behind pages ≡ true
alone-behind [] alone = refl
alone-behind (page ∷ pages) alone = (and_parts _ _ alone).1

behind-dictionary : (dictionary : Dictionary) (others : Lent) → list_all is_data others.pages ≡ true → has_data_behind (behind_dictionary dictionary others).pages ≡ true
behind-dictionary NoDictionary others alone = alone-behind others.pages alone
behind-dictionary Undefined others alone = refl
behind-dictionary (Defined page) others alone =
    elim (has_plain_entries page.encoding) as (λ plain. has_data_behind (if plain then in_front (lent_dictionary_of page) others else record { pages = []; causes = NotYetImplemented ∷ [] }).pages ≡ true) [ true ↦ alone | false ↦ refl ]

pub chunk_ordered : (type : PrimitiveType) (num_values : ℕ) (chunk : List ℕ) → has_data_behind (chunk_lent type num_values chunk).pages ≡ true
unfolding chunk_lent
chunk_ordered type zero chunk = refl
chunk_ordered type (suc more) chunk = behind-dictionary (chunk_dictionary chunk) (lent_data type (chunk_pages (suc more) chunk)) (data_alone type (chunk_pages (suc more) chunk).pages)

pub located_ordered : (type : PrimitiveType) (before : Dictionary) (wanted : List (FilteredPage × List ℕ)) → has_data_behind (located_lent type before wanted).pages ≡ true
unfolding located_lent
located_ordered type before [] = refl
located_ordered type before (part ∷ others) = behind-dictionary before (lent_parts type (part ∷ others)) (parts_alone type (part ∷ others))
