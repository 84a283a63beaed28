-- A chunk's pages hold all its values, where each of them is defined.
use Rattle.std.proofs.Common.{◌≡◌, ℕ, zero, suc, ◌+◌, ◌-◌, ◌≤◌, leb, Bool, true, false, cond, List, [], ◌∷◌, length, map, Option, Some, None, refl, sym, ap, ◌∙◌, arith}
use Rattle.std.specs.Prelude.{sum_by}
use Rattle.std.proofs.lemmas.Bool.{leb-true}
use Rattle.std.proofs.lemmas.List.Sums.{sum_by-cons}
use Rattle.columns_core.specs.Causes.{unless, ExternalFormat}
use Rattle.parquet_base.specs.Reading.{◌>>=◌, given}
use Rattle.parquet_meta.specs.declared.metadata.PrimitiveType.{PrimitiveType}
use Rattle.parquet_page.specs.Chunk.{ChunkPage, DictionaryPage, as_data_header, data_page_at, dictionary_at, walk_on, page_at, pages_from}
use Rattle.parquet_page.specs.Content.{content_rows, header_values}
use Rattle.parquet_page.specs.Cursor.{lent_behind, lent_from}
use Rattle.parquet_page.specs.Lent.{lent_data_of, lent_dictionary_of, in_front, lent_data}
use Rattle.parquet_page.proofs.CursorLemmas.{not_carried}
use Rattle.parquet_page.specs.Spelling.{has_plain_entries}
use Rattle.parquet_encoding.proofs.StepLemmas.{bind_some, given_some}

abbrev pub page_values : ChunkPage → ℕ
page_values page = header_values page.header

pub data_page_fits : (left : ℕ) (bytes : List ℕ) (read : ChunkPage × List ℕ) → data_page_at left bytes ≡ Some read → page_values read.0 ≤ left
unfolding data_page_at
data_page_fits left bytes read e =
    let page = bind_some (page_at bytes) (λ page. as_data_header page.0.kind >>= λ header. given (leb (header_values header) left) (record { size = length bytes - length page.1; header = header; body = page.0.body }, page.1)) read e in
    let header = bind_some (as_data_header page.0.0.kind) (λ header. given (leb (header_values header) left) (record { size = length bytes - length page.0.1; header = header; body = page.0.0.body }, page.0.1)) read page.2 in
    let same = given_some _ _ read header.2 in
    rw (← same.1) (leb-true _ _ same.0)

pub walk_sum : (limit left : ℕ) (bytes : List ℕ) → (pages_from limit left bytes).is_whole ≡ true → sum_by page_values (pages_from limit left bytes).pages ≡ left
unfolding pages_from
walk_sum zero zero bytes whole = refl
walk_sum (suc limit) zero bytes whole = refl
walk_sum zero (suc left) bytes whole = absurd cc
walk_sum (suc limit) (suc left) bytes whole = go (data_page_at (suc left) bytes) refl (λ page rest. walk_sum limit (suc left - page_values page) rest) whole where
  go : (r : Option (ChunkPage × List ℕ)) → data_page_at (suc left) bytes ≡ r
      → ((page : ChunkPage) (rest : List ℕ) → (pages_from limit (suc left - page_values page) rest).is_whole ≡ true → sum_by page_values (pages_from limit (suc left - page_values page) rest).pages ≡ suc left - page_values page)
      → (walk_on r (λ page rest. pages_from limit (suc left - header_values page.header) rest)).is_whole ≡ true
      → sum_by page_values (walk_on r (λ page rest. pages_from limit (suc left - header_values page.header) rest)).pages ≡ suc left
  go None e further whole = absurd cc
  go (Some read) e further whole =
      let others = further read.0 read.1 whole in
      omega (arith, data_page_fits (suc left) bytes read e, others, sum_by-cons page_values read.0 (pages_from limit (suc left - page_values read.0) read.1).pages)

same_sum : (type : PrimitiveType) (pages : List ChunkPage) → sum_by content_rows (map (lent_data_of type None) pages) ≡ sum_by page_values pages
same_sum type [] = refl
same_sum type (page ∷ pages) =
    sum_by-cons content_rows (lent_data_of type None page) (map (lent_data_of type None) pages) ∙ ap (λ n. page_values page + n) (same_sum type pages) ∙ sym (sum_by-cons page_values page pages)

pub is_whole : (b : Bool) → unless b ExternalFormat ≡ [] → b ≡ true
is_whole true e = refl
is_whole false e = absurd cc

lent_sum : (type : PrimitiveType) (limit left : ℕ) (bytes : List ℕ) → (lent_data type (pages_from limit left bytes)).causes ≡ [] → sum_by content_rows (lent_data type (pages_from limit left bytes)).pages ≡ left
lent_sum type limit left bytes e = same_sum type (pages_from limit left bytes).pages ∙ walk_sum limit left bytes (is_whole _ e)

-- the rows still to come are the values still to come
pub left_is_to_come : (limit : ℕ) (type : PrimitiveType) (is_first : Bool) (left : ℕ) (bytes : List ℕ) → (lent_from limit type is_first left bytes).causes ≡ []
    → sum_by content_rows (lent_from limit type is_first left bytes).pages ≡ left
unfolding lent_from
left_is_to_come limit type is_first zero bytes e = refl
left_is_to_come limit type false (suc left) bytes e = lent_sum type limit (suc left) bytes e
left_is_to_come limit type true (suc left) bytes e = go (dictionary_at bytes) e where
  behind : (read : DictionaryPage × List ℕ) (b : Bool) → (cond b (in_front (lent_dictionary_of read.0) (lent_data type (pages_from limit (suc left) read.1))) (not_carried)).causes ≡ []
      → sum_by content_rows (cond b (in_front (lent_dictionary_of read.0) (lent_data type (pages_from limit (suc left) read.1))) (not_carried)).pages ≡ suc left
  behind read true e = omega (arith, sum_by-cons content_rows (lent_dictionary_of read.0) (lent_data type (pages_from limit (suc left) read.1)).pages, lent_sum type limit (suc left) read.1 e)
  behind read false e = absurd cc

  go : (r : Option (DictionaryPage × List ℕ)) → (lent_behind type r (pages_from limit (suc left)) bytes).causes ≡ [] → sum_by content_rows (lent_behind type r (pages_from limit (suc left)) bytes).pages ≡ suc left
  go None e = lent_sum type limit (suc left) bytes e
  go (Some read) e = behind read (has_plain_entries read.0.encoding) e
