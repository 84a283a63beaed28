-- Where nothing is wrong with a page of keys, its places give what its values are.
use Rattle.std.proofs.Common.{◌≡◌, ℕ, true, List, [], ◌∷◌, length, map, refl, sym, ap, ◌∙◌}
use Rattle.std.specs.Prelude.{is_some, Option, Some, None, option_map, unwrap_or}
use Rattle.std.specs.Option.{option_map_or}
use Rattle.columns_core.specs.Causes.{Cause, ExternalFormat}
use Rattle.columns_core.specs.declared.cell.Cell.{Cell}
use Rattle.parquet_page.specs.Content.{DataContent}
use Rattle.parquet_page.specs.Opened.{key_causes, page_causes}
use Rattle.parquet_page.specs.Selected.{selected_of}
use Rattle.parquet_page.specs.Spelling.{page_encoding, placed_keys}
use Rattle.parquet_page.specs.Values.{Keys, goes_with}
use Rattle.page_decoding.specs.Outcome.{page_outcomes}
use Rattle.flat_values.specs.Conversion.{Conversion}
use Rattle.flat_values.specs.Outcomes.{place_outcomes, selected_outcomes}
use Rattle.dictionary_values.specs.Keys.{placed_entry, selected_by, selected_entries}
use Rattle.dictionary_values.proofs.CauseLemmas.{IsKeyPage, causes-alone, fine-alone, key-page, no-dictionary}
use Rattle.dictionary_values.proofs.PageLemmas.{places-of-keys}

-- Keys of a type, as values of a stored type that has keys: nothing is wrong with them over the entries alone.
pub none-alone : (most entries : ℕ) (page : DataContent) → goes_with Keys page.type.physical_type ≡ true → page_causes (Some most) true (Some entries) page ≡ [] → page_causes None true (Some entries) page ≡ []
none-alone most entries page goes none =
    let is = key-page most entries page none in
    causes-alone (Some entries) page is.named goes is.readable
    ∙ ap (λ o. option_map_or (key_causes None (Some entries)) o (ExternalFormat ∷ [])) is.spelled
    ∙ fine-alone entries is.keys is.below_entries

-- their encoding
read-keys : (most entries : ℕ) (page : DataContent) → goes_with Keys page.type.physical_type ≡ true → IsKeyPage most entries page → page_encoding page ≡ Some Keys
read-keys most entries page goes is = rw (is.named, goes, is.readable) refl

-- The selected places give the entries that their keys name, which is what their values become by any conversion.
pub entries-selected : (rule : Conversion) (most : ℕ) (entries : List Cell) (page : DataContent) → goes_with Keys page.type.physical_type ≡ true → page_causes (Some most) true (Some (length entries)) page ≡ []
    → selected_entries most (Some entries) page ≡ selected_outcomes rule (Some entries) page
unfolding selected_outcomes selected_by
entries-selected rule most entries page goes none =
    let is = key-page most (length entries) page none in
    let place = placed_entry (Some entries) in
    ap (λ causes. page_outcomes causes page.selected (map place (unwrap_or (placed_keys page) []))) none
    ∙ ap (selected_of page.selected) (given (placed_keys page))
    ∙ ap (λ o. selected_of page.selected (unwrap_or o [])) (sym (places-of-keys rule (Some entries) page is.named (read-keys most (length entries) page goes is)))
    ∙ sym (ap (λ causes. page_outcomes causes page.selected (unwrap_or (place_outcomes rule (Some entries) page) [])) (none-alone most (length entries) page goes none)) where
      given : (o : Option (List (Option ℕ))) → map (placed_entry (Some entries)) (unwrap_or o []) ≡ unwrap_or (option_map (map (placed_entry (Some entries))) o) []
      given None = refl
      given (Some list) = refl

-- a page of keys with which nothing is wrong: it has a dictionary, and is read as any other page of keys
pub record IsFineKeyPage (rule : Conversion) (most : ℕ) (entries : Option (List Cell)) (page : DataContent) : Type 0 where
  pub alone : page_causes None (is_some entries) (option_map length entries) page ≡ []
  pub outcomes : selected_entries most entries page ≡ selected_outcomes rule entries page

pub fine-key-page : (rule : Conversion) (most : ℕ) (entries : Option (List Cell)) (page : DataContent) → goes_with Keys page.type.physical_type ≡ true → page_causes (Some most) (is_some entries) (option_map length entries) page ≡ [] → IsFineKeyPage rule most entries page
fine-key-page rule most None page goes none = absurd (clash (sym none ∙ no-dictionary most None page)) where
  clash : {causes : List Cause} {cause : Cause} → [] ≡ cause ∷ causes → ⊥
  clash wrong = cc
fine-key-page rule most (Some entries) page goes none = record { alone = none-alone most (length entries) page goes none; outcomes = entries-selected rule most entries page goes none }
