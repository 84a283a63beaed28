-- What values and the entries of a dictionary give.
use Rattle.std.proofs.Common.{◌≡◌, ℕ, List, [], ◌∷◌, map, drop, Option, Some, None, Ok, refl, sym, ap, ◌∙◌, arith}
use Rattle.std.specs.Prelude.{unwrap_or}
use Rattle.std.proofs.lemmas.List.{drop-map}
use Rattle.columns_core.specs.Causes.{ExternalFormat, IsOneOf, cause_of}
use Rattle.columns_core.specs.declared.cell.Cell.{Cell}
use Rattle.columns_core.specs.declared.error.Error.{Error}
use Rattle.parquet_meta.specs.declared.metadata.PhysicalType.{PhysicalType}
use Rattle.parquet_page.specs.Content.{DictContent}
use Rattle.parquet_page.specs.Spelling.{dictionary_entries}
use Rattle.parquet_page.specs.Stored.{Stored}
use Rattle.page_decoding.specs.Outcome.{Outcome, Given, all_given, causes_in, cells_in, refusal_of}
use Rattle.page_decoding.proofs.NextLemmas.{causes_in-given}
use Rattle.flat_values.specs.Conversion.{Conversion}
use Rattle.flat_values.specs.Outcomes.{dictionary_cells, stored_outcome}

pub cells_in-given : (cells : List Cell) → cells_in (map Given cells) ≡ cells
cells_in-given [] = refl
cells_in-given (cell ∷ cells) = ap (λ rest. cell ∷ rest) (cells_in-given cells)

all_given-cells : (cells : List Cell) → all_given (map Given cells) ≡ Ok cells
all_given-cells cells = rw (causes_in-given cells) (ap Ok (cells_in-given cells))

-- the entries of a dictionary all become cells
pub all_entries : (rule : Conversion) (type : PhysicalType) (page : DictContent) (stored : List Stored) (cells : List Cell)
    → dictionary_entries type page ≡ Some stored → map (stored_outcome rule) stored ≡ map Given cells → dictionary_cells rule type page ≡ Ok cells
unfolding dictionary_cells
all_entries rule type page stored cells e given = rw (e, given) (all_given-cells cells)

-- a dictionary page that is not spelled
pub no_entries : (rule : Conversion) (type : PhysicalType) (page : DictContent) (error : Error)
    → dictionary_entries type page ≡ None → cause_of error ≡ Some ExternalFormat → IsOneOf (causes_in (refusal_of (dictionary_cells rule type page))) (cause_of error)
unfolding dictionary_cells
no_entries rule type page error none told = rw (none, told) (0, omega arith, refl)

-- values that are passed over
pub behind : {A : Type 0} (f : A → Outcome) (left : Option (List A)) (values : List A) (count : ℕ) → left ≡ Some (drop count values) → map f (unwrap_or left []) ≡ drop count (map f values)
behind f left values count e = ap (λ o. map f (unwrap_or o [])) e ∙ sym (drop-map f count values)
