-- How far the reading of a column has come behind its pages.
use Rattle.std.proofs.Common.{◌≡◌, ℕ, ◌-◌, List, ◌∷◌, ◌++◌, length, take, map, Option, Some, sym, ap, ◌∙◌, arith, append-nil, []}
use Rattle.std.specs.Prelude.{Result, Ok, option_map}
use Rattle.columns_core.specs.Causes.{Cause}
use Rattle.columns_core.specs.declared.cell.Cell.{Cell}
use Rattle.parquet_page.specs.Content.{Content, DataContent, DictContent, DataOf, DictOf}
use Rattle.page_decoding.specs.Outcome.{Outcome, Given}
use Rattle.page_decoding.specs.Queue.{joined}
use Rattle.page_decoding.specs.Standing.{Advances, Passes, standing}
use Rattle.page_decoding.proofs.NextLemmas.{fewer-wanted, given-whole, take-nil}

-- a dictionary page was read
pub passes_entries : {Item Dict : Type 0} (shown : Item → List Cell) (dict_shown : Dict → List Cell) (entries : DictContent → Result (List Cell) (List Cause)) (outcomes : Option (List Cell) → DataContent → List Outcome) (items : List Item) (remaining : ℕ) (dict : Option Dict) (found : Dict) (page : DictContent) (old new : List Content)
    → old ≡ DictOf page ∷ new → entries page ≡ Ok (dict_shown found) → Advances entries outcomes old new (standing shown dict_shown items remaining dict) (standing shown dict_shown items remaining (Some found))
passes_entries shown dict_shown entries outcomes items remaining dict found page old new first e =
    let waiting = map Given (joined (map shown items)) in
    let same : waiting ≡ waiting ++ take remaining [] = sym (ap (λ xs. waiting ++ xs) (take-nil remaining) ∙ append-nil waiting) in
    let left : remaining ≡ remaining - 0 = omega arith in
    Passes (DictOf page) first (rw e cc)

-- a data page was read
pub passes_rows : {Item Dict : Type 0} (shown : Item → List Cell) (dict_shown : Dict → List Cell) (entries : DictContent → Result (List Cell) (List Cause)) (outcomes : Option (List Cell) → DataContent → List Outcome) (items more : List Item) (remaining fewer : ℕ) (dict : Option Dict) (page : DataContent) (old new : List Content)
    → old ≡ DataOf page ∷ new → map Given (joined (map shown more)) ≡ map Given (joined (map shown items)) ++ take remaining (outcomes (option_map dict_shown dict) page) → fewer ≡ remaining - length (outcomes (option_map dict_shown dict) page)
    → Advances entries outcomes old new (standing shown dict_shown items remaining dict) (standing shown dict_shown more fewer dict)
passes_rows shown dict_shown entries outcomes items more remaining fewer dict page old new first e left =
    let own = outcomes (option_map dict_shown dict) page in
    let now = left ∙ fewer-wanted remaining own (given-whole (joined (map shown items)) (joined (map shown more)) (take remaining own) e) in
    Passes (DataOf page) first cc
