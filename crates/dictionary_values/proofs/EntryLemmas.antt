-- Entries of dictionaries as arrays.
use Rattle.std.proofs.Common.{◌≡◌, List, [], ◌∷◌, map, Some, None, refl, ap}
use Rattle.std.specs.Prelude.{Result, Ok, Err, IsTrue, IfErr}
use Rattle.columns_core.specs.Causes.{is_invalid_argument}
use Rattle.columns_core.specs.Column.{FitsMask, cell_of}
use Rattle.columns_core.specs.declared.cell.Cell.{Cell}
use Rattle.columns_core.specs.declared.error.Error.{Error}

-- entries that are all there
pub all-there : {T : Type 0} (cell : T → Cell) (entries : List T) → map (cell_of cell) (map Some entries) ≡ map cell entries
all-there cell [] = refl
all-there cell (entry ∷ entries) = ap (λ cells. cell entry ∷ cells) (all-there cell entries)

pub no-mask : {T : Type 0} (entries : List T) → FitsMask entries None
no-mask entries found is = absurd cc

-- A call that refuses what does not fit refuses nothing that does.
pub fits-never : {X : Type 0} {A B : Type 0} (result : Result X Error) → A → B → IfErr result (λ e. IsTrue (is_invalid_argument e) × (A → B → ⊥)) → IfErr result (λ _. ⊥)
fits-never (Ok array) a b err = tt
fits-never (Err error) a b err = absurd (err.1 a b)

pub fits-alone : {X : Type 0} {A : Type 0} (result : Result X Error) → A → IfErr result (λ e. IsTrue (is_invalid_argument e) × (A → ⊥)) → IfErr result (λ _. ⊥)
fits-alone (Ok array) a err = tt
fits-alone (Err error) a err = absurd (err.1 a)
