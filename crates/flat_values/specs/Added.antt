-- What conversions add to the numbers that are there.
use Rattle.std.specs.Prelude.{◌≡◌, List, ◌++◌, map}
use Rattle.columns_core.specs.declared.cell.Cell.{Cell}
use Rattle.page_decoding.specs.Outcome.{Outcome, Given}

-- behind the numbers that were there stand those that are given
abbrev pub Adds : {T : Type 0} → (T → Cell) → List T → List T → List Outcome → Type 0
Adds cell old new outcomes = map (λ number. Given (cell number)) new ≡ map (λ number. Given (cell number)) old ++ outcomes
