-- A dictionary's cells are the entries that its keys name.
use Rattle.std.specs.Prelude.{◌-◌, ◌^◌, ℕ, ℤ, pos, negsuc, List, map, slice_get, All, Option, None, option_map, option_and_then, IsSome}
use Rattle.std.specs.Option.{ForSome}
use Rattle.columns_core.specs.declared.cell.Cell.{Cell}

-- the entry that a key names; a key below 0 names none
abbrev pub entry_named : List Cell → ℤ → Option Cell
entry_named entries (pos key) = slice_get entries key
entry_named entries (negsuc key) = None

-- the entries that keys name, which may be null themselves
abbrev pub entries_named : {K : Type 0} → (K → ℤ) → List Cell → List (Option K) → List (Option Cell)
entries_named number entries keys = map (λ key. option_and_then (λ k. entry_named entries (number k)) key) keys

-- each key that is there names an entry
abbrev pub NameEntries : {K : Type 0} → (K → ℤ) → List Cell → List (Option K) → Type 0
NameEntries number entries keys = All (λ key. ForSome key (λ k. IsSome (entry_named entries (number k)))) keys

-- a key as a number of 64 bits; one below 0 is taken for the greatest, which no list of entries reaches
abbrev pub place_of_key : ℤ → ℕ
place_of_key (pos key) = key
place_of_key (negsuc key) = 2 ^ 64 - 1

-- keys as numbers of 64 bits
abbrev pub key_places : {K : Type 0} → (K → ℤ) → List (Option K) → List (Option ℕ)
key_places number keys = map (option_map (λ key. place_of_key (number key))) keys
