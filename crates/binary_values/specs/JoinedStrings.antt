-- Joined bytes, and the strings in them.
use Rattle.std.specs.Prelude.{ℕ, List, [], ◌∷◌, take, drop}

-- joined bytes, cut into strings of these lengths
abbrev pub cut_into : List ℕ → List ℕ → List (List ℕ)
cut_into [] bytes = []
cut_into (long ∷ lengths) bytes = take long bytes ∷ cut_into lengths (drop long bytes)
