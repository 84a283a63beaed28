-- The items at the front of a list that are all the same.
use Rattle.std.specs.Prelude.{◌≡◌, ℕ, ◌≤◌, ◌⊎◌, List, [], ◌∷◌, ◌++◌, replicate}

-- a list does not begin with an item
abbrev pub BeginsOtherwise : {A : Type 0} → A → List A → Type 0
BeginsOtherwise x [] = Unit {0}
BeginsOtherwise x (y ∷ ys) = y ≡ x → ⊥

-- A list begins with so many copies of an item, at most `limit`. There are as many as there can be.
pub record BeginsWith {A : Type 0} (limit : ℕ) (x : A) (count : ℕ) (old new : List A) : Type 0 where
  pub split : old ≡ replicate count x ++ new
  pub most : count ≤ limit
  pub longest : (count ≡ limit) ⊎ BeginsOtherwise x new
