-- Orders of items, by which the ends of pages and chunks are found.
use Rattle.std.specs.Prelude.{◌≡◌, Bool, true, false, int_le}
use Rattle.parquet_page.specs.Stored.{Stored, Number}

-- a total order of items of a kind
pub record IsOrder (P : Stored → Type 0) (at_most : Stored → Stored → Bool) : Type 0 where
  pub same : (a : Stored) → P a → at_most a a ≡ true
  pub total : (a b : Stored) → P a → P b → at_most a b ≡ false → at_most b a ≡ true
  pub through : (a b c : Stored) → P a → P b → P c → at_most a b ≡ true → at_most b c ≡ true → at_most a c ≡ true

abbrev pub IsNumber : Stored → Type 0
IsNumber (Number n) = Unit {0}
IsNumber _ = ⊥

abbrev pub numbers_at_most : Stored → Stored → Bool
numbers_at_most (Number a) (Number b) = int_le a b
numbers_at_most _ _ = true
