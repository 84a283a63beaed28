-- What is made of each of a list.
use Rattle.std.specs.Prelude.{List, [], ◌∷◌, Option, Some}
use Rattle.parquet_base.specs.Reading.{◌>>=◌}

-- the values of a list in turn, where each has one
unfoldable pub all_of : {A B : Type 0} → (A → Option B) → List A → Option (List B)
all_of value [] = Some []
all_of value (x ∷ xs) = do
  first ← value x
  others ← all_of value xs
  Some (first ∷ others)
