-- Values and their marks, with one more.
use Rattle.std.proofs.Common.{◌≡◌, ℕ, Bool, List, [], ◌∷◌, ◌++◌, length, refl, ap, ap₂, ◌∙◌, arith}
use Rattle.std.specs.Prelude.{Option, Some, None, if◌then◌else◌}
use Rattle.columns_core.specs.Column.{where_set}
use Rattle.flat_values.specs.FixedItems.{FixedItems}

-- as many as there are values
pub length-marked : {T : Type 0} (values : List T) (marks : List Bool) → length marks ≡ length values → length (where_set values marks) ≡ length values
length-marked [] marks e = refl
length-marked (value ∷ values) [] e = absurd (omega arith)
length-marked (value ∷ values) (set ∷ marks) e = let rest = length-marked values marks (omega arith) in omega arith

module _ {T : Type 0} (value : T) (there : Bool) where
  more : (values : List T) (marks : List Bool) → length marks ≡ length values
      → where_set (values ++ value ∷ []) (marks ++ there ∷ []) ≡ where_set values marks ++ (if there then Some value else None) ∷ []
  more [] [] e = refl
  more [] (set ∷ marks) e = absurd (omega arith)
  more (first ∷ values) [] e = absurd (omega arith)
  more (first ∷ values) (set ∷ marks) e = ap (λ rest. (if set then Some first else None) ∷ rest) (more values marks (omega arith))

  pub marked_more : (values new_values : List T) (marks new_marks : List Bool) → length marks ≡ length values → new_values ≡ values ++ value ∷ [] → new_marks ≡ marks ++ there ∷ []
      → where_set new_values new_marks ≡ where_set values marks ++ (if there then Some value else None) ∷ []
  marked_more values new_values marks new_marks e v m = ap₂ where_set v m ∙ more values marks e

-- what a contract sees of bytes of one size
abbrev Seen : Type 0
Seen = ℕ × List (Option (List ℕ))

abbrev seen : ℕ → List (Option (List ℕ)) → Seen
seen size items = (size, items)

-- bytes of one size, with one more
pub one_more : (values new_values : FixedItems) (item : List ℕ) (there : Bool) (marks new_marks : List Bool) (old : Seen) → length marks ≡ length values.items
    → new_values ≡ record { size = values.size; items = values.items ++ item ∷ [] } → new_marks ≡ marks ++ there ∷ [] → seen values.size (where_set values.items marks) ≡ old
    → seen new_values.size (where_set new_values.items new_marks) ≡ seen old.0 (old.1 ++ (if there then Some item else None) ∷ [])
one_more values new_values item there marks new_marks old e v m is =
    let size : new_values.size ≡ old.0 = ap (λ (held : FixedItems). held.size) v ∙ ap (λ (column : Seen). column.0) is in
    let items : where_set new_values.items new_marks ≡ old.1 ++ (if there then Some item else None) ∷ [] =
    marked_more item there values.items new_values.items marks new_marks e (ap (λ (held : FixedItems). held.items) v) m
    ∙ ap (λ (column : Seen). column.1 ++ (if there then Some item else None) ∷ []) is in
    ap₂ seen size items
