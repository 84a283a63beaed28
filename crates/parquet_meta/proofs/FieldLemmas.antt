-- The items beside the columns of a field end with the shorter list.
use Rattle.std.proofs.Common.{◌≡◌, ◌⊎◌, inl, inr, ℕ, List, [], ◌∷◌, ◌++◌, refl, sym, ap, ◌∙◌, arith, length}
use Rattle.std.proofs.lemmas.List.{append-nil}
use Rattle.parquet_meta.specs.Indexes.{field_items}
use Rattle.parquet_meta.specs.declared.metadata.ColumnChunkMetaData.{ColumnChunkMetaData}

without_columns : {A : Type 0} (name : List ℕ) (columns : List ColumnChunkMetaData) (items : List A) → length columns ≡ 0 → field_items name columns items ≡ []
without_columns name [] items e = refl
without_columns name (column ∷ columns) items e = absurd (omega arith)

without_items : {A : Type 0} (name : List ℕ) (columns : List ColumnChunkMetaData) (items : List A) → length items ≡ 0 → field_items name columns items ≡ []
without_items name [] items e = refl
without_items name (column ∷ columns) [] e = refl
without_items name (column ∷ columns) (item ∷ items) e = absurd (omega arith)

none_beside : {A : Type 0} (name : List ℕ) (columns : List ColumnChunkMetaData) (items : List A) → (length columns ≡ 0) ⊎ (length items ≡ 0) → field_items name columns items ≡ []
none_beside name columns items (inl e) = without_columns name columns items e
none_beside name columns items (inr e) = without_items name columns items e

pub all_beside : {A : Type 0} (name : List ℕ) (columns : List ColumnChunkMetaData) (items found all : List A) → (length columns ≡ 0) ⊎ (length items ≡ 0) → found ++ field_items name columns items ≡ all → found ≡ all
all_beside {A = A} name columns items found all ended same = sym (ap (λ (l : List A). found ++ l) (none_beside name columns items ended) ∙ append-nil found) ∙ same
