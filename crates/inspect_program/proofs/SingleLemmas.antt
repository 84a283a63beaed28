-- How many columns have a path that begins with a name, column by column.
use lib.Dec.{eqb}
use Rattle.std.proofs.Common.{◌≡◌, ℕ, ◌+◌, ◌<◌, Bool, true, false, List, ◌∙◌, ap, get_or, inl, inr, length, refl, sym, take}
use Rattle.std.specs.Prelude.{◌==◌, Option, Some, None, count_by, unwrap_or, cond}
use Rattle.std.specs.BTreeMap.{BTreeMap, get_by, Updates}
use Rattle.std.specs.Borrow.{Bor}
use Rattle.std.specs.Cmp.Lexicographic.{slice_cmp}
use Rattle.std.specs.Map.{update}
use Rattle.std.specs.Option.{option_eq, option_map_or}
use Rattle.std.specs.Ordering.{nat_cmp}
use Rattle.std.specs.Str.{bytes_eq}
use Rattle.std.proofs.lemmas.Bool.{cases_Bool, cond-false, cond-true, false≢true}
use Rattle.std.proofs.lemmas.List.Sums.{count_by_more_yes, count_by_more_no}
use Rattle.std.proofs.lemmas.Map.Text.{btree_map_updates_str}
use Rattle.std.proofs.lemmas.Slice.Eq.{bytes_eq-Decides}
use Rattle.parquet_meta.specs.declared.metadata.ColumnDescriptor.{ColumnDescriptor}
use Rattle.inspect_program.specs.Guess.{first_name, is_begun, is_single}
use Rattle.inspect_program.specs.Singles.{IsCountOf, begun_count}

abbrev pub Counts : Type 0
Counts = BTreeMap (Bor (List ℕ)) ℕ

-- the same bytes in the other order
bytes_eq-other : (xs ys : List ℕ) (b : Bool) → bytes_eq xs ys ≡ b → bytes_eq ys xs ≡ b
bytes_eq-other xs ys true same = (bytes_eq-Decides ys xs).1 (sym ((bytes_eq-Decides xs ys).0 same))
bytes_eq-other xs ys false other =
    elim (cases_Bool (bytes_eq ys xs)) [
      | inl same ↦ absurd (false≢true (sym other ∙ (bytes_eq-Decides xs ys).1 (sym ((bytes_eq-Decides ys xs).0 same))))
      | inr is ↦ is
    ]

begins : (name first : List ℕ) (column : ColumnDescriptor) (b : Bool) → first_name column.path_in_schema ≡ Some first → bytes_eq first name ≡ b → is_begun name column ≡ b
begins name first column b is same = ap (λ o. option_map_or (bytes_eq name) o false) is ∙ bytes_eq-other first name b same

looked_up : (m n : Counts) (first name : List ℕ) (b : Bool) (count : ℕ) → bytes_eq first name ≡ b
    → ((cs : List ℕ) → get_by (λ (key : Bor (List ℕ)). slice_cmp nat_cmp cs key.now) n ≡ update bytes_eq (λ ds. get_by (λ (key : Bor (List ℕ)). slice_cmp nat_cmp ds key.now) m) first (Some count) cs)
    → begun_count n name ≡ cond b count (begun_count m name)
looked_up m n first name true count same updates =
    ap (λ o. unwrap_or o 0) (updates name ∙ cond-true (bytes_eq first name) (Some count) _ same)
looked_up m n first name false count other updates =
    ap (λ o. unwrap_or o 0) (updates name ∙ cond-false (bytes_eq first name) (Some count) _ other)

counted : (m n : Counts) (columns : List ColumnDescriptor) (i : ℕ) (column : ColumnDescriptor) (first name : List ℕ) (b : Bool) → i < length columns → column ≡ get_or columns i column
    → first_name column.path_in_schema ≡ Some first → bytes_eq first name ≡ b → IsCountOf (take i columns) m
    → ((cs : List ℕ) → get_by (λ (key : Bor (List ℕ)). slice_cmp nat_cmp cs key.now) n ≡ update bytes_eq (λ ds. get_by (λ (key : Bor (List ℕ)). slice_cmp nat_cmp ds key.now) m) first (Some (begun_count m first + 1)) cs)
    → begun_count n name ≡ count_by (is_begun name) (take (i + 1) columns)
counted m n columns i column first name true within at is same counts updates =
    let whole = (bytes_eq-Decides first name).0 same in
    let more = count_by_more_yes (is_begun name) columns i column within (ap (is_begun name) (sym at) ∙ begins name first column true is same) in
    looked_up m n first name true (begun_count m first + 1) same updates ∙ ap (λ n. n + 1) (counts first ∙ ap (λ first. count_by (is_begun first) (take i columns)) whole) ∙ sym more
counted m n columns i column first name false within at is other counts updates =
    let more = count_by_more_no (is_begun name) columns i column within (ap (is_begun name) (sym at) ∙ begins name first column false is other) in
    looked_up m n first name false (begun_count m first + 1) other updates ∙ counts name ∙ sym more

-- one more column is counted
pub counts_more : (m n : Counts) (columns : List ColumnDescriptor) (i : ℕ) (column : ColumnDescriptor) (first : Bor (List ℕ)) → i < length columns → column ≡ get_or columns i column
    → first_name column.path_in_schema ≡ Some first.now → IsCountOf (take i columns) m
    → Updates (λ (x y : Bor (List ℕ)). slice_cmp nat_cmp x.now y.now) m n first (Some (begun_count m first.now + 1)) → IsCountOf (take (i + 1) columns) n
counts_more m n columns i column first within at is counts updates name =
    counted m n columns i column first.now name (bytes_eq first.now name) within at is refl counts
    (btree_map_updates_str first.now m n (Some (begun_count m first.now + 1)) updates)

-- a column without a name is not
pub counts_same : (m : Counts) (columns : List ColumnDescriptor) (i : ℕ) (column : ColumnDescriptor) → i < length columns → column ≡ get_or columns i column
    → first_name column.path_in_schema ≡ None → IsCountOf (take i columns) m → IsCountOf (take (i + 1) columns) m
counts_same m columns i column within at none counts name =
    counts name ∙ sym (count_by_more_no (is_begun name) columns i column within (ap (is_begun name) (sym at) ∙ ap (λ o. option_map_or (bytes_eq name) o false) none))

-- a look-up that finds one
pub finds_one : (found : Option ℕ) → option_eq eqb found (Some 1) ≡ (unwrap_or found 0 == 1)
finds_one None = refl
finds_one (Some n) = refl

-- a column whose path begins with this name, where it is the only one
pub single : (counts : Counts) (columns : List ColumnDescriptor) (column : ColumnDescriptor) (first : List ℕ) → first_name column.path_in_schema ≡ Some first → IsCountOf columns counts
    → (begun_count counts first == 1) ≡ is_single columns column
single counts columns column first is told =
    ap (λ n. n == 1) (told first) ∙ sym (ap (λ o. option_map_or (λ name. count_by (is_begun name) columns == 1) o false) is)
