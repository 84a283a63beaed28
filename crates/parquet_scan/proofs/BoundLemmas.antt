-- Bounds one after another, each over all groups.
use Rattle.std.proofs.Common.{◌≡◌, ℕ, ◌+◌, ◌<◌, ◌≤◌, Bool, true, false, List, [], ◌∷◌, ◌++◌, length, map, take, drop, get_or, set, replicate, Option, Some, None, inl, inr, refl, sym, subst, ◌∙◌, ap, arith, append-nil, append_assoc}
use Rattle.std.specs.Prelude.{◌&&◌, Contains, filter_map, zip}
use Rattle.std.specs.List.{cons_option, flat_map, list_all}
use Rattle.std.specs.Option.{option_map_or}
use Rattle.std.proofs.lemmas.Grind.{flat_map-append}
use Rattle.std.proofs.lemmas.List.{drop-set-lt, drop_all, map-append, take_all, take_more, take_more_set}
use Rattle.std.proofs.lemmas.List.Elements.{Contains-push_cases, filter_map-append}
use Rattle.columns_core.specs.Causes.{Cause, IsOneOf, Overflow, cause_of, unless}
use Rattle.columns_core.specs.declared.cell.Cell.{Cell}
use Rattle.columns_core.specs.declared.data_type.Field.{Field}
use Rattle.columns_core.specs.declared.error.Error.{Error}
use Rattle.parquet_meta.specs.declared.metadata.Ends.{Ends}
use Rattle.parquet_meta.specs.declared.metadata.RowGroupMetaData.{RowGroupMetaData}
use Rattle.page_decoding.proofs.NextLemmas.{nothing_wrong}
use Rattle.parquet_page.proofs.SpelledLemmas.{none_of}
use Rattle.column_ends.specs.Converted.{group_array_causes, high_of, low_of}
use Rattle.column_ends.specs.Counted.{bytes_of_ends, with_one_more, fit}
use Rattle.column_ends.proofs.CountLemmas.{counted-more, fit-ok, unfit-told}
use Rattle.parquet_scan.specs.declared.bound.Bound.{Bound}
use Rattle.parquet_scan.specs.Causes.{array_causes_of_bound, bounded_cells, bounded_causes_of_group, causes_of_bound}
use Rattle.parquet_scan.specs.Counting.{causes_of_bytes, counts_by, with_ends}
use Rattle.parquet_scan.specs.Request.{bound_type, bounded_field}
use Rattle.parquet_scan.specs.Rows.{group_keeps}
use Rattle.parquet_scan.proofs.CauseLemmas.{ComesFrom, tells_left, tells_right}
use Rattle.parquet_scan.proofs.PairLemmas.{map_behind}

-- ---- the groups that count

-- all of them, before any bound is asked for
pub all_count : (fields : List Field) (groups : List RowGroupMetaData) → replicate (length groups) true ≡ map (λ group. list_all (group_keeps fields group) []) groups
all_count fields [] = refl
all_count fields (group ∷ groups) = ap (λ rest. true ∷ rest) (all_count fields groups)

all_again : {X : Type 0} (p : X → Bool) (xs : List X) (x : X) → list_all p (xs ++ x ∷ []) ≡ (list_all p xs && p x)
all_again p [] x = by (p x) where
  by : (b : Bool) → (b && true) ≡ b
  by true = refl
  by false = refl
all_again p (y ∷ ys) x = by (p y) (all_again p ys x) where
  by : (b : Bool) → list_all p (ys ++ x ∷ []) ≡ (list_all p ys && p x) → (b && list_all p (ys ++ x ∷ [])) ≡ ((b && list_all p ys) && p x)
  by true e = e
  by false e = refl

joined : (fields : List Field) (bound : Bound) (so_far : List Bound) (groups : List RowGroupMetaData)
    → map (counts_by fields bound) (zip groups (map (λ group. list_all (group_keeps fields group) so_far) groups)) ≡ map (λ group. list_all (group_keeps fields group) (so_far ++ bound ∷ [])) groups
joined fields bound so_far [] = refl
joined fields bound so_far (group ∷ groups) = λ i. sym (all_again (group_keeps fields group) so_far bound) i ∷ joined fields bound so_far groups i

-- with one bound more
pub counts_more : (fields : List Field) (bounds : List Bound) (groups : List RowGroupMetaData) (i : ℕ) (bound : Bound) (before now : List Bool) → i < length bounds → bound ≡ get_or bounds i bound
    → before ≡ map (λ group. list_all (group_keeps fields group) (take i bounds)) groups → now ≡ map (counts_by fields bound) (zip groups before)
    → now ≡ map (λ group. list_all (group_keeps fields group) (take (i + 1) bounds)) groups
counts_more fields bounds groups i bound before now h at are e =
    e ∙ ap (λ counts. map (counts_by fields bound) (zip groups counts)) are ∙ joined fields bound (take i bounds) groups
    ∙ ap (λ found. map (λ (group : RowGroupMetaData). list_all (group_keeps fields group) found) groups) (ap (λ x. take i bounds ++ x ∷ []) at ∙ sym (take_more bounds i bound h))

-- in place, with one group more
pub counts_at : (fields : List Field) (bound : Bound) (groups : List RowGroupMetaData) (old counts : List Bool) (i : ℕ) (group : RowGroupMetaData) (v : Bool) → i < length groups → i < length counts → group ≡ get_or groups i group
    → v ≡ counts_by fields bound (group, get_or counts i false)
    → map (counts_by fields bound) (zip groups old) ≡ take i counts ++ map (counts_by fields bound) (zip (drop i groups) (drop i counts))
    → map (counts_by fields bound) (zip groups old) ≡ take (i + 1) (set counts i v) ++ map (counts_by fields bound) (zip (drop (i + 1) groups) (drop (i + 1) (set counts i v)))
counts_at fields bound groups old counts i group v h k at is e =
    let f = counts_by fields bound in
    let left = λ (counts : List Bool). map f (zip (drop (i + 1) groups) counts) in
    let one : f (get_or groups i group, get_or counts i false) ≡ v = ap (λ x. f (x, get_or counts i false)) (sym at) ∙ sym is in
    e ∙ ap (λ rest. take i counts ++ rest) (map_behind f groups counts i group false h k ∙ ap (λ first. first ∷ left (drop (i + 1) counts)) one)
    ∙ sym (append_assoc (take i counts) (v ∷ []) (left (drop (i + 1) counts)))
    ∙ (λ j. sym (take_more_set counts i v k) j ++ left (sym (drop-set-lt (i + 1) counts i v (omega arith)) j))

pub counts_done : (fields : List Field) (bound : Bound) (groups : List RowGroupMetaData) (old counts : List Bool) (i : ℕ) → length groups ≤ i → length counts ≤ i
    → map (counts_by fields bound) (zip groups old) ≡ take i counts ++ map (counts_by fields bound) (zip (drop i groups) (drop i counts)) → counts ≡ map (counts_by fields bound) (zip groups old)
counts_done fields bound groups old counts i h k e =
    sym (e ∙ (λ j. take_all i counts k j ++ map (counts_by fields bound) (zip (drop_all i groups h j) (drop i counts))) ∙ append-nil counts)

-- nothing is wrong with one item more
pub nothing_more : {X : Type 0} (f : X → List Cause) (xs : List X) (i : ℕ) (x : X) → i < length xs → x ≡ get_or xs i x → flat_map f (take i xs) ≡ [] → f x ≡ [] → flat_map f (take (i + 1) xs) ≡ []
nothing_more f xs i x h at none own =
    ap (flat_map f) (take_more xs i x h ∙ ap (λ y. take i xs ++ y ∷ []) (sym at)) ∙ flat_map-append f (take i xs) (x ∷ [])
    ∙ (λ j. none j ++ (own j ++ []))

-- ---- the bytes of ends

abbrev pub bytes_of : List (Ends Cell) → ℕ × ℕ
bytes_of ends = bytes_of_ends (map low_of ends) (map high_of ends)

one_counted : (all : List (Ends Cell)) (ends : Ends Cell) → with_one_more (bytes_of all) ends.min_value ends.max_value ≡ bytes_of (all ++ ends ∷ [])
one_counted all ends =
    counted-more (map low_of all) (map high_of all) ends.min_value ends.max_value
    ∙ (λ i. bytes_of_ends (sym (map-append low_of all (ends ∷ [])) i) (sym (map-append high_of all (ends ∷ [])) i))

with_one : (all : List (Ends Cell)) (o : Option (Ends Cell)) → with_ends (bytes_of all) o ≡ bytes_of (all ++ cons_option o [])
with_one all None = ap bytes_of (sym (append-nil all))
with_one all (Some ends) = one_counted all ends

-- with those of one group more
pub bytes_more : (f : RowGroupMetaData → Option (Ends Cell)) (groups : List RowGroupMetaData) (i : ℕ) (group : RowGroupMetaData) (before now : ℕ × ℕ) → i < length groups → group ≡ get_or groups i group
    → before ≡ bytes_of (filter_map f (take i groups)) → now ≡ with_ends before (f group) → now ≡ bytes_of (filter_map f (take (i + 1) groups))
bytes_more f groups i group before now h at are e =
    e ∙ ap (λ bytes. with_ends bytes (f group)) are ∙ with_one (filter_map f (take i groups)) (f group)
    ∙ ap bytes_of (sym (filter_map-append f (take i groups) (group ∷ [])) ∙ ap (filter_map f) (ap (λ x. take i groups ++ x ∷ []) at ∙ sym (take_more groups i group h)))

-- ---- whether they fit

-- where they do not, an error tells of it
too_many : (causes : List Cause) (o : Option Cause) → Contains causes Overflow → IsOneOf (Overflow ∷ []) o → IsOneOf causes o
too_many causes None has one = one
too_many causes (Some cause) has one =
    elim (Contains-push_cases [] Overflow cause one) [
      | inl none ↦ absurd (nothing_wrong (Some cause) none)
      | inr same ↦ subst (Contains causes) same has
    ]

module _ (fields : List Field) (bound : Bound) (cells : List (Ends Cell)) where
  abbrev counted_causes : Option Field → List Cause
  counted_causes field = option_map_or (λ (field : Field). unless (fit (bound_type field) (bytes_of cells)) Overflow) field []

  abbrev side_causes : Option Field → List Cause
  side_causes field = option_map_or (λ (field : Field). group_array_causes (bound_type field) cells) field []

  pub bytes_fit : causes_of_bytes (bytes_of cells) fields bound ≡ [] → side_causes (bounded_field fields bound) ≡ []
  bytes_fit = by (bounded_field fields bound) where
    by : (field : Option Field) → counted_causes field ≡ [] → side_causes field ≡ []
    by None none = refl
    by (Some field) none = fit-ok (bound_type field) (map low_of cells) (map high_of cells) (none_of _ Overflow none)

  pub bytes_tell : (e : Error) → ComesFrom (causes_of_bytes (bytes_of cells) fields bound) e → ComesFrom (side_causes (bounded_field fields bound)) e
  bytes_tell e = by (bounded_field fields bound) where
    by : (field : Option Field) → ComesFrom (counted_causes field) e → ComesFrom (side_causes field) e
    by None tells = tells
    by (Some field) (inl memory) = inl memory
    by (Some field) (inr one) = told (fit (bound_type field) (bytes_of cells)) refl one where
      told : (b : Bool) → fit (bound_type field) (bytes_of cells) ≡ b → IsOneOf (unless b Overflow) (cause_of e) → ComesFrom (side_causes (Some field)) e
      told true fits one = absurd (nothing_wrong (cause_of e) one)
      told false fits one = inr (too_many (side_causes (Some field)) (cause_of e) (unfit-told (bound_type field) (map low_of cells) (map high_of cells) fits) one)

-- ---- one bound

-- nothing is wrong with it where nothing is with the groups, nor with the bytes of all ends
pub nothing_of_bound : (fields : List Field) (bound : Bound) (groups : List RowGroupMetaData) (bytes : ℕ × ℕ) → flat_map (bounded_causes_of_group fields bound) groups ≡ [] → bytes ≡ bytes_of (filter_map (bounded_cells fields bound) groups)
    → causes_of_bytes bytes fields bound ≡ [] → causes_of_bound fields groups bound ≡ []
nothing_of_bound fields bound groups bytes none are fine =
    λ i. none i ++ bytes_fit fields bound (filter_map (bounded_cells fields bound) groups) (ap (λ bytes. causes_of_bytes bytes fields bound) (sym are) ∙ fine) i

pub group_tells : (fields : List Field) (bound : Bound) (groups : List RowGroupMetaData) (e : Error) → ComesFrom (flat_map (bounded_causes_of_group fields bound) groups) e → ComesFrom (causes_of_bound fields groups bound) e
group_tells fields bound groups e tells = tells_left (flat_map (bounded_causes_of_group fields bound) groups) (array_causes_of_bound fields groups bound) e tells

pub bytes_tell_of_bound : (fields : List Field) (bound : Bound) (groups : List RowGroupMetaData) (bytes : ℕ × ℕ) (e : Error) → bytes ≡ bytes_of (filter_map (bounded_cells fields bound) groups)
    → ComesFrom (causes_of_bytes bytes fields bound) e → ComesFrom (causes_of_bound fields groups bound) e
bytes_tell_of_bound fields bound groups bytes e are tells =
    tells_right (flat_map (bounded_causes_of_group fields bound) groups) (array_causes_of_bound fields groups bound) e
    (bytes_tell fields bound (filter_map (bounded_cells fields bound) groups) e (subst (λ bytes. ComesFrom (causes_of_bytes bytes fields bound) e) are tells))
