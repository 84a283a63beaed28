-- What is told of columns, and what is wrong with them, one column or one group after another.
use Rattle.std.proofs.Common.{◌≡◌, refl, sym, ◌∙◌, ap, subst, ℕ, zero, suc, ◌+◌, ◌<◌, Bool, true, false, List, [], ◌∷◌, ◌++◌, drop, take, length, map, get_or, Option, Some, None, inl, inr, append_assoc, arith}
use Rattle.std.specs.Prelude.{◌⊎◌, ◌==◌, Contains, flat_map, unwrap_or, zip}
use Rattle.std.specs.List.{AllByRecursion}
use Rattle.std.proofs.lemmas.Bool.{eqb-true}
use Rattle.std.proofs.lemmas.List.{append-nil, drop-drop, length-map}
use Rattle.std.proofs.lemmas.List.Elements.{Contains-append_cases, Contains-append_left, Contains-append_right}
use Rattle.columns_core.specs.Causes.{Cause, IsOneOf, IsWantOfMemory, NotYetImplemented, and_then, cause_of, unless}
use Rattle.columns_core.specs.declared.cell.Cell.{Cell}
use Rattle.columns_core.specs.declared.data_type.DataType.{DataType}
use Rattle.columns_core.specs.declared.data_type.Field.{Field}
use Rattle.columns_core.specs.declared.error.Error.{Error}
use Rattle.parquet_meta.specs.declared.metadata.ColumnChunkMetaData.{ColumnChunkMetaData}
use Rattle.parquet_meta.specs.declared.metadata.Ends.{Ends}
use Rattle.parquet_meta.specs.declared.metadata.RowGroupMetaData.{RowGroupMetaData}
use Rattle.parquet_meta.proofs.ListLemmas.{item_and_others}
use Rattle.column_ends.specs.Converted.{group_array_causes, group_causes, group_cells}
use Rattle.parquet_statistics.specs.Deserialized.{columns_in, group_causes_of_field, nothing_told, side_causes_of_columns, told_columns, told_in}
use Rattle.parquet_statistics.specs.LeafTypes.{leaf_types}
use Rattle.parquet_statistics.specs.Parts.{causes_by_column, columns_in_place, uneven_causes}

-- ---- causes among others

abbrev pub IsPartOf : List Cause → List Cause → Type 0
IsPartOf some all = (cause : Cause) → Contains some cause → Contains all cause

none_of_none : (cause : Cause) → Contains [] cause → ⊥
none_of_none cause told = omega (arith, told.1)

pub empty_part : (some : List Cause) → IsPartOf some [] → some ≡ []
empty_part [] part = refl
empty_part (cause ∷ some) part = absurd (none_of_none cause (part cause (zero, omega arith, refl)))

part_of_same : (some all : List Cause) → some ≡ all → IsPartOf some all
part_of_same some all is cause told = subst (λ causes. Contains causes cause) is told

pub one_of_part : (some all : List Cause) (cause : Option Cause) → IsPartOf some all → IsOneOf some cause → IsOneOf all cause
one_of_part some all None part told = absurd told
one_of_part some all (Some cause) part told = part cause told

pub told_of_part : (some all : List Cause) (e : Error) → IsPartOf some all → IsWantOfMemory e ⊎ IsOneOf some (cause_of e) → IsWantOfMemory e ⊎ IsOneOf all (cause_of e)
told_of_part some all e part (inl memory) = inl memory
told_of_part some all e part (inr told) = inr (one_of_part some all (cause_of e) part told)

pub left_part : (first rest : List Cause) → IsPartOf first (first ++ rest)
left_part first rest cause told = Contains-append_left first rest cause told

pub right_part : (first rest : List Cause) → IsPartOf rest (first ++ rest)
right_part first rest cause told = Contains-append_right first rest cause told

either_part : (first rest all : List Cause) → IsPartOf first all → IsPartOf rest all → IsPartOf (first ++ rest) all
either_part first rest all one other cause told = by (Contains-append_cases first rest cause told) where
  by : Contains first cause ⊎ Contains rest cause → Contains all cause
  by (inl h) = one cause h
  by (inr h) = other cause h

both_parts : (first rest others more : List Cause) → IsPartOf first others → IsPartOf rest more → IsPartOf (first ++ rest) (others ++ more)
both_parts first rest others more one other =
    either_part first rest (others ++ more) (λ cause told. left_part others more cause (one cause told)) (λ cause told. right_part others more cause (other cause told))

module _ {X : Type 0} where
  pub each_part : (f g : X → List Cause) → ((x : X) → IsPartOf (f x) (g x)) → (xs : List X) → IsPartOf (flat_map f xs) (flat_map g xs)
  each_part f g part [] cause told = told
  each_part f g part (x ∷ xs) cause told = both_parts (f x) (flat_map f xs) (g x) (flat_map g xs) (part x) (each_part f g part xs) cause told

  module _ (f g : X → List Cause) where
    abbrev together : X → List Cause
    together x = f x ++ g x

    apart : (xs : List X) → IsPartOf (flat_map together xs) (flat_map f xs ++ flat_map g xs)
    apart [] cause told = told
    apart (x ∷ xs) cause told =
        either_part (f x ++ g x) (flat_map together xs) (flat_map f (x ∷ xs) ++ flat_map g (x ∷ xs))
        (both_parts (f x) (g x) (flat_map f (x ∷ xs)) (flat_map g (x ∷ xs)) (left_part (f x) (flat_map f xs)) (left_part (g x) (flat_map g xs)))
        (λ cause told. both_parts (flat_map f xs) (flat_map g xs) (flat_map f (x ∷ xs)) (flat_map g (x ∷ xs)) (right_part (f x) (flat_map f xs)) (right_part (g x) (flat_map g xs)) cause (apart xs cause told))
        cause told

    joined : (xs : List X) → IsPartOf (flat_map f xs ++ flat_map g xs) (flat_map together xs)
    joined xs = either_part (flat_map f xs) (flat_map g xs) (flat_map together xs) (each_part f together (λ x. left_part (f x) (g x)) xs) (each_part g together (λ x. right_part (f x) (g x)) xs)

-- the first of some
pub part_front : (some front rest all : List Cause) → all ≡ front ++ rest → some ≡ front → IsPartOf some all
part_front some front rest all is same cause told =
    subst (λ causes. Contains causes cause) (sym is) (left_part front rest cause (subst (λ causes. Contains causes cause) same told))

-- of one of several
pub one_of_each : {X : Type 0} (f : X → List Cause) (xs : List X) (i : ℕ) (x : X) → i < length xs → x ≡ get_or xs i x → IsPartOf (f x) (flat_map f xs)
one_of_each f [] i x h is = absurd (omega (arith, h))
one_of_each f (first ∷ xs) zero x h is = part_front (f x) (f first) (flat_map f xs) _ refl (ap f is)
one_of_each f (first ∷ xs) (suc i) x h is = λ cause told. right_part (f first) (flat_map f xs) cause (one_of_each f xs i x (omega (arith, h)) is cause told)

-- ---- by columns and by groups

abbrev Columns : Type 0
Columns = List ColumnChunkMetaData

-- what is wrong with the columns of a group, each in the type beside it
abbrev pub typed_causes : List DataType → Columns → List Cause
typed_causes types columns = flat_map (λ typed. group_causes typed.0 typed.1) (zip types columns)

no_columns : (types : List DataType) → typed_causes types [] ≡ []
no_columns [] = refl
no_columns (data_type ∷ types) = refl

first_apart : (data_type : DataType) (types : List DataType) (columns : Columns) → typed_causes (data_type ∷ types) columns ≡ flat_map (group_causes data_type) (take 1 columns) ++ typed_causes types (drop 1 columns)
first_apart data_type types [] = sym (no_columns types)
first_apart data_type types (column ∷ columns) = ap (λ front. front ++ typed_causes types columns) (sym (append-nil (group_causes data_type column)))

pub flat_both : {X : Type 0} (f : X → List Cause) (xs ys : List X) → flat_map f (xs ++ ys) ≡ flat_map f xs ++ flat_map f ys
flat_both f [] ys = refl
flat_both f (x ∷ xs) ys = ap (λ rest. f x ++ rest) (flat_both f xs ys) ∙ sym (append_assoc (f x) (flat_map f xs) (flat_map f ys))

nested : {X Y : Type 0} (f : Y → List Cause) (g : X → List Y) (xs : List X) → flat_map f (flat_map g xs) ≡ flat_map (λ x. flat_map f (g x)) xs
nested f g [] = refl
nested f g (x ∷ xs) = flat_both f (g x) (flat_map g xs) ∙ ap (λ rest. flat_map f (g x) ++ rest) (nested f g xs)

mapped : {X Y : Type 0} (f : Y → List Cause) (g : X → Y) (xs : List X) → flat_map f (map g xs) ≡ flat_map (λ x. f (g x)) xs
mapped f g [] = refl
mapped f g (x ∷ xs) = ap (λ rest. f (g x) ++ rest) (mapped f g xs)

module _ (data_type : DataType) (types : List DataType) where
  abbrev heads : Columns → List Cause
  heads columns = flat_map (group_causes data_type) (take 1 columns)

  abbrev tails : Columns → List Cause
  tails columns = typed_causes types (drop 1 columns)

  heads_are : (groups : List Columns) → flat_map (group_causes data_type) (flat_map (take 1) groups) ≡ flat_map heads groups
  heads_are groups = nested (group_causes data_type) (take 1) groups

  tails_are : (groups : List Columns) → flat_map (typed_causes types) (map (drop 1) groups) ≡ flat_map tails groups
  tails_are groups = mapped (typed_causes types) (drop 1) groups

pub by_groups : (types : List DataType) (groups : List Columns) → IsPartOf (causes_by_column types groups) (flat_map (typed_causes types) groups)
by_groups [] groups cause told = absurd (none_of_none cause told)
by_groups (data_type ∷ types) groups cause told =
    either_part (flat_map (group_causes data_type) (flat_map (take 1) groups)) (causes_by_column types (map (drop 1) groups)) (flat_map (typed_causes (data_type ∷ types)) groups)
    (λ cause told. whole cause (left_part (flat_map (heads data_type types) groups) (flat_map (tails data_type types) groups) cause (subst (λ causes. Contains causes cause) (heads_are data_type types groups) told)))
    (λ cause told. whole cause (right_part (flat_map (heads data_type types) groups) (flat_map (tails data_type types) groups) cause
    (subst (λ causes. Contains causes cause) (tails_are data_type types groups) (by_groups types (map (drop 1) groups) cause told))))
    cause told where
      whole : IsPartOf (flat_map (heads data_type types) groups ++ flat_map (tails data_type types) groups) (flat_map (typed_causes (data_type ∷ types)) groups)
      whole cause told =
          each_part (together (heads data_type types) (tails data_type types)) (typed_causes (data_type ∷ types)) (λ columns. part_of_same _ _ (sym (first_apart data_type types columns))) groups cause
          (joined (heads data_type types) (tails data_type types) groups cause told)

pub by_columns : (types : List DataType) (groups : List Columns) → IsPartOf (flat_map (typed_causes types) groups) (causes_by_column types groups)
by_columns [] groups cause told = absurd (none_of_none cause (subst (λ causes. Contains causes cause) (none groups) told)) where
  none : (groups : List Columns) → flat_map (typed_causes []) groups ≡ []
  none [] = refl
  none (columns ∷ groups) = none groups
by_columns (data_type ∷ types) groups cause told =
    both_parts (flat_map (heads data_type types) groups) (flat_map (tails data_type types) groups) (flat_map (group_causes data_type) (flat_map (take 1) groups)) (causes_by_column types (map (drop 1) groups))
    (part_of_same _ _ (sym (heads_are data_type types groups)))
    (λ cause told. by_columns types (map (drop 1) groups) cause (subst (λ causes. Contains causes cause) (sym (tails_are data_type types groups)) told))
    cause
    (apart (heads data_type types) (tails data_type types) groups cause
    (each_part (typed_causes (data_type ∷ types)) (together (heads data_type types) (tails data_type types)) (λ columns. part_of_same _ _ (first_apart data_type types columns)) groups cause told))

-- ---- the columns of a field

module _ (field : Field) where
  abbrev count : ℕ
  count = length (leaf_types field.data_type)

  abbrev own : RowGroupMetaData → List Cause
  own group = typed_causes (leaf_types field.data_type) (columns_in field group)

  then_part : (even : Bool) (rest : List Cause) → IsPartOf (unless even NotYetImplemented) (and_then (unless even NotYetImplemented) rest)
  then_part true rest cause told = absurd (none_of_none cause told)
  then_part false rest cause told = told

  pub uneven_part : (groups : List RowGroupMetaData) → IsPartOf (flat_map (uneven_causes count field) groups) (flat_map (group_causes_of_field field) groups)
  uneven_part groups = each_part (uneven_causes count field) (group_causes_of_field field) (λ group. then_part (count == length (columns_in field group)) (own group)) groups

  after_none : (first rest : List Cause) → first ≡ [] → and_then first rest ≡ rest
  after_none [] rest e = refl
  after_none (cause ∷ first) rest e = absurd cc

  both_none : (first rest : List Cause) → first ++ rest ≡ [] → (first ≡ []) × (rest ≡ [])
  both_none [] rest e = (refl, e)
  both_none (cause ∷ first) rest e = absurd cc

  -- in each group as many columns as types
  pub even_causes : (groups : List RowGroupMetaData) → flat_map (uneven_causes count field) groups ≡ []
      → flat_map (group_causes_of_field field) groups ≡ flat_map (typed_causes (leaf_types field.data_type)) (map (columns_in field) groups)
  even_causes [] even = refl
  even_causes (group ∷ groups) even =
      let both = both_none (uneven_causes count field group) (flat_map (uneven_causes count field) groups) even in
      λ i. after_none (uneven_causes count field group) (own group) both.0 i ++ even_causes groups both.1 i

  no_cause : (b : Bool) → unless b NotYetImplemented ≡ [] → b ≡ true
  no_cause true e = refl
  no_cause false e = absurd cc

  pub even_columns : (groups : List RowGroupMetaData) → flat_map (uneven_causes count field) groups ≡ [] → AllByRecursion (λ columns. length columns ≡ count) (map (columns_in field) groups)
  even_columns [] even = tt
  even_columns (group ∷ groups) even =
      let both = both_none (uneven_causes count field group) (flat_map (uneven_causes count field) groups) even in
      (sym (eqb-true count (length (columns_in field group)) (no_cause _ both.0)), even_columns groups both.1)

-- ---- how much is told

module _ (n : ℕ) where
  as_many_firsts : (groups : List Columns) → AllByRecursion (λ columns. length columns ≡ suc n) groups → length (flat_map (take 1) groups) ≡ length groups
  as_many_firsts [] even = refl
  as_many_firsts ([] ∷ groups) even = absurd (omega (arith, even.0))
  as_many_firsts ((column ∷ columns) ∷ groups) even = let rest = as_many_firsts groups even.1 in omega (arith, rest)

  others_even : (groups : List Columns) → AllByRecursion (λ columns. length columns ≡ suc n) groups → AllByRecursion (λ columns. length columns ≡ n) (map (drop 1) groups)
  others_even [] even = tt
  others_even ([] ∷ groups) even = absurd (omega (arith, even.0))
  others_even ((column ∷ columns) ∷ groups) even = (omega (arith, even.0), others_even groups even.1)

-- each column tells once of each group
pub told_of_each : (types : List DataType) (groups : List Columns) → AllByRecursion (λ columns. length columns ≡ length types) groups → AllByRecursion (λ column. length column ≡ length groups) (told_columns types groups)
told_of_each [] groups even = tt
told_of_each (data_type ∷ types) groups even = (
  length-map (flat_map (take 1) groups) (told_in data_type) ∙ as_many_firsts (length types) groups even,
  subst (λ n. AllByRecursion (λ column. length column ≡ n) (told_columns types (map (drop 1) groups))) (length-map groups (drop 1)) (told_of_each types (map (drop 1) groups) (others_even (length types) groups even)),
)

pub as_many_told : (types : List DataType) (groups : List Columns) → length (told_columns types groups) ≡ length types
as_many_told [] groups = refl
as_many_told (data_type ∷ types) groups = ap suc (as_many_told types (map (drop 1) groups))

-- ---- one more group

module _ {B : Type 0} (now : B → ColumnChunkMetaData) where
  pub in_place : (items : List B) (place : ℕ) (column : B) → place < length items → column ≡ get_or items place column → take 1 (drop place (map now items)) ≡ now column ∷ []
  in_place [] place column h is = absurd (omega (arith, h))
  in_place (first ∷ items) zero column h is = ap (λ own. now own ∷ []) (sym is)
  in_place (first ∷ items) (suc place) column h is = in_place items place column (omega (arith, h)) is

module _ {C : Type 0} (shown : C → Columns) (groups : List C) (i : ℕ) (group : C) (h : i < length groups) (is : group ≡ get_or groups i group) (place : ℕ) where
  pub place_next : columns_in_place place (map shown (drop i groups)) ≡ take 1 (drop place (shown group)) ++ columns_in_place place (map shown (drop (i + 1) groups))
  place_next = ap (λ rest. columns_in_place place (map shown rest)) (item_and_others groups i group h is)

  pub wide_here : AllByRecursion (λ columns. place < length columns) (map shown groups) → place < length (shown group)
  wide_here wide = go groups i h is wide where
    go : (groups : List C) (i : ℕ) → i < length groups → group ≡ get_or groups i group → AllByRecursion (λ columns. place < length columns) (map shown groups) → place < length (shown group)
    go [] i h is wide = absurd (omega (arith, h))
    go (first ∷ groups) zero h is wide = subst (λ own. place < length (shown own)) (sym is) wide.0
    go (first ∷ groups) (suc i) h is wide = go groups i (omega (arith, h)) is wide.1

-- what is told of a column
pub told_is : (data_type : DataType) (column : ColumnChunkMetaData) (ends : Ends Cell) → group_cells data_type column ≡ Some ends → told_in data_type column ≡ ends
told_is data_type column ends is = ap (λ found. unwrap_or found nothing_told) is

-- ---- one more column

pub none_dropped : (groups : List Columns) → map (drop 0) groups ≡ groups
none_dropped [] = refl
none_dropped (columns ∷ groups) = ap (λ rest. columns ∷ rest) (none_dropped groups)

one_dropped : (place : ℕ) (groups : List Columns) → map (drop 1) (map (drop place) groups) ≡ map (drop (place + 1)) groups
one_dropped place [] = refl
one_dropped place (columns ∷ groups) = λ i. drop-drop 1 place columns i ∷ one_dropped place groups i

pub all_wide : (n place : ℕ) (groups : List Columns) → place < n → AllByRecursion (λ columns. length columns ≡ n) groups → AllByRecursion (λ columns. place < length columns) groups
all_wide n place [] h even = tt
all_wide n place (columns ∷ groups) h even = (omega (arith, h, even.0), all_wide n place groups h even.1)

module _ {T : Type 0} (type : T → DataType) (types : List T) (place : ℕ) (own : T) (h : place < length types) (is : own ≡ get_or types place own) (groups : List Columns) where
  pub told_next : told_columns (map type (drop place types)) (map (drop place) groups)
      ≡ map (told_in (type own)) (columns_in_place place groups) ∷ told_columns (map type (drop (place + 1) types)) (map (drop (place + 1)) groups)
  told_next =
      ap (λ rest. told_columns (map type rest) (map (drop place) groups)) (item_and_others types place own h is)
      ∙ ap (λ rest. map (told_in (type own)) (columns_in_place place groups) ∷ told_columns (map type (drop (place + 1) types)) rest) (one_dropped place groups)

  pub causes_next : causes_by_column (map type (drop place types)) (map (drop place) groups)
      ≡ flat_map (group_causes (type own)) (columns_in_place place groups) ++ causes_by_column (map type (drop (place + 1) types)) (map (drop (place + 1)) groups)
  causes_next =
      ap (λ rest. causes_by_column (map type rest) (map (drop place) groups)) (item_and_others types place own h is)
      ∙ ap (λ rest. flat_map (group_causes (type own)) (columns_in_place place groups) ++ causes_by_column (map type (drop (place + 1) types)) rest) (one_dropped place groups)

-- ---- the bytes of one more column

module _ {T C : Type 0} (type : T → DataType) (items : C → List (Ends Cell)) (types : List T) (columns : List C) (i : ℕ) (own : T) (column : C) where
  pub side_next : i < length types → i < length columns → own ≡ get_or types i own → column ≡ get_or columns i column
      → side_causes_of_columns (map type (drop i types)) (map items (drop i columns))
      ≡ group_array_causes (type own) (items column) ++ side_causes_of_columns (map type (drop (i + 1) types)) (map items (drop (i + 1) columns))
  side_next h within is here = λ j. side_causes_of_columns (map type (item_and_others types i own h is j)) (map items (item_and_others columns i column within here j))
