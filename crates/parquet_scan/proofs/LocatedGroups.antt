-- Where the pages of groups stand, beside the runs that are kept and given of them.
use Rattle.std.proofs.Common.{◌≡◌, ℕ, zero, suc, ◌+◌, ◌-◌, ◌<◌, Bool, true, List, [], ◌∷◌, ◌++◌, length, map, get_or, drop, sym, subst, ◌∙◌, ap, arith, inl, inr}
use Rattle.std.specs.Prelude.{Option, Some, None, nat_lt, zip}
use Rattle.std.specs.List.{list_all}
use Rattle.std.proofs.lemmas.Bool.{and_parts, cases_lt, lt-ltb, ltb-true}
use Rattle.std.proofs.lemmas.List.{get_or_append_left, get_or_default, get_or_push}
use Rattle.parquet_base.specs.Intervals.{is_well_shaped, rows_of}
use Rattle.parquet_base.specs.declared.interval.Interval.{Interval}
use Rattle.parquet_meta.specs.declared.metadata.PageLocation.{PageLocation}
use Rattle.parquet_meta.specs.declared.metadata.RowGroupMetaData.{RowGroupMetaData}
use Rattle.parquet_scan.specs.Counting.{AreAllLocated, AreLocatedIf}
use Rattle.columns_core.specs.declared.data_type.Field.{Field}
use Rattle.parquet_scan.specs.Rows.{first_rows}
use Rattle.parquet_scan.specs.declared.scanning.GroupKept.{GroupKept}
use Rattle.parquet_scan.proofs.KeptLemmas.{some_rows}
use Rattle.parquet_scan.proofs.GivenCells.{some_taken}

-- ---- one more group

-- the first of the groups are located
abbrev pub AreFirstLocated : ℕ → Bool → Option (List ℕ) → List Field → List RowGroupMetaData → List (List Interval) → List (List (List PageLocation)) → Type 0
AreFirstLocated n by_pages told fields groups runs located =
    (i : ℕ) (group : RowGroupMetaData) → i < n → group ≡ get_or groups i group → AreLocatedIf by_pages told fields group (get_or runs i []) (get_or located i [])

pub located_more : (by_pages : Bool) (told : Option (List ℕ)) (fields : List Field) (groups : List RowGroupMetaData) (runs : List (List Interval)) (located : List (List (List PageLocation))) (n : ℕ) (group : RowGroupMetaData) (own : List Interval) (lists : List (List PageLocation))
    → n < length groups → group ≡ get_or groups n group → length runs ≡ n → length located ≡ n → AreFirstLocated n by_pages told fields groups runs located → AreLocatedIf by_pages told fields group own lists
    → AreFirstLocated (n + 1) by_pages told fields groups (runs ++ own ∷ []) (located ++ lists ∷ [])
located_more by_pages told fields groups runs located n group own lists h is count each so_far one i other below at = elim (cases_lt i n) [
  | inl less ↦
      subst (λ runs. AreLocatedIf by_pages told fields other runs (get_or (located ++ lists ∷ []) i [])) (sym (get_or_append_left runs (own ∷ []) [] i (omega (arith, less, count))))
      (subst (AreLocatedIf by_pages told fields other (get_or runs i [])) (sym (get_or_append_left located (lists ∷ []) [] i (omega (arith, less, each)))) (so_far i other less at))
  | inr last ↦
      let here : i ≡ n = omega (arith, below, last) in
      let same : group ≡ other = is ∙ get_or_default groups n group other h ∙ ap (λ n. get_or groups n other) (sym here) ∙ sym at in
      subst (λ runs. AreLocatedIf by_pages told fields other runs (get_or (located ++ lists ∷ []) i [])) (sym (get_or_push runs own [] i (count ∙ sym here)))
      (subst (AreLocatedIf by_pages told fields other own) (sym (get_or_push located lists [] i (each ∙ sym here))) (subst (λ group. AreLocatedIf by_pages told fields group own lists) same one))
]

-- ---- a group gives rows only where some are kept of it

has_runs : (runs : List Interval) → nat_lt 0 (length (rows_of runs)) ≡ true → 0 < length runs
has_runs [] some = absurd (omega (arith, ltb-true 0 0 some))
has_runs (run ∷ runs) some = omega arith

gives_some : (own : GroupKept) (given : List Interval) → is_well_shaped given own.rows ≡ true → 0 < length given → nat_lt 0 (length (rows_of given)) ≡ true
gives_some own given shaped some = some_rows 0 given own.rows shaped ∙ lt-ltb 0 (length given) some

some_kept : (limit : Option ℕ) (kept : List GroupKept) (given : List (List Interval)) (i : ℕ) → map rows_of given ≡ first_rows limit (map (λ (group : GroupKept). rows_of group.intervals) kept)
    → list_all (λ (group : GroupKept × List Interval). is_well_shaped group.1 (group.0).rows) (zip kept given) ≡ true → 0 < length (get_or given i [])
    → 0 < length (get_or (map (λ (group : GroupKept). group.intervals) kept) i [])
some_kept limit kept [] i e shaped some = absurd (omega (arith, some))
some_kept None [] (runs ∷ given) i e shaped some = absurd cc
some_kept (Some left) [] (runs ∷ given) i e shaped some = absurd cc
some_kept None (group ∷ kept) (runs ∷ given) zero e shaped some =
    let parts = and_parts _ _ shaped in
    has_runs group.intervals (ap (λ rows. nat_lt 0 (length (get_or rows 0 []))) (sym e) ∙ gives_some group runs parts.0 some)
some_kept (Some left) (group ∷ kept) (runs ∷ given) zero e shaped some =
    let parts = and_parts _ _ shaped in
    has_runs group.intervals (some_taken left (rows_of group.intervals) (ap (λ rows. nat_lt 0 (length (get_or rows 0 []))) (sym e) ∙ gives_some group runs parts.0 some))
some_kept None (group ∷ kept) (runs ∷ given) (suc i) e shaped some = some_kept None kept given i (ap (drop 1) e) (and_parts _ _ shaped).1 some
some_kept (Some left) (group ∷ kept) (runs ∷ given) (suc i) e shaped some = some_kept (Some (left - length (rows_of group.intervals))) kept given i (ap (drop 1) e) (and_parts _ _ shaped).1 some

-- so what is known of the kept is known of the given
pub given_located : (by_pages : Bool) (told : Option (List ℕ)) (fields : List Field) (groups : List RowGroupMetaData) (limit : Option ℕ) (kept : List GroupKept) (given : List (List Interval)) (located : List (List (List PageLocation)))
    → map rows_of given ≡ first_rows limit (map (λ (group : GroupKept). rows_of group.intervals) kept)
    → list_all (λ (group : GroupKept × List Interval). is_well_shaped group.1 (group.0).rows) (zip kept given) ≡ true
    → AreAllLocated by_pages told fields groups (map (λ (group : GroupKept). group.intervals) kept) located → AreAllLocated by_pages told fields groups given located
given_located by_pages told fields groups limit kept given located e shaped all i group below at pruned some = all i group below at pruned (some_kept limit kept given i e shaped some)
