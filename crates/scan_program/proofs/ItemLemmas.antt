-- Items of a command line one after another.
use Rattle.std.proofs.Common.{◌≡◌, ℕ, suc, ◌+◌, ◌<◌, ◌≤◌, Bool, List, [], ◌∷◌, ◌++◌, length, take, drop, get_or, drop-cons, sym, ◌∙◌, ap, arith}
use Rattle.std.specs.Prelude.{Some, None, if◌then◌else◌}
use Rattle.std.proofs.lemmas.List.{append-nil, drop_all, take_more}
use Rattle.columns_core.specs.declared.data_type.Field.{Field}
use Rattle.parquet_scan.specs.declared.bound.Bound.{Bound}
use Rattle.scan_program.specs.Parsed.{bounds_behind}
use Rattle.scan_program.specs.Words.{BoundEnd}

-- no field is left
pub no_more_bounds : (ends : List BoundEnd) (bounds : List Bound) (fields : List Field) (at : ℕ) → length fields ≤ at → bounds_behind ends bounds (take at fields) (drop at fields) ≡ Some bounds
no_more_bounds ends bounds fields at h =
    ap (λ rest. bounds_behind ends bounds (take at fields) rest) (drop_all at fields h) ∙ ap Some (append-nil bounds)

-- one field more is read
pub bound_step : (ends : List BoundEnd) (old new : List Bound) (all : List Field) (i : ℕ) (field d : Field) (good : Bool) → i < length all → field ≡ get_or all i d
    → ((left : List Field) → bounds_behind ends old (take i all) (field ∷ left) ≡ (if good then bounds_behind ends new (take i all ++ field ∷ []) left else None))
    → bounds_behind ends old (take i all) (drop i all) ≡ (if good then bounds_behind ends new (take (i + 1) all) (drop (i + 1) all) else None)
bound_step ends old new all i field d good less is more =
    let one : suc i ≡ i + 1 = omega arith in
    let split : drop i all ≡ field ∷ drop (i + 1) all = drop-cons all i d less ∙ (λ k. sym is k ∷ drop (one k) all) in
    let front : take i all ++ field ∷ [] ≡ take (i + 1) all = (λ k. take i all ++ is k ∷ []) ∙ sym (take_more all i d less) in
    ap (bounds_behind ends old (take i all)) split ∙ more (drop (i + 1) all)
    ∙ (λ k. if good then bounds_behind ends new (front k) (drop (i + 1) all) else None)
