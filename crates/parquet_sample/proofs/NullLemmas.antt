-- How many of so many rows are null.
use Rattle.std.proofs.Common.{◌≡◌, pos, ℕ, ◌+◌, ◌-◌, ◌≤◌, Bool, true, false, cond, List, [], ◌∷◌, Option, Some, None, refl, sym, ap, ◌∙◌, arith, length, map, length-append}
use Rattle.std.specs.Prelude.{is_none}
use Rattle.std.specs.List.{filter, range_with_len}
use Rattle.std.proofs.lemmas.List.Sums.{count_by-le-length, length-filter}
use Rattle.std.proofs.lemmas.List.FromFn.{filter_of_map_range_with_len_more, length-map-range_with_len}
use Rattle.parquet_page.specs.Stored.{Stored, Number}
use Rattle.parquet_plain.specs.Columns.{nulls_of}
use Rattle.parquet_sample.specs.Sample.{id_item, is_absent, name_item, qty_item, quantity}

ids-none : (ns : List ℕ) → filter is_none (map id_item ns) ≡ []
ids-none [] = refl
ids-none (n ∷ ns) = ids-none ns

pub no_null_ids : (ns : List ℕ) → 0 ≡ nulls_of (map id_item ns)
no_null_ids ns = sym (ap length (ids-none ns)) ∙ length-filter is_none (map id_item ns)

names-none : (ns : List ℕ) → filter is_none (map name_item ns) ≡ []
names-none [] = refl
names-none (n ∷ ns) = names-none ns

pub no_null_names : (ns : List ℕ) → 0 ≡ nulls_of (map name_item ns)
no_null_names ns = sym (ap length (names-none ns)) ∙ length-filter is_none (map name_item ns)

one : (b : Bool) (item : Option Stored) → is_none item ≡ b → length (cond (is_none item) (item ∷ []) []) ≡ cond b 1 0
one true item e = ap (λ (t : Bool). length (cond t (item ∷ []) [])) e
one false item e = ap (λ (t : Bool). length (cond t (item ∷ []) [])) e

absent-is : (n : ℕ) → is_none (qty_item n) ≡ is_absent n
absent-is n = by_test (is_absent n)
  where
    by_test : (b : Bool) → is_none (cond b None (Some (Number (pos (quantity n))))) ≡ b
    by_test true = refl
    by_test false = refl

-- the nulls of so many rows
pub record AreNulls (first nulls n : ℕ) : Type 0 where
  pub same : nulls ≡ nulls_of (map qty_item (range_with_len first (n - first)))
  pub few : nulls ≤ n - first

few-nulls : (first count : ℕ) → nulls_of (map qty_item (range_with_len first count)) ≤ count
few-nulls first count = omega (arith, count_by-le-length is_none (map qty_item (range_with_len first count)), length-map-range_with_len qty_item first count)

pub nulls_begin : (first : ℕ) → AreNulls first 0 first
nulls_begin first =
    let none : 0 ≡ first - first = omega arith in
    record { same = ap (λ (k : ℕ). nulls_of (map qty_item (range_with_len first k))) none; few = omega arith }

pub nulls_go_on : (first nulls n next : ℕ) (b : Bool) → first ≤ n → is_absent n ≡ b → next ≡ nulls + cond b 1 0 → AreNulls first nulls n → AreNulls first next (n + 1)
nulls_go_on first nulls n next b le is e are =
    let count : n - first + 1 ≡ n + 1 - first = omega arith in
    let here : first + (n - first) ≡ n = omega arith in
    let so_far : List (Option Stored) = map qty_item (range_with_len first (n - first)) in
    let more : List (Option Stored) = map qty_item (range_with_len first (n - first + 1)) in
    let kept : nulls_of more ≡ nulls_of so_far + cond b 1 0 =
    sym (length-filter is_none more) ∙ ap length (filter_of_map_range_with_len_more is_none qty_item first (n - first) n here)
    ∙ length-append (filter is_none so_far) (cond (is_none (qty_item n)) (qty_item n ∷ []) [])
    ∙ ap (λ (k : ℕ). k + length (cond (is_none (qty_item n)) (qty_item n ∷ []) [])) (length-filter is_none so_far)
    ∙ ap (λ (k : ℕ). nulls_of so_far + k) (one b (qty_item n) (absent-is n ∙ is)) in
    let same : next ≡ nulls_of (map qty_item (range_with_len first (n + 1 - first))) =
    e ∙ ap (λ (k : ℕ). k + cond b 1 0) are.same ∙ sym kept ∙ ap (λ (k : ℕ). nulls_of (map qty_item (range_with_len first k))) count in
    record { same = same; few = omega (arith, same, few-nulls first (n + 1 - first)) }

pub nulls_end : (first rows nulls n : ℕ) → n ≡ first + rows → AreNulls first nulls n → nulls ≡ nulls_of (map qty_item (range_with_len first rows))
nulls_end first rows nulls n end are =
    let count : n - first ≡ rows = omega arith in
    are.same ∙ ap (λ (k : ℕ). nulls_of (map qty_item (range_with_len first k))) count
