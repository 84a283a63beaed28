-- One run of a walk over selected rows.
use Rattle.std.proofs.Common.{◌≡◌, ℕ, ◌+◌, ◌-◌, ◌<◌, ◌≤◌, ◌^◌, true, List, [], ◌∷◌, ◌++◌, length, drop, get_or, refl, sym, ap, ◌∙◌, subst, arith, append_assoc, length-append}
use Rattle.std.specs.Prelude.{max, min}
use Rattle.std.specs.List.{range_with_len}
use Rattle.std.proofs.lemmas.List.{drop_more}
use Rattle.std.proofs.lemmas.List.FromFn.{length-range_with_len}
use Rattle.parquet_base.specs.Intervals.{end, is_well_shaped_from, rows_of}
use Rattle.parquet_base.specs.declared.interval.Interval.{Interval}
use Rattle.parquet_base.proofs.RangeLemmas.{range-split}
use Rattle.parquet_base.proofs.ShapeLemmas.{shape-cons, shape-here, shape-le}
use Rattle.parquet_page.specs.SliceLeft.{first_count, rows_from, IsWalkOver, StandsBefore}
use Rattle.parquet_page.specs.declared.slice_filtered.SliceFiltered.{SliceFiltered}

-- from a row at or before the first interval on they are all rows
pub from-start : (row : ℕ) (runs : List Interval) (rows : ℕ) → is_well_shaped_from row runs rows ≡ true → rows_from row runs ≡ rows_of runs
from-start row [] rows shaped = refl
from-start row (run ∷ runs) rows shaped =
    let own = shape-cons row run runs rows shaped in
    let at : max row run.start ≡ run.start = omega (arith, own.late) in
    let many : end run - run.start ≡ run.length = omega arith in
    ap (λ first. range_with_len first (end run - first) ++ rows_of runs) at ∙ ap (λ n. range_with_len run.start n ++ rows_of runs) many

pub stands-next : (row : ℕ) (runs : List Interval) → is_well_shaped_from row runs (2 ^ 64 - 1) ≡ true → StandsBefore row runs
stands-next row [] shaped = tt
stands-next row (run ∷ runs) shaped =
    let own = shape-cons row run runs (2 ^ 64 - 1) shaped in
    (omega (arith, own.late, own.some), shape-here row run runs (2 ^ 64 - 1) shaped)

-- the intervals from an index on
from-here : (rows : List Interval) (at : ℕ) (x : Interval) → at < length rows → x ≡ get_or rows at x → drop at rows ≡ x ∷ drop (at + 1) rows
from-here rows at x h is = drop_more rows at x h ∙ ap (λ y. y ∷ drop (at + 1) rows) (sym is)

end-fits : (row : ℕ) (run : Interval) (runs : List Interval) → StandsBefore row (run ∷ runs) → end run < 2 ^ 64
end-fits row run runs stands = omega (arith, shape-le (end run) runs (2 ^ 64 - 1) (shape-cons run.start run runs (2 ^ 64 - 1) stands.1).rest)

-- what is left is some rows of the first interval and the rows of the others
left-count : (row : ℕ) (run : Interval) (runs : List Interval) → length (rows_from row (run ∷ runs)) ≡ end run - max row run.start + length (rows_of runs)
left-count row run runs =
    let own = length-range_with_len (max row run.start) (end run - max row run.start) in
    omega (arith, own, length-append (range_with_len (max row run.start) (end run - max row run.start)) (rows_of runs))

-- there are as many rows left as this run takes
enough : (limit place left first taken : ℕ) (run : Interval) (runs : List Interval) → left ≡ length (rows_from place (run ∷ runs)) → first ≡ max place run.start → taken ≡ min limit (end run - first) → taken ≤ left
enough limit place left first taken run runs c f t = omega (arith, c, f, t, left-count place run runs)

-- one call: the walk stands behind the rows that it gave
pub record Turn (limit place left : ℕ) (old : List Interval) (first taken : ℕ) (new : List Interval) : Type 0 where
  pub rows : rows_from place old ≡ range_with_len (place + (first - place)) taken ++ rows_from (first + taken) new
  pub there : first + taken ≡ place + (first - place) + taken
  pub some : 0 < taken
  pub many : taken ≡ min limit (first_count place old)
  pub stands : StandsBefore (first + taken) new
  pub counted : left - taken ≡ length (rows_from (first + taken) new)

count-rest : (left taken from : ℕ) (old new : List ℕ) → left ≡ length old → old ≡ range_with_len from taken ++ new → left - taken ≡ length new
count-rest left taken from old new c e = omega (arith, c, ap length e, length-append (range_with_len from taken) new, length-range_with_len from taken)

-- the rows of the first interval end with this run
turn-to_end : (limit place left first taken : ℕ) (run : Interval) (runs : List Interval) → 0 < limit → StandsBefore place (run ∷ runs) → left ≡ length (rows_from place (run ∷ runs)) → first ≡ max place run.start → taken ≡ min limit (end run - first) → first + taken ≡ end run → Turn limit place left (run ∷ runs) first taken runs
turn-to_end limit place left first taken run runs l stands c f t e =
    let own = shape-cons run.start run runs (2 ^ 64 - 1) stands.1 in
    let from : first ≡ place + (first - place) = omega (arith, f) in
    let many : end run - first ≡ taken = omega (arith, e) in
    let given = ap (λ at. range_with_len at (end run - at) ++ rows_of runs) (sym f)
    ∙ ap (λ n. range_with_len first n ++ rows_of runs) many
    ∙ ap (λ at. range_with_len at taken ++ rows_of runs) from
    ∙ ap (λ rest. range_with_len (place + (first - place)) taken ++ rest) (sym (from-start (end run) runs (2 ^ 64 - 1) own.rest))
    ∙ ap (λ at. range_with_len (place + (first - place)) taken ++ rows_from at runs) (sym e) in
    let S : ℕ → Type 0 = λ at. StandsBefore at runs in
    record {
      rows = given;
      there = omega (arith, from);
      some = omega (arith, stands.0, own.some, f, e);
      many = t ∙ ap (λ at. min limit (end run - at)) f;
      stands = subst S (sym e) (stands-next (end run) runs own.rest);
      counted = count-rest left taken (place + (first - place)) (rows_from place (run ∷ runs)) (rows_from (first + taken) runs) c given;
    }

-- the first interval has more rows behind this run
turn-within : (limit place left first taken : ℕ) (run : Interval) (runs : List Interval) → 0 < limit → StandsBefore place (run ∷ runs) → left ≡ length (rows_from place (run ∷ runs)) → first ≡ max place run.start → taken ≡ min limit (end run - first) → (first + taken ≡ end run → ⊥) → Turn limit place left (run ∷ runs) first taken (run ∷ runs)
turn-within limit place left first taken run runs l stands c f t other =
    let own = shape-cons run.start run runs (2 ^ 64 - 1) stands.1 in
    let before : first + taken < end run = omega (arith, stands.0, own.some, f, t, other) in
    let from : first ≡ place + (first - place) = omega (arith, f) in
    let more = end run - (first + taken) in
    let many : end run - first ≡ taken + (end run - (first + taken)) = omega (arith, before) in
    let at : first + taken ≡ max (first + taken) run.start = omega (arith, f) in
    let given = ap (λ at. range_with_len at (end run - at) ++ rows_of runs) (sym f)
    ∙ ap (λ n. range_with_len first n ++ rows_of runs) many
    ∙ ap (λ rows. rows ++ rows_of runs) (range-split first taken more)
    ∙ append_assoc (range_with_len first taken) (range_with_len (first + taken) more) (rows_of runs)
    ∙ ap (λ at. range_with_len at taken ++ (range_with_len (first + taken) more ++ rows_of runs)) from
    ∙ ap (λ at. range_with_len (place + (first - place)) taken ++ (range_with_len at (end run - at) ++ rows_of runs)) at in
    record {
      rows = given;
      there = omega (arith, from);
      some = omega (arith, stands.0, own.some, f, t, l);
      many = t ∙ ap (λ at. min limit (end run - at)) f;
      stands = (before, stands.1);
      counted = count-rest left taken (place + (first - place)) (rows_from place (run ∷ runs)) (rows_from (first + taken) (run ∷ runs)) c given;
    }

-- ---- where the walk stands

-- the walk stands before the end of the interval at its index
pub record StandsAt (walk : SliceFiltered) (rows : List Interval) (run : Interval) : Type 0 where
  pub split : drop walk.interval rows ≡ run ∷ drop (walk.interval + 1) rows
  pub stands : StandsBefore walk.place (run ∷ drop (walk.interval + 1) rows)
  pub counted : walk.left ≡ length (rows_from walk.place (run ∷ drop (walk.interval + 1) rows))

pub stands-at : (walk : SliceFiltered) (rows : List Interval) (run : Interval) → walk.interval < length rows → run ≡ get_or rows walk.interval run → IsWalkOver walk rows → StandsAt walk rows run
stands-at walk rows run h is over =
    let split = from-here rows walk.interval run h is in
    let S : List Interval → Type 0 = λ runs. StandsBefore walk.place runs in
    record {
      split = split;
      stands = subst S split over.stands;
      counted = over.counted ∙ ap (λ runs. length (rows_from walk.place runs)) split;
    }

pub ends-in-time : (walk : SliceFiltered) (rows : List Interval) (run : Interval) → StandsAt walk rows run → end run < 2 ^ 64
ends-in-time walk rows run at = end-fits walk.place run (drop (walk.interval + 1) rows) at.stands

pub has-enough : (walk : SliceFiltered) (rows : List Interval) (run : Interval) (limit first taken : ℕ) → StandsAt walk rows run → first ≡ max walk.place run.start → taken ≡ min limit (end run - first) → taken ≤ walk.left
has-enough walk rows run limit first taken at f t = enough limit walk.place walk.left first taken run (drop (walk.interval + 1) rows) at.counted f t

pub ends-interval : (walk : SliceFiltered) (rows : List Interval) (run : Interval) (limit first taken : ℕ) → StandsAt walk rows run → 0 < limit → first ≡ max walk.place run.start → taken ≡ min limit (end run - first) → first + taken ≡ end run
    → Turn limit walk.place walk.left (drop walk.interval rows) first taken (drop (walk.interval + 1) rows)
ends-interval walk rows run limit first taken at l f t e =
    let rest = drop (walk.interval + 1) rows in
    let T : List Interval → Type 0 = λ old. Turn limit walk.place walk.left old first taken (drop (walk.interval + 1) rows) in
    subst T (sym at.split) (turn-to_end limit walk.place walk.left first taken run rest l at.stands at.counted f t e)

pub stays-in-interval : (walk : SliceFiltered) (rows : List Interval) (run : Interval) (limit first taken : ℕ) → StandsAt walk rows run → 0 < limit → first ≡ max walk.place run.start → taken ≡ min limit (end run - first) → (first + taken ≡ end run → ⊥)
    → Turn limit walk.place walk.left (drop walk.interval rows) first taken (drop walk.interval rows)
stays-in-interval walk rows run limit first taken at l f t other =
    let rest = drop (walk.interval + 1) rows in
    let T : List Interval → Type 0 = λ runs. Turn limit walk.place walk.left runs first taken runs in
    subst T (sym at.split) (turn-within limit walk.place walk.left first taken run rest l at.stands at.counted f t other)
