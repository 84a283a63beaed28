-- The values that are left in a run and in those behind it.
use Rattle.std.proofs.Common.{◌≡◌, ℕ, ◌+◌, ◌-◌, ◌*◌, ◌<◌, ◌≤◌, leb, List, [], ◌++◌, length, take, drop, Option, Some, None, refl, sym, ap, ◌∙◌, arith, length-append, inl, inr}
use Rattle.std.specs.Prelude.{IsSome, IfSome, unwrap_or}
use Rattle.std.proofs.lemmas.Bool.{cases_lt, le-leb, leb-true}
use Rattle.std.proofs.lemmas.List.{length-drop, length-take, take_all, take-append-le, drop-append-le, drop_all, nil_from_length}
use Rattle.parquet_base.specs.Reading.{◌>>=◌}
use Rattle.parquet_base.specs.Varint.{varint, varint_within}
use Rattle.parquet_encoding.specs.Hybrid.{first_run, runs}
use Rattle.parquet_encoding.specs.HybridRun.{count_of, run_values, run_left, IsIn, Opens}
use Rattle.parquet_encoding.specs.PackedRun.{packed_values}
use Rattle.parquet_encoding.specs.declared.run.OpenedRun.{OpenedRun}
use Rattle.parquet_encoding.specs.declared.run.HybridRun.{HybridRun}
use Rattle.parquet_encoding.specs.declared.run.HybridRun.TheVariants.{Packed, Repeated}
use Rattle.parquet_encoding.proofs.StepLemmas.{bind_some, given_some, some_is, is_something, nothing_is, if_some, same_some}
use Rattle.parquet_encoding.proofs.RunLemmas.{length-run_values}
use Rattle.parquet_encoding.proofs.HybridLemmas.{runs_step, runs_none, length-runs}

-- ---- one run

left_lies : (run : HybridRun) (bytes values : List ℕ) → run_left run bytes ≡ Some values → IsIn bytes run
unfolding run_left
left_lies (Packed run) bytes values e =
    leb-true _ _ (given_some (leb (8 * run.place + (run.bit + run.count * run.width)) (8 * length bytes)) (packed_values run bytes) values e).0
left_lies (Repeated value count) bytes values e = tt

left_is : (run : HybridRun) (bytes : List ℕ) → IsIn bytes run → run_left run bytes ≡ Some (run_values run bytes)
unfolding run_left
left_is (Packed run) bytes lies = rw (le-leb _ _ lies) refl
left_is (Repeated value count) bytes lies = refl

-- ---- a run and those behind it

-- what is left in a run and behind it
abbrev pub left_of : HybridRun → ℕ → List ℕ → ℕ → ℕ → Option (List ℕ)
left_of run width bytes behind next = run_left run bytes >>= λ here. runs (length bytes) width (drop next bytes) behind >>= λ others. Some (here ++ others)

pub record Parts (run : HybridRun) (width : ℕ) (bytes : List ℕ) (behind next : ℕ) : Type 0 where
  pub lies : IsIn bytes run
  pub others : List ℕ
  pub has_others : runs (length bytes) width (drop next bytes) behind ≡ Some others
  pub both : left_of run width bytes behind next ≡ Some (run_values run bytes ++ others)

pub together : (run : HybridRun) (width : ℕ) (bytes : List ℕ) (behind next : ℕ) (others : List ℕ) → IsIn bytes run → runs (length bytes) width (drop next bytes) behind ≡ Some others
    → left_of run width bytes behind next ≡ Some (run_values run bytes ++ others)
together run width bytes behind next others lies e = rw (left_is run bytes lies, e) refl

pub parts_of : (run : HybridRun) (width : ℕ) (bytes : List ℕ) (behind next : ℕ) → IsSome (left_of run width bytes behind next) → Parts run width bytes behind next
parts_of run width bytes behind next h =
    let some = is_something _ h in
    let a = bind_some (run_left run bytes) (λ here. runs (length bytes) width (drop next bytes) behind >>= λ others. Some (here ++ others)) some.0 some.1 in
    let b = bind_some (runs (length bytes) width (drop next bytes) behind) (λ others. Some (a.0 ++ others)) some.0 a.2 in
    let lies = left_lies run bytes a.0 a.1 in
    record { lies = lies; others = b.0; has_others = b.1; both = together run width bytes behind next b.0 lies b.1 }

no_run : (width count : ℕ) → first_run width count [] ≡ None
unfolding first_run varint varint_within
no_run width count = refl

-- the next run is opened
pub left_opens : (run : HybridRun) (width : ℕ) (bytes : List ℕ) (behind next : ℕ) (opened : OpenedRun) → count_of run ≡ 0 → IsSome (left_of run width bytes behind next) → 0 < behind → Opens bytes next width behind opened
    → left_of opened.run width bytes (behind - count_of opened.run) opened.end ≡ left_of run width bytes behind next
left_opens run width bytes behind next opened done h positive opens =
    let parts = parts_of run width bytes behind next h in
    let values = run_values opened.run bytes in
    let none : run_values run bytes ≡ [] = nil_from_length (run_values run bytes) (length-run_values bytes run ∙ done) in
    let step = runs_step (length bytes) width (drop next bytes) behind (values, drop opened.end bytes) (omega (arith, length-drop next bytes)) positive opens.is_first in
    let others = bind_some (runs (length bytes) width (drop opened.end bytes) (behind - length values)) (λ others. Some (values ++ others)) parts.others (sym step ∙ parts.has_others) in
    let rest : runs (length bytes) width (drop opened.end bytes) (behind - count_of opened.run) ≡ Some others.0 =
    ap (λ n. runs (length bytes) width (drop opened.end bytes) (behind - n)) (sym (length-run_values bytes opened.run)) ∙ others.1 in
    together opened.run width bytes (behind - count_of opened.run) opened.end others.0 opens.lies rest
    ∙ others.2 ∙ ap (λ (front : List ℕ). Some (front ++ parts.others)) {y = run_values run bytes} (sym none) ∙ sym parts.both

-- bytes are left where values are
pub left_within : (run : HybridRun) (width : ℕ) (bytes : List ℕ) (behind next : ℕ) → IsSome (left_of run width bytes behind next) → 0 < behind → next < length bytes
left_within run width bytes behind next h positive =
    elim (cases_lt next (length bytes)) [
      | inl lt ↦ lt
      | inr le ↦
          let parts = parts_of run width bytes behind next h in
          let none = ap (λ (rest : List ℕ). runs (length bytes) width rest behind) (drop_all next bytes le) ∙ runs_none (length bytes) width [] behind positive (no_run width behind) in
          absurd (nothing_is parts.others (sym none ∙ parts.has_others))
    ]

-- and a run stands there
pub left_has_run : (run : HybridRun) (width : ℕ) (bytes : List ℕ) (behind next : ℕ) → IsSome (left_of run width bytes behind next) → 0 < behind → first_run width behind (drop next bytes) ≡ None → ⊥
left_has_run run width bytes behind next h positive e =
    let parts = parts_of run width bytes behind next h in
    nothing_is parts.others (sym (runs_none (length bytes) width (drop next bytes) behind positive e) ∙ parts.has_others)

pub length-left : (run : HybridRun) (width : ℕ) (bytes : List ℕ) (behind next : ℕ) → IfSome (left_of run width bytes behind next) (λ values. count_of run + behind ≡ length values)
length-left run width bytes behind next = if_some _ _ (λ values e.
    let parts = parts_of run width bytes behind next (rw e refl) in
    let same = some_is _ _ (sym parts.both ∙ e) in
    let long = ap length same in
    omega (arith, length-append (run_values run bytes) parts.others, length-run_values bytes run, length-runs (length bytes) width (drop next bytes) behind parts.others parts.has_others))

-- nothing is left
pub nothing_left : (run : HybridRun) (width : ℕ) (bytes : List ℕ) (behind next : ℕ) → IsSome (left_of run width bytes behind next) → count_of run ≡ 0 → behind ≡ 0 → left_of run width bytes behind next ≡ Some []
nothing_left run width bytes behind next h here none =
    let parts = parts_of run width bytes behind next h in
    let long = length-runs (length bytes) width (drop next bytes) behind parts.others parts.has_others in
    parts.both ∙ ap Some (nil_from_length _ (length-append (run_values run bytes) parts.others ∙ omega (arith, length-run_values bytes run)))

-- the first values of the run are the first of all
pub left_front : (run front : HybridRun) (width : ℕ) (bytes : List ℕ) (behind next n : ℕ) → IsSome (left_of run width bytes behind next) → n ≤ count_of run → run_values front bytes ≡ take n (run_values run bytes)
    → run_values front bytes ≡ take n (unwrap_or (left_of run width bytes behind next) [])
left_front run front width bytes behind next n h few is =
    let parts = parts_of run width bytes behind next h in
    rw parts.both (is ∙ sym (take-append-le n (run_values run bytes) parts.others (omega (arith, length-run_values bytes run))))

-- and without them the others are left
pub left_behind : (run rest : HybridRun) (width : ℕ) (bytes : List ℕ) (behind next n : ℕ) → IsSome (left_of run width bytes behind next) → n ≤ count_of run → IsIn bytes rest → run_values rest bytes ≡ drop n (run_values run bytes)
    → left_of rest width bytes behind next ≡ Some (drop n (unwrap_or (left_of run width bytes behind next) []))
left_behind run rest width bytes behind next n h few lies is =
    let parts = parts_of run width bytes behind next h in
    together rest width bytes behind next parts.others lies parts.has_others
    ∙ ap (λ here. Some (here ++ parts.others)) is
    ∙ ap Some (sym (drop-append-le n (run_values run bytes) parts.others (omega (arith, length-run_values bytes run))) ∙ ap (λ o. drop n (unwrap_or o [])) (sym parts.both))

-- a run that is opened and given whole
pub record GivesWhole (run : HybridRun) (width : ℕ) (bytes : List ℕ) (behind next count : ℕ) (opened : OpenedRun) : Type 0 where
  pub values : run_values opened.run bytes ≡ take count (unwrap_or (left_of run width bytes behind next) [])
  pub few : count ≤ length (unwrap_or (left_of run width bytes behind next) [])
  pub rest : left_of run width bytes (behind - count) opened.end ≡ Some (drop count (unwrap_or (left_of run width bytes behind next) []))

pub gives_whole : (run : HybridRun) (width : ℕ) (bytes : List ℕ) (behind next count : ℕ) (opened : OpenedRun) → count_of run ≡ 0 → IsSome (left_of run width bytes behind next) → 0 < behind → Opens bytes next width behind opened
    → count ≡ count_of opened.run → GivesWhole run width bytes behind next count opened
gives_whole run width bytes behind next count opened done h positive opens e =
    let own = run_values opened.run bytes in
    let long : length own ≡ count = length-run_values bytes opened.run ∙ sym e in
    let later = behind - count in
    let same : left_of opened.run width bytes later opened.end ≡ left_of run width bytes behind next =
    ap (λ n. left_of opened.run width bytes (behind - n) opened.end) e ∙ left_opens run width bytes behind next opened done h positive opens in
    let there = same_some (left_of opened.run width bytes later opened.end) (left_of run width bytes behind next) same h in
    let all : own ≡ take count own = sym (take_all count own (omega arith)) in
    let front = left_front opened.run opened.run width bytes later opened.end count there (omega arith) all in
    let none : run_values run bytes ≡ [] = nil_from_length (run_values run bytes) (length-run_values bytes run ∙ done) in
    let nothing_behind : run_values run bytes ≡ drop count own = none ∙ sym (drop_all count own (omega arith)) in
    let lies = (parts_of run width bytes behind next h).lies in
    let rest = left_behind opened.run run width bytes later opened.end count there (omega arith) lies nothing_behind in
    let is : own ≡ take count (unwrap_or (left_of run width bytes behind next) []) = front ∙ ap (λ o. take count (unwrap_or o [])) same in
    record {
      values = is;
      few = omega (arith, long, ap length is, length-take count (unwrap_or (left_of run width bytes behind next) []));
      rest = rest ∙ ap (λ o. Some (drop count (unwrap_or o []))) same;
    }
