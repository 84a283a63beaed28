-- Walking runs.
use Rattle.std.proofs.Common.{unwrap_or, ◌≡◌, ℕ, zero, suc, ◌-◌, ◌<◌, ◌≤◌, min, eqb, true, false, List, [], ◌∷◌, ◌++◌, length, drop, replicate, Option, Some, None, refl, sym, ap, ◌∙◌, arith, inl, inr, length-append}
use Rattle.std.specs.Prelude.{is_some}
use Rattle.std.proofs.lemmas.Bool.{lt-ltb, le-ltb}
use Rattle.std.proofs.lemmas.Bool.Decides.{eqb_tells}
use Rattle.std.proofs.lemmas.List.{length-drop, length-replicate, append-nil}
use Rattle.parquet_base.specs.Reading.{◌>>=◌, Takes}
use Rattle.parquet_base.specs.Varint.{varint, varint_within}
use Rattle.parquet_base.proofs.TakeLemmas.{varint-takes}
use Rattle.parquet_encoding.specs.Hybrid.{hybrid, Run, Groups, Copies, first_run, runs, run_length, run_of, run_size, first_values}
use Rattle.parquet_encoding.specs.HybridRun.{count_of, run_values, Opens, PassesRun}
use Rattle.parquet_encoding.specs.declared.run.OpenedRun.{OpenedRun}
use Rattle.parquet_encoding.proofs.StepLemmas.{bind_some, given_some, some_is, same_steps}
use Rattle.parquet_encoding.proofs.BitsLemmas.{length-packed}
use Rattle.parquet_encoding.proofs.RunLemmas.{length-run_values}

-- ---- a run takes at least a byte

taken_of : {A : Type 0} (bytes : List ℕ) (o : Option (A × List ℕ)) (x : A × List ℕ) → o ≡ Some x → Takes 1 bytes o → length x.1 < length bytes
taken_of bytes o x e t = let takes = rw e at t in omega arith

pub varint-shorter : (bytes : List ℕ) (read : ℕ × List ℕ) → varint bytes ≡ Some read → length read.1 < length bytes
varint-shorter bytes read e = taken_of bytes (varint bytes) read e (varint-takes bytes)

first_run-shorter : (width count : ℕ) (bytes : List ℕ) (first : List ℕ × List ℕ) → first_run width count bytes ≡ Some first → length first.1 < length bytes
unfolding first_run
first_run-shorter width count bytes first e =
    let header = bind_some (varint bytes) (λ header. first_values (run_of header.0) width header.1 (min (run_length (run_of header.0) width header.1) count) >>= λ own. Some (own, drop (run_size (run_of header.0) width) header.1)) first e in
    let run = run_of header.0.0 in
    let body = header.0.1 in
    let own = bind_some (first_values run width body (min (run_length run width body) count)) (λ own. Some (own, drop (run_size run width) body)) first header.2 in
    let same = some_is (own.0, drop (run_size run width) body) first own.2 in
    let shorter = varint-shorter bytes header.0 header.1 in
    rw (← same) (omega (arith, length-drop (run_size run width) body))

first_values-length : (run : Run) (width : ℕ) (body : List ℕ) (count : ℕ) (own : List ℕ) → first_values run width body count ≡ Some own → length own ≡ count
first_values-length (Groups groups) width body count own e = ap length (sym (some_is _ own e)) ∙ length-packed body width 0 count
first_values-length (Copies copies) width body count own e =
    let same = given_some _ _ own e in ap length (sym same.1) ∙ length-replicate count _

first_run-length : (width count : ℕ) (bytes : List ℕ) (first : List ℕ × List ℕ) → first_run width count bytes ≡ Some first → length first.0 ≤ count
unfolding first_run
first_run-length width count bytes first e =
    let header = bind_some (varint bytes) (λ header. first_values (run_of header.0) width header.1 (min (run_length (run_of header.0) width header.1) count) >>= λ own. Some (own, drop (run_size (run_of header.0) width) header.1)) first e in
    let run = run_of header.0.0 in
    let body = header.0.1 in
    let own = bind_some (first_values run width body (min (run_length run width body) count)) (λ own. Some (own, drop (run_size run width) body)) first header.2 in
    let same = some_is (own.0, drop (run_size run width) body) first own.2 in
    let long = first_values-length run width body (min (run_length run width body) count) own.0 own.1 in
    rw (← same) (omega arith)

-- ---- as many turns as there are bytes are enough

abbrev pub runs_with : (limit width count : ℕ) → List ℕ × List ℕ → Option (List ℕ)
runs_with limit width count first = runs limit width first.1 (count - length first.0) >>= λ others. Some (first.0 ++ others)

no_bytes : (limit width : ℕ) (bytes : List ℕ) (count : ℕ) → length bytes ≤ 0 → runs (suc limit) width bytes (suc count) ≡ None
unfolding runs first_run varint varint_within
no_bytes limit width [] count h = refl
no_bytes limit width (byte ∷ bytes) count h = absurd (omega arith)

runs-limit : (a b width : ℕ) (bytes : List ℕ) (count : ℕ) → length bytes ≤ a → length bytes ≤ b → runs a width bytes count ≡ runs b width bytes count
unfolding runs
runs-limit zero zero width bytes zero h k = refl
runs-limit zero (suc b) width bytes zero h k = refl
runs-limit (suc a) zero width bytes zero h k = refl
runs-limit (suc a) (suc b) width bytes zero h k = refl
runs-limit zero zero width bytes (suc count) h k = refl
runs-limit zero (suc b) width bytes (suc count) h k = sym (no_bytes b width bytes count (omega arith))
runs-limit (suc a) zero width bytes (suc count) h k = no_bytes a width bytes count (omega arith)
runs-limit (suc a) (suc b) width bytes (suc count) h k =
    same_steps (first_run width (suc count) bytes) (runs_with a width (suc count)) (runs_with b width (suc count)) (λ first e.
    let shorter = first_run-shorter width (suc count) bytes first e in
    ap (λ r. r >>= λ others. Some (first.0 ++ others)) (runs-limit a b width first.1 (suc count - length first.0) (omega arith) (omega arith)))

-- the run at the front, and the others
pub runs_step : (limit width : ℕ) (bytes : List ℕ) (count : ℕ) (first : List ℕ × List ℕ) → length bytes ≤ limit → 0 < count → first_run width count bytes ≡ Some first
    → runs limit width bytes count ≡ runs_with limit width count first
unfolding runs
runs_step limit width bytes zero first h positive e = absurd (omega arith)
runs_step zero width bytes (suc count) first h positive e = let shorter = first_run-shorter width (suc count) bytes first e in absurd (omega arith)
runs_step (suc limit) width bytes (suc count) first h positive e =
    let shorter = first_run-shorter width (suc count) bytes first e in
    rw e (ap (λ r. r >>= λ others. Some (first.0 ++ others)) (runs-limit limit (suc limit) width first.1 (suc count - length first.0) (omega arith) (omega arith)))

pub runs_none : (limit width : ℕ) (bytes : List ℕ) (count : ℕ) → 0 < count → first_run width count bytes ≡ None → runs limit width bytes count ≡ None
unfolding runs
runs_none limit width bytes zero positive e = absurd (omega arith)
runs_none zero width bytes (suc count) positive e = refl
runs_none (suc limit) width bytes (suc count) positive e = rw e refl

pub length-runs : (limit width : ℕ) (bytes : List ℕ) (count : ℕ) (values : List ℕ) → runs limit width bytes count ≡ Some values → length values ≡ count
unfolding runs
length-runs zero width bytes zero values e = ap length (sym (some_is [] values e))
length-runs (suc limit) width bytes zero values e = ap length (sym (some_is [] values e))
length-runs zero width bytes (suc count) values e = absurd cc
length-runs (suc limit) width bytes (suc count) values e =
    let first = bind_some (first_run width (suc count) bytes) (runs_with limit width (suc count)) values e in
    let others = bind_some (runs limit width first.0.1 (suc count - length first.0.0)) (λ others. Some (first.0.0 ++ others)) values first.2 in
    let most = first_run-length width (suc count) bytes first.0 first.1 in
    let rest = length-runs limit width first.0.1 (suc count - length first.0.0) others.0 others.1 in
    ap length (sym (some_is _ values others.2)) ∙ length-append first.0.0 others.0 ∙ omega arith

-- ---- walking the headers alone

is_some-with : (front : List ℕ) (r : Option (List ℕ)) → is_some (r >>= λ others. Some (front ++ others)) ≡ is_some r
is_some-with front None = refl
is_some-with front (Some x) = refl

pub walks_on : (width : ℕ) (bytes : List ℕ) (place left : ℕ) (passed : ℕ × ℕ) → 0 < left → PassesRun bytes place width left passed
    → is_some (runs (length bytes) width (drop passed.1 bytes) (left - passed.0)) ≡ is_some (runs (length bytes) width (drop place bytes) left)
walks_on width bytes place left passed positive passes =
    let step = runs_step (length bytes) width (drop place bytes) left (passes.values, drop passed.1 bytes) (omega (arith, length-drop place bytes)) positive passes.is_first in
    let others = runs (length bytes) width (drop passed.1 bytes) (left - length passes.values) in
    sym (ap is_some step ∙ is_some-with passes.values others ∙ ap (λ n. is_some (runs (length bytes) width (drop passed.1 bytes) (left - n))) passes.count)

-- an opened run is passed
pub passes_opened : (bytes : List ℕ) (place width wanted count : ℕ) (opened : OpenedRun) → Opens bytes place width wanted opened → count ≡ count_of opened.run → PassesRun bytes place width wanted (count, opened.end)
passes_opened bytes place width wanted count opened opens is = record {
  values = run_values opened.run bytes;
  is_first = opens.is_first;
  count = length-run_values bytes opened.run ∙ sym is;
  most = omega (arith, is, opens.most);
  after = opens.after;
  within = opens.within;
}

pub walk_stops : (width : ℕ) (bytes : List ℕ) (place left : ℕ) → 0 < left → first_run width left (drop place bytes) ≡ None → is_some (runs (length bytes) width (drop place bytes) left) ≡ false
walk_stops width bytes place left positive e = ap is_some (runs_none (length bytes) width (drop place bytes) left positive e)

pub walk_ends : (limit width : ℕ) (bytes : List ℕ) (left : ℕ) → left ≤ 0 → is_some (runs limit width bytes left) ≡ true
unfolding runs
walk_ends zero width bytes zero h = refl
walk_ends (suc limit) width bytes zero h = refl
walk_ends limit width bytes (suc left) h = absurd (omega arith)

-- ---- the beginning

is_not_zero : (n : ℕ) → 0 < n → eqb n 0 ≡ false
is_not_zero n positive = elim (eqb_tells n 0) [ inl same ↦ absurd (omega (arith, same.1)) | inr other ↦ other.0 ]

nothing_in_front : (r : Option (List ℕ)) → (r >>= λ others. Some ([] ++ others)) ≡ r
nothing_in_front None = refl
nothing_in_front (Some x) = refl

pub no_bits : (bytes : List ℕ) (width count : ℕ) → width ≡ 0 → hybrid width bytes count ≡ Some (replicate count 0)
unfolding hybrid
no_bits bytes width count e = rw e refl

pub too_wide : (bytes : List ℕ) (width count : ℕ) → 32 < width → hybrid width bytes count ≡ None
unfolding hybrid
too_wide bytes width count wide = rw (is_not_zero width (omega arith), lt-ltb 32 width wide) refl

pub has_runs : (bytes : List ℕ) (width count : ℕ) → 0 < width → width ≤ 32 → hybrid width bytes count ≡ runs (length bytes) width bytes count
unfolding hybrid
has_runs bytes width count some narrow = rw (is_not_zero width (omega arith), le-ltb 32 width narrow) refl

-- nothing of a run, and all behind it
pub all_behind : (bytes : List ℕ) (width count : ℕ) → (runs (length bytes) width bytes count >>= λ others. Some ([] ++ others)) ≡ runs (length bytes) width bytes count
all_behind bytes width count = nothing_in_front (runs (length bytes) width bytes count)

-- all in one run
pub all_here : (limit width count : ℕ) (bytes : List ℕ) → (runs limit width bytes 0 >>= λ others. Some (replicate count 0 ++ others)) ≡ Some (replicate count 0)
unfolding runs
all_here zero width count bytes = ap Some (append-nil (replicate count 0))
all_here (suc limit) width count bytes = ap Some (append-nil (replicate count 0))

pub counted : (limit width : ℕ) (bytes : List ℕ) (count : ℕ) → is_some (runs limit width bytes count) ≡ true → length (unwrap_or (runs limit width bytes count) []) ≡ count
counted limit width bytes count h = go (runs limit width bytes count) refl h where
  go : (o : Option (List ℕ)) → runs limit width bytes count ≡ o → is_some o ≡ true → length (unwrap_or o []) ≡ count
  go None e h = absurd cc
  go (Some values) e h = length-runs limit width bytes count values e
