-- Bytes that are taken one piece after another.
use Rattle.std.proofs.Common.{◌≡◌, ◌∙◌, ℕ, ◌+◌, ◌<◌, ◌≤◌, List, [], ◌++◌, append_assoc, ap, arith, drop, get_or, length, refl, subst, sym}
use Rattle.std.specs.Prelude.{Result, Ok, Err, IsErr, OnErr, OnOk}
use Rattle.std.proofs.lemmas.Bool.{false≢true}
use Rattle.std.specs.List.{flat_map}
use Rattle.std.proofs.lemmas.List.{append-nil, at_drop_more}
use Rattle.std.proofs.lemmas.Result.{on_ok_weaker, on_err_weaker}
use Rattle.parquet_base.specs.Failures.{CountsFailures}
use Rattle.pq_common.specs.Taken.{TakesBytes}
use Rattle.pq_common.specs.Written.{IsAppended, IsAppendedBut, IsFrontAppended}
use Rattle.pq_common.specs.declared.sink.Sink.{Ghosts}
use Rattle.pq_common.proofs.Appended.{front_and_more, front_behind, front_of_more, but_behind, nothing_yet, whole_written}

-- no call has failed so far, and this rest of the bytes is not yet written
pub record Leaves {K : Type 0} (g : Ghosts K) (old now : K) (bytes rest : List ℕ) : Type 0 where
  pub appended : IsAppendedBut (g.written old) (g.written now) bytes rest
  pub quiet : g.faults now ≡ g.faults old

pub begun : {K : Type 0} (g : Ghosts K) (sink : K) (bytes : List ℕ) → Leaves g sink sink bytes bytes
begun g sink bytes = record { appended = nothing_yet (g.written sink) bytes; quiet = refl }

-- so many bytes of the rest are taken, and others come behind them
pub front_taken : {K T E : Type 0} (g : Ghosts K) (o p q : K) (bytes kept rest comes : List ℕ) (x : T)
    → Leaves g o p bytes (kept ++ comes) → TakesBytes {T = T} {E = E} g p q kept rest (Ok x) → Leaves g o q bytes (rest ++ comes)
front_taken g o p q bytes kept rest comes x before now = record {
  appended = front_and_more _ _ _ bytes (kept ++ comes) (rest ++ comes) before.appended (but_behind _ _ kept rest comes now.ok);
  quiet = now.quiet ∙ before.quiet;
}

-- the bytes that are held and a piece are taken, and others come behind them
pub piece_taken : {K T E : Type 0} (g : Ghosts K) (o p q : K) (bytes kept left piece rest comes : List ℕ) (x : T) → left ≡ piece ++ comes
    → Leaves g o p bytes (kept ++ left) → TakesBytes {T = T} {E = E} g p q (kept ++ piece) rest (Ok x) → Leaves g o q bytes (rest ++ comes)
piece_taken g o p q bytes kept left piece rest comes x parts before now =
    let joined : kept ++ left ≡ (kept ++ piece) ++ comes = ap (λ behind. kept ++ behind) parts ∙ sym (append_assoc kept piece comes) in
    front_taken g o p q bytes (kept ++ piece) rest comes x (subst (λ (behind : List ℕ). Leaves g o p bytes behind) joined before) now

-- the last of the bytes are taken
pub last_taken : {K T E : Type 0} (g : Ghosts K) (o p q : K) (bytes kept rest : List ℕ) (r : Result T E)
    → Leaves g o p bytes kept → TakesBytes g p q kept rest r → TakesBytes g o q bytes rest r
last_taken g o p q bytes kept rest r before now = record {
  ok = on_ok_weaker r (front_and_more _ _ _ bytes kept rest before.appended) now.ok;
  err = on_err_weaker r (front_behind _ _ _ bytes kept before.appended) now.err;
  counted = subst (λ (count : ℕ). CountsFailures count (g.faults q) r) before.quiet now.counted;
  quiet = on_ok_weaker r (λ same. same ∙ before.quiet) now.quiet;
}

-- the bytes that are held and a piece are not all taken
pub piece_refused : {K T E X F : Type 0} (g : Ghosts K) (o p q : K) (bytes kept left piece rest comes last : List ℕ) (e : E) (r : Result X F) → IsErr r
    → left ≡ piece ++ comes → Leaves g o p bytes (kept ++ left) → TakesBytes {T = T} g p q (kept ++ piece) rest (Err e) → TakesBytes g o q bytes last r
piece_refused g o p q bytes kept left piece rest comes last e (Ok x) bad parts before now = absurd (false≢true bad)
piece_refused {K} {T} {E} {X} g o p q bytes kept left piece rest comes last e (Err f) bad parts before now =
    let joined : (kept ++ piece) ++ comes ≡ kept ++ left = append_assoc kept piece comes ∙ ap (λ behind. kept ++ behind) (sym parts) in
    let front = subst (λ (behind : List ℕ). IsFrontAppended (g.written p) (g.written q) behind) joined (front_of_more _ _ (kept ++ piece) comes now.err) in
    let counted = subst (λ (count : ℕ). CountsFailures {T = T} {E = E} count (g.faults q) (Err e)) before.quiet now.counted in
    record {
      ok = tt;
      err = front_behind _ _ _ bytes (kept ++ left) before.appended front;
      counted = record { later = counted.later; failed = counted.failed };
      quiet = tt;
    }

-- nothing comes behind what is held
pub ended : {K T E : Type 0} (g : Ghosts K) (o q : K) (bytes rest : List ℕ) (x : T) → Leaves g o q bytes (rest ++ []) → TakesBytes {T = T} {E = E} g o q bytes rest (Ok x)
ended g o q bytes rest x all = record {
  ok = subst (λ (behind : List ℕ). IsAppendedBut (g.written o) (g.written q) bytes behind) (append-nil rest) all.appended;
  err = tt;
  counted = record { later = subst (λ (count : ℕ). g.faults o ≤ count) (sym all.quiet) (omega arith); failed = λ bad. absurd (false≢true bad) };
  quiet = all.quiet;
}

-- bytes that are written straight
pub straight : {K T E : Type 0} (g : Ghosts K) (p q : K) (bytes : List ℕ) (r : Result T E)
    → OnOk r (IsAppended (g.written p) (g.written q) bytes) → OnErr r (IsFrontAppended (g.written p) (g.written q) bytes)
    → CountsFailures (g.faults p) (g.faults q) r → OnOk r (g.faults q ≡ g.faults p) → TakesBytes g p q bytes [] r
straight g p q bytes r all front counted quiet = record {
  ok = on_ok_weaker r (whole_written _ _ bytes) all;
  err = front;
  counted = counted;
  quiet = quiet;
}

-- what the next item spells, and what those behind it do
pub next_item : {X : Type 0} (f : X → List ℕ) (xs : List X) (i : ℕ) (x : X) → i < length xs → x ≡ get_or xs i x
    → flat_map f (drop i xs) ≡ f x ++ flat_map f (drop (i + 1) xs)
next_item f xs i x within is =
    at_drop_more (flat_map f) xs i x within ∙ ap (λ x. f x ++ flat_map f (drop (i + 1) xs)) (sym is)
