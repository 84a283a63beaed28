use Rattle.std.proofs.Common.{ℕ, ◌∙◌, ◌∷◌, [], ap, arith, inl, inr, refl, length, ◌++◌, unwrap_or}
use Rattle.std.specs.Prelude.{sum_by}
use Rattle.std.proofs.lemmas.List.Sums.{sum_by-append, sum_by-cons}
use Rattle.parquet_encoding.specs.Places.{bytes_in}
use Rattle.parquet_page.proofs.RefusalLemmas.{passed_on}
use Rattle.binary_values.proofs.WalkLemmas.{all-taken, found-there, next-left, none-found, none-left, one-more, one-past}
use Rattle.binary_values.proofs.string_walk.take_each.Goals as goal

pub returns-in_default-clause-added : goal.returns-in_default-clause-added
returns-in_default-clause-added g c =
    let all = unwrap_or (g.W.StringWalk.places c.args.walk c.args.bytes.now) [] in
    let ended = none-found all c.loop.counter _ c.next_string.result c.loop.invariant.left c.next_string.ensures.value c.in_default.is in
    c.loop.invariant.added ∙ ap (λ more. c.args.strings.now ++ more) (all-taken (bytes_in c.args.bytes.now) all c.loop.counter c.args.count ended c.loop.auto.counter-end)

pub returns-in_default-clause-rest : goal.returns-in_default-clause-rest
returns-in_default-clause-rest g c =
    let all = unwrap_or (g.W.StringWalk.places c.args.walk c.args.bytes.now) [] in
    let ended = none-found all c.loop.counter _ c.next_string.result c.loop.invariant.left c.next_string.ensures.value c.in_default.is in
    none-left all c.loop.counter c.args.count _ _ c.loop.invariant.left c.next_string.ensures.rest ended c.loop.auto.counter-end

pub returns-in_err-push-clause-err : goal.returns-in_err-push-clause-err
returns-in_err-push-clause-err g c =
    let all = unwrap_or (g.W.StringWalk.places c.args.walk c.args.bytes.now) [] in
    let x : ℕ × ℕ = (c.in-Some.start, c.in-Some.length) in
    let there = found-there all c.loop.counter _ c.next_string.result x c.loop.invariant.left c.next_string.ensures.value c.in-Some.is in
    passed_on c.from_residual.result _ _ c.from_residual.ensures.1 (
    elim c.in_err-push.ensures.err.1 [
      | inl memory ↦ inl memory
      | inr past ↦ inr (past.0, one-past (bytes_in c.args.bytes.now) c.args.strings.now c.loop.strings all c.loop.counter c.args.count g.O.Offset.greatest x (bytes_in c.args.bytes.now x) c.loop.invariant.added there.0 c.loop-test.true there.1 refl past.1)
    ])

pub loop-preserved : goal.loop-preserved
loop-preserved g c =
    let all = unwrap_or (g.W.StringWalk.places c.args.walk c.args.bytes.now) [] in
    let x : ℕ × ℕ = (c.in-Some.start, c.in-Some.length) in
    let string = bytes_in c.args.bytes.now x in
    let there = found-there all c.loop.counter _ c.next_string.result x c.loop.invariant.left c.next_string.ensures.value c.in-Some.is in
    record {
      left = next-left all c.loop.counter _ _ c.loop.invariant.left c.next_string.ensures.rest;
      added = one-more (bytes_in c.args.bytes.now) c.args.strings.now c.loop.strings c.push.new.self all c.loop.counter x string c.loop.invariant.added there.0 there.1 refl c.in_ok-push.ensures.ok;
      fits = omega (arith, c.in_ok-push.ensures.fits, ap (sum_by length) c.in_ok-push.ensures.ok, sum_by-append length c.loop.strings (string ∷ []), sum_by-cons length string []);
    }
