use Rattle.std.proofs.Common.{◌≡◌, ◌≤◌, ◌∙◌, ◌++◌, ◌-◌, List, [], ap, arith, drop, inl, inr, length, map, subst, sym, take, unwrap_or}
use Rattle.std.specs.Prelude.{is_some, sum_by}
use Rattle.std.proofs.lemmas.List.{length-take}
use Rattle.std.proofs.lemmas.List.Sums.{sum_by-append}
use Rattle.parquet_encoding.specs.JoinedLeft.{joined_values}
use Rattle.parquet_encoding.specs.Places.{bytes_in}
use Rattle.parquet_page.proofs.RefusalLemmas.{passed_on}
use Rattle.binary_values.proofs.JoinedLemmas.{StringsLeft, chunk-cut, strings-more, strings-past}
use Rattle.binary_values.proofs.string_walk.DeltaLengthTakeStrings.take_strings.Goals as goal

pub push_joined-requires-clause-sum : goal.push_joined-requires-clause-sum
push_joined-requires-clause-sum g c =
    let found = c.take-found.result.0 in
    (chunk-cut c.loop-left.walk c.args.bytes.now found _ c.take-found.new.lengths _ c.take-found.result.1.now c.loop-left.invariant.spelled c.take-found.ensures.count c.take-found.ensures.lengths c.take-found.ensures.joined).sum

pub returns-in_err-push_joined-clause-err : goal.returns-in_err-push_joined-clause-err
returns-in_err-push_joined-clause-err g c =
    let f = bytes_in c.args.bytes.now in
    let found = c.take-found.result.0 in
    let whole = joined_values c.args.self c.args.bytes.now in
    let rest = joined_values c.loop-left.walk c.args.bytes.now in
    let cut = chunk-cut c.loop-left.walk c.args.bytes.now found _ c.take-found.new.lengths _ c.take-found.result.1.now c.loop-left.invariant.spelled c.take-found.ensures.count c.take-found.ensures.lengths c.take-found.ensures.joined in
    let few : found ≤ c.loop-left.left = omega (arith, c.take-found.ensures.count, length-take c.min.result c.loop-left.lengths, c.min.ensures) in
    passed_on c.from_residual.result _ _ c.from_residual.ensures.1 (
    elim c.in_err-push_joined.ensures.err.1 [
      | inl memory ↦ inl memory
      | inr past ↦ inr (past.0, strings-past f c.args.strings.now c.loop-left.strings c.args.count c.loop-left.left found whole rest c.loop-left.invariant.strings few g.O.Offset.greatest (omega (arith, past.1, cut.bytes)))
    ])

pub loop-left-preserved : goal.loop-left-preserved
loop-left-preserved g c =
    let f = bytes_in c.args.bytes.now in
    let found = c.take-found.result.0 in
    let whole = joined_values c.args.self c.args.bytes.now in
    let rest = joined_values c.loop-left.walk c.args.bytes.now in
    let cut = chunk-cut c.loop-left.walk c.args.bytes.now found _ c.take-found.new.lengths _ c.take-found.result.1.now c.loop-left.invariant.spelled c.take-found.ensures.count c.take-found.ensures.lengths c.take-found.ensures.joined in
    let few : found ≤ c.loop-left.left = omega (arith, c.take-found.ensures.count, length-take c.min.result c.loop-left.lengths, c.min.ensures) in
    let is : c.push_joined.new.self ≡ c.loop-left.strings ++ map f (take found rest) = c.in_ok-push_joined.ensures.ok ∙ ap (λ strings. c.loop-left.strings ++ strings) cut.strings in
    let behind : joined_values c.take-found.new.self c.args.bytes.now ≡ drop found rest = ap (λ o. unwrap_or o []) c.take-found.ensures.rest in
    let P : List _ → Type 0 = λ left. StringsLeft f c.args.strings.now c.push_joined.new.self c.args.count (c.loop-left.left - found) whole left in
    record {
      spelled = ap is_some c.take-found.ensures.rest;
      strings = subst P (sym behind) (strings-more f c.args.strings.now c.loop-left.strings c.args.count c.loop-left.left found whole rest c.loop-left.invariant.strings few c.push_joined.new.self is);
      fits = omega (arith, c.in_ok-push_joined.ensures.fits, ap (sum_by length) is, sum_by-append length c.loop-left.strings (map f (take found rest)), cut.bytes);
    }
