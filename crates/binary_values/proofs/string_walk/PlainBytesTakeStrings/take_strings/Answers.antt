use Rattle.std.proofs.Common.{◌≡◌, ◌≤◌, ◌∙◌, ◌++◌, ◌-◌, ℕ, List, [], ap, arith, drop, inl, inr, length, map, subst, sym, take, unwrap_or}
use Rattle.std.specs.Prelude.{is_some, sum_by}
use Rattle.std.proofs.lemmas.List.{length-take}
use Rattle.parquet_encoding.specs.Places.{bytes_in}
use Rattle.parquet_encoding.specs.PlainLeft.{strings}
use Rattle.parquet_page.proofs.RefusalLemmas.{passed_on}
use Rattle.binary_values.proofs.JoinedLemmas.{StringsLeft, strings-more, strings-past}
use Rattle.binary_values.proofs.string_walk.PlainBytesTakeStrings.take_strings.Goals as goal

pub returns-in_err-walk-clause-err : goal.returns-in_err-walk-clause-err
returns-in_err-walk-clause-err g c =
    let f = bytes_in c.args.bytes.now in
    let many = c.min-many.result in
    let whole = strings c.args.self c.args.bytes.now in
    let rest = strings c.loop-left.walk c.args.bytes.now in
    let few : many ≤ c.loop-left.left = omega (arith, c.min-many.ensures) in
    let size : length (take many c.loop-left.lengths) ≡ many = omega (arith, c.min-many.ensures, length-take many c.loop-left.lengths) in
    passed_on c.from_residual.result _ _ c.from_residual.ensures.1 (
    elim c.in_err-walk.ensures.err [
      | inl memory ↦ inl memory
      | inr past ↦ inr (past.0, strings-past f c.args.strings.now c.loop-left.strings c.args.count c.loop-left.left many whole rest c.loop-left.invariant.strings few g.O.Offset.greatest (omega (arith, past.1, ap (λ n. sum_by length (map f (take n rest))) size)))
    ])

pub loop-left-preserved : goal.loop-left-preserved
loop-left-preserved g c =
    let f = bytes_in c.args.bytes.now in
    let many = c.min-many.result in
    let whole = strings c.args.self c.args.bytes.now in
    let rest = strings c.loop-left.walk c.args.bytes.now in
    let few : many ≤ c.loop-left.left = omega (arith, c.min-many.ensures) in
    let size : length (take many c.loop-left.lengths) ≡ many = omega (arith, c.min-many.ensures, length-take many c.loop-left.lengths) in
    let is : c.take_chunk.new.strings ≡ c.loop-left.strings ++ map f (take many rest) = c.in_ok-walk.ensures.added ∙ ap (λ n. c.loop-left.strings ++ map f (take n rest)) size in
    let behind : strings c.in_ok-walk.walk c.args.bytes.now ≡ drop many rest = ap (λ o. unwrap_or o []) c.in_ok-walk.ensures.rest ∙ ap (λ n. drop n rest) size in
    let P : List (ℕ × ℕ) → Type 0 = λ left. StringsLeft f c.args.strings.now c.take_chunk.new.strings c.args.count (c.loop-left.left - many) whole left in
    record {
      spelled = ap is_some c.in_ok-walk.ensures.rest;
      strings = subst P (sym behind) (strings-more f c.args.strings.now c.loop-left.strings c.args.count c.loop-left.left many whole rest c.loop-left.invariant.strings few c.take_chunk.new.strings is);
      fits = c.in_ok-walk.ensures.fits;
    }
