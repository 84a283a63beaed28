use Rattle.std.proofs.Common.{◌≡◌, ◌-◌, ◌+◌, arith, sym, ◌∙◌, ap, drop}
use Rattle.std.proofs.Common.{eq-eqb}
use Rattle.scan_program.specs.Words.{split_field}
use Rattle.scan_program.proofs.SplitLemmas.{colon_at}
use Rattle.scan_program.proofs.items.last_colon.Goals as goal

pub returns-then-text-rest-eq58-clause-parts : goal.returns-then-text-rest-eq58-clause-parts
returns-then-text-rest-eq58-clause-parts c =
    let one : c.loop-rest.rest - 1 + 1 ≡ c.loop-rest.rest = omega (arith, c.loop-rest-test.true) in
    sym (colon_at c.args.text.now (c.loop-rest.rest - 1) (omega (arith, c.loop-rest-test.true, c.loop-rest.invariant.within)) (eq-eqb _ 58 c.if-text-rest-eq58.true)
    (ap (λ n. split_field (drop n c.args.text.now)) one ∙ c.loop-rest.invariant.none))
