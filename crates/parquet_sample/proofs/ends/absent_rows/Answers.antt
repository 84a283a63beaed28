use Rattle.std.proofs.Common.{◌≡◌, ℕ, ◌==◌, arith, true, false, ap}
use Rattle.std.proofs.lemmas.Bool.Decides.{nat_tests}
use Rattle.parquet_sample.proofs.NullLemmas.{nulls_begin, nulls_end, nulls_go_on}
use Rattle.parquet_sample.proofs.ends.absent_rows.Goals as goal
use Rattle.parquet_sample.proofs.ends.absent_rows.Goals.{then-n-eq0, else-n-eq0}

pub loop-n-init : goal.loop-n-init
loop-n-init c = nulls_begin c.args.first

present-is : (k : ℕ) → (k ≡ 0 → ⊥) → (k == 0) ≡ false
present-is k some = grind (arith, nat_tests)

pub loop-n-preserved : goal.loop-n-preserved
loop-n-preserved c = elim c.if-n-eq0.branch [
  | then-n-eq0 w ↦ nulls_go_on c.args.first c.loop-n.nulls c.loop-n.n c.if-n-eq0.nulls true (omega arith) (ap (λ (k : ℕ). k == 0) w.if-n-eq0.true) w.nulls-is c.loop-n.invariant
  | else-n-eq0 w ↦ nulls_go_on c.args.first c.loop-n.nulls c.loop-n.n c.if-n-eq0.nulls false (omega arith) (present-is _ w.if-n-eq0.false) (omega (arith, w.nulls-is)) c.loop-n.invariant
]

pub returns : goal.returns
returns c = nulls_end c.args.first c.args.rows c.loop-n.nulls c.loop-n.n (omega arith) c.loop-n.invariant
