use Rattle.parquet_page.proofs.LevelLemmas.{ones_equal, zeros_equal}
use Rattle.parquet_page.proofs.validity_part.equal_bits.Goals as goal

pub returns-then-bits-eq1-clause-some : goal.returns-then-bits-eq1-clause-some
returns-then-bits-eq1-clause-some c = (ones_equal c.args.bits c.args.count c.trailing_ones.result c.min.result c.requires.some c.requires.few c.requires.low c.if-bits-eq1.true c.trailing_ones.ensures c.min.ensures).some

pub returns-then-bits-eq1-clause-same : goal.returns-then-bits-eq1-clause-same
returns-then-bits-eq1-clause-same c = (ones_equal c.args.bits c.args.count c.trailing_ones.result c.min.result c.requires.some c.requires.few c.requires.low c.if-bits-eq1.true c.trailing_ones.ensures c.min.ensures).equal

pub returns-then-bits-eq1-clause-ends : goal.returns-then-bits-eq1-clause-ends
returns-then-bits-eq1-clause-ends c = (ones_equal c.args.bits c.args.count c.trailing_ones.result c.min.result c.requires.some c.requires.few c.requires.low c.if-bits-eq1.true c.trailing_ones.ensures c.min.ensures).ends

pub returns-else-bits-eq1-clause-some : goal.returns-else-bits-eq1-clause-some
returns-else-bits-eq1-clause-some c = (zeros_equal c.args.bits c.args.count c.min-else-bits-eq1.result c.requires.some c.requires.few c.requires.low c.if-bits-eq1.false c.min-else-bits-eq1.ensures).some

pub returns-else-bits-eq1-clause-same : goal.returns-else-bits-eq1-clause-same
returns-else-bits-eq1-clause-same c = (zeros_equal c.args.bits c.args.count c.min-else-bits-eq1.result c.requires.some c.requires.few c.requires.low c.if-bits-eq1.false c.min-else-bits-eq1.ensures).equal

pub returns-else-bits-eq1-clause-ends : goal.returns-else-bits-eq1-clause-ends
returns-else-bits-eq1-clause-ends c = (zeros_equal c.args.bits c.args.count c.min-else-bits-eq1.result c.requires.some c.requires.few c.requires.low c.if-bits-eq1.false c.min-else-bits-eq1.ensures).ends
