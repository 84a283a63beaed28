use Rattle.std.proofs.Common.{◌∙◌, ◌^◌, ◌<◌, ap, arith}
use Rattle.columns_core.specs.Bits.{low_bits}
use Rattle.columns_core.proofs.BitLemmas.{no_bits}
use Rattle.parquet_page.proofs.WordLemmas.{bits_begin, bits_behind}
use Rattle.parquet_page.proofs.validity_part.ValidityWord.next_run.Goals as goal

pub returns-then-self-eq0-clause-ended : goal.returns-then-self-eq0-clause-ended
returns-then-self-eq0-clause-ended c = ap (low_bits c.args.self.now.bits) c.if-self-eq0.true ∙ no_bits c.args.self.now.bits

pub invariant_of-self : goal.invariant_of-self
invariant_of-self c =
    let self = c.args.self.now in
    let below : c.from-bits.result < 2 ^ self.rows = omega (arith, c.from-bits.ensures, self.within) in
    record {
      few = omega (arith, self.few);
      within = bits_behind c.from-bits.result self.rows c.equal_bits-rows.result below c.equal_bits-rows.ensures.within;
    }

pub returns-clause-begins : goal.returns-clause-begins
returns-clause-begins c =
    let self = c.args.self.now in
    let equal = c.equal_bits-rows.ensures in
    bits_begin self.bits self.rows c.equal_bits-rows.result c.from-bits.result c.from-bits.ensures equal.within equal.same equal.ends
