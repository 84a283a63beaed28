use Rattle.std.proofs.Common.{◌+◌, ◌*◌, ◌/◌, ◌%◌, ◌∙◌, min, sym, ap, arith}
use Rattle.parquet_encoding.specs.PlainLeft.{bits_left}
use Rattle.parquet_encoding.proofs.TruthLemmas.{bits_within, length-bits, bits_without, bits_taken}
use Rattle.parquet_encoding.proofs.plain_bits.PlainBits.take.Goals as goal

pub overflow_add-self : goal.overflow_add-self
overflow_add-self c = let s = c.args.self.now in let counted = s.counted in omega arith

pub returns-clause-values : goal.returns-clause-values
unfolding bits_left
returns-clause-values c =
    let s = c.args.self.now in
    bits_taken s.next s.left c.args.bytes.now c.args.n c.min.result (8 * (s.next / 8) + s.next % 8) c.min.ensures (omega arith) c.requires

pub returns-clause-lies : goal.returns-clause-lies
unfolding bits_left
returns-clause-lies c =
    let s = c.args.self.now in
    let within = bits_within s.next s.left c.args.bytes.now c.requires in
    omega arith

pub returns-clause-rest : goal.returns-clause-rest
unfolding bits_left
returns-clause-rest c = let s = c.args.self.now in bits_without s.next s.left c.args.bytes.now c.args.n c.min.result c.min.ensures c.requires

pub returns-clause-count : goal.returns-clause-count
unfolding bits_left
returns-clause-count c = let s = c.args.self.now in c.min.ensures ∙ ap (min c.args.n) (sym (length-bits s.next s.left c.args.bytes.now c.requires))
