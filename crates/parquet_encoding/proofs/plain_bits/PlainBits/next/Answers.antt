use Rattle.std.proofs.Common.{◌+◌, ◌*◌, ◌/◌, ◌%◌, ◌∙◌, sym, ap, [], drop, Some, arith}
use Rattle.std.specs.Prelude.{slice_get, unwrap_or}
use Rattle.parquet_encoding.specs.PlainLeft.{bits_left}
use Rattle.parquet_encoding.proofs.TruthLemmas.{bits_within, bits_without, no_bit, first_bit}
use Rattle.parquet_encoding.proofs.plain_bits.PlainBits.next.Goals as goal

pub returns-then-self-eq0-clause-value : goal.returns-then-self-eq0-clause-value
unfolding bits_left
returns-then-self-eq0-clause-value c =
    let s = c.args.self.now in
    sym (ap (λ o. slice_get (unwrap_or o []) 0) (no_bit s.next s.left c.args.bytes.now c.if-self-eq0.true c.requires))

pub returns-then-self-eq0-clause-rest : goal.returns-then-self-eq0-clause-rest
unfolding bits_left
returns-then-self-eq0-clause-rest c =
    let s = c.args.self.now in
    let none = no_bit s.next s.left c.args.bytes.now c.if-self-eq0.true c.requires in
    none ∙ ap Some (sym (ap (λ o. drop 1 (unwrap_or o [])) none))

pub value_at-bit-requires-clause-within : goal.value_at-bit-requires-clause-within
unfolding bits_left
value_at-bit-requires-clause-within c =
    let s = c.args.self.now in
    let within = bits_within s.next s.left c.args.bytes.now c.requires in
    omega arith

pub overflow_add-self : goal.overflow_add-self
overflow_add-self c = let s = c.args.self.now in let counted = s.counted in omega arith

pub returns-clause-value : goal.returns-clause-value
unfolding bits_left
returns-clause-value c =
    let s = c.args.self.now in
    first_bit s.next s.left c.args.bytes.now (8 * (s.next / 8) + s.next % 8) c.value_at-bit.result (omega arith) (omega arith) c.value_at-bit.ensures c.requires

pub returns-clause-rest : goal.returns-clause-rest
unfolding bits_left
returns-clause-rest c =
    let s = c.args.self.now in
    bits_without s.next s.left c.args.bytes.now 1 1 (omega arith) c.requires
