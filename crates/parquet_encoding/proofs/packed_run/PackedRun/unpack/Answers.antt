use Rattle.std.proofs.Common.{◌+◌, ◌*◌, ◌∙◌, sym, length, arith}
use Rattle.std.proofs.lemmas.Nat.{mul-le}
use Rattle.parquet_encoding.proofs.BitsLemmas.{take-packed}
use Rattle.parquet_encoding.proofs.packed_run.PackedRun.unpack.Goals as goal

pub unpack_at-requires-clause-within : goal.unpack_at-requires-clause-within
unpack_at-requires-clause-within c =
    let run = c.args.self.now in
    let some = mul-le (length c.args.out.now) run.width run.count run.width (omega arith) (omega arith) in
    omega arith

pub returns : goal.returns
returns c =
    let run = c.args.self.now in
    c.unpack_at.ensures ∙ sym (take-packed (length c.args.out.now) c.args.bytes.now run.width (8 * run.place + run.bit) run.count c.requires.enough)
