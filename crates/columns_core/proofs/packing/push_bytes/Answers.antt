use Rattle.std.proofs.Common.{◌∙◌, ap, arith}
use Rattle.parquet_base.specs.Bytes.{little_endian}
use Rattle.columns_core.proofs.PackingLemmas.{pushed_bytes}
use Rattle.columns_core.proofs.packing.push_bytes.Goals as goal

pub returns-then-place-eq0-clause-added : goal.returns-then-place-eq0-clause-added
returns-then-place-eq0-clause-added c =
    ap little_endian c.in_ok-extend_from_slice.ensures.items
    ∙ pushed_bytes c.args.out.now.items c.args.bytes.now c.args.whole c.args.place (λ k. omega (arith, c.type_inv.bytes k)) c.if-place-eq0.true
