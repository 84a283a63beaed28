use Rattle.std.proofs.Common.{◌≡◌, ◌+◌, ◌*◌, ◌/◌, ◌%◌, ◌^◌, ◌∷◌, [], ◌∙◌, length, take, ap, arith, length-append}
use Rattle.parquet_base.specs.Bytes.{little_endian}
use Rattle.columns_core.proofs.PackingLemmas.{pushed_bits, kept_behind}
use Rattle.columns_core.proofs.packing.push_shifted.Goals as goal

pub loop-i-preserved : goal.loop-i-preserved
loop-i-preserved c =
    let start = c.args.out.now.items in
    let out = c.loop-i.out.items in
    let i = c.loop-i.i in
    let inv = c.loop-i.invariant in
    let items = c.in_ok-push.ensures.items in
    let next : 8 * i + 8 ≡ 8 * (i + 1) = omega arith in
    let long = ap length items ∙ length-append out (c.byte_at.result ∷ []) in (
      ap (take (length start)) items ∙ kept_behind start out c.byte_at.result inv.0,
      omega (arith, long, inv.1),
      ap little_endian items ∙ pushed_bits start out c.args.bytes.now i c.args.place 8 c.byte_at.result (λ k. omega (arith, c.type_inv.bytes k)) inv.1 inv.2 c.byte_at.ensures
          ∙ ap (λ k. little_endian start + 2 ^ (8 * length start) * (little_endian c.args.bytes.now / 2 ^ c.args.place % 2 ^ k)) next,
    )
