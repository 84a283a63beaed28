use Rattle.std.proofs.Common.{◌≡◌, ◌∙◌, ◌+◌, ◌-◌, ◌*◌, ◌/◌, ◌%◌, ◌^◌, length, take, drop, ap, arith}
use Rattle.std.specs.Prelude.{bit_and}
use Rattle.parquet_base.specs.Bytes.{little_endian}
use Rattle.columns_core.proofs.PackingLemmas.{pushed_bits, masked_bits}
use Rattle.columns_core.proofs.packing.push_bits.Goals as goal

pub returns-in_ok-push-clause-added : goal.returns-in_ok-push-clause-added
returns-in_ok-push-clause-added c =
    let start = c.args.out.now.items in
    let bytes = c.args.bytes.now in
    let whole = c.args.count / 8 in
    let rest = c.args.count % 8 in
    let all : 8 * whole + rest ≡ c.args.count = omega arith in
    let before = c.in_ok-push_bytes.ensures in
    ap little_endian c.in_ok-push.ensures.items
    ∙ pushed_bits start c.push_bytes.new.out.items bytes whole c.args.place rest (bit_and c.byte_at.result c.low_ones.result) (λ k. omega (arith, c.type_inv.bytes k)) before.len before.added
    (masked_bits (little_endian (take (length bytes - whole) (drop whole bytes)) / 2 ^ c.args.place) rest c.byte_at.result c.low_ones.result (omega arith) c.byte_at.ensures c.low_ones.ensures)
    ∙ ap (λ k. little_endian start + 2 ^ (8 * length start) * (little_endian bytes / 2 ^ c.args.place % 2 ^ k)) all

pub returns-else-rest-gt0-clause-added : goal.returns-else-rest-gt0-clause-added
returns-else-rest-gt0-clause-added c =
    let start = c.args.out.now.items in
    let all : 8 * (c.args.count / 8) ≡ c.args.count = omega (arith, c.if-rest-gt0.false) in
    c.in_ok-push_bytes.ensures.added ∙ ap (λ k. little_endian start + 2 ^ (8 * length start) * (little_endian c.args.bytes.now / 2 ^ c.args.place % 2 ^ k)) all
