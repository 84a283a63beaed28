use Rattle.std.proofs.Common.{◌≡◌, ◌+◌, ◌-◌, ◌*◌, ◌/◌, ◌≤◌, ◌∙◌, min, ap, length, drop, arith}
use Rattle.std.proofs.Math.Nat.{div-mul-le_self}
use Rattle.std.proofs.lemmas.Nat.{mul-le}
use Rattle.parquet_encoding.specs.Bits.{packed}
use Rattle.parquet_encoding.proofs.RunLemmas.{drop_capped}
use Rattle.parquet_encoding.proofs.run.open_packed.Goals as goal

pub returns : goal.returns
returns c =
    let bytes = c.args.bytes.now in
    let body = c.args.body in
    let width = c.args.width in
    let groups = c.args.groups in
    let room = length bytes - body in
    let size : c.min-2.result ≡ min (groups * width) room = omega (arith, c.min-2.ensures, c.saturating_mul.ensures, c.ranges.body) in
    let count : c.min.result ≡ min (min (8 * groups) (8 * room / width)) c.args.wanted = omega (arith, c.min.ensures, c.whole_values.ensures, c.ranges.wanted) in
    let few : c.min.result ≤ 8 * room / width = omega arith in
    let bits = mul-le c.min.result width (8 * room / width) width few (omega arith) in
    let start : 8 * body + 0 ≡ 8 * body = omega arith in
    record {
      lies = omega (arith, bits, div-mul-le_self (8 * room) width);
      count = count;
      values = ap (λ p. packed bytes width p c.min.result) start;
      after = ap (λ n. drop (body + n) bytes) size ∙ drop_capped body (groups * width) bytes;
      no_earlier = omega arith;
      within = omega (arith, size, c.requires.within);
    }
