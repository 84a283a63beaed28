use Rattle.std.proofs.Common.{◌≡◌, ◌+◌, ◌-◌, ◌*◌, ◌/◌, ◌≤◌, ap, sym, length, arith}
use Rattle.std.proofs.lemmas.List.{drop-drop}
use Rattle.parquet_encoding.specs.Bits.{packed}
use Rattle.parquet_encoding.proofs.RunLemmas.{all_lie}
use Rattle.parquet_encoding.proofs.run.whole_packed.Goals as goal

pub returns-clause-opens : goal.returns-clause-opens
returns-clause-opens c wanted enough =
    let bytes = c.args.bytes.now in
    let body = c.args.body in
    let width = c.args.width in
    let groups = c.args.groups in
    let room = length bytes - body in
    let fits : groups * width ≤ room = omega arith in
    let lie : 8 * groups ≤ 8 * room / width = all_lie groups room width c.requires.some_bits fits in
    let start : 8 * body + 0 ≡ 8 * body = omega arith in
    record {
      lies = omega arith;
      count = omega arith;
      values = ap (λ p. packed bytes width p (8 * groups)) start;
      after = sym (drop-drop (groups * width) body bytes);
      no_earlier = omega arith;
      within = omega arith;
    }
