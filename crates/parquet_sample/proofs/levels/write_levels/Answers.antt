use Rattle.std.proofs.Common.{◌≡◌, ℕ, ◌+◌, ◌*◌, Bool, List, ◌++◌, ap, ◌∙◌, arith, append_assoc, length}
use Rattle.compact_write.specs.Written.{varint_bytes}
use Rattle.parquet_plain.specs.Bodies.{bits_bytes, groups_of_bits, level_bytes}
use Rattle.parquet_sample.specs.Rows.{are_present}
use Rattle.parquet_sample.proofs.LevelLemmas.{length_present}
use Rattle.parquet_sample.proofs.levels.write_levels.Goals as goal

pub returns : goal.returns
unfolding level_bytes
returns c =
    let levels : List Bool = are_present c.args.first c.args.rows in
    let start : List ℕ = c.args.levels.now.items in
    let count : 2 * c.from.result + 1 ≡ 2 * groups_of_bits (length levels) + 1 = omega (arith, c.from.ensures, length_present c.args.first c.args.rows) in
    record {
      written = c.in_ok-write_level_bits.ensures.written
          ∙ ap (λ (bs : List ℕ). bs ++ bits_bytes levels) (c.in_ok-write_varint.ensures.written ∙ ap (λ (n : ℕ). start ++ varint_bytes n) count)
          ∙ append_assoc start (varint_bytes (2 * groups_of_bits (length levels) + 1)) (bits_bytes levels);
    }
