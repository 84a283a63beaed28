use Rattle.std.proofs.Common.{◌≡◌, ℕ, ◌+◌, ◌*◌, ◌-◌, ◌/◌, Bool, List, Option, ◌++◌, ap, ◌∙◌, arith, append_assoc, is_some, length, map}
use Rattle.std.specs.List.{slice_range}
use Rattle.std.proofs.lemmas.List.{length-map}
use Rattle.compact_write.specs.Written.{varint_bytes}
use Rattle.parquet_page.specs.Stored.{Stored}
use Rattle.parquet_plain.specs.Bodies.{bits_bytes, groups_of_bits, level_bytes}
use Rattle.parquet_plain.proofs.RowLemmas.{length-rows}
use Rattle.parquet_write.proofs.levels.write_levels.Goals as goal

pub returns : goal.returns
unfolding level_bytes
returns g c =
    let rows : List (Option Stored) = slice_range (g.I.Items.items c.args.items.now) c.args.from c.args.to in
    let levels : List Bool = map is_some rows in
    let start : List ℕ = c.args.levels.now.items in
    let long : length levels ≡ c.args.to - c.args.from = length-map rows is_some ∙ length-rows c.args.from c.args.to (g.I.Items.items c.args.items.now) c.requires.within in
    let count : 2 * ((c.args.to - c.args.from + 7) / 8) + 1 ≡ 2 * groups_of_bits (length levels) + 1 = omega (arith, long) in
    record {
      written = c.in_ok-write_level_bits.ensures.written
          ∙ ap (λ (bs : List ℕ). bs ++ bits_bytes levels) (c.in_ok-write_varint.ensures.written ∙ ap (λ (n : ℕ). start ++ varint_bytes n) count)
          ∙ append_assoc start (varint_bytes (2 * groups_of_bits (length levels) + 1)) (bits_bytes levels);
    }
