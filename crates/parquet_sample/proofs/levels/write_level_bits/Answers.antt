use Rattle.std.proofs.Common.{arith, ℕ, ◌≡◌, ◌+◌, ◌-◌, Bool, List, sym, ap, ◌∙◌, min}
use Rattle.parquet_plain.specs.Bodies.{number_of_bits}
use Rattle.parquet_sample.specs.Rows.{are_present}
use Rattle.parquet_sample.proofs.LevelLemmas.{length_present, present_slice}
use Rattle.parquet_sample.proofs.levels.write_level_bits.Goals as goal
use Rattle.parquet_write.proofs.LevelLemmas.{lesser-is, packing_begins, packing_ends, packing_goes_on}

pub loop-row-init : goal.loop-row-init
loop-row-init c = packing_begins (are_present c.args.first c.args.rows) c.args.levels.now.items

pub loop-row-preserved : goal.loop-row-preserved
loop-row-preserved c =
    let levels : List Bool = are_present c.args.first c.args.rows in
    let row : ℕ = c.loop-row.row in
    let count : ℕ = c.min-count.result in
    let least : count ≡ min 8 (c.args.rows - row) = c.min-count.ensures ∙ lesser-is 8 (c.args.rows - row) in
    let many = length_present c.args.first c.args.rows in
    packing_goes_on levels c.args.levels.now.items c.loop-row.levels.items row (row + count) c.level_byte.result _ (omega (arith, many)) (omega (arith, many, least))
    (c.level_byte.ensures ∙ ap (λ (k : ℕ). number_of_bits (are_present (c.args.first + k) count)) c.from.ensures ∙ ap number_of_bits (sym (present_slice c.args.first c.args.rows row count (omega (arith, least)))))
    c.in_ok-push.ensures.items c.loop-row.invariant

pub returns : goal.returns
returns c = record {
  written = packing_ends (are_present c.args.first c.args.rows) c.args.levels.now.items c.loop-row.levels.items c.loop-row.row (omega (arith, length_present c.args.first c.args.rows)) c.loop-row.invariant;
}
