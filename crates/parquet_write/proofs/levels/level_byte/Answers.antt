use Rattle.std.proofs.Common.{◌≡◌, ℕ, ◌-◌, List, Option, arith, ap, is_some, map, ◌∙◌}
use Rattle.std.specs.List.{slice_range}
use Rattle.parquet_page.specs.Stored.{Stored}
use Rattle.parquet_plain.specs.Bodies.{bit, number_of_bits}
use Rattle.parquet_plain.proofs.RowLemmas.{rows-map}
use Rattle.parquet_write.specs.Items.{row_of}
use Rattle.parquet_write.proofs.ItemLemmas.{levels-first}
use Rattle.parquet_write.proofs.LevelLemmas.{byte_begins, byte_goes_on}
use Rattle.parquet_write.proofs.levels.level_byte.Goals as goal

pub loop-row-init : goal.loop-row-init
loop-row-init g c = record { from = c.requires.order; levels = byte_begins (map is_some (g.I.Items.items c.args.items.now)) c.args.to }

pub loop-row-preserved : goal.loop-row-preserved
loop-row-preserved g c =
    let items : List (Option Stored) = g.I.Items.items c.args.items.now in
    let now : ℕ = c.loop-row.row - 1 in
    record {
      from = omega arith;
      levels = byte_goes_on (map is_some items) c.args.to c.loop-row.byte c.loop-row.row now c.level.result (is_some (row_of items now)) (omega arith)
          (levels-first items now c.loop-row.row c.args.to (omega arith) (omega (arith, c.loop-row.invariant.levels.within)) (omega (arith, c.loop-row.invariant.levels.within)))
          (c.level.ensures ∙ ap bit c.is_there.ensures) c.loop-row.invariant.levels;
    }

pub returns : goal.returns
returns g c =
    let items : List (Option Stored) = g.I.Items.items c.args.items.now in
    let end : c.loop-row.row ≡ c.args.from = omega (arith, c.loop-row.invariant.from) in
    c.loop-row.invariant.levels.same ∙ ap (λ (n : ℕ). number_of_bits (slice_range (map is_some items) n c.args.to)) end ∙ ap number_of_bits (rows-map is_some items c.args.from c.args.to)
