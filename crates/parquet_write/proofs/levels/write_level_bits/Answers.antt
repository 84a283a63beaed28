use Rattle.std.proofs.Common.{◌≡◌, ℕ, ◌+◌, ◌-◌, ◌≤◌, Bool, List, Option, min, arith, ap, is_some, length, map, subst, sym, ◌∙◌}
use Rattle.std.specs.List.{slice_range}
use Rattle.std.proofs.lemmas.List.{length-map}
use Rattle.parquet_page.specs.Stored.{Stored}
use Rattle.parquet_plain.specs.Bodies.{number_of_bits}
use Rattle.parquet_plain.proofs.RowLemmas.{length-rows, rows-map, rows-within}
use Rattle.parquet_write.proofs.LevelLemmas.{IsPacking, lesser-is, packing_begins, packing_ends, packing_goes_on}
use Rattle.parquet_write.proofs.levels.write_level_bits.Goals as goal

pub loop-row-init : goal.loop-row-init
loop-row-init g c =
    let levels : List Bool = map is_some (slice_range (g.I.Items.items c.args.items.now) c.args.from c.args.to) in
    let none : 0 ≡ c.args.from - c.args.from = omega arith in
    record { from = omega arith; within = c.requires.order; packing = subst (IsPacking levels c.args.levels.now.items c.args.levels.now.items) none (packing_begins levels c.args.levels.now.items) }

pub loop-row-preserved : goal.loop-row-preserved
loop-row-preserved g c =
    let items : List (Option Stored) = g.I.Items.items c.args.items.now in
    let rows : List (Option Stored) = slice_range items c.args.from c.args.to in
    let from : ℕ = c.args.from in
    let row : ℕ = c.loop-row.row in
    let end : ℕ = c.loop-row.row + c.min.result in
    let least : c.min.result ≡ min 8 (c.args.to - row) = c.min.ensures ∙ lesser-is 8 (c.args.to - row) in
    let below : from ≤ row = c.loop-row.invariant.from in
    let long : length (map is_some rows) ≡ c.args.to - from = length-map rows is_some ∙ length-rows from c.args.to items c.requires.within in
    let own : c.level_byte.result ≡ number_of_bits (slice_range (map is_some rows) (row - from) (end - from)) =
    c.level_byte.ensures ∙ ap (λ (part : List (Option Stored)). number_of_bits (map is_some part)) (sym (rows-within items from c.args.to row end below (omega arith) (omega (arith, least))))
    ∙ ap number_of_bits (sym (rows-map is_some rows (row - from) (end - from))) in
    record {
      from = omega arith;
      within = omega (arith, least);
      packing = packing_goes_on (map is_some rows) c.args.levels.now.items c.loop-row.levels.items (row - from) (end - from) c.level_byte.result c.push.new.self.items (omega (arith, long)) (omega (arith, long, least)) own
          c.in_ok-push.ensures.items c.loop-row.invariant.packing;
    }

pub returns : goal.returns
returns g c =
    let items : List (Option Stored) = g.I.Items.items c.args.items.now in
    let rows : List (Option Stored) = slice_range items c.args.from c.args.to in
    let long : length (map is_some rows) ≡ c.args.to - c.args.from = length-map rows is_some ∙ length-rows c.args.from c.args.to items c.requires.within in
    record {
      written = packing_ends (map is_some rows) c.args.levels.now.items c.loop-row.levels.items (c.loop-row.row - c.args.from) (omega (arith, long)) c.loop-row.invariant.packing;
    }
