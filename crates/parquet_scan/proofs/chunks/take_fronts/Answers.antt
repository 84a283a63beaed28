use Rattle.std.proofs.Common.{◌≡◌, ◌<◌, ◌+◌, ◌∙◌, ◌++◌, length, map, take, drop, set, ap, sym, arith, get_or}
use Rattle.std.specs.Prelude.{flat_map}
use Rattle.std.proofs.lemmas.List.{get_or-map, length-map, map-set}
use Rattle.std.proofs.lemmas.List.Edits.{map_over_more}
use Rattle.parquet_scan.proofs.TurnedLemmas.{fronts_done, fronts_more, rests_done}
use Rattle.parquet_scan.proofs.chunks.take_fronts.Goals as goal

pub loop-column-preserved : goal.loop-column-preserved
loop-column-preserved c =
    let before = map (λ column. column.items) c.args.columns.now in
    let now = map (λ column. column.items) c.loop-column.columns in
    let i = c.loop-column.column-index in
    let column = get_or c.loop-column.columns i c.column-item.result in
    let below : i < length c.loop-column.columns = omega arith in
    let within : i < length before = omega (arith, length-map c.args.columns.now (λ column. column.items)) in
    let at : column.items ≡ get_or now i column.items = sym (get_or-map (λ column. column.items) c.loop-column.columns i c.column-item.result column.items below) in
    record {
      fronts = ap (λ fronts. fronts ++ flat_map (take 1) (drop (i + 1) before)) c.in_ok-take_front.ensures.front
          ∙ fronts_more before now c.loop-column.fronts.items i column.items within c.loop-column.invariant.rests at c.loop-column.invariant.fronts;
      rests = map-set (λ column. column.items) c.loop-column.columns i c.take_front.new.column
          ∙ ap (set now i) c.in_ok-take_front.ensures.rest
          ∙ map_over_more (drop 1) before now i column.items within c.loop-column.invariant.rests at;
    }

pub returns-clause-fronts : goal.returns-clause-fronts
returns-clause-fronts c =
    let before = map (λ column. column.items) c.args.columns.now in
    fronts_done before c.loop-column.fronts.items c.loop-column.column-index (omega (arith, length-map c.args.columns.now (λ column. column.items))) c.loop-column.invariant.fronts

pub returns-clause-rests : goal.returns-clause-rests
returns-clause-rests c =
    let before = map (λ column. column.items) c.args.columns.now in
    rests_done before (map (λ column. column.items) c.loop-column.columns) c.loop-column.column-index (omega (arith, length-map c.args.columns.now (λ column. column.items))) c.loop-column.invariant.rests
