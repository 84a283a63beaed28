use Rattle.std.proofs.Common.{◌∙◌, ◌+◌, List, Vec, Global, ap, arith, drop, length, map, rules}
use Rattle.std.proofs.lemmas.List.{drop_all, length_push, map_push}
use Rattle.std.proofs.lemmas.Result.{err_from_is_err_and}
use Rattle.parquet_meta.specs.Indexes.{locations_of, offset_index_length}
use Rattle.parquet_meta.specs.declared.metadata.PageLocation.{PageLocation}
use Rattle.parquet_meta.proofs.EachLemmas.{each_goes_on, each_ends, each_refused}
use Rattle.parquet_meta.proofs.ListLemmas.{item_and_others}
use Rattle.parquet_meta.proofs.indexes.read_pages_locations.Goals as goal

pub returns-in_err-read_locations-clause-found : goal.returns-in_err-read_locations-clause-found
returns-in_err-read_locations-clause-found g c =
    let others = item_and_others c.args.columns.now c.loop-column.column-index c.column-item.result c.loop-column-test.true c.column-item.is in
    let reading = rw others at c.loop-column.invariant.reading in
    let p = err_from_is_err_and c.from_residual.result c.from_residual.ensures.1 in
    rw (p.1, p.2) (each_refused (λ (list : Vec PageLocation Global). list.items) (λ (lists : Vec (Vec PageLocation Global) Global). map {A = Vec PageLocation Global} {B = List PageLocation} (λ list. list.items) lists.items) locations_of offset_index_length (g.S.Source.told c.args.source.now) (g.S.Source.told c.loop-column.source) c.args.columns.now (drop (c.loop-column.column-index + 1) c.args.columns.now) c.column-item.result _ _ _ _ _ _ _ reading c.loop-column.invariant.keeps.later
    c.loop-column.invariant.keeps.same c.in_err-read_locations.ensures.found)

pub loop-column-preserved : goal.loop-column-preserved
loop-column-preserved g c =
    let others = item_and_others c.args.columns.now c.loop-column.column-index c.column-item.result c.loop-column-test.true c.column-item.is in
    let reading = rw others at c.loop-column.invariant.reading in
    let found = rw c.loop-column.invariant.keeps.same at c.in_ok-read_locations.ensures.found in
    record {
      keeps = search rules;
      each = omega (arith, c.loop-column.invariant.each, ap length others, ap length c.in_ok-push.ensures.items, length_push c.loop-column.lists.items c.in_ok-read_locations.field-0);
      quiet = c.in_ok-read_locations.ensures.quiet ∙ c.loop-column.invariant.quiet;
      reading = rw (c.in_ok-push.ensures.items, map_push)
          (each_goes_on locations_of offset_index_length (g.S.Source.told c.args.source.now) c.args.columns.now (drop (c.loop-column.column-index + 1) c.args.columns.now) c.column-item.result _ c.in_ok-read_locations.field-0.items _ _ _ reading found c.in_ok-read_locations.ensures.taken);
    }

pub returns-clause-found : goal.returns-clause-found
returns-clause-found g c =
    let reading = rw (drop_all c.loop-column.column-index c.args.columns.now c.loop-column-test.false) at c.loop-column.invariant.reading in
    each_ends locations_of offset_index_length (g.S.Source.told c.args.source.now) c.args.columns.now _ _ _ reading

pub returns-clause-each : goal.returns-clause-each
returns-clause-each g c = omega (arith, c.loop-column.invariant.each, ap length (drop_all c.loop-column.column-index c.args.columns.now c.loop-column-test.false))
