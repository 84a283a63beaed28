use Rattle.std.proofs.Common.{◌∙◌, ◌+◌, List, [], ◌∷◌, Vec, Global, ap, arith, drop, length, length-append, map, rules}
use Rattle.std.proofs.lemmas.List.{drop_all, map_push}
use Rattle.std.proofs.lemmas.Result.{err_from_is_err_and}
use Rattle.parquet_meta.proofs.EachLemmas.{each_ends, each_goes_on, each_refused}
use Rattle.parquet_meta.proofs.ListLemmas.{item_and_others}
use Rattle.parquet_meta.specs.declared.metadata.PageLocation.{PageLocation}
use Rattle.parquet_indexes.specs.PageMaps.{locations_of_field, offset_indexes_length}
use Rattle.parquet_indexes.proofs.locations.read_locations.Goals as goal

pub returns-in_err-locations_of_field-clause-found : goal.returns-in_err-locations_of_field-clause-found
returns-in_err-locations_of_field-clause-found g c =
    let columns = c.args.columns.now in
    let others = item_and_others c.args.fields.now c.loop-field.field-index c.field-item.result c.loop-field-test.true c.field-item.is in
    let reading = rw others at c.loop-field.invariant.reading in
    let p = err_from_is_err_and c.from_residual.result c.from_residual.ensures.1 in
    let view : Vec (Vec PageLocation Global) Global → List (List PageLocation) = λ lists. map {A = Vec PageLocation Global} {B = List PageLocation} (λ list. list.items) lists.items in
    rw (p.1, p.2)
    (each_refused view (λ (maps : Vec (Vec (Vec PageLocation Global) Global) Global). map {A = Vec (Vec PageLocation Global) Global} {B = List (List PageLocation)} view maps.items)
    (locations_of_field columns) (offset_indexes_length columns) (g.S.Source.told c.args.source.now) (g.S.Source.told c.loop-field.source) c.args.fields.now
    (drop (c.loop-field.field-index + 1) c.args.fields.now) c.field-item.result _ _ _ _ _ _ _ reading c.loop-field.invariant.keeps.later
    c.loop-field.invariant.keeps.same c.in_err-locations_of_field.ensures.found)

pub loop-field-preserved : goal.loop-field-preserved
loop-field-preserved g c =
    let columns = c.args.columns.now in
    let others = item_and_others c.args.fields.now c.loop-field.field-index c.field-item.result c.loop-field-test.true c.field-item.is in
    let reading = rw others at c.loop-field.invariant.reading in
    let found = rw c.loop-field.invariant.keeps.same at c.in_ok-locations_of_field.ensures.found in
    record {
      keeps = search rules;
      quiet = c.in_ok-locations_of_field.ensures.quiet ∙ c.loop-field.invariant.quiet;
      reading = rw (c.in_ok-push.ensures.items, map_push)
          (each_goes_on (locations_of_field columns) (offset_indexes_length columns) (g.S.Source.told c.args.source.now) c.args.fields.now
          (drop (c.loop-field.field-index + 1) c.args.fields.now) c.field-item.result _ (map (λ list. list.items) c.in_ok-locations_of_field.field-0.items) _ _ _ reading found c.in_ok-locations_of_field.ensures.taken);
      count = omega (arith, c.loop-field.invariant.count, ap length c.in_ok-push.ensures.items, length-append c.loop-field.locations.items (c.in_ok-locations_of_field.field-0 ∷ []));
    }

pub returns-clause-found : goal.returns-clause-found
returns-clause-found g c =
    let columns = c.args.columns.now in
    let reading = rw (drop_all c.loop-field.field-index c.args.fields.now c.loop-field-test.false) at c.loop-field.invariant.reading in
    each_ends (locations_of_field columns) (offset_indexes_length columns) (g.S.Source.told c.args.source.now) c.args.fields.now _ _ _ reading
