use Rattle.std.proofs.Common.{◌∙◌, ◌+◌, List, Vec, Global, drop, map, sym, rules}
use Rattle.std.proofs.lemmas.List.{drop_all, map_push}
use Rattle.std.proofs.lemmas.Result.{err_from_is_err_and}
use Rattle.parquet_meta.specs.Indexes.{field_columns, locations_of, offset_index_length}
use Rattle.parquet_meta.specs.declared.metadata.PageLocation.{PageLocation}
use Rattle.parquet_meta.proofs.EachLemmas.{each_ends, each_goes_on, each_refused}
use Rattle.parquet_meta.proofs.ListLemmas.{item_and_others}
use Rattle.parquet_meta.proofs.RawIndexLemmas.{of_the_field}
use Rattle.parquet_indexes.proofs.locations.locations_of_field.Goals as goal

pub returns-in_err-locations_of_column-clause-found : goal.returns-in_err-locations_of_column-clause-found
returns-in_err-locations_of_column-clause-found g c =
    let columns = c.args.columns.now in
    let name = c.args.field.now.name in
    let others = item_and_others columns c.loop-column.column-index c.column-item.result c.loop-column-test.true c.column-item.is in
    let named = of_the_field name _ _ c.column-item.result others (sym (rw c.as_str.ensures at c.begins_with.ensures) ∙ c.if-not-begins_with.false) in
    let reading = rw named at c.loop-column.invariant.reading in
    let p = err_from_is_err_and c.from_residual.result c.from_residual.ensures.1 in
    rw (p.1, p.2)
    (each_refused (λ (list : Vec PageLocation Global). list.items) (λ (lists : Vec (Vec PageLocation Global) Global). map {A = Vec PageLocation Global} {B = List PageLocation} (λ list. list.items) lists.items)
    locations_of offset_index_length (g.S.Source.told c.args.source.now) (g.S.Source.told c.loop-column.source) (field_columns name columns)
    (field_columns name (drop (c.loop-column.column-index + 1) columns)) c.column-item.result _ _ _ _ _ _ _ reading c.loop-column.invariant.keeps.later
    c.loop-column.invariant.keeps.same c.in_err-locations_of_column.ensures.found)

pub loop-column-preserved : goal.loop-column-preserved
loop-column-preserved g c =
    let columns = c.args.columns.now in
    let name = c.args.field.now.name in
    let others = item_and_others columns c.loop-column.column-index c.column-item.result c.loop-column-test.true c.column-item.is in
    let named = of_the_field name _ _ c.column-item.result others (sym (rw c.as_str.ensures at c.begins_with.ensures) ∙ c.if-not-begins_with.false) in
    let reading = rw named at c.loop-column.invariant.reading in
    let found = rw c.loop-column.invariant.keeps.same at c.in_ok-locations_of_column.ensures.found in
    record {
      keeps = search rules;
      quiet = c.in_ok-locations_of_column.ensures.quiet ∙ c.loop-column.invariant.quiet;
      reading = rw (c.in_ok-push.ensures.items, map_push)
          (each_goes_on locations_of offset_index_length (g.S.Source.told c.args.source.now) (field_columns name columns)
          (field_columns name (drop (c.loop-column.column-index + 1) columns)) c.column-item.result _ c.in_ok-locations_of_column.field-0.items _ _ _ reading found c.in_ok-locations_of_column.ensures.taken);
    }

pub returns-clause-found : goal.returns-clause-found
returns-clause-found g c =
    let columns = c.args.columns.now in
    let reading = rw (drop_all c.loop-column.column-index columns c.loop-column-test.false) at c.loop-column.invariant.reading in
    each_ends locations_of offset_index_length (g.S.Source.told c.args.source.now) (field_columns c.args.field.now.name columns) _ _ _ reading
