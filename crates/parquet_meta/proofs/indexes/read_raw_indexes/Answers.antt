use Rattle.std.proofs.Common.{◌∙◌, ◌+◌, List, Vec, Global, ap, arith, drop, length, sym, rules}
use Rattle.std.proofs.lemmas.List.{drop_all, length_push}
use Rattle.std.proofs.lemmas.Result.{err_from_is_err_and}
use Rattle.parquet_meta.specs.Indexes.{field_columns}
use Rattle.parquet_meta.specs.declared.metadata.ColumnChunkMetaData.{ColumnChunkMetaData}
use Rattle.parquet_meta.specs.declared.metadata.Index.{Index}
use Rattle.parquet_meta.proofs.ListLemmas.{item_and_others}
use Rattle.parquet_meta.proofs.RawIndexLemmas.{indexes_go_on, indexes_end, indexes_refused, of_the_field}
use Rattle.parquet_meta.proofs.indexes.read_raw_indexes.Goals as goal

pub returns-in_err-read_raw_index-clause-found : goal.returns-in_err-read_raw_index-clause-found
returns-in_err-read_raw_index-clause-found g c =
    let others = item_and_others c.args.columns.now c.loop-column.column-index c.column-item.result c.loop-column-test.true c.column-item.is in
    let named = of_the_field c.args.field_name.now _ _ c.column-item.result others (sym c.begins_with.ensures ∙ c.if-not-begins_with.false) in
    let reading = rw named at c.loop-column.invariant.reading in
    let p = err_from_is_err_and c.from_residual.result c.from_residual.ensures.1 in
    rw (p.1, p.2)
    (indexes_refused (λ (indexes : Vec Index Global). indexes.items) (g.S.Source.told c.args.source.now) (g.S.Source.told c.loop-column.source) (field_columns c.args.field_name.now c.args.columns.now)
    (field_columns c.args.field_name.now (drop (c.loop-column.column-index + 1) c.args.columns.now)) c.column-item.result _ _ _ _ _ _ _ reading c.loop-column.invariant.keeps.later c.loop-column.invariant.keeps.same c.in_err-read_raw_index.ensures.found)

pub loop-column-preserved : goal.loop-column-preserved
loop-column-preserved g c =
    let others = item_and_others c.args.columns.now c.loop-column.column-index c.column-item.result c.loop-column-test.true c.column-item.is in
    let named = of_the_field c.args.field_name.now _ _ c.column-item.result others (sym c.begins_with.ensures ∙ c.if-not-begins_with.false) in
    let reading = rw named at c.loop-column.invariant.reading in
    let found = rw c.loop-column.invariant.keeps.same at c.in_ok-read_raw_index.ensures.found in
    record {
      keeps = search rules;
      each = omega (arith, c.loop-column.invariant.each, ap length named, ap length c.in_ok-push.ensures.items, length_push c.loop-column.indexes.items c.in_ok-read_raw_index.field-0);
      quiet = c.in_ok-read_raw_index.ensures.quiet ∙ c.loop-column.invariant.quiet;
      reading = rw c.in_ok-push.ensures.items
          (indexes_go_on (g.S.Source.told c.args.source.now) (field_columns c.args.field_name.now c.args.columns.now) (field_columns c.args.field_name.now (drop (c.loop-column.column-index + 1) c.args.columns.now)) c.column-item.result _
          c.in_ok-read_raw_index.field-0 _ _ _ reading found.0 found.1 found.2 c.in_ok-read_raw_index.ensures.taken);
    }

pub returns-clause-found : goal.returns-clause-found
returns-clause-found g c =
    let reading = rw (drop_all c.loop-column.column-index c.args.columns.now c.loop-column-test.false) at c.loop-column.invariant.reading in
    indexes_end (g.S.Source.told c.args.source.now) (field_columns c.args.field_name.now c.args.columns.now) _ _ _ reading

pub returns-clause-each : goal.returns-clause-each
returns-clause-each g c =
    let left = ap (λ (columns : List ColumnChunkMetaData). length (field_columns c.args.field_name.now columns)) (drop_all c.loop-column.column-index c.args.columns.now c.loop-column-test.false) in
    omega (arith, c.loop-column.invariant.each, left)
