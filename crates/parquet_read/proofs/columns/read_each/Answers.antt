use Rattle.std.proofs.Common.{◌∙◌, ◌+◌, List, Vec, Global, ℕ, Bor, drop, map, rules, ap}
use Rattle.std.proofs.lemmas.List.{drop_all, map_push}
use Rattle.std.proofs.lemmas.Result.{err_from_is_err_and}
use Rattle.parquet_meta.specs.declared.metadata.ColumnChunkMetaData.{ColumnChunkMetaData}
use Rattle.parquet_meta.proofs.EachLemmas.{each_ends, each_goes_on, each_refused}
use Rattle.parquet_meta.proofs.ListLemmas.{item_and_others}
use Rattle.parquet_read.specs.Columns.{range_length, chunk_of_column}
use Rattle.parquet_read.proofs.OutlineLemmas.{all_made, one_more}
use Rattle.parquet_read.proofs.columns.read_each.Goals as goal

-- a column that is borrowed, with the bytes of its chunk
abbrev Held : Type 0
Held = Bor ColumnChunkMetaData × Vec ℕ Global

abbrev shown : Held → ColumnChunkMetaData × List ℕ
shown chunk = (chunk.0.now, chunk.1.items)

abbrev column_of : Held → ColumnChunkMetaData
column_of chunk = chunk.0.now

abbrev now : Bor ColumnChunkMetaData → ColumnChunkMetaData
now column = column.now

pub returns-in_err-read_chunk-clause-found : goal.returns-in_err-read_chunk-clause-found
returns-in_err-read_chunk-clause-found g c =
    let others = item_and_others c.args.columns.now c.loop-column.column-index c.column-item.result c.loop-column-test.true c.column-item.is in
    let reading = rw others at c.loop-column.invariant.reading in
    let p = err_from_is_err_and c.from_residual-in_err-read_chunk.result c.from_residual-in_err-read_chunk.ensures.1 in
    rw (p.1, p.2)
    (each_refused shown (λ (chunks : Vec Held Global). map shown chunks.items)
    chunk_of_column range_length (g.S.Source.told c.args.source.now) (g.S.Source.told c.loop-column.source) (map now c.args.columns.now)
    (map now (drop (c.loop-column.column-index + 1) c.args.columns.now)) c.column-item.result.now _ _ _ _ _ _ _ reading c.loop-column.invariant.keeps.later
    c.loop-column.invariant.keeps.same c.in_err-read_chunk.ensures.found)

pub loop-column-preserved : goal.loop-column-preserved
loop-column-preserved g c =
    let others = item_and_others c.args.columns.now c.loop-column.column-index c.column-item.result c.loop-column-test.true c.column-item.is in
    let found = rw c.loop-column.invariant.keeps.same at c.in_ok-read_chunk.ensures.found in
    let each = rw others at c.loop-column.invariant.each in
    let reading = rw others at c.loop-column.invariant.reading in
    record {
      keeps = search rules;
      quiet = c.in_ok-read_chunk.ensures.quiet ∙ c.loop-column.invariant.quiet;
      reading = rw (c.in_ok-push.ensures.items, map_push)
          (each_goes_on chunk_of_column range_length (g.S.Source.told c.args.source.now) (map now c.args.columns.now)
          (map now (drop (c.loop-column.column-index + 1) c.args.columns.now)) c.column-item.result.now _ (shown c.in_ok-read_chunk.field-0) _ _ _ reading found c.in_ok-read_chunk.ensures.taken);
      each = rw (c.in_ok-push.ensures.items, map_push)
          (one_more (map column_of c.loop-column.chunks.items) (map now (drop (c.loop-column.column-index + 1) c.args.columns.now)) (map now c.args.columns.now) c.column-item.result.now
          (column_of c.in_ok-read_chunk.field-0) each c.in_ok-read_chunk.ensures.column);
    }

pub returns-clause-found : goal.returns-clause-found
returns-clause-found g c =
    let reading = rw (drop_all c.loop-column.column-index c.args.columns.now c.loop-column-test.false) at c.loop-column.invariant.reading in
    each_ends chunk_of_column range_length (g.S.Source.told c.args.source.now) (map now c.args.columns.now) _ _ _ reading

pub returns-clause-each : goal.returns-clause-each
returns-clause-each g c =
    let columns = c.args.columns.now in
    let others = drop c.loop-column.column-index columns in
    all_made (map column_of c.loop-column.chunks.items) (map now others) (map now columns) (ap (map now) (drop_all c.loop-column.column-index columns c.loop-column-test.false)) c.loop-column.invariant.each
