use Rattle.std.proofs.Common.{◌≡◌, ◌∙◌, ◌+◌, ◌<◌, List, ℕ, Option, Some, true, false, [], length, take, ap, sym, subst, arith}
use Rattle.std.specs.Prelude.{map, option_map, sum_by, IfErr, IfOk, IfSome, OnOk}
use Rattle.std.specs.List.{range_with_len}
use Rattle.std.proofs.lemmas.List.Elements.{All-map}
use Rattle.std.proofs.lemmas.Simd.{map-map}
use Rattle.columns_core.specs.Array.{cells}
use Rattle.columns_core.specs.declared.cell.Cell.{Cell}
use Rattle.columns_core.specs.declared.data_type.DataType.{DataType}
use Rattle.parquet_base.specs.Intervals.{is_well_shaped, rows_of}
use Rattle.parquet_base.specs.Pieces.{cut}
use Rattle.parquet_base.specs.declared.interval.Interval.{Interval}
use Rattle.parquet_base.proofs.RowLemmas.{rows_of-length}
use Rattle.parquet_base.proofs.ShapeLemmas.{shape-count}
use Rattle.parquet_meta.specs.Chunks.{chunk_causes}
use Rattle.parquet_meta.specs.Places.{bytes_at}
use Rattle.parquet_meta.specs.declared.metadata.ColumnChunkMetaData.{ColumnChunkMetaData}
use Rattle.parquet_meta.specs.declared.metadata.RowGroupMetaData.{RowGroupMetaData}
use Rattle.page_decoding.specs.Bytes.{IsCausedByChunks, cell_bytes, fits_most}
use Rattle.page_decoding.specs.Column.{DataPagesAre}
use Rattle.page_decoding.specs.Outcome.{Outcome, Given}
use Rattle.page_decoding.specs.Queue.{IsChunkSize}
use Rattle.flat_values.specs.Conversion.{Value}
use Rattle.flat_values.specs.MostBytes.{most_bytes}
use Rattle.flat_values.proofs.ReaderLemmas.{chunk_pages_are}
use Rattle.parquet_page.specs.Content.{DataContent}
use Rattle.parquet_page.specs.Lent.{Lent, chunk_lent}
use Rattle.parquet_scan.specs.Causes.{causes_of_chunk, pair_causes}
use Rattle.parquet_scan.specs.Cells.{chunk_of, walked_item}
use Rattle.parquet_scan.specs.Costs.{lent_of_chunk}
use Rattle.parquet_scan.specs.Counting.{AreFirst}
use Rattle.parquet_scan.specs.Decoded.{column_rows, pages_for}
use Rattle.parquet_scan.proofs.CellLemmas.{IsWanted, cells_counted, chunk_wrongs, tells_of_chunk, told_items, told_lent, told_none, told_wrongs}
use Rattle.parquet_scan.proofs.CostLemmas.{just_told}
use Rattle.parquet_scan.proofs.OpenedLemmas.{runs_some}
use Rattle.parquet_scan.proofs.PageLemmas.{both_if, both_ok, if_err, if_ok, ok_always, ok_if}
use Rattle.parquet_scan.proofs.ScanLemmas.{fails_telling}
use Rattle.parquet_scan.proofs.group_column.read_first.Goals as goal

-- the rows are the first of the chunk that was read
wanted : (told : Option (List ℕ)) (size : Option ℕ) (group : RowGroupMetaData) (data_type : DataType) (column : ColumnChunkMetaData) (chunk : List ℕ) (runs : List Interval) → is_well_shaped runs group.num_rows ≡ true → 0 < length runs → AreFirst false runs
    → IsChunkSize size → pair_causes column.descriptor.primitive_type data_type ≡ [] → chunk_causes column ≡ [] → column.num_values ≡ group.num_rows → IfSome told (λ bytes. option_map (bytes_at bytes) (chunk_of bytes group column) ≡ Some chunk)
    → IsWanted told size group data_type column chunk (rows_of runs)
wanted told size group data_type column chunk runs shaped some first size_some pair readable counted found = record {
  size_some = size_some;
  pair = pair;
  readable = readable;
  counted = counted;
  found = found;
  first = first ∙ ap (range_with_len 0) (sym (rows_of-length runs));
  some = runs_some runs group.num_rows shaped some;
  within = omega (arith, rows_of-length runs, shape-count 0 runs group.num_rows shaped);
}

pub decode_column-requires-clause-typed : goal.decode_column-requires-clause-typed
decode_column-requires-clause-typed g c =
    let column = c.args.typed.column.now in
    let stored = column.descriptor.primitive_type in
    let chunk = c.in_ok-bytes.bytes.items in
    let P : DataContent → Type 0 = λ page. page.type ≡ stored in
    subst (λ (lent : Lent). DataPagesAre P lent.pages) (sym {b = chunk_lent stored column.num_values chunk} c.in_ok-reader.ensures.lends) (chunk_pages_are P stored (λ page e. e) column.num_values chunk)

pub returns-clause-reads : goal.returns-clause-reads
returns-clause-reads g c =
    let told = g.S.Source.told c.args.source.now in
    let group = c.args.rows.group.now in
    let column = c.args.typed.column.now in
    let data_type = c.args.typed.data_type.now in
    let size = c.args.chunk_size in
    let runs = c.args.rows.runs.now in
    let chunk = c.in_ok-bytes.bytes.items in
    let is = wanted told size group data_type column chunk runs c.requires.shaped c.requires.some c.requires.first c.requires.size c.requires.pair c.in_ok-bytes.ensures.readable c.in_ok-bytes.ensures.counted c.in_ok-bytes.ensures.chunk in
    let outcomes : Lent → List Outcome = λ lent. column_rows column.descriptor.primitive_type data_type lent.pages lent.causes in
    let caused = subst (λ n. IfErr c.decode_column.result (IsCausedByChunks (most_bytes data_type) size (take n (outcomes (chunk_lent column.descriptor.primitive_type column.num_values chunk))))) c.count_of_rows-count.ensures
    (subst (λ (lent : Lent). IfErr c.decode_column.result (IsCausedByChunks (most_bytes data_type) size (take c.count_of_rows-count.result (outcomes lent)))) c.in_ok-reader.ensures.lends c.decode_column.ensures.cause) in
    let chunks = subst (λ n. IfOk c.decode_column.result (λ found. map (λ array. map Given (cells array)) found.0.items ≡ cut size (take n (outcomes (chunk_lent column.descriptor.primitive_type column.num_values chunk))))) c.count_of_rows-count.ensures
    (subst (λ (lent : Lent). IfOk c.decode_column.result (λ found. map (λ array. map Given (cells array)) found.0.items ≡ cut size (take c.count_of_rows-count.result (outcomes lent)))) c.in_ok-reader.ensures.lends c.decode_column.ensures.chunks) in
    let P : List Cell → Type 0 = λ cells. fits_most (most_bytes data_type) (sum_by cell_bytes cells) ≡ true in
    record {
      keeps = c.in_ok-bytes.ensures.keeps;
      quiet = ok_always c.decode_column.result c.in_ok-bytes.ensures.quiet;
      ok = ok_if c.decode_column.result (λ found none. none)
          (both_if {R = λ found. IfSome told (λ bytes. causes_of_chunk false size bytes group (rows_of runs) data_type column ≡ [])} c.decode_column.result
          (λ found e fit. told_none told size group data_type column chunk (rows_of runs) is (map cells found.0.items) (map-map (map Given) cells found.0.items ∙ e) (All-map P cells found.0.items fit)) chunks c.decode_column.ensures.fits);
      fails = if_err c.decode_column.result
          (λ e one. fails_telling told (g.S.Source.faults c.args.source.now) (g.S.Source.faults c.read_chunk.new.source) (chunk_wrongs size data_type column chunk (rows_of runs)) (λ bytes. causes_of_chunk false size bytes group (rows_of runs) data_type column) e
          (told_wrongs told size group data_type column chunk (rows_of runs) is) (tells_of_chunk told size group data_type column chunk (rows_of runs) is e one)) caused;
    }

pub returns-clause-counts : goal.returns-clause-counts
returns-clause-counts g c =
    let told = g.S.Source.told c.args.source.now in
    let group = c.args.rows.group.now in
    let column = c.args.typed.column.now in
    let data_type = c.args.typed.data_type.now in
    let size = c.args.chunk_size in
    let runs = c.args.rows.runs.now in
    let chunk = c.in_ok-bytes.bytes.items in
    let is = wanted told size group data_type column chunk runs c.requires.shaped c.requires.some c.requires.first c.requires.size c.requires.pair c.in_ok-bytes.ensures.readable c.in_ok-bytes.ensures.counted c.in_ok-bytes.ensures.chunk in
    let outcomes : Lent → List Outcome = λ lent. column_rows column.descriptor.primitive_type data_type lent.pages lent.causes in
    let chunks = subst (λ n. IfOk c.decode_column.result (λ found. map (λ array. map Given (cells array)) found.0.items ≡ cut size (take n (outcomes (chunk_lent column.descriptor.primitive_type column.num_values chunk))))) c.count_of_rows-count.ensures
    (subst (λ (lent : Lent). IfOk c.decode_column.result (λ found. map (λ array. map Given (cells array)) found.0.items ≡ cut size (take c.count_of_rows-count.result (outcomes lent)))) c.in_ok-reader.ensures.lends c.decode_column.ensures.chunks) in
    if_ok c.decode_column.result
    (λ found e. sym (map-map length cells found.0.items) ∙ cells_counted told size group data_type column chunk (rows_of runs) is (map cells found.0.items) (map-map (map Given) cells found.0.items ∙ e)) chunks

pub returns-clause-cells : goal.returns-clause-cells
returns-clause-cells g c =
    let told = g.S.Source.told c.args.source.now in
    let group = c.args.rows.group.now in
    let column = c.args.typed.column.now in
    let data_type = c.args.typed.data_type.now in
    let size = c.args.chunk_size in
    let runs = c.args.rows.runs.now in
    let chunk = c.in_ok-bytes.bytes.items in
    let is = wanted told size group data_type column chunk runs c.requires.shaped c.requires.some c.requires.first c.requires.size c.requires.pair c.in_ok-bytes.ensures.readable c.in_ok-bytes.ensures.counted c.in_ok-bytes.ensures.chunk in
    let outcomes : Lent → List Outcome = λ lent. column_rows column.descriptor.primitive_type data_type lent.pages lent.causes in
    let chunks = subst (λ n. IfOk c.decode_column.result (λ found. map (λ array. map Given (cells array)) found.0.items ≡ cut size (take n (outcomes (chunk_lent column.descriptor.primitive_type column.num_values chunk))))) c.count_of_rows-count.ensures
    (subst (λ (lent : Lent). IfOk c.decode_column.result (λ found. map (λ array. map Given (cells array)) found.0.items ≡ cut size (take c.count_of_rows-count.result (outcomes lent)))) c.in_ok-reader.ensures.lends c.decode_column.ensures.chunks) in
    if_ok c.decode_column.result
    (λ found e. subst (λ shown. IfSome told (λ bytes. shown ≡ map (map (walked_item bytes group data_type column)) (cut size (rows_of runs)))) (map-map (map (λ cell. Some (Value cell))) cells found.0.items)
    (told_items told size group data_type column chunk (rows_of runs) is (map cells found.0.items) (map-map (map Given) cells found.0.items ∙ e))) chunks

pub returns-clause-lent : goal.returns-clause-lent
returns-clause-lent g c =
    let told = g.S.Source.told c.args.source.now in
    let group = c.args.rows.group.now in
    let column = c.args.typed.column.now in
    let data_type = c.args.typed.data_type.now in
    let size = c.args.chunk_size in
    let runs = c.args.rows.runs.now in
    let chunk = c.in_ok-bytes.bytes.items in
    let is = wanted told size group data_type column chunk runs c.requires.shaped c.requires.some c.requires.first c.requires.size c.requires.pair c.in_ok-bytes.ensures.readable c.in_ok-bytes.ensures.counted c.in_ok-bytes.ensures.chunk in
    let outcomes : Lent → List Outcome = λ lent. column_rows column.descriptor.primitive_type data_type lent.pages lent.causes in
    let chunks = subst (λ n. IfOk c.decode_column.result (λ found. map (λ array. map Given (cells array)) found.0.items ≡ cut size (take n (outcomes (chunk_lent column.descriptor.primitive_type column.num_values chunk))))) c.count_of_rows-count.ensures
    (subst (λ (lent : Lent). IfOk c.decode_column.result (λ found. map (λ array. map Given (cells array)) found.0.items ≡ cut size (take c.count_of_rows-count.result (outcomes lent)))) c.in_ok-reader.ensures.lends c.decode_column.ensures.chunks) in
    let stored = column.descriptor.primitive_type in
    let lent = subst (λ n. OnOk c.decode_column.result (c.decode_column.new.steps ≡ c.args.steps.now + length (pages_for stored data_type n (chunk_lent stored column.num_values chunk).pages))) c.count_of_rows-count.ensures
    (subst (λ (lent : Lent). OnOk c.decode_column.result (c.decode_column.new.steps ≡ c.args.steps.now + length (pages_for stored data_type c.count_of_rows-count.result lent.pages))) c.in_ok-reader.ensures.lends c.decode_column.ensures.lent) in
    both_ok c.decode_column.result
    (λ found e steps. just_told told c.args.steps.now c.decode_column.new.steps (length (pages_for stored data_type (length (rows_of runs)) (chunk_lent stored column.num_values chunk).pages)) (λ bytes. lent_of_chunk false bytes group (rows_of runs) column)
    (told_lent told size group data_type column chunk (rows_of runs) is (map cells found.0.items) (map-map (map Given) cells found.0.items ∙ e)) steps) chunks lent
