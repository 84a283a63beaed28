use Rattle.std.proofs.Common.{◌≡◌, ◌+◌, ◌<◌, ◌^◌, ◌∙◌, ◌++◌, ◌-◌, All, List, length, map, min, arith, ap, subst, sym}
use Rattle.std.specs.Prelude.{IfSome, OnOk, sum_by}
use Rattle.std.proofs.lemmas.List.{map-append}
use Rattle.std.proofs.lemmas.Result.{on_ok_weaker}
use Rattle.columns_core.specs.Chunk.{AreEqualLengths, array_rows as chunk_rows}
use Rattle.columns_core.specs.declared.array.Array.{Array}
use Rattle.parquet_base.specs.Intervals.{rows_of}
use Rattle.parquet_base.specs.Pieces.{cut}
use Rattle.parquet_base.proofs.RowLemmas.{rows_of-length}
use Rattle.parquet_scan.specs.Cells.{given_chunk}
use Rattle.parquet_scan.specs.Chunks.{side_by_side}
use Rattle.parquet_scan.specs.Counting.{shown}
use Rattle.parquet_scan.specs.Scan.{shape_of}
use Rattle.parquet_scan.proofs.GroupLemmas.{chunk_count, even_chunks, side_shapes, told_chunks}
use Rattle.parquet_scan.proofs.reading.read_group.Goals as goal

pub add_chunks-requires : goal.add_chunks-requires
add_chunks-requires g c =
    let columns = c.in_ok-columns.columns.items in
    let some : 0 < length columns = omega (arith, c.requires.some, c.in_ok-columns.ensures.count) in
    subst (λ columns. All AreEqualLengths (side_by_side (map (λ column. column.items) columns))) (sym c.deref_mut.ensures.value)
    (even_chunks (λ column. column.items) (map length (cut c.args.asked.chunk_size (rows_of c.args.rows.runs.now))) columns some c.in_ok-columns.ensures.counts)

pub returns-clause-chunks : goal.returns-clause-chunks
returns-clause-chunks g c =
    let told = g.S.Source.told c.args.source.now in
    let columns = c.in_ok-columns.columns.items in
    let some : 0 < length columns = omega (arith, c.requires.some, c.in_ok-columns.ensures.count) in
    let pieces = cut c.args.asked.chunk_size (rows_of c.args.rows.runs.now) in
    let before = c.args.read.now.chunks.items in
    let chunks = subst (λ columns. OnOk c.add_chunks.result (c.add_chunks.new.read.chunks.items ≡ before ++ side_by_side (map (λ column. column.items) columns))) c.deref_mut.ensures.value c.add_chunks.ensures.chunks in
    on_ok_weaker c.add_chunks.result
    (λ e. subst (λ (chunks : List (List Array)). IfSome told (λ bytes. shown chunks ≡ shown before ++ map (given_chunk c.args.asked.by_pages c.args.asked.fields.now bytes c.args.rows.group.now) pieces)) (sym e)
    (told_chunks told c.args.asked.by_pages c.args.asked.fields.now c.args.rows.group.now pieces (λ column. column.items) columns before some c.in_ok-columns.ensures.counts c.in_ok-columns.ensures.columns))
    chunks

pub returns-clause-shapes : goal.returns-clause-shapes
returns-clause-shapes g c =
    let columns = c.in_ok-columns.columns.items in
    let some : 0 < length columns = omega (arith, c.requires.some, c.in_ok-columns.ensures.count) in
    let before = c.args.read.now.chunks.items in
    let chunks = subst (λ columns. OnOk c.add_chunks.result (c.add_chunks.new.read.chunks.items ≡ before ++ side_by_side (map (λ column. column.items) columns))) c.deref_mut.ensures.value c.add_chunks.ensures.chunks in
    on_ok_weaker c.add_chunks.result
    (λ e. ap (map shape_of) e ∙ map-append shape_of before (side_by_side (map (λ column. column.items) columns))
    ∙ ap (λ more. map shape_of before ++ more) (side_shapes c.args.asked.fields.now c.args.asked.chunk_size (rows_of c.args.rows.runs.now) (λ column. column.items) columns some c.in_ok-columns.ensures.counts c.in_ok-columns.ensures.types))
    chunks

pub returns-clause-rows : goal.returns-clause-rows
returns-clause-rows g c =
    let columns = c.in_ok-columns.columns.items in
    let some : 0 < length columns = omega (arith, c.requires.some, c.in_ok-columns.ensures.count) in
    let runs = c.args.rows.runs.now in
    let rows = subst (λ columns. OnOk c.add_chunks.result (c.add_chunks.new.read.rows ≡ min (c.args.read.now.rows + sum_by chunk_rows (side_by_side (map (λ column. column.items) columns))) (2 ^ 64 - 1))) c.deref_mut.ensures.value c.add_chunks.ensures.rows in
    let count = chunk_count c.args.asked.chunk_size (rows_of runs) (λ column. column.items) columns c.requires.size some c.in_ok-columns.ensures.counts ∙ rows_of-length runs in
    on_ok_weaker c.add_chunks.result (λ e. e ∙ ap (λ n. min (c.args.read.now.rows + n) (2 ^ 64 - 1)) count) rows
