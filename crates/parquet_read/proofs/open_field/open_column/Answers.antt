use Rattle.std.proofs.Common.{◌≡◌, ◌≤◌, List, Option, Some, None, [], sym, subst}
use Rattle.std.specs.Prelude.{IfOk}
use Rattle.parquet_meta.specs.Chunks.{chunk_range}
use Rattle.parquet_meta.specs.Places.{bytes_at}
use Rattle.parquet_page.specs.Lent.{selected_count}
use Rattle.parquet_page.specs.declared.page.FilteredPage.{FilteredPage}
use Rattle.flat_values.specs.ColumnLeft.{ColumnLeft}
use Rattle.parquet_read.specs.Asked.{left_in_file}
use Rattle.parquet_read.specs.Opening.{rows_there}
use Rattle.parquet_read.specs.RowGroup.{iter_left}
use Rattle.parquet_read.proofs.ColumnLemmas.{left_there, range_there}
use Rattle.parquet_read.proofs.FoundLemmas.{finds_opened, told_by, told_result}
use Rattle.parquet_read.proofs.OutlineLemmas.{chunk_outline}
use Rattle.parquet_read.proofs.open_field.open_column.Goals as goal

pub returns-then-is_null-clause-found : goal.returns-then-is_null-clause-found
returns-then-is_null-clause-found g c =
    let told = g.S.Source.told c.args.source.now in
    let data_type = c.args.field.data_type in
    let size = c.args.chunk_size in
    let rows = c.args.rows in
    let column = c.args.column.now in
    let result = c.open_nulls.result in
    let left = left_in_file data_type size rows c.args.pages column in
    finds_opened iter_left left told (g.S.Source.faults c.args.source.now) (g.S.Source.faults c.range_of.new.source) result
    (told_result iter_left left told result (told_by told (λ file there.
    subst (λ (o : Option ColumnLeft). IfOk result (λ arrays. Some (iter_left arrays) ≡ o)) (sym (left_there data_type size rows c.args.pages column file (range_there file (chunk_range column) c.in_ok-range.range there)))
    (c.open_nulls.ensures.begins (bytes_at file (chunk_range column)))) c.in_ok-range.ensures.found))
    c.open_nulls.ensures.memory

pub returns-then-is_null-clause-outline : goal.returns-then-is_null-clause-outline
returns-then-is_null-clause-outline g c = λ there.
    chunk_outline iter_left c.args.field.data_type c.args.chunk_size c.args.rows c.args.pages (c.args.column.now, []) c.open_nulls.result there (c.open_nulls.ensures.begins [])

pub returns-in_ok-bytes-in-None-clause-outline : goal.returns-in_ok-bytes-in-None-clause-outline
returns-in_ok-bytes-in-None-clause-outline g c = λ there.
    let own = subst (λ (o : Option (List FilteredPage)). c.args.rows ≤ rows_there c.args.column.now o) c.in-None.is there in
    chunk_outline iter_left c.args.field.data_type c.args.chunk_size c.args.rows None (c.args.column.now, c.in_ok-bytes-in-None.bytes.items) c.open_whole.result own c.open_whole.ensures.begins

pub returns-in-Some-clause-outline : goal.returns-in-Some-clause-outline
returns-in-Some-clause-outline g c = λ there.
    let own = subst (λ (o : Option (List FilteredPage)). c.args.rows ≤ rows_there c.args.column.now o) c.in-Some.is there in
    c.open_parts.ensures.outline (subst (λ (l : List FilteredPage). c.args.rows ≤ selected_count l) (sym c.into_vec.ensures) own)
