use Rattle.std.proofs.Common.{◌≡◌, ◌∙◌, ℕ, Bor, Option, Some, ap, sym, subst, arith}
use Rattle.std.specs.Prelude.{IfOk, option_map}
use Rattle.parquet_meta.specs.declared.metadata.ColumnChunkMetaData.{ColumnChunkMetaData}
use Rattle.parquet_read.specs.Asked.{asked_column, group_reading}
use Rattle.parquet_read.specs.Opening.{opened_outline, outline_of}
use Rattle.parquet_read.specs.RowGroup.{iter_left}
use Rattle.parquet_read.proofs.OutlineLemmas.{rows_fit}
use Rattle.parquet_read.proofs.open_field.open_field.Goals as goal

pub returns-clause-outline : goal.returns-clause-outline
returns-clause-outline g c =
    let reading = group_reading c.args.group.now c.args.chunk_size c.args.limit in
    let asked = c.args.asked in
    let column = c.in-Some.column.now in
    let one : asked_column reading asked ≡ Some column =
    sym c.in_ok-column.ensures.column ∙ ap (λ (o : Option (Bor ColumnChunkMetaData)). option_map (λ (own : Bor ColumnChunkMetaData). own.now) o) c.in-Some.is in
    let fits = rows_fit reading asked column one c.requires.readable in
    let rows = c.rows_asked-rows.ensures in
    subst (λ (n : ℕ). IfOk c.open_column.result (λ arrays. outline_of (iter_left arrays) ≡ opened_outline asked.0.data_type reading.size n)) rows
    (c.open_column.ensures.outline (omega (arith, fits, rows)))
