use Rattle.std.proofs.Common.{◌≡◌, ◌∙◌, Bool, true, false, length, map, replicate, sym, subst}
use Rattle.std.specs.Prelude.{IfOk, IfSome, OnOk, Some, if◌then◌else◌}
use Rattle.std.proofs.lemmas.Result.{err_from_is_err_and, on_ok_weaker}
use Rattle.std.proofs.lemmas.Simd.{map-map}
use Rattle.columns_core.specs.Array.{cells}
use Rattle.columns_core.specs.declared.cell.Cell.{Null}
use Rattle.columns_core.specs.declared.data_type.DataType as type
use Rattle.flat_values.specs.Conversion.{Value}
use Rattle.parquet_base.specs.Intervals.{rows_of}
use Rattle.parquet_base.specs.Pieces.{cut}
use Rattle.parquet_meta.specs.Reads.{ReadsFile}
use Rattle.parquet_scan.specs.Causes.{causes_of_chunk, causes_of_read, chunk_read_causes, pair_causes}
use Rattle.parquet_scan.specs.Cells.{column_cell, is_null_type}
use Rattle.parquet_scan.specs.Costs.{lent_of_chunk, lent_of_read, taken_of_chunk, taken_of_read}
use Rattle.parquet_scan.specs.Scan.{RisesBy, RisesJustBy}
use Rattle.parquet_scan.proofs.CallLemmas.{keeps_itself, reads_as, refused}
use Rattle.parquet_scan.proofs.ColumnLemmas.{cells_read, item_by, null_type, nulls_counted, nulls_read, nulls_typed}
use Rattle.parquet_scan.proofs.CostLemmas.{lent_as_read, rises_as, taken_as_read}
use Rattle.parquet_scan.proofs.ExactCounts.{just_as}
use Rattle.parquet_scan.proofs.PageLemmas.{if_ok}
use Rattle.parquet_scan.proofs.ScanLemmas.{fails_within, in_step, of_read}
use Rattle.parquet_scan.proofs.group_column.read_column.Goals as goal

pub returns-in_err-check_pair-clause-reads : goal.returns-in_err-check_pair-clause-reads
returns-in_err-check_pair-clause-reads g c =
    let p = err_from_is_err_and c.from_residual.result c.from_residual.ensures.1 in
    let told = g.S.Source.told c.args.source.now in
    let by_pages = c.args.asked.by_pages in
    let size = c.args.asked.chunk_size in
    let group = c.args.rows.group.now in
    let rows = rows_of c.args.rows.runs.now in
    let column = c.args.typed.column.now in
    let data_type = c.args.typed.data_type.now in
    let start = g.S.Source.faults c.args.source.now in
    let pair = pair_causes column.descriptor.primitive_type data_type in
    rw (p.1, p.2) (refused keeps_itself (fails_within told start start pair (λ bytes. causes_of_read by_pages size bytes group rows data_type column) c.in_err-check_pair.field-0.0
    (in_step told pair (λ bytes. if is_null_type data_type then chunk_read_causes bytes group column else causes_of_chunk by_pages size bytes group rows data_type column))
    c.in_err-check_pair.ensures.cause))

pub returns-then-is_null_type-clause-counts : goal.returns-then-is_null_type-clause-counts
returns-then-is_null_type-clause-counts g c = if_ok c.read_nulls.result (λ found e. nulls_counted c.args.asked.chunk_size (rows_of c.args.rows.runs.now) found.0.items c.requires.size e) c.read_nulls.ensures.nulls

pub returns-then-is_null_type-clause-cells : goal.returns-then-is_null_type-clause-cells
returns-then-is_null_type-clause-cells g c =
    if_ok c.read_nulls.result (λ found e. nulls_read (g.S.Source.told c.args.source.now) c.args.asked.by_pages c.args.asked.chunk_size c.args.rows.group.now c.args.rows.runs.now c.args.typed.data_type.now c.args.typed.column.now found.0.items c.requires.shaped
    (sym c.is_null_type.ensures ∙ c.if-is_null_type.true) e) c.read_nulls.ensures.nulls

pub read_located-requires-clause-located : goal.read_located-requires-clause-located
read_located-requires-clause-located g c = c.requires.located c.if-asked.true

pub returns-then-asked-clause-reads : goal.returns-then-asked-clause-reads
returns-then-asked-clause-reads g c =
    let told = g.S.Source.told c.args.source.now in
    let size = c.args.asked.chunk_size in
    let group = c.args.rows.group.now in
    let column = c.args.typed.column.now in
    let data_type = c.args.typed.data_type.now in
    let rows = rows_of c.args.rows.runs.now in
    let value = sym c.is_null_type.ensures ∙ c.if-is_null_type.false in
    subst (λ (b : Bool). ReadsFile g.S.Source c.args.source.now c.read_located.new.source (λ bytes. causes_of_read b size bytes group rows data_type column) c.read_located.result) (sym c.if-asked.true)
    (reads_as c.read_located.result (of_read told true size group rows data_type column false c.in_ok-check_pair.ensures.ok value) c.read_located.ensures.reads)

pub returns-then-asked-clause-cells : goal.returns-then-asked-clause-cells
returns-then-asked-clause-cells g c =
    let told = g.S.Source.told c.args.source.now in
    let size = c.args.asked.chunk_size in
    let group = c.args.rows.group.now in
    let column = c.args.typed.column.now in
    let data_type = c.args.typed.data_type.now in
    let rows = rows_of c.args.rows.runs.now in
    let value = sym c.is_null_type.ensures ∙ c.if-is_null_type.false in
    subst (λ (b : Bool). IfOk c.read_located.result (λ found. IfSome told (λ bytes. map (λ array. map Some (cells array)) found.0.items ≡ map (map (column_cell b bytes group data_type column)) (cut size rows)))) (sym c.if-asked.true)
    (if_ok c.read_located.result (λ found e. subst (λ shown. IfSome told (λ bytes. shown ≡ map (map (column_cell true bytes group data_type column)) (cut size rows))) (map-map (map Some) cells found.0.items)
    (cells_read told true group data_type column (cut size rows) (map cells found.0.items) value
    (subst (λ shown. IfSome told (λ bytes. shown ≡ map (map (item_by true bytes group data_type column)) (cut size rows))) (sym (map-map (map (λ cell. Some (Value cell))) cells found.0.items)) e))) c.read_located.ensures.cells)

pub returns-then-asked-clause-lent : goal.returns-then-asked-clause-lent
returns-then-asked-clause-lent g c =
    let told = g.S.Source.told c.args.source.now in
    let size = c.args.asked.chunk_size in
    let group = c.args.rows.group.now in
    let column = c.args.typed.column.now in
    let data_type = c.args.typed.data_type.now in
    let rows = rows_of c.args.rows.runs.now in
    let value = sym c.is_null_type.ensures ∙ c.if-is_null_type.false in
    let start = c.args.steps.now in
    let now = c.read_located.new.steps in
    subst (λ (b : Bool). OnOk c.read_located.result (RisesJustBy told start now (λ bytes. lent_of_read b bytes group rows data_type column))) (sym c.if-asked.true)
    (on_ok_weaker c.read_located.result (just_as told start now (λ bytes. lent_of_chunk true bytes group rows column) (λ bytes. lent_of_read true bytes group rows data_type column) (lent_as_read told true group rows data_type column value)) c.read_located.ensures.lent)

pub returns-then-asked-clause-taken : goal.returns-then-asked-clause-taken
returns-then-asked-clause-taken g c =
    let told = g.S.Source.told c.args.source.now in
    let group = c.args.rows.group.now in
    let column = c.args.typed.column.now in
    let data_type = c.args.typed.data_type.now in
    let rows = rows_of c.args.rows.runs.now in
    let start = g.S.Source.taken c.args.source.now in
    let now = g.S.Source.taken c.read_located.new.source in
    subst (λ (b : Bool). OnOk c.read_located.result (RisesBy told start now (λ bytes. taken_of_read b bytes group rows data_type column))) (sym c.if-asked.true)
    (on_ok_weaker c.read_located.result (rises_as told start now (λ bytes. taken_of_chunk true bytes group rows column) (λ bytes. taken_of_read true bytes group rows data_type column)
    (taken_as_read told true group rows data_type column (sym c.is_null_type.ensures ∙ c.if-is_null_type.false))) c.read_located.ensures.taken)

pub returns-clause-reads : goal.returns-clause-reads
returns-clause-reads g c =
    let told = g.S.Source.told c.args.source.now in
    let size = c.args.asked.chunk_size in
    let group = c.args.rows.group.now in
    let column = c.args.typed.column.now in
    let data_type = c.args.typed.data_type.now in
    let rows = rows_of c.args.rows.runs.now in
    let value = sym c.is_null_type.ensures ∙ c.if-is_null_type.false in
    subst (λ (b : Bool). ReadsFile g.S.Source c.args.source.now c.read_first.new.source (λ bytes. causes_of_read b size bytes group rows data_type column) c.read_first.result) (sym c.if-asked.false)
    (reads_as c.read_first.result (of_read told false size group rows data_type column false c.in_ok-check_pair.ensures.ok value) c.read_first.ensures.reads)

pub returns-clause-cells : goal.returns-clause-cells
returns-clause-cells g c =
    let told = g.S.Source.told c.args.source.now in
    let size = c.args.asked.chunk_size in
    let group = c.args.rows.group.now in
    let column = c.args.typed.column.now in
    let data_type = c.args.typed.data_type.now in
    let rows = rows_of c.args.rows.runs.now in
    let value = sym c.is_null_type.ensures ∙ c.if-is_null_type.false in
    subst (λ (b : Bool). IfOk c.read_first.result (λ found. IfSome told (λ bytes. map (λ array. map Some (cells array)) found.0.items ≡ map (map (column_cell b bytes group data_type column)) (cut size rows)))) (sym c.if-asked.false)
    (if_ok c.read_first.result (λ found e. subst (λ shown. IfSome told (λ bytes. shown ≡ map (map (column_cell false bytes group data_type column)) (cut size rows))) (map-map (map Some) cells found.0.items)
    (cells_read told false group data_type column (cut size rows) (map cells found.0.items) value
    (subst (λ shown. IfSome told (λ bytes. shown ≡ map (map (item_by false bytes group data_type column)) (cut size rows))) (sym (map-map (map (λ cell. Some (Value cell))) cells found.0.items)) e))) c.read_first.ensures.cells)

pub returns-clause-lent : goal.returns-clause-lent
returns-clause-lent g c =
    let told = g.S.Source.told c.args.source.now in
    let size = c.args.asked.chunk_size in
    let group = c.args.rows.group.now in
    let column = c.args.typed.column.now in
    let data_type = c.args.typed.data_type.now in
    let rows = rows_of c.args.rows.runs.now in
    let value = sym c.is_null_type.ensures ∙ c.if-is_null_type.false in
    let start = c.args.steps.now in
    let now = c.read_first.new.steps in
    subst (λ (b : Bool). OnOk c.read_first.result (RisesJustBy told start now (λ bytes. lent_of_read b bytes group rows data_type column))) (sym c.if-asked.false)
    (on_ok_weaker c.read_first.result (just_as told start now (λ bytes. lent_of_chunk false bytes group rows column) (λ bytes. lent_of_read false bytes group rows data_type column) (lent_as_read told false group rows data_type column value)) c.read_first.ensures.lent)

pub returns-then-is_null_type-clause-typed : goal.returns-then-is_null_type-clause-typed
returns-then-is_null_type-clause-typed g c =
    let null : c.args.typed.data_type.now ≡ type.Null = null_type c.args.typed.data_type.now (sym c.is_null_type.ensures ∙ c.if-is_null_type.true) in
    if_ok c.read_nulls.result (λ found e. nulls_typed c.args.typed.data_type.now found.0.items (cut c.args.asked.chunk_size (replicate (length (rows_of c.args.rows.runs.now)) Null)) e null) c.read_nulls.ensures.nulls
