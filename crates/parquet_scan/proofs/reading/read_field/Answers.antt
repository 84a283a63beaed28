use Rattle.std.proofs.Common.{◌∙◌, ap, sym}
use Rattle.std.specs.Prelude.{option_copied}
use Rattle.std.proofs.lemmas.Result.{on_ok_weaker}
use Rattle.parquet_base.specs.Intervals.{rows_of}
use Rattle.parquet_base.specs.Pieces.{cut}
use Rattle.parquet_scan.specs.Costs.{lent_of_column, lent_of_read, taken_of_column, taken_of_read}
use Rattle.parquet_scan.proofs.CostLemmas.{rises_as, taken_named}
use Rattle.parquet_scan.proofs.ExactCounts.{just_as, named_lent}
use Rattle.parquet_scan.proofs.GroupLemmas.{own_types, told_columns}
use Rattle.parquet_scan.proofs.PageLemmas.{both_if}
use Rattle.parquet_scan.proofs.reading.read_field.Goals as goal

pub read_column-requires-clause-located : goal.read_column-requires-clause-located
read_column-requires-clause-located g c by_pages = c.requires.located by_pages c.in-Some.column.now (sym c.column_named.ensures ∙ ap option_copied c.in-Some.is)

pub returns-clause-columns : goal.returns-clause-columns
returns-clause-columns g c =
    let named = sym c.column_named.ensures ∙ ap option_copied c.in-Some.is in
    both_if c.read_column.result (λ found typed e.
    told_columns (g.S.Source.told c.args.source.now) c.args.asked.by_pages c.args.rows.group.now c.args.field.now c.in-Some.column.now (cut c.args.asked.chunk_size (rows_of c.args.rows.runs.now)) found.0.items named typed e)
    c.read_column.ensures.typed c.read_column.ensures.cells

pub returns-clause-types : goal.returns-clause-types
returns-clause-types g c =
    both_if c.read_column.result (λ found. own_types c.args.field.now.data_type (cut c.args.asked.chunk_size (rows_of c.args.rows.runs.now)) found.0.items) c.read_column.ensures.typed c.read_column.ensures.counts

pub returns-clause-lent : goal.returns-clause-lent
returns-clause-lent g c =
    let told = g.S.Source.told c.args.source.now in
    let by_pages = c.args.asked.by_pages in
    let group = c.args.rows.group.now in
    let field = c.args.field.now in
    let column = c.in-Some.column.now in
    let rows = rows_of c.args.rows.runs.now in
    let named = sym c.column_named.ensures ∙ ap option_copied c.in-Some.is in
    on_ok_weaker c.read_column.result (just_as told c.args.steps.now c.read_column.new.steps (λ bytes. lent_of_read by_pages bytes group rows field.data_type column) (λ bytes. lent_of_column by_pages bytes group rows field)
    (named_lent told by_pages group rows field column named)) c.read_column.ensures.lent

pub returns-clause-taken : goal.returns-clause-taken
returns-clause-taken g c =
    let told = g.S.Source.told c.args.source.now in
    let by_pages = c.args.asked.by_pages in
    let group = c.args.rows.group.now in
    let field = c.args.field.now in
    let column = c.in-Some.column.now in
    let rows = rows_of c.args.rows.runs.now in
    let named = sym c.column_named.ensures ∙ ap option_copied c.in-Some.is in
    on_ok_weaker c.read_column.result (rises_as told (g.S.Source.taken c.args.source.now) (g.S.Source.taken c.read_column.new.source) (λ bytes. taken_of_read by_pages bytes group rows field.data_type column) (λ bytes. taken_of_column by_pages bytes group rows field)
    (taken_named told by_pages group rows field column named)) c.read_column.ensures.taken
