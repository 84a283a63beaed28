use Rattle.std.proofs.Common.{ap, sym, ◌∙◌}
use Rattle.std.specs.List.{range_with_len}
use Rattle.parquet_plain.specs.Columns.{nulls_of}
use Rattle.parquet_sample.specs.Writing.{items_from}
use Rattle.parquet_sample.specs.declared.column.SampleColumn.{SampleColumn}
use Rattle.parquet_sample.proofs.NullLemmas.{no_null_ids, no_null_names}
use Rattle.parquet_sample.proofs.ends.null_count.Goals as goal

pub returns-in-Id : goal.returns-in-Id
returns-in-Id c = no_null_ids (range_with_len c.args.first c.args.rows) ∙ ap (λ (column : SampleColumn). nulls_of (items_from column c.args.first c.args.rows)) (sym c.in-Id.is)

pub returns-in-Name : goal.returns-in-Name
returns-in-Name c = no_null_names (range_with_len c.args.first c.args.rows) ∙ ap (λ (column : SampleColumn). nulls_of (items_from column c.args.first c.args.rows)) (sym c.in-Name.is)
