use Rattle.std.proofs.Common.{◌-◌, ◌^◌, ◌∙◌, sym, ap, length, arith}
use Rattle.parquet_base.proofs.RowLemmas.{rows_of-length}
use Rattle.parquet_page.proofs.EntryLemmas.{rows_fit}
use Rattle.parquet_page.proofs.SliceLemmas.{from-start, stands-next}
use Rattle.parquet_page.proofs.slice_filtered.SliceFiltered.new.Goals as goal

pub row_count-requires : goal.row_count-requires
row_count-requires c = rows_fit c.args.rows.now (2 ^ 64 - 1) (omega arith) c.requires

pub returns-clause-rows : goal.returns-clause-rows
returns-clause-rows c = from-start 0 c.args.rows.now (2 ^ 64 - 1) c.requires

pub returns-clause-walk : goal.returns-clause-walk
returns-clause-walk c =
    let all = from-start 0 c.args.rows.now (2 ^ 64 - 1) c.requires in
    record {
      stands = stands-next 0 c.args.rows.now c.requires;
      counted = c.row_count.ensures ∙ sym (rows_of-length c.args.rows.now) ∙ ap length (sym all);
    }
