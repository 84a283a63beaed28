use Rattle.std.proofs.Common.{◌≡◌, ◌-◌}
use Rattle.std.specs.List.{slice_range}
use Rattle.parquet_plain.specs.Columns.{nulls_of}
use Rattle.parquet_write.specs.Items.{FindsBounds, unnamed_column}
use Rattle.parquet_write.proofs.PagingLemmas.{AreShort, IsPaging}
use Rattle.parquet_write.proofs.pages.write_pages.Given as goal

abbrev pub invariant-loop-row : goal.invariant-loop-row
invariant-loop-row g l =
    let items = g.I.Items.items l.items in
    let to = unnamed_column (g.I.Items.type_ l.items) (g.I.Items.at_most l.items) l.paging in
    record {
      paging : IsPaging to items l.initial.out.items l.out.items l.pages.items l.row;
      short : AreShort to items l.row;
      nulls : l.nulls ≡ nulls_of (slice_range items 0 l.row);
      bounds : FindsBounds (g.I.Items.at_most l.items) items (slice_range items 0 l.row) l.bounds;
    }

abbrev pub decreases-loop-row : goal.decreases-loop-row
decreases-loop-row g l = l.rows - l.row
