use Rattle.std.proofs.Common.{◌≡◌, List, Option, ap, ◌∙◌, arith, length}
use Rattle.std.specs.List.{slice_range}
use Rattle.std.specs.Prelude.{is_none}
use Rattle.std.proofs.lemmas.List.Sums.{count_by-le-length}
use Rattle.parquet_meta.specs.declared.metadata.PhysicalType.{PhysicalType}
use Rattle.parquet_page.specs.Stored.{Stored}
use Rattle.parquet_plain.specs.Bodies.{present}
use Rattle.parquet_plain.specs.Bounds.{stored_bounds}
use Rattle.parquet_plain.specs.Columns.{Written, written_page}
use Rattle.parquet_plain.proofs.BoundLemmas.{ends-are}
use Rattle.parquet_plain.proofs.ShortLemmas.{short_page_has_few_rows}
use Rattle.parquet_write.specs.Items.{unnamed_column}
use Rattle.parquet_write.proofs.PagingLemmas.{page_alike, rows-of-page}
use Rattle.parquet_write.proofs.pages.add_page.Goals as goal

pub overflow_cast-nulls : goal.overflow_cast-nulls
overflow_cast-nulls g c =
    let to : Written = unnamed_column (g.I.Items.type_ c.args.items.now) (g.I.Items.at_most c.args.items.now) c.args.paging in
    let rows : List (Option Stored) = slice_range (g.I.Items.items c.args.items.now) c.args.from c.args.to in
    let few = short_page_has_few_rows (written_page to rows) c.in_ok-size.ensures.written.short.fits in
    omega (arith, few, rows-of-page to rows, c.null_count-nulls.ensures, count_by-le-length (is_none {T = Stored}) rows)

pub returns-clause-told : goal.returns-clause-told
unfolding written_page
returns-clause-told g c =
    let type : PhysicalType = g.I.Items.type_ c.args.items.now in
    let rows : List (Option Stored) = slice_range (g.I.Items.items c.args.items.now) c.args.from c.args.to in
    let at : c.len-start.result ≡ length c.args.out.now.items = omega (arith, c.len-start.ensures) in
    page_alike at c.in_ok-size.ensures.size c.null_count-nulls.ensures
    (c.in_ok-ends.ensures ∙ ap (stored_bounds type) c.bounds_of-bounds.ensures.same ∙ ends-are type (g.I.Items.at_most c.args.items.now) (present rows))
