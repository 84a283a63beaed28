use Rattle.std.proofs.Common.{ℕ, ap, ◌∙◌, [], ◌∷◌, ◌++◌}
use Rattle.parquet_write.proofs.ListLemmas.{none_written, one_written, all_written_of}
use Rattle.parquet_thrift.specs.Values.{truth}
use Rattle.compact_write.specs.Written.{element_bytes}
use Rattle.parquet_write.specs.Told.{is_null_page}
use Rattle.parquet_write.proofs.column_index.write_null_pages.Goals as goal

pub loop-page-init : goal.loop-page-init
loop-page-init c = none_written (λ page. truth (is_null_page page)) c.args.out.now.items c.args.pages.now

pub loop-page-preserved : goal.loop-page-preserved
unfolding element_bytes
loop-page-preserved c =
    one_written (λ page. truth (is_null_page page)) c.args.out.now.items c.loop-page.out.items _ c.args.pages.now c.loop-page.page-index c.page-item.result c.loop-page-test.true c.page-item.is c.loop-page.invariant (c.in_ok-push.ensures.items ∙ ap (λ (n : ℕ). c.loop-page.out.items ++ n ∷ []) c.null_byte.ensures)

pub returns : goal.returns
returns c = record { written = all_written_of truth is_null_page c.args.out.now.items c.loop-page.out.items c.args.pages.now c.loop-page.page-index c.loop-page-test.false c.loop-page.invariant }
