use Rattle.std.proofs.Common.{◌∙◌, sym}
use Rattle.std.proofs.lemmas.Result.{err_from_is_err_and}
use Rattle.parquet_scan.proofs.CallLemmas.{refuses}
use Rattle.parquet_scan.proofs.OpenedLemmas.{entry_within}
use Rattle.parquet_scan.proofs.located.read_bodies.Goals as goal

pub returns-in_err-read_part-clause-reads : goal.returns-in_err-read_part-clause-reads
returns-in_err-read_part-clause-reads g c =
    let p = err_from_is_err_and c.from_residual.result c.from_residual.ensures.1 in
    rw (p.1, p.2) (refuses c.loop-page.invariant.keeps c.in_err-read_part.ensures.reads
    (entry_within (g.S.Source.told c.args.source.now) c.args.chunk c.args.pages.now c.loop-page.page-index c.page-item.result c.part_of_page.result c.loop-page-test.true c.page-item.is (sym c.is_wanted.ensures ∙ c.if-is_wanted.true) c.part_of_page.ensures))
