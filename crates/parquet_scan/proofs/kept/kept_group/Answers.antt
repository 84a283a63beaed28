use Rattle.std.proofs.Common.{sym, subst}
use Rattle.parquet_scan.specs.Counting.{AreLocatedIf}
use Rattle.parquet_scan.proofs.kept.kept_group.Goals as goal

pub returns-clause-located : goal.returns-clause-located
returns-clause-located g c =
    subst (λ runs. AreLocatedIf c.args.by_pages (g.S.Source.told c.args.source.now) c.args.request.now.fields c.args.group.now runs c.in_ok-runs.locations) (sym c.new.ensures) c.in_ok-runs.ensures.located
