use Rattle.parquet_meta.proofs.Filling.{goes_on}
use Rattle.parquet_meta.proofs.exact.fill_from.Goals as goal

pub fill-preserved : goal.fill-preserved
fill-preserved g c =
    let e = c.in_ok-count.ensures in
    goes_on g.S.Source.told g.S.Source.faults g.S.Source.taken g.S.Source.kept c.args.source.now c.args.place c.args.out.now c.fill.source c.fill.filled c.fill.out c.read_behind.new.source c.in_ok-count.count c.read_behind.new.out
    c.fill.invariant e.keeps.same e.keeps.kept e.quiet e.taken c.read_behind.auto.out e.count.1 e.before e.behind
