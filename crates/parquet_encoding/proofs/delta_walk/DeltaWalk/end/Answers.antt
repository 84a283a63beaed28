use Rattle.std.proofs.Common.{◌∙◌, sym, ap, arith}
use Rattle.parquet_base.specs.Reading.{after}
use Rattle.parquet_encoding.specs.DeltaWalk.{deltas_behind}
use Rattle.parquet_encoding.proofs.BlockLemmas.{behind_none}
use Rattle.parquet_encoding.proofs.delta_walk.DeltaWalk.end.Goals as goal

pub returns-clause-ok : goal.returns-clause-ok
unfolding deltas_behind
returns-clause-ok c =
    let s = c.loop-walk.walk in
    sym c.loop-walk.invariant.same
    ∙ ap after (behind_none s.size s.parts s.run.least s.behind s.widths s.parts_left s.next c.args.bytes.now (omega arith) c.loop-walk.invariant.within.widths c.loop-walk.invariant.within.next)
