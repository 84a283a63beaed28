use Rattle.std.proofs.Common.{◌∙◌, sym, arith}
use Rattle.parquet_encoding.specs.DeltaWalk.{deltas_behind, deltas_left}
use Rattle.parquet_encoding.proofs.StepLemmas.{nothing_is}
use Rattle.parquet_encoding.proofs.DeltaWalkLemmas.{parts_of, behind_inside, length-left, walk_opens}
use Rattle.parquet_encoding.proofs.WalkLemmas.{of_some}
use Rattle.parquet_encoding.proofs.delta_walk.DeltaWalk.open_next.Goals as goal

pub open-requires-clause-within : goal.open-requires-clause-within
unfolding deltas_left deltas_behind
open-requires-clause-within c =
    let s = c.args.self.now in
    let parts = parts_of s.run _ c.args.bytes.now c.requires.spelled in
    let inside = behind_inside s.size s.parts s.run.least s.behind s.widths s.parts_left s.next c.args.bytes.now parts.others parts.has_others in
    record { widths = inside.0; next = inside.1 }

pub open-requires-clause-more : goal.open-requires-clause-more
unfolding deltas_left deltas_behind
open-requires-clause-more c =
    let s = c.args.self.now in
    let long = of_some _ _ c.requires.spelled (length-left s.run s.size s.parts s.run.least s.behind s.widths s.parts_left s.next c.args.bytes.now) in
    omega (arith, c.requires.more)

pub unreachable-requires : goal.unreachable-requires
unfolding deltas_left
unreachable-requires c =
    let s = c.args.self.now in
    let parts = parts_of s.run _ c.args.bytes.now c.requires.spelled in
    nothing_is parts.others (sym c.in_default.ensures.err ∙ parts.has_others)

pub returns-clause-same : goal.returns-clause-same
unfolding deltas_left
returns-clause-same c = walk_opens c.args.self.now.run c.open.new.self.run _ _ c.args.bytes.now (omega arith) c.requires.spelled c.in-Ok.ensures.ok c.in-Ok.ensures.lies
