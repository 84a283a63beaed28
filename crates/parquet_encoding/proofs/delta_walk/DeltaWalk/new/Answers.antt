use Rattle.std.proofs.Common.{◌∙◌, refl, ap, pos, arith}
use Rattle.std.specs.Prelude.{option_map}
use Rattle.parquet_encoding.specs.DeltaWalk.{deltas_behind, deltas_left}
use Rattle.parquet_encoding.proofs.BlockLemmas.{behind_block}
use Rattle.parquet_encoding.proofs.DeltaWalkLemmas.{begins_left}
use Rattle.parquet_encoding.proofs.delta_walk.DeltaWalk.new.Goals as goal

pub returns-clause-behind : goal.returns-clause-behind
unfolding deltas_behind
returns-clause-behind c bytes within = behind_block c.args.size c.args.parts (pos 0) c.args.count 0 0 c.args.start bytes refl (omega arith) within

pub returns-clause-left : goal.returns-clause-left
unfolding deltas_left deltas_behind
returns-clause-left c bytes within =
    begins_left (pos 0) 0 0 0 _ bytes (omega arith) ∙ ap (option_map (λ read. read.0)) (behind_block c.args.size c.args.parts (pos 0) c.args.count 0 0 c.args.start bytes refl (omega arith) within)
