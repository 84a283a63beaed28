use Rattle.std.proofs.Common.{◌-◌, ◌∙◌, ap, arith}
use Rattle.parquet_encoding.specs.HybridLeft.{hybrid_left}
use Rattle.parquet_encoding.proofs.HybridLeftLemmas.{left_of, left_opens, left_within, left_has_run}
use Rattle.parquet_encoding.proofs.hybrid.HybridRle.open_next.Goals as goal

pub open_run-requires-clause-within : goal.open_run-requires-clause-within
unfolding hybrid_left
open_run-requires-clause-within c =
    let s = c.args.self.now in
    let within = left_within s.run s.width c.args.bytes.now s.behind s.next c.requires.spelled c.requires.more in
    omega arith

pub unreachable-requires : goal.unreachable-requires
unfolding hybrid_left
unreachable-requires c =
    let s = c.args.self.now in
    left_has_run s.run s.width c.args.bytes.now s.behind s.next c.requires.spelled c.requires.more c.in_default.ensures.err

pub returns-clause-same : goal.returns-clause-same
unfolding hybrid_left
returns-clause-same c =
    let s = c.args.self.now in
    let opened = c.in-Ok.opened in
    ap (λ n. left_of opened.run s.width c.args.bytes.now (s.behind - n) opened.end) c.len.ensures
    ∙ left_opens s.run s.width c.args.bytes.now s.behind s.next opened c.requires.done c.requires.spelled c.requires.more c.in-Ok.ensures.ok
