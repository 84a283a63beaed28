use Rattle.std.proofs.Common.{◌+◌, ◌∙◌, ap, arith, FitsSigned}
use Rattle.std.specs.Int.{w64}
use Rattle.std.proofs.lemmas.Result.{MatchResult-from_err}
use Rattle.parquet_encoding.specs.DeltaWalk.{deltas_behind}
use Rattle.parquet_encoding.proofs.SumLemmas.{same_number}
use Rattle.parquet_encoding.proofs.BlockLemmas.{behind_of, block_opens, block_stops, no_least, no_widths}
use Rattle.parquet_encoding.proofs.delta_walk.DeltaWalk.open_block.Goals as goal

pub returns-in_err-least-clause-err : goal.returns-in_err-least-clause-err
unfolding deltas_behind
returns-in_err-least-clause-err c =
    let s = c.args.self.now in
    MatchResult-from_err c.from_residual.result _ _ c.from_residual.ensures.0
    (λ _. block_stops s.size s.parts s.run.least s.behind s.widths s.parts_left s.next c.args.bytes.now c.requires.done c.requires.within.widths c.requires.within.next c.requires.more
    (no_least s.size s.parts s.behind _ c.in_err-least.ensures.err))

pub returns-then-bytes-widths-clause-err : goal.returns-then-bytes-widths-clause-err
unfolding deltas_behind
returns-then-bytes-widths-clause-err c =
    let s = c.args.self.now in
    block_stops s.size s.parts s.run.least s.behind s.widths s.parts_left s.next c.args.bytes.now c.requires.done c.requires.within.widths c.requires.within.next c.requires.more
    (no_widths s.size s.parts s.behind s.next _ c.in_ok-least.widths c.args.bytes.now c.in_ok-least.ensures.ok c.if-bytes-widths.true)

pub returns-clause-ok : goal.returns-clause-ok
unfolding deltas_behind
returns-clause-ok c =
    let s = c.args.self.now in
    let bytes = c.args.bytes.now in
    let at = c.in_ok-least.widths in
    let fits : FitsSigned w64 c.from_zigzag-self.result = record { sfits = c.from_zigzag-self.type_inv } in
    let there = c.in_ok-least.ensures.ok in
    ap (λ least. behind_of s.size s.parts least s.behind at s.parts (at + s.parts) bytes) (same_number c.from_zigzag-self.result fits ∙ c.from_zigzag-self.ensures)
    ∙ block_opens s.size s.parts s.run.least s.behind s.widths s.parts_left s.next _ at bytes c.requires.done c.requires.within.widths c.requires.within.next c.requires.more there (omega (arith, there.within))
