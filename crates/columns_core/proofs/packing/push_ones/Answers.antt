use Rattle.std.proofs.Common.{◌+◌, ◌-◌, length, arith}
use Rattle.columns_core.proofs.PackingLemmas.{resized, ones_behind, ones_cut}
use Rattle.columns_core.proofs.packing.push_ones.Goals as goal

pub returns-then-count-gt0-clause-added : goal.returns-then-count-gt0-clause-added
returns-then-count-gt0-clause-added c =
    let old = c.args.out.now.items in
    let n = c.len.result + c.div_ceil.result in
    let is = resized old c.resize.new.self.items n _ 255 c.in_ok-resize.ensures.items c.args.out.now.ok.0 (omega (arith, c.len.ensures)) in
    ones_cut old c.resize.new.self.items c.args.count (n - length old) (c.len-last.result - 1) c.low_ones.result is
    (omega (arith, c.len.ensures, c.div_ceil.ensures, c.if-count-gt0.true)) (omega (arith, c.len.ensures, c.div_ceil.ensures, c.if-count-gt0.true))
    (omega (arith, c.len.ensures, c.div_ceil.ensures, c.if-count-gt0.true, c.len-last.ensures, c.in_ok-resize.ensures.len)) c.low_ones.ensures

pub returns-else-count-gt0-clause-added : goal.returns-else-count-gt0-clause-added
returns-else-count-gt0-clause-added c =
    let old = c.args.out.now.items in
    let n = c.len.result + c.div_ceil.result in
    let is = resized old c.resize.new.self.items n _ 255 c.in_ok-resize.ensures.items c.args.out.now.ok.0 (omega (arith, c.len.ensures)) in
    ones_behind old c.resize.new.self.items c.args.count (n - length old) is (omega (arith, c.len.ensures, c.div_ceil.ensures, c.if-count-gt0.false))
