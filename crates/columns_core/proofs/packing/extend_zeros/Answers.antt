use Rattle.std.proofs.Common.{◌-◌, length, arith}
use Rattle.columns_core.proofs.PackingLemmas.{resized, zeros_behind, packed_more}
use Rattle.columns_core.proofs.packing.extend_zeros.Goals as goal

pub returns-clause-same : goal.returns-clause-same
returns-clause-same c =
    let old = c.args.out.now.items in
    let n = c.div_ceil.result in
    let is = resized old c.resize.new.self.items n _ 0 c.in_ok-resize.ensures.items c.args.out.now.ok.0 (omega (arith, c.div_ceil.ensures, c.requires.packed.needed)) in
    zeros_behind old c.resize.new.self.items (n - length old) is

pub returns-clause-packed : goal.returns-clause-packed
returns-clause-packed c =
    packed_more c.args.out.now.items c.resize.new.self.items c.args.count c.args.additional c.requires.packed (omega (arith, c.in_ok-resize.ensures.len, c.div_ceil.ensures)) (returns-clause-same c)
