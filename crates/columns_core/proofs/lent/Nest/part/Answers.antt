use Rattle.std.proofs.Common.{◌∙◌, ◌<◌, length, ap, arith}
use Rattle.std.specs.Prelude.{slice_get}
use Rattle.columns_core.specs.Lent.{nest_cells, cell_lent, nest_depth}
use Rattle.columns_core.proofs.NestedLemmas.{cell_across, length-row_at, depth_in}
use Rattle.columns_core.proofs.lent.Nest.part.Goals as goal

pub returns-in-Across-clause-cell : goal.returns-in-Across-clause-cell
returns-in-Across-clause-cell c =
    let columns = c.in-Across.columns.now in
    let within : c.args.k < length columns = omega (arith, c.requires.within, ap (λ n. length (nest_cells n)) c.in-Across.is, length-row_at columns c.in-Across.i) in
    ap (λ n. slice_get (nest_cells n) c.args.k) c.in-Across.is
    ∙ cell_across columns c.index-columns-k.result c.in-Across.i c.args.k (cell_lent c.lent-in-Across.result) within c.index-columns-k.is c.lent-in-Across.ensures.cell

pub returns-in-Across-clause-shallow : goal.returns-in-Across-clause-shallow
returns-in-Across-clause-shallow c =
    let columns = c.in-Across.columns.now in
    let within : c.args.k < length columns = omega (arith, c.requires.within, ap (λ n. length (nest_cells n)) c.in-Across.is, length-row_at columns c.in-Across.i) in
    omega (arith, ap nest_depth c.in-Across.is, c.lent-in-Across.ensures.shallow, depth_in columns c.index-columns-k.result c.args.k within c.index-columns-k.is)
