use Rattle.std.proofs.Common.{◌∷◌, ◌++◌, [], sym, ◌∙◌}
use Rattle.columns_core.specs.Lent.{nest_cells, cell_lent}
use Rattle.columns_core.proofs.FrontLemmas.{take_next}
use Rattle.columns_core.proofs.lent.+to_cell.Goals as goal

pub to_cells-loop-k-preserved : goal.to_cells-loop-k-preserved
to_cells-loop-k-preserved t c =
    c.in_ok-push.ensures.items ∙ (λ i. c.loop-k.invariant i ++ c.in_ok-to_cell.ensures.cell i ∷ [])
    ∙ sym (take_next (nest_cells c.args.inside) c.loop-k.k (cell_lent c.part.result) c.part.ensures.cell)
