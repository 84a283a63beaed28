use Rattle.std.proofs.Common.{◌≡◌, ap, sym, ◌∙◌}
use Rattle.columns_core.specs.Lent.{nest_cells, cell_lent}
use Rattle.columns_core.specs.declared.cell.Cell.{Cells}
use Rattle.columns_core.proofs.FrontLemmas.{same_next}
use Rattle.columns_core.proofs.NestedLemmas.{same_inside}
use Rattle.columns_core.proofs.lent.+is_same_lent.Goals as goal

pub Lent::is_same-returns-in-Cells-other : goal.Lent::is_same-returns-in-Cells-other
Lent::is_same-returns-in-Cells-other t c =
    let own : cell_lent c.args.self ≡ Cells (nest_cells c.in-Cells.inside) = ap cell_lent c.in-Cells.is in
    let other : cell_lent c.args.other ≡ Cells (nest_cells c.in-Cells-other.that) = ap cell_lent c.in-Cells-other.is in (
      λ same. own ∙ ap (λ cells. Cells cells) (c.are_same.ensures.0 same) ∙ sym other,
      λ e. c.are_same.ensures.1 (same_inside (nest_cells c.in-Cells.inside) (nest_cells c.in-Cells-other.that) (sym own ∙ e ∙ other)),
    )

pub are_same-loop-k-preserved : goal.are_same-loop-k-preserved
are_same-loop-k-preserved t c =
    same_next (nest_cells c.args.a) (nest_cells c.args.b) c.loop-k.k (cell_lent c.part.result) (cell_lent c.part-in-loop-k.result)
    c.part.ensures.cell c.part-in-loop-k.ensures.cell (c.is_same.ensures.0 c.if-not-is_same.false) c.loop-k.invariant
