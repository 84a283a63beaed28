use Rattle.std.proofs.Common.{List, Option, arith, ap, subst, sym, ◌∙◌}
use Rattle.parquet_page.specs.Stored.{Stored}
use Rattle.parquet_write.specs.Items.{AreBothThere, FindsBounds, bounds_by_rows}
use Rattle.parquet_write.proofs.ItemLemmas.{finds_more, finds_null}
use Rattle.parquet_write.proofs.bounds.bounds_of.Goals as goal
use Rattle.parquet_write.proofs.bounds.bounds_of.Goals.{else-is_there, then-is_there}

pub loop-row-preserved : goal.loop-row-preserved
loop-row-preserved g c =
    let items : List (Option Stored) = g.I.Items.items c.args.items.now in
    let at_most = g.I.Items.at_most c.args.items.now in
    elim c.if-is_there.branch [
      | then-is_there w ↦ finds_more at_most items c.args.from c.loop-row.row c.loop-row.found c.if-is_there.found (omega arith) (omega arith) (sym c.is_there.ensures ∙ w.if-is_there.true)
          (subst (AreBothThere items) (sym w.found-is) w.joined-found.ensures.there) (ap (bounds_by_rows items) w.found-is ∙ w.joined-found.ensures.joined) c.loop-row.invariant
      | else-is_there w ↦ subst (FindsBounds at_most items _) (sym w.found-is)
          (finds_null at_most items c.args.from c.loop-row.row c.loop-row.found (omega arith) (omega arith) (sym c.is_there.ensures ∙ w.if-is_there.false) c.loop-row.invariant)
    ]
