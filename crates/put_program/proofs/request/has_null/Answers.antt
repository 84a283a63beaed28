use Rattle.std.proofs.Common.{◌≡◌, true, false, ap, sym}
use Rattle.columns_core.specs.Array.{cells}
use Rattle.columns_core.specs.Lent.{cell_lent}
use Rattle.put_program.specs.Request.{is_null_cell}
use Rattle.put_program.proofs.ListLemmas.{any-found, none-more}
use Rattle.put_program.proofs.RequestLemmas.{not_null}
use Rattle.put_program.proofs.request.has_null.Goals as goal
use Rattle.put_program.proofs.request.has_null.Goals.{in-Null, in_default}

pub returns-then-matches : goal.returns-then-matches
returns-then-matches c =
    let null : is_null_cell (cell_lent c.lent.result) ≡ true = elim c.match-matches.branch [
      | in-Null w ↦ ap (λ l. is_null_cell (cell_lent l)) w.in-Null.is
      | in_default w ↦ absurd cc
    ] in
    sym (any-found is_null_cell (cells c.args.array.now) c.loop-row.row (cell_lent c.lent.result) c.lent.ensures.cell null)

pub loop-row-preserved : goal.loop-row-preserved
loop-row-preserved c =
    let there : is_null_cell (cell_lent c.lent.result) ≡ false = elim c.match-matches.branch [
      | in-Null w ↦ absurd cc
      | in_default w ↦ not_null c.lent.result w.in_default.not-Null
    ] in
    none-more is_null_cell (cells c.args.array.now) c.loop-row.row (cell_lent c.lent.result) c.lent.ensures.cell there c.loop-row.invariant
