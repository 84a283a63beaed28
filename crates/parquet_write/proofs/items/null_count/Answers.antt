use Rattle.std.proofs.Common.{◌≡◌, ℕ, ◌+◌, Bool, List, Option, arith, ap, cond, sym, ◌∙◌}
use Rattle.parquet_page.specs.Stored.{Stored}
use Rattle.parquet_write.proofs.ItemLemmas.{nulls_go_on}
use Rattle.parquet_write.proofs.items.null_count.Goals as goal
use Rattle.parquet_write.proofs.items.null_count.Goals.{else-not-is_there, then-not-is_there}

pub loop-row-preserved : goal.loop-row-preserved
loop-row-preserved g c =
    let items : List (Option Stored) = g.I.Items.items c.args.items.now in
    let nulls : ℕ = c.loop-row.nulls in
    let same : nulls ≡ nulls + 0 = omega arith in
    let next : c.if-not-is_there.nulls ≡ nulls + cond c.is_there.result 0 1 = elim c.if-not-is_there.branch [
      | then-not-is_there w ↦ w.nulls-is ∙ ap (λ (b : Bool). nulls + cond b 0 1) (sym w.if-not-is_there.true)
      | else-not-is_there w ↦ w.nulls-is ∙ same ∙ ap (λ (b : Bool). nulls + cond b 0 1) (sym w.if-not-is_there.false)
    ] in
    nulls_go_on items c.args.from nulls c.loop-row.row c.if-not-is_there.nulls c.is_there.result (omega arith) (omega arith) c.is_there.ensures next c.loop-row.invariant
