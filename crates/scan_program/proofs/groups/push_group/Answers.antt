use Rattle.std.proofs.Common.{◌≡◌, ◌∙◌, ℕ, List, ◌++◌, ap, append_assoc, codes, refl, sym}
use Rattle.std.specs.Fmt.{decimal}
use Rattle.pq_common.specs.Rows.{line}
use Rattle.pq_common.proofs.TakenLemmas.{begun, last_taken, piece_refused, piece_taken}
use Rattle.scan_program.specs.Report.{intervals_text}
use Rattle.scan_program.proofs.groups.push_group.Goals as goal

-- the number of the group, how many rows it has, and its runs
parts : (group rows : ℕ) (runs : List ℕ) → line (codes "group " ++ decimal group ++ codes " " ++ decimal rows ++ codes " " ++ runs)
    ≡ (codes "group " ++ decimal group) ++ ((codes " " ++ decimal rows) ++ (codes " " ++ (runs ++ codes "\n")))
parts group rows runs =
    let number = codes "group " ++ decimal group in
    let blank = codes " " in
    let end = runs ++ codes "\n" in
    append_assoc (number ++ blank ++ decimal rows ++ blank) runs (codes "\n")
    ∙ append_assoc (number ++ blank ++ decimal rows) blank end
    ∙ append_assoc (number ++ blank) (decimal rows) (blank ++ end)
    ∙ append_assoc number blank (decimal rows ++ (blank ++ end))

pub returns-in_err-push_labelled : goal.returns-in_err-push_labelled
returns-in_err-push_labelled g c =
    let kept = c.args.kept.now in
    piece_refused g.K.Sink _ _ _ _ c.args.block.now _ (codes "group " ++ decimal c.args.group) _ _ _ _ _ c.from_residual.ensures.0
    (parts c.args.group kept.rows (intervals_text kept.intervals)) (begun g.K.Sink _ _) c.in_err-push_labelled.ensures

pub returns-in_err-push_labelled-2 : goal.returns-in_err-push_labelled-2
returns-in_err-push_labelled-2 g c =
    let kept = c.args.kept.now in
    let number = piece_taken g.K.Sink _ _ _ _ c.args.block.now _ (codes "group " ++ decimal c.args.group) _ _ _
    (parts c.args.group kept.rows (intervals_text kept.intervals)) (begun g.K.Sink _ _) c.in_ok-push_labelled.ensures in
    piece_refused g.K.Sink _ _ _ _ c.push_labelled.new.self _ (codes " " ++ decimal kept.rows) _ _ _ _ _ c.from_residual-in_err-push_labelled-2.ensures.0 refl number c.in_err-push_labelled-2.ensures

pub returns : goal.returns
returns g c =
    let kept = c.args.kept.now in
    let number = piece_taken g.K.Sink _ _ _ _ c.args.block.now _ (codes "group " ++ decimal c.args.group) _ _ _
    (parts c.args.group kept.rows (intervals_text kept.intervals)) (begun g.K.Sink _ _) c.in_ok-push_labelled.ensures in
    let runs = ap (λ runs. (codes " " ++ decimal kept.rows) ++ (codes " " ++ (intervals_text runs ++ codes "\n"))) (sym c.as_slice.ensures) in
    let rows = piece_taken g.K.Sink _ _ _ _ c.push_labelled.new.self _ (codes " " ++ decimal kept.rows) _ _ _ runs number c.in_ok-push_labelled-2.ensures in
    last_taken g.K.Sink _ _ _ _ _ _ _ rows c.push_runs.ensures
