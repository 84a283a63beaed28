use Rattle.std.proofs.Common.{◌≡◌, ℕ, ◌++◌, append_assoc, codes, refl}
use Rattle.std.specs.Fmt.{decimal}
use Rattle.pq_common.specs.Rows.{line}
use Rattle.pq_common.proofs.TakenLemmas.{begun, last_taken, piece_refused, piece_taken}
use Rattle.scan_program.specs.Report.{summary_lines}
use Rattle.scan_program.proofs.groups.push_summary.Goals as goal

-- how many rows, how many pages, and the end
parts : (rows pages : ℕ) → summary_lines rows pages ≡ (codes "rows " ++ decimal rows) ++ ((codes "\npages " ++ decimal pages) ++ codes "\n")
parts rows pages = append_assoc (codes "rows " ++ decimal rows) (codes "\n") (line (codes "pages " ++ decimal pages))

pub returns-in_err-push_labelled : goal.returns-in_err-push_labelled
returns-in_err-push_labelled g c =
    piece_refused g.K.Sink _ _ _ _ c.args.block.now _ (codes "rows " ++ decimal c.args.rows) _ _ _ _ _ c.from_residual.ensures.0
    (parts c.args.rows c.args.pages) (begun g.K.Sink _ _) c.in_err-push_labelled.ensures

pub returns-in_err-push_labelled-2 : goal.returns-in_err-push_labelled-2
returns-in_err-push_labelled-2 g c =
    let rows = piece_taken g.K.Sink _ _ _ _ c.args.block.now _ (codes "rows " ++ decimal c.args.rows) _ _ _ (parts c.args.rows c.args.pages) (begun g.K.Sink _ _) c.in_ok-push_labelled.ensures in
    piece_refused g.K.Sink _ _ _ _ c.push_labelled.new.self _ (codes "\npages " ++ decimal c.args.pages) _ (codes "\n") _ _ _ c.from_residual-in_err-push_labelled-2.ensures.0 refl rows c.in_err-push_labelled-2.ensures

pub returns : goal.returns
returns g c =
    let rows = piece_taken g.K.Sink _ _ _ _ c.args.block.now _ (codes "rows " ++ decimal c.args.rows) _ _ _ (parts c.args.rows c.args.pages) (begun g.K.Sink _ _) c.in_ok-push_labelled.ensures in
    let pages = piece_taken g.K.Sink _ _ _ _ c.push_labelled.new.self _ (codes "\npages " ++ decimal c.args.pages) _ (codes "\n") _ refl rows c.in_ok-push_labelled-2.ensures in
    last_taken g.K.Sink _ _ _ _ _ _ _ pages c.push.ensures
