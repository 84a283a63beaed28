use Rattle.std.proofs.Common.{◌∙◌, sym}
use Rattle.put_program.proofs.LineLemmas.{parts_at}
use Rattle.put_program.proofs.lines.first_line.Goals as goal

pub returns : goal.returns
returns c = parts_at c.args.text.now c.in_ok-end.end (sym c.first_end.ensures ∙ c.in_ok-end.was)
