use Rattle.std.proofs.Common.{inr, refl}
use Rattle.scan_program.specs.Program.{command_in}
use Rattle.scan_program.specs.Sampled.{told_by}
use Rattle.scan_program.proofs.ReportLemmas.{if_none}
use Rattle.scan_program.proofs.ScanLemmas.{always}
use Rattle.scan_program.proofs.program.scan_for.Goals as goal

pub returns-in-Err-clause-no_words : goal.returns-in-Err-clause-no_words
returns-in-Err-clause-no_words g c = if_none (command_in c.args.words.now) (inr refl)

pub returns-in-Err-clause-complete : goal.returns-in-Err-clause-complete
returns-in-Err-clause-complete g c = always (command_in c.args.words.now) (told_by c.args.words.now (g.S.Source.told c.args.source.now)) _ (λ command bytes legal valid whole. refl)
