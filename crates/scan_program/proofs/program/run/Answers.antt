use Rattle.std.proofs.Common.{inr, refl}
use Rattle.std.specs.Prelude.{IsTrue}
use Rattle.scan_program.specs.Program.{command_in}
use Rattle.scan_program.specs.Sampled.{is_too_great, sample_in, told_by}
use Rattle.pq_common.specs.Written.{IsFrontAppended}
use Rattle.scan_program.proofs.ScanLemmas.{always, no_command, no_sample, of_report, passed_up}
use Rattle.scan_program.proofs.program.run.Goals as goal

pub returns-in-Err-clause-complete : goal.returns-in-Err-clause-complete
returns-in-Err-clause-complete g c =
    passed_up (command_in c.args.words.now) (told_by c.args.words.now (g.S.Source.told c.args.source.now)) _ _ c.in-Err.ensures.complete (λ command bytes h legal valid reads writes. inr (h legal valid reads))

pub returns-clause-no_words : goal.returns-clause-no_words
returns-clause-no_words g c = no_command (command_in c.args.words.now) _ c.in-Ok.ensures.no_words

pub returns-clause-front : goal.returns-clause-front
returns-clause-front g c same =
    let written = g.K.Sink.written in
    of_report (command_in c.args.words.now) (told_by c.args.words.now (g.S.Source.told c.args.source.now)) _ _ (IsFrontAppended (written c.args.out.now) (written c.write_report.new.out))
    c.in-Err-write_report.ensures.err c.in-Ok.ensures.scanned

pub returns-clause-complete : goal.returns-clause-complete
returns-clause-complete g c =
    always (command_in c.args.words.now) (told_by c.args.words.now (g.S.Source.told c.args.source.now)) _ (λ command bytes legal valid reads writes. absurd (writes (c.in-Err-write_report.ensures.counted.failed refl)))

pub returns-clause-too_great : goal.returns-clause-too_great
returns-clause-too_great g c =
    no_sample (sample_in c.args.words.now) (λ sample. IsTrue (is_too_great sample)) (command_in c.args.words.now) _ c.in-Ok.ensures.too_great
