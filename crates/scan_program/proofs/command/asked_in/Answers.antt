use Rattle.std.proofs.Common.{◌≡◌, ◌∙◌, sym, codes}
use Rattle.std.proofs.lemmas.Result.{IfOk-weaker}
use Rattle.clap.specs.Matches.{found_of, one_text}
use Rattle.scan_program.specs.Parsed.{written_command}
use Rattle.scan_program.proofs.Parses.{flag_read}
use Rattle.scan_program.proofs.command.asked_in.Goals as goal

pub returns : goal.returns
returns c =
    let flag = c.get_flag.ensures in
    IfOk-weaker c.written.result _ _ (λ asked h words said.
    let set : c.get_flag.result ≡ said.summary = flag_read said.summary c.get_flag.result (one_text (found_of c.args.found.now) (codes "summary")) said.flag flag.value flag.other in
    h ∙ (λ i. written_command (c.items_in.ensures i) (c.get_str.ensures i) (c.get_str-2.ensures i) (set i)) ∙ sym said.command) c.written.ensures
