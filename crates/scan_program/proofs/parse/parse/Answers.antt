use Rattle.std.proofs.Common.{◌≡◌, ◌∙◌, ap, ap₂, rules, codes}
use Rattle.clap.specs.Simple.{app_of, app_of_fields, new_app, with_rule}
use Rattle.clap.specs.Walk.{rule_of}
use Rattle.scan_program.proofs.Lexed.{item, chunk_option, limit_option, summary_flag, program, without_help}
use Rattle.scan_program.proofs.Parses.{judged}
use Rattle.scan_program.proofs.parse.parse.Goals as goal

pub returns : goal.returns
returns c =
    let item_is : rule_of c.action.result ≡ item = search rules in
    let chunk_is : rule_of c.action-2.result ≡ chunk_option = search rules in
    let limit_is : rule_of c.action-3.result ≡ limit_option = search rules in
    let summary_is : rule_of c.action-4.result ≡ summary_flag = search rules in
    let bare : app_of c.disable_help_flag.result ≡ without_help (new_app (codes "pqscan")) = ap app_of_fields c.disable_help_flag.ensures ∙ ap without_help c.new.ensures.app in
    let one : app_of c.in_ok-arg.field-0 ≡ with_rule (without_help (new_app (codes "pqscan"))) item = c.in_ok-arg.ensures.shape (search rules) ∙ ap₂ with_rule bare item_is in
    let two : app_of c.in_ok-arg-2.field-0 ≡ with_rule (with_rule (without_help (new_app (codes "pqscan"))) item) chunk_option = c.in_ok-arg-2.ensures.shape (search rules) ∙ ap₂ with_rule one chunk_is in
    let three : app_of c.in_ok-arg-3.field-0 ≡ with_rule (with_rule (with_rule (without_help (new_app (codes "pqscan"))) item) chunk_option) limit_option = c.in_ok-arg-3.ensures.shape (search rules) ∙ ap₂ with_rule two limit_is in
    let four : app_of c.in_ok-arg-4.field-0 ≡ program = c.in_ok-arg-4.ensures.shape (search rules) ∙ ap₂ with_rule three summary_is in
    let parse = c.try_get_matches_from in
    let ends = judged c.args.words.now (app_of c.in_ok-arg-4.field-0) parse.result c.requires four parse.ensures.kinds parse.ensures.matches in
    record { said = ends.0; refused = ends.1 }
