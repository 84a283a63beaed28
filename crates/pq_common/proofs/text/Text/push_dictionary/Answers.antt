use Rattle.std.proofs.Common.{◌++◌, ◌∙◌, ap, append_assoc, codes}
use Rattle.columns_core.specs.declared.data_type.DataType.{out-DataType}
use Rattle.pq_common.specs.TypeText.{both_texts, key_text, value_type_text}
use Rattle.pq_common.proofs.AddLemmas.{added_behind}
use Rattle.pq_common.proofs.text.Text.push_dictionary.Goals as goal

pub returns : goal.returns
returns c =
    let both = both_texts (key_text c.args.keys) (value_type_text (out-DataType c.args.values.now)) in
    let name = codes "Dictionary(" in
    added_behind c.args.self.now c.push_keys_and_values.new.self (name ++ both) (codes ")") c.push-2.new.self c.push-2.result
    (c.in_ok-push_keys_and_values.ensures ∙ ap (λ text. text ++ both) c.in_ok-push.ensures ∙ append_assoc c.args.self.now name both) c.push-2.ensures
