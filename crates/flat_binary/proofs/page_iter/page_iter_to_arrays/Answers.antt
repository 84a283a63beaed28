use Rattle.std.proofs.Common.{◌≡◌, ◌∙◌, false, refl, rules, sym}
use Rattle.std.specs.Option.{option_copied}
use Rattle.columns_core.specs.declared.data_type.DataType.{out-DataType}
use Rattle.flat_values.specs.Conversion.{Conversion}
use Rattle.flat_values.specs.Pairs.{conversion, conversion_at, is_repeated}
use Rattle.flat_binary.specs.Left.{supply_of}
use Rattle.flat_binary.specs.Begun.{column_left}
use Rattle.flat_binary.specs.Layers.{array_left}
use Rattle.flat_binary.proofs.BeginLemmas.{one_rule, renamed}
use Rattle.flat_binary.proofs.page_iter.page_iter_to_arrays.Goals as goal

pub returns-clause-begins : goal.returns-clause-begins
returns-clause-begins g c some =
    let supply = supply_of g.I.Pages.to_come g.I.Pages.causes g.I.Pages.row_count g.I.Pages.lent_count c.args.pages in
    let left = array_left g.I.Pages.to_come g.I.Pages.causes g.I.Pages.row_count g.I.Pages.lent_count in
    let stored = c.args.type_.now in
    let once : is_repeated c.args.type_.now.repetition ≡ false = search rules in
    let unit = option_copied c.as_ref-logical.result in
    let fresh = column_left stored.physical_type c.args.data_type c.args.chunk_size c.args.num_rows supply in
    renamed left fresh fresh (λ (rule : Conversion). refl) c.pair_iter.result (conversion_at stored.physical_type unit (out-DataType c.args.data_type)) (conversion stored c.args.data_type)
    (one_rule stored unit c.args.data_type once c.as_ref-logical.ensures.value) c.pair_iter.ensures.begins

pub returns-clause-refused : goal.returns-clause-refused
returns-clause-refused g c some none =
    let once : is_repeated c.args.type_.now.repetition ≡ false = search rules in
    c.pair_iter.ensures.refused (sym (one_rule c.args.type_.now (option_copied c.as_ref-logical.result) c.args.data_type once c.as_ref-logical.ensures.value) ∙ none)
