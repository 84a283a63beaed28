use Rattle.std.proofs.Common.{◌≡◌, Option, None, false, true, rules, sym, subst}
use Rattle.std.specs.Prelude.{is_some}
use Rattle.std.specs.Option.{option_copied}
use Rattle.columns_core.specs.DictionaryType.{key_type}
use Rattle.columns_core.specs.declared.data_type.DataType.{out-DataType}
use Rattle.flat_values.specs.Conversion.{Conversion}
use Rattle.flat_values.specs.Pairs.{conversion_at, entry_from_physical, from_physical}
use Rattle.flat_binary.specs.Left.{converted_left, supply_of}
use Rattle.flat_binary.specs.Decoding.{entry_conversion}
use Rattle.flat_binary.specs.NullType.{is_null_type}
use Rattle.flat_binary.specs.Begun.{IsRefusedPair, column_left}
use Rattle.flat_binary.specs.Layers.{array_left}
use Rattle.flat_binary.proofs.BeginLemmas.{keys_rule, known_of_keys, renamed, values_left, values_rule}
use Rattle.flat_binary.proofs.KeyLemmas.{is_keyed, is_not_null}
use Rattle.flat_binary.proofs.page_iter.pair_iter.Goals as goal

pub keys_iter-requires-clause-ordered : goal.keys_iter-requires-clause-ordered
keys_iter-requires-clause-ordered g c =
    let keyed : is_some (key_type c.args.data_type) ≡ true = is_keyed c.args.data_type c.in-Dictionary.field-0 c.in-Dictionary.field-1 c.in-Dictionary.field-2 c.in-Dictionary.is in
    known_of_keys (key_type c.args.data_type) keyed c.requires.ordered

pub returns-in-Dictionary : goal.returns-in-Dictionary
returns-in-Dictionary g c =
    let supply = supply_of g.I.Pages.to_come g.I.Pages.causes g.I.Pages.row_count g.I.Pages.lent_count c.args.pages in
    let left = array_left g.I.Pages.to_come g.I.Pages.causes g.I.Pages.row_count g.I.Pages.lent_count in
    let keyed : is_some (key_type c.args.data_type) ≡ true = is_keyed c.args.data_type c.in-Dictionary.field-0 c.in-Dictionary.field-1 c.in-Dictionary.field-2 c.in-Dictionary.is in
    let some : is_null_type c.args.data_type ≡ false = is_not_null c.args.data_type c.in-Dictionary.field-0 c.in-Dictionary.field-1 c.in-Dictionary.field-2 c.in-Dictionary.is in
    let unit = option_copied c.args.logical in
    let is = keys_rule c.args.physical unit c.args.data_type keyed in
    let fresh = converted_left c.args.physical c.args.data_type c.args.chunk_size c.args.num_rows supply in
    let own = column_left c.args.physical c.args.data_type c.args.chunk_size c.args.num_rows supply in
    let same = λ (rule : Conversion). values_left c.args.physical c.args.data_type c.args.chunk_size c.args.num_rows supply rule some in
    let R : Option Conversion → Type 0 = λ found. found ≡ None → IsRefusedPair c.keys_iter.result in
    record {
      begins = renamed left fresh own same c.keys_iter.result (entry_conversion (entry_from_physical c.args.physical unit) c.args.data_type)
          (conversion_at c.args.physical unit (out-DataType c.args.data_type)) is c.keys_iter.ensures.begins;
      refused = subst R (sym is) c.keys_iter.ensures.refused;
    }

pub returns-in_default : goal.returns-in_default
returns-in_default g c =
    let supply = supply_of g.I.Pages.to_come g.I.Pages.causes g.I.Pages.row_count g.I.Pages.lent_count c.args.pages in
    let left = array_left g.I.Pages.to_come g.I.Pages.causes g.I.Pages.row_count g.I.Pages.lent_count in
    let flat : key_type c.args.data_type ≡ None = search rules in
    let some : is_null_type c.args.data_type ≡ false = search rules in
    let unit = option_copied c.args.logical in
    let is = values_rule c.args.physical unit c.args.data_type some flat in
    let fresh = converted_left c.args.physical c.args.data_type c.args.chunk_size c.args.num_rows supply in
    let own = column_left c.args.physical c.args.data_type c.args.chunk_size c.args.num_rows supply in
    let same = λ (rule : Conversion). values_left c.args.physical c.args.data_type c.args.chunk_size c.args.num_rows supply rule some in
    let R : Option Conversion → Type 0 = λ found. found ≡ None → IsRefusedPair c.flat_iter.result in
    record {
      begins = renamed left fresh own same c.flat_iter.result (from_physical c.args.physical unit (out-DataType c.args.data_type)) (conversion_at c.args.physical unit (out-DataType c.args.data_type)) is c.flat_iter.ensures.begins;
      refused = subst R (sym is) c.flat_iter.ensures.refused;
    }
