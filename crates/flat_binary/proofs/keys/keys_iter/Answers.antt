use Rattle.std.proofs.Common.{◌≡◌, Ok, Some}
use Rattle.std.specs.Option.{option_copied}
use Rattle.columns_core.specs.DictionaryType.{entry_type, key_type}
use Rattle.flat_binary.specs.Left.{supply_of}
use Rattle.flat_binary.specs.Layers.{array_left}
use Rattle.flat_binary.specs.declared.array_iter.ArrayIter.TheVariants.{Keys}
use Rattle.flat_binary.proofs.KeyLemmas.{entry_named, key_named, keys_begin}
use Rattle.flat_binary.proofs.keys.keys_iter.Goals as goal

pub returns-clause-begins : goal.returns-clause-begins
returns-clause-begins g c =
    let supply = supply_of g.I.Pages.to_come g.I.Pages.causes g.I.Pages.row_count g.I.Pages.lent_count c.args.pages in
    let left = array_left g.I.Pages.to_come g.I.Pages.causes g.I.Pages.row_count g.I.Pages.lent_count in
    let key = c.in-Dictionary.key in
    let entry = c.get.result.now in
    let keyed : key_type c.args.data_type ≡ Some key = key_named c.args.data_type key c.in-Dictionary.entry c.in-Dictionary.field-2 c.in-Dictionary.is in
    let entries : entry_type c.args.data_type ≡ Some entry = entry_named c.args.data_type key c.in-Dictionary.entry entry c.in-Dictionary.field-2 c.in-Dictionary.is c.get.ensures in
    keys_begin left c.args.physical (option_copied c.args.logical) c.args.data_type c.args.chunk_size c.args.num_rows supply key entry c.in_ok-reader.reader (Ok (Keys c.in_ok-arrays.arrays)) keyed entries c.in_ok-reader.ensures.reads
    (record { begun = c.in_ok-arrays.ensures.begun; memory = tt })
