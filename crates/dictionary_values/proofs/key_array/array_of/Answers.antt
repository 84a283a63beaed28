use Rattle.std.proofs.Common.{◌≡◌, ◌∙◌, List, Option, ap, map, subst, sym}
use Rattle.std.proofs.lemmas.Result.{IfOk-weaker}
use Rattle.columns_core.specs.Array.{cells}
use Rattle.columns_core.specs.Entries.{NameEntries}
use Rattle.columns_core.specs.Keyed.{keyed_cells, named_cells}
use Rattle.flat_values.specs.Decoded.{marked}
use Rattle.dictionary_values.specs.Keys.{key_cells, named_cell}
use Rattle.dictionary_values.proofs.ArrayLemmas.{handed, handed-fits, name-keys, named-keys}
use Rattle.dictionary_values.proofs.key_array.array_of.Goals as goal

pub of_keys-requires-clause-fits : goal.of_keys-requires-clause-fits
of_keys-requires-clause-fits g c =
    handed-fits c.args.chunk.keys.items c.args.chunk.validity c.freeze_mask-mask.result c.freeze_mask-mask.ensures c.requires.own

pub of_keys-requires-clause-named : goal.of_keys-requires-clause-named
of_keys-requires-clause-named g c =
    let number = g.K.DictionaryKey.number in
    let entries = cells c.args.entries.now in
    let keys = c.args.chunk.keys.items in
    let mask = c.args.chunk.validity in
    let P : List (Option g.row.K.Denot) → Type 0 = NameEntries number entries in
    subst P (sym (handed keys mask c.freeze_mask-mask.result c.freeze_mask-mask.ensures c.requires.own)) (name-keys number entries (marked keys mask) c.requires.named)

pub returns-clause-cells : goal.returns-clause-cells
returns-clause-cells g c =
    let number = g.K.DictionaryKey.number in
    let entries = cells c.args.entries.now in
    let keys = c.args.chunk.keys.items in
    let mask = c.args.chunk.validity in
    let same = handed keys mask c.freeze_mask-mask.result c.freeze_mask-mask.ensures c.requires.own in
    IfOk-weaker c.of_keys.result _ (λ array. named_cells array ≡ map (named_cell entries) (key_cells number keys mask))
    (λ array e. e ∙ ap (keyed_cells number entries) same ∙ named-keys number entries (marked keys mask)) c.of_keys.ensures.cells
