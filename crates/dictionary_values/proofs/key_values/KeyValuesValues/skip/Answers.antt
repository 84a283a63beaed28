use Rattle.std.proofs.Common.{◌∙◌, Some, ap, map, sym}
use Rattle.std.proofs.lemmas.List.{drop-map}
use Rattle.flat_values.specs.KeysLeft.{keys}
use Rattle.flat_values.specs.Outcomes.{entry_outcome}
use Rattle.dictionary_values.specs.KeysGiven.{key_limit, numbers_below}
use Rattle.dictionary_values.proofs.key_values.KeyValuesValues.skip.Goals as goal

pub returns-clause-left : goal.returns-clause-left
returns-clause-left g c dict =
    let f = entry_outcome (Some (numbers_below (key_limit g.K.StoredKey.key_count dict))) in
    ap (map f) c.skip.ensures.rest ∙ sym (drop-map f c.args.count (keys c.args.place.now c.args.bytes.now))
