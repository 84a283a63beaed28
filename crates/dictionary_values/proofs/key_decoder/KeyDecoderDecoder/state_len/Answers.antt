use Rattle.std.proofs.Common.{◌∙◌, arith, sym}
use Rattle.page_decoding.specs.FilteredLeft.{filtered_steps}
use Rattle.flat_values.specs.FlatLeft.{value_bytes, values_left}
use Rattle.flat_values.proofs.WordLemmas.{length-given}
use Rattle.dictionary_values.specs.KeysGiven.{keys_given}
use Rattle.dictionary_values.proofs.key_decoder.KeyDecoderDecoder.state_len.Goals as goal

pub returns : goal.returns
returns g c dict page is =
    let state = c.args.state.now in
    let values = values_left (keys_given g.K.StoredKey.key_count dict (value_bytes page)) state.values in
    c.len.ensures page is.page_is ∙ sym (length-given (filtered_steps state.walk page) values (omega (arith, is.enough)))
