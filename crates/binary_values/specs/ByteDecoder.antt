-- What a decoder of pages of byte strings decodes them as.
use Rattle.std.specs.Prelude.{Bool}
use Rattle.binary_values.specs.declared.binary_decoder.BinaryDecoder.{BinaryDecoder}

-- they are texts, and not byte strings as they are
abbrev pub are_texts : {O : Type 0} → BinaryDecoder O → Bool
are_texts decoder = decoder.decoder.values.is_text
