-- The encodings of the code as those of the format.
use Rattle.parquet_page.specs.Values.{Encoding, Plain, Keys, DeltaPacked, DeltaLengths}
use Rattle.flat_values.specs.declared.value_decoder.ValueEncoding.{ValueEncoding}
use Rattle.flat_values.specs.declared.value_decoder.ValueEncoding.TheVariants as read

abbrev pub as_encoding : ValueEncoding → Encoding
as_encoding read.Plain = Plain
as_encoding read.Keys = Keys
as_encoding read.DeltaPacked = DeltaPacked
as_encoding read.DeltaLengths = DeltaLengths
