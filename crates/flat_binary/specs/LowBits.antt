-- Which conversions take the low bits of stored numbers.
use Rattle.std.specs.Prelude.{Bool, true, false}
use Rattle.flat_values.specs.Conversion.{Conversion, Nulls, Keep, LowUnsigned, LowSigned, Scale, SinceEpoch, LowNanoseconds, BigEndian, Months, DaysAndMilliseconds, AsText}

abbrev pub takes_low_bits : Conversion → Bool
takes_low_bits Nulls = false
takes_low_bits Keep = false
takes_low_bits (LowUnsigned bits) = true
takes_low_bits (LowSigned width) = true
takes_low_bits (Scale factor is_product) = false
takes_low_bits (SinceEpoch unit) = false
takes_low_bits LowNanoseconds = false
takes_low_bits BigEndian = false
takes_low_bits Months = false
takes_low_bits DaysAndMilliseconds = false
takes_low_bits AsText = false
