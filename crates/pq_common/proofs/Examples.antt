-- Worked examples of the definitions.
use Rattle.std.proofs.Common.{◌≡◌, ◌^◌, refl, pos, neg_ℤ, false, [], ◌∷◌}
use Rattle.std.specs.Prelude.{codes, Some, None}
use Rattle.std.specs.Fmt.{digits}
use denote.Hole.Carrier
use Rattle.columns_core.specs.declared.cell.Cell.{DaysMs, Int, Text, Bytes}
use Rattle.columns_core.specs.declared.data_type.DataType as type
use Rattle.columns_core.specs.declared.data_type.IntegerType.TheVariants as key
use Rattle.columns_core.specs.declared.data_type.TimeUnit.TheVariants.{Millisecond}
use Rattle.pq_common.specs.CellText.{cell_text}
use Rattle.pq_common.specs.Spelled.{number, signed_number, spelled_type, spelled_value}

-- ---- numbers

greatest_count : number (codes "18446744073709551615") ≡ Some 18446744073709551615
greatest_count = refl

past_the_greatest : number (codes "18446744073709551616") ≡ None
past_the_greatest = refl

too_many_digits : number (codes "000000000000000000001") ≡ None
too_many_digits = refl

no_digits : number [] ≡ None
no_digits = refl

a_plus : number (codes "+5") ≡ None
a_plus = refl

least_number : signed_number (codes "-170141183460469231731687303715884105728") ≡ Some (neg_ℤ (pos (2 ^ 127)))
least_number = refl

past_127_bits : signed_number (codes "170141183460469231731687303715884105728") ≡ None
past_127_bits = refl

forty_digits : signed_number (codes "0000000000000000000000000000000000000001") ≡ None
forty_digits = refl

a_minus_alone : signed_number (codes "-") ≡ None
a_minus_alone = refl

-- ---- types

a_unit : spelled_type (codes "Timestamp(ms)") ≡ Some (type.Timestamp Millisecond None)
a_unit = refl

no_unit : spelled_type (codes "Time32(m)") ≡ None
no_unit = refl

no_argument : spelled_type (codes "Duration()") ≡ None
no_argument = refl

open_parenthesis : spelled_type (codes "FixedSizeBinary(16") ≡ None
open_parenthesis = refl

two_numbers : spelled_type (codes "Decimal(38,10)") ≡ Some (type.Decimal 38 10)
two_numbers = refl

decimals_by_keys : spelled_type (codes "Dictionary(UInt8,Decimal(5,2))") ≡ Some (type.Dictionary key.UInt8 (type.Decimal 5 2) false)
decimals_by_keys = refl

keys_of_keys : spelled_type (codes "Dictionary(Int8,Dictionary(Int8,Utf8))") ≡ None
keys_of_keys = refl

no_such_type : spelled_type (codes "Float32") ≡ None
no_such_type = refl

-- ---- values

least_byte : spelled_value type.Int8 (codes "-128") ≡ Some (Int (neg_ℤ (pos 128)))
unfolding type.out-DataType denote.Hole.Carrier.out
least_byte = refl

past_a_byte : spelled_value type.Int8 (codes "128") ≡ None
unfolding type.out-DataType denote.Hole.Carrier.out
past_a_byte = refl

empty_text : spelled_value type.Utf8 [] ≡ Some (Text [])
unfolding type.out-DataType denote.Hole.Carrier.out
empty_text = refl

no_bytes : spelled_value type.Binary (codes "0x") ≡ Some (Bytes [])
unfolding type.out-DataType denote.Hole.Carrier.out
no_bytes = refl

either_case : spelled_value (type.FixedSizeBinary 2) (codes "0xfFaB") ≡ Some (Bytes (255 ∷ 171 ∷ []))
unfolding type.out-DataType denote.Hole.Carrier.out
either_case = refl

half_a_byte : spelled_value type.Binary (codes "0x123") ≡ None
unfolding type.out-DataType denote.Hole.Carrier.out
half_a_byte = refl

no_truths : spelled_value type.Boolean (codes "true") ≡ None
unfolding type.out-DataType denote.Hole.Carrier.out
no_truths = refl

-- ---- cells

days : cell_text (DaysMs (pos 2) (neg_ℤ (pos 5))) ≡ codes "2/-5"
unfolding digits
days = refl
