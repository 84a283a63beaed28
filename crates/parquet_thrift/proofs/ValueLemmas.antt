-- What the bytes of each kind of value spell.
use Rattle.std.proofs.Common.{◌≡◌, ℕ, suc, ℤ, pos, List, None, cond, refl, arith, length}
use Rattle.parquet_base.specs.Reading.{◌>>=◌, map_value}
use Rattle.parquet_thrift.specs.Numbers.{signed, bytes_of_length}
use Rattle.parquet_thrift.specs.Values.{number, binary, list, struct, Context, in_struct, in_list, field_header, is_kind, list_header, elements, field_or_end, fields_of, value_with, value_within, value}
use Rattle.parquet_thrift.proofs.Lengths.{NeverGrows, value_within-takes}
use Rattle.parquet_thrift.proofs.FieldLemmas.{fields_of-next}
use Rattle.parquet_thrift.proofs.Depths.{both_cond, value_with-agree, value_within-enough}

pub value-takes : (context : Context) (kind : ℕ) → NeverGrows (value context kind)
unfolding value
value-takes context kind bytes = value_within-takes (suc (length bytes)) context kind bytes

pub value-i32 : (context : Context) (bytes : List ℕ) → value context 5 bytes ≡ map_value number (signed 32 bytes)
unfolding value value_within
value-i32 context bytes = refl

pub value-i64 : (context : Context) (bytes : List ℕ) → value context 6 bytes ≡ map_value number (signed 64 bytes)
unfolding value value_within
value-i64 context bytes = refl

pub value-binary : (context : Context) (bytes : List ℕ) → value context 8 bytes ≡ map_value binary (bytes_of_length bytes)
unfolding value value_within
value-binary context bytes = refl

-- a value, where other values in it are read in the same way
pub value-next : (context : Context) (kind : ℕ) (bytes : List ℕ) → value context kind bytes ≡ cond (is_kind kind) (value_with value context kind bytes) None
unfolding value value_within
value-next context kind bytes =
    both_cond (is_kind kind) _ _ _ _
    (value_with-agree (value_within (length bytes)) value (value_within-takes (length bytes)) context kind bytes
    (λ c k rest lt. value_within-enough (length bytes) (suc (length rest)) c k rest (omega arith) (omega arith))) refl

pub value-list : (context : Context) (bytes : List ℕ) →
    value context 9 bytes ≡ (list_header bytes >>= λ header. map_value (list header.0.1) (elements (value in_list header.0.1) header.0.0 header.1))
value-list context bytes = value-next context 9 bytes

pub value-struct : (context : Context) (bytes : List ℕ) → value context 12 bytes ≡ map_value struct (fields_of (value in_struct) (pos 0) bytes)
value-struct context bytes = value-next context 12 bytes

-- a header, and then a field or the end
pub fields-next : (previous : ℤ) (bytes : List ℕ) →
    fields_of (value in_struct) previous bytes ≡ (field_header previous bytes >>= λ header. field_or_end (value in_struct) (fields_of (value in_struct)) header.0 header.1)
fields-next previous bytes = fields_of-next (value in_struct) (value-takes in_struct) previous bytes
