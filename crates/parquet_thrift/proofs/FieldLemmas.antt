-- Reading fields one after the other.
use Rattle.std.proofs.Common.{◌≡◌, ℕ, zero, suc, ◌≤◌, ℤ, List, [], ◌∷◌, Option, Some, None, refl, ap, arith, length}
use Rattle.parquet_base.specs.Reading.{Read, ◌>>=◌}
use Rattle.parquet_thrift.specs.Values.{Value, Fields, fields, Header, field_header, field_or_end, fields_within, fields_of}
use Rattle.parquet_thrift.proofs.Lengths.{NeverGrows, field_header-takes, bind-agree}

-- the fields after a header may be read otherwise, if that agrees on shorter bytes
pub field_or_end-agree : (value : ℕ → Read Value) → ((kind : ℕ) → NeverGrows (value kind)) → (others others' : ℤ → Read Fields) (header : Header) (bytes : List ℕ) →
    ((id : ℤ) (rest : List ℕ) → length rest ≤ length bytes → others id rest ≡ others' id rest) → field_or_end value others header bytes ≡ field_or_end value others' header bytes
field_or_end-agree value h others others' None bytes agree = refl
field_or_end-agree value h others others' (Some (id, kind)) bytes agree =
    bind-agree 0 bytes (value kind bytes) _ _ (h kind bytes) (λ x le. ap (λ (o : Option (Fields × List ℕ)). o >>= λ more. Some (fields id kind x.0 more.0, more.1)) (agree id x.1 (omega arith)))

-- more than the count of the bytes changes nothing
pub fields_within-enough : (value : ℕ → Read Value) → ((kind : ℕ) → NeverGrows (value kind)) → (n m : ℕ) (previous : ℤ) (bytes : List ℕ) →
    length bytes ≤ n → length bytes ≤ m → fields_within value n previous bytes ≡ fields_within value m previous bytes
unfolding fields_within field_header
fields_within-enough value h zero zero previous bytes le_n le_m = refl
fields_within-enough value h zero (suc m) previous [] le_n le_m = refl
fields_within-enough value h zero (suc m) previous (byte ∷ bytes) le_n le_m = absurd (omega arith)
fields_within-enough value h (suc n) zero previous [] le_n le_m = refl
fields_within-enough value h (suc n) zero previous (byte ∷ bytes) le_n le_m = absurd (omega arith)
fields_within-enough value h (suc n) (suc m) previous bytes le_n le_m =
    bind-agree 1 bytes (field_header previous bytes) _ _ (field_header-takes previous bytes) (λ x lt.
    field_or_end-agree value h (fields_within value n) (fields_within value m) x.0 x.1
    (λ id rest le. fields_within-enough value h n m id rest (omega arith) (omega arith)))

-- a header, and then a field or the end
pub fields_of-next : (value : ℕ → Read Value) → ((kind : ℕ) → NeverGrows (value kind)) → (previous : ℤ) (bytes : List ℕ) →
    fields_of value previous bytes ≡ (field_header previous bytes >>= λ header. field_or_end value (fields_of value) header.0 header.1)
unfolding fields_within field_header
fields_of-next value h previous [] = refl
fields_of-next value h previous (byte ∷ bytes) =
    bind-agree 1 (byte ∷ bytes) (field_header previous (byte ∷ bytes)) _ _ (field_header-takes previous (byte ∷ bytes)) (λ x lt.
    field_or_end-agree value h (fields_within value (length bytes)) (fields_of value) x.0 x.1
    (λ id rest le. fields_within-enough value h (length bytes) (length rest) id rest (omega arith) (omega arith)))
