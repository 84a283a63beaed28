-- How many bytes reading takes at least.
use Rattle.std.proofs.Common.{◌≡◌, ℕ, zero, suc, ◌+◌, ◌/◌, ◌%◌, ◌^◌, ◌≤◌, ℤ, pos, ◌+ℤ◌, cond, List, [], ◌∷◌, Option, Some, None, refl, arith, length, take, drop, nat_eq, nat_lt, nat_le}
use Rattle.std.specs.Prelude.{int_le, ◌&&◌}
use Rattle.std.proofs.lemmas.List.{length-drop}
use Rattle.parquet_base.specs.Reading.{Read, ◌>>=◌, map_value, Takes}
use Rattle.parquet_base.proofs.TakeLemmas.{Takes-cond, Takes-map, Takes-from, Takes-bind, Takes-less, varint-takes}
use Rattle.parquet_base.specs.Varint.{varint, zigzag}
use Rattle.parquet_thrift.specs.Numbers.{signed, signed_byte, raw, bytes_of_length}
use Rattle.parquet_thrift.specs.Values.{Value, truth, number, double, binary, list, map, struct, Fields, Context, in_struct, in_list, Header, header_of, id_after, is_kind, field_header, list_header, list_header_of, map_header, map_header_of, elements, entries, field_or_end, fields_within, fields_of, list_truth, truth_at, value_with, value_within}

-- ---- numbers

pub signed-takes : (bits : ℕ) (bytes : List ℕ) → Takes 1 bytes (signed bits bytes)
unfolding signed
signed-takes bits bytes = Takes-bind 1 0 bytes (varint bytes) _ (varint-takes bytes) (λ x. Takes-cond 0 x.1 (nat_lt x.0 (2 ^ bits)) (Some (zigzag x.0, x.1)) None (omega arith) tt)

pub signed_byte-takes : (bytes : List ℕ) → Takes 1 bytes (signed_byte bytes)
unfolding signed_byte
signed_byte-takes [] = tt
signed_byte-takes (byte ∷ bytes) = omega arith

pub raw-takes : (count : ℕ) (bytes : List ℕ) → Takes 0 bytes (raw count bytes)
unfolding raw
raw-takes count bytes = Takes-cond 0 bytes (nat_lt (length bytes) count) None (Some (take count bytes, drop count bytes)) tt (omega (arith, length-drop count bytes))

pub bytes_of_length-takes : (bytes : List ℕ) → Takes 1 bytes (bytes_of_length bytes)
unfolding bytes_of_length
bytes_of_length-takes bytes = Takes-bind 1 0 bytes (varint bytes) _ (varint-takes bytes) (λ x. raw-takes x.0 x.1)

-- ---- headers

id_after-takes : (previous : ℤ) (step : ℕ) (bytes : List ℕ) → Takes 0 bytes (id_after previous step bytes)
id_after-takes previous zero bytes = Takes-less 1 0 bytes (signed 16 bytes) (omega arith) (signed-takes 16 bytes)
id_after-takes previous (suc step) bytes = Takes-cond 0 bytes (int_le (previous +ℤ pos (suc step)) (pos 32767)) (Some (previous +ℤ pos (suc step), bytes)) None (omega arith) tt

pub field_header-takes : (previous : ℤ) (bytes : List ℕ) → Takes 1 bytes (field_header previous bytes)
unfolding field_header
field_header-takes previous [] = tt
field_header-takes previous (zero ∷ bytes) = omega arith
field_header-takes previous (suc byte ∷ bytes) =
    Takes-from 1 0 (suc byte ∷ bytes) bytes (header_of (suc byte % 16) (id_after previous (suc byte / 16)) bytes) (omega arith)
    (Takes-cond 0 bytes (is_kind (suc byte % 16)) _ _
    (Takes-bind 0 0 bytes (id_after previous (suc byte / 16) bytes) _ (id_after-takes previous (suc byte / 16) bytes) (λ x. omega arith)) tt)

list_header_of-takes : (kind : ℕ) (bytes : List ℕ) (o : Option (ℕ × List ℕ)) → Takes 0 bytes o → Takes 0 bytes (list_header_of kind o)
list_header_of-takes kind bytes None p = tt
list_header_of-takes kind bytes (Some (zero, rest)) p = p
list_header_of-takes kind bytes (Some (suc count, rest)) p = Takes-cond 0 bytes (is_kind kind) (Some ((suc count, kind), rest)) None p tt

pub list_header-takes : (bytes : List ℕ) → Takes 1 bytes (list_header bytes)
unfolding list_header
list_header-takes [] = tt
list_header-takes (byte ∷ bytes) =
    Takes-from 1 0 (byte ∷ bytes) bytes (list_header_of (byte % 16) (cond (nat_eq (byte / 16) 15) (varint bytes) (Some (byte / 16, bytes)))) (omega arith)
    (list_header_of-takes (byte % 16) bytes _
    (Takes-cond 0 bytes (nat_eq (byte / 16) 15) (varint bytes) (Some (byte / 16, bytes)) (Takes-less 1 0 bytes (varint bytes) (omega arith) (varint-takes bytes)) (omega arith)))

map_header_of-takes : (bytes : List ℕ) (o : Option (ℕ × List ℕ)) → Takes 1 bytes o → Takes 1 bytes (map_header_of o)
map_header_of-takes bytes None p = tt
map_header_of-takes bytes (Some (zero, rest)) p = p
map_header_of-takes bytes (Some (suc count, [])) p = tt
map_header_of-takes bytes (Some (suc count, byte ∷ rest)) p =
    Takes-cond 1 bytes (is_kind (byte / 16) && is_kind (byte % 16)) (Some ((suc count, byte / 16, byte % 16), rest)) None (omega arith) tt

pub map_header-takes : (bytes : List ℕ) → Takes 1 bytes (map_header bytes)
unfolding map_header
map_header-takes bytes = map_header_of-takes bytes (varint bytes) (varint-takes bytes)

-- ---- values

abbrev pub NeverGrows : {A : Type 0} → Read A → Type 0
NeverGrows read = (bytes : List ℕ) → Takes 0 bytes (read bytes)

pub elements-takes : (element : Read Value) → NeverGrows element → (count : ℕ) (bytes : List ℕ) → Takes 0 bytes (elements element count bytes)
unfolding elements
elements-takes element h zero bytes = omega arith
elements-takes element h (suc count) bytes =
    Takes-bind 0 0 bytes (element bytes) _ (h bytes) (λ x. Takes-bind 0 0 x.1 (elements element count x.1) _ (elements-takes element h count x.1) (λ y. omega arith))

pub entries-takes : (key value : Read Value) → NeverGrows key → NeverGrows value → (count : ℕ) (bytes : List ℕ) → Takes 0 bytes (entries key value count bytes)
unfolding entries
entries-takes key value hk hv zero bytes = omega arith
entries-takes key value hk hv (suc count) bytes =
    Takes-bind 0 0 bytes (key bytes) _ (hk bytes) (λ x.
    Takes-bind 0 0 x.1 (value x.1) _ (hv x.1) (λ y.
    Takes-bind 0 0 y.1 (entries key value count y.1) _ (entries-takes key value hk hv count y.1) (λ z. omega arith)))

field_or_end-takes : (value : ℕ → Read Value) (others : ℤ → Read Fields) → ((kind : ℕ) → NeverGrows (value kind)) → ((id : ℤ) → NeverGrows (others id)) →
    (header : Header) (bytes : List ℕ) → Takes 0 bytes (field_or_end value others header bytes)
field_or_end-takes value others hv ho None bytes = omega arith
field_or_end-takes value others hv ho (Some (id, kind)) bytes =
    Takes-bind 0 0 bytes (value kind bytes) _ (hv kind bytes) (λ x. Takes-bind 0 0 x.1 (others id x.1) _ (ho id x.1) (λ y. omega arith))

pub fields_within-takes : (value : ℕ → Read Value) → ((kind : ℕ) → NeverGrows (value kind)) → (most : ℕ) (previous : ℤ) (bytes : List ℕ) → Takes 0 bytes (fields_within value most previous bytes)
unfolding fields_within
fields_within-takes value h zero previous bytes = tt
fields_within-takes value h (suc most) previous bytes =
    Takes-bind 0 0 bytes (field_header previous bytes) _ (Takes-less 1 0 bytes (field_header previous bytes) (omega arith) (field_header-takes previous bytes))
    (λ x. field_or_end-takes value (fields_within value most) h (λ id rest. fields_within-takes value h most id rest) x.0 x.1)

-- what follows a read may count on its bytes being fewer
pub bind-agree : {A B : Type 0} (k : ℕ) (bytes : List ℕ) (o : Option (A × List ℕ)) (f g : A × List ℕ → Option (B × List ℕ)) → Takes k bytes o →
    ((x : A × List ℕ) → k + length x.1 ≤ length bytes → f x ≡ g x) → (o >>= f) ≡ (o >>= g)
bind-agree k bytes None f g p agree = refl
bind-agree k bytes (Some x) f g p agree = agree x p

list_truth-takes : (bytes : List ℕ) → Takes 1 bytes (list_truth bytes)
unfolding list_truth
list_truth-takes [] = tt
list_truth-takes (byte ∷ bytes) = Takes-cond 1 (byte ∷ bytes) (nat_le byte 2) (Some (nat_eq byte 1, bytes)) None (omega arith) tt

truth_at-takes : (context : Context) (kind : ℕ) (bytes : List ℕ) → Takes 0 bytes (truth_at context kind bytes)
truth_at-takes in_struct kind bytes = omega arith
truth_at-takes in_list kind bytes = Takes-map 0 bytes truth (list_truth bytes) (Takes-less 1 0 bytes (list_truth bytes) (omega arith) (list_truth-takes bytes))

value_with-takes : (inner : Context → ℕ → Read Value) → ((context : Context) (kind : ℕ) → NeverGrows (inner context kind)) →
    (context : Context) (kind : ℕ) (bytes : List ℕ) → Takes 0 bytes (value_with inner context kind bytes)
value_with-takes inner h context kind bytes =
    Takes-cond 0 bytes (nat_le kind 2) _ _ (truth_at-takes context kind bytes)
    (Takes-cond 0 bytes (nat_eq kind 3) _ _ (Takes-map 0 bytes number (signed_byte bytes) (Takes-less 1 0 bytes (signed_byte bytes) (omega arith) (signed_byte-takes bytes)))
    (Takes-cond 0 bytes (nat_eq kind 4) _ _ (numbers 16)
    (Takes-cond 0 bytes (nat_eq kind 5) _ _ (numbers 32)
    (Takes-cond 0 bytes (nat_eq kind 6) _ _ (numbers 64)
    (Takes-cond 0 bytes (nat_eq kind 7) _ _ (Takes-map 0 bytes double (raw 8 bytes) (raw-takes 8 bytes))
    (Takes-cond 0 bytes (nat_eq kind 8) _ _ (Takes-map 0 bytes binary (bytes_of_length bytes) (Takes-less 1 0 bytes (bytes_of_length bytes) (omega arith) (bytes_of_length-takes bytes)))
    (Takes-cond 0 bytes (nat_le kind 10) _ _
    (Takes-bind 0 0 bytes (list_header bytes) _ (Takes-less 1 0 bytes (list_header bytes) (omega arith) (list_header-takes bytes))
    (λ x. Takes-map 0 x.1 (list x.0.1) (elements (inner in_list x.0.1) x.0.0 x.1) (elements-takes (inner in_list x.0.1) (h in_list x.0.1) x.0.0 x.1)))
    (Takes-cond 0 bytes (nat_eq kind 11) _ _
    (Takes-bind 0 0 bytes (map_header bytes) _ (Takes-less 1 0 bytes (map_header bytes) (omega arith) (map_header-takes bytes))
    (λ x. Takes-map 0 x.1 map (entries (inner in_list x.0.1) (inner in_list x.0.2) x.0.0 x.1)
    (entries-takes (inner in_list x.0.1) (inner in_list x.0.2) (h in_list x.0.1) (h in_list x.0.2) x.0.0 x.1)))
    (Takes-map 0 bytes struct (fields_of (inner in_struct) (pos 0) bytes) (fields_within-takes (inner in_struct) (h in_struct) (length bytes) (pos 0) bytes))))))))))
  where
    numbers : (bits : ℕ) → Takes 0 bytes (map_value number (signed bits bytes))
    numbers bits = Takes-map 0 bytes number (signed bits bytes) (Takes-less 1 0 bytes (signed bits bytes) (omega arith) (signed-takes bits bytes))

pub value_within-takes : (depth : ℕ) (context : Context) (kind : ℕ) → NeverGrows (value_within depth context kind)
unfolding value_within
value_within-takes zero context kind bytes = tt
value_within-takes (suc depth) context kind bytes =
    Takes-cond 0 bytes (is_kind kind) _ _ (value_with-takes (value_within depth) (λ c k. value_within-takes depth c k) context kind bytes) tt
