-- What is read stands at the front of the bytes.
use Rattle.std.proofs.Common.{◌≡◌, ℕ, zero, suc, ◌+◌, ◌-◌, ◌/◌, ◌%◌, ◌^◌, ◌≤◌, ◌<◌, ℤ, pos, negsuc, ◌+ℤ◌, Bool, true, false, cond, List, [], ◌∷◌, ◌++◌, Option, Some, None, refl, sym, ap, subst, ◌∙◌, arith, length, take, drop, nat_eq, nat_lt, nat_le, inl, inr, append_assoc, length-append}
use Rattle.std.specs.Prelude.{int_le, ◌&&◌, IfSome}
use Rattle.std.proofs.lemmas.Bool.{cases_lt, lt-ltb, le-ltb, lt-leb, le-leb}
use Rattle.std.proofs.lemmas.List.{length-take, take-append-drop, append_cancel_right}
use Rattle.std.proofs.Math.Seq.{take-append_seam, drop-append_seam}
use Rattle.parquet_base.specs.Reading.{Read, ◌>>=◌, given, map_value, IsEnd, Takes}
use Rattle.parquet_base.proofs.EndLemmas.{IsEnd_drop}
use Rattle.parquet_base.specs.Varint.{varint_within, varint, zigzag}
use Rattle.parquet_thrift.specs.Front.{IsAtFront, ReadsFront, SpellsOnce}
use Rattle.parquet_thrift.specs.Numbers.{signed, signed_byte, raw, bytes_of_length}
use Rattle.parquet_thrift.specs.Values.{Value, truth, number, double, binary, list, map, struct, Values, no_values, values, Fields, no_fields, fields, Context, in_struct, in_list, Header, header_of, id_after, is_kind, field_header, list_header, list_header_of, list_start, map_header, map_header_of, elements, entries, field_or_end, fields_within, fields_of, list_truth, truth_at, value_with, value_within, value}
use Rattle.parquet_thrift.proofs.Lengths.{NeverGrows}
use Rattle.parquet_thrift.proofs.FieldLemmas.{fields_of-next}
use Rattle.parquet_thrift.proofs.ValueLemmas.{value-takes, value-next, value-list}

-- what was read from the bytes is read from a front of them, of so many bytes at least
abbrev pub FrontOf : {A : Type 0} → ℕ → Read A → List ℕ → Option (A × List ℕ) → Type 0
FrontOf least read bytes o = IfSome o (IsAtFront read least bytes)

-- ---- how reads are put together

pub front-less : {A : Type 0} (j k : ℕ) (read : Read A) (bytes : List ℕ) (o : Option (A × List ℕ)) → k ≤ j → FrontOf j read bytes o → FrontOf k read bytes o
front-less j k read bytes None le p = tt
front-less j k read bytes (Some x) le p = record { front = p.front; whole = p.whole; some = omega (arith, p.some); same = p.same }

-- the same read in other words
pub front-along : {A : Type 0} (k : ℕ) (read other : Read A) (bytes : List ℕ) (o : Option (A × List ℕ)) → ((bs : List ℕ) → other bs ≡ read bs) → FrontOf k read bytes o → FrontOf k other bytes o
front-along k read other bytes None e p = tt
front-along k read other bytes (Some x) e p = record { front = p.front; whole = p.whole; some = p.some; same = λ more. e (p.front ++ more) ∙ p.same more }

-- a read that takes nothing
pub front-nothing : {A : Type 0} (read : Read A) (bytes : List ℕ) (x : A) → ((bs : List ℕ) → read bs ≡ Some (x, bs)) → FrontOf 0 read bytes (Some (x, bytes))
front-nothing read bytes x e = record { front = []; whole = refl; some = omega arith; same = e }

-- a byte, and then another read
pub front-byte : {A : Type 0} (k : ℕ) (read behind : Read A) (byte : ℕ) (bytes : List ℕ) (o : Option (A × List ℕ)) → ((bs : List ℕ) → read (byte ∷ bs) ≡ behind bs) → FrontOf k behind bytes o →
    FrontOf (suc k) read (byte ∷ bytes) o
front-byte k read behind byte bytes None e p = tt
front-byte k read behind byte bytes (Some x) e p = record {
  front = byte ∷ p.front;
  whole = ap (λ (bs : List ℕ). byte ∷ bs) p.whole;
  some = omega (arith, p.some);
  same = λ more. e (p.front ++ more) ∙ p.same more;
}

-- something of the value, with the same bytes after it
pub front-through : {A B : Type 0} (k : ℕ) (read : Read A) (change : Option (A × List ℕ) → Option (B × List ℕ)) (bytes : List ℕ) (x : A × List ℕ) (y : B) →
    ((rest : List ℕ) → change (Some (x.0, rest)) ≡ Some (y, rest)) → IsAtFront read k bytes x → IsAtFront (λ bs. change (read bs)) k bytes (y, x.1)
front-through k read change bytes x y e p = record {
  front = p.front;
  whole = p.whole;
  some = p.some;
  same = λ more. ap change (p.same more) ∙ e more;
}

pub front-map : {A B : Type 0} (k : ℕ) (read : Read A) (bytes : List ℕ) (f : A → B) (o : Option (A × List ℕ)) → FrontOf k read bytes o → FrontOf k (λ bs. map_value f (read bs)) bytes (map_value f o)
front-map k read bytes f None p = tt
front-map k read bytes f (Some x) p = front-through k read (map_value f) bytes x (f x.0) (λ rest. refl) p

pub front-cond : {A : Type 0} (k : ℕ) (read other : Read A) (bytes : List ℕ) (b : Bool) (x y : Option (A × List ℕ)) → FrontOf k read bytes x → FrontOf k other bytes y →
    FrontOf k (λ bs. cond b (read bs) (other bs)) bytes (cond b x y)
front-cond k read other bytes true x y p q = p
front-cond k read other bytes false x y p q = q

-- a value, where a test of it holds
pub front-given : {A : Type 0} (bytes : List ℕ) (b : Bool) (x : A) → FrontOf 0 (λ bs. cond b (Some (x, bs)) None) bytes (cond b (Some (x, bytes)) None)
front-given bytes true x = front-nothing _ bytes x (λ bs. refl)
front-given bytes false x = tt

front-then : {A B : Type 0} (j k : ℕ) (read : Read A) (next : A → Read B) (bytes : List ℕ) (x : A × List ℕ) (o : Option (B × List ℕ)) → IsAtFront read j bytes x → FrontOf k (next x.0) x.1 o →
    FrontOf (j + k) (λ bs. read bs >>= λ y. next y.0 y.1) bytes o
front-then j k read next bytes x None p q = tt
front-then {A = A} j k read next bytes x (Some y) p q = record {
  front = p.front ++ q.front;
  whole = p.whole ∙ ap (λ (rest : List ℕ). p.front ++ rest) q.whole ∙ sym (append_assoc p.front q.front y.1);
  some = omega (arith, length-append p.front q.front, p.some, q.some);
  same = λ more.
      ap (λ (bs : List ℕ). read bs >>= λ z. next z.0 z.1) (append_assoc p.front q.front more)
      ∙ ap (λ (o : Option (A × List ℕ)). o >>= λ z. next z.0 z.1) (p.same (q.front ++ more)) ∙ q.same more;
}

-- one read, and then another that depends on its value
pub front-bind : {A B : Type 0} (j k : ℕ) (read : Read A) (next : A → Read B) (bytes : List ℕ) (o : Option (A × List ℕ)) (f : A × List ℕ → Option (B × List ℕ)) → FrontOf j read bytes o →
    ((x : A × List ℕ) → FrontOf k (next x.0) x.1 (f x)) → FrontOf (j + k) (λ bs. read bs >>= λ y. next y.0 y.1) bytes (o >>= f)
front-bind j k read next bytes None f p q = tt
front-bind j k read next bytes (Some x) f p q = front-then j k read next bytes x (f x) p (q x)

-- ---- numbers

varint_within-front : (most : ℕ) → ReadsFront 1 (varint_within most)
unfolding varint_within
varint_within-front zero bytes = tt
varint_within-front (suc most) [] = tt
varint_within-front (suc most) (byte ∷ bytes) =
    front-byte 0 (varint_within (suc most)) (λ bs. cond (nat_lt byte 128) (Some (byte, bs)) (map_value _ (varint_within most bs))) byte bytes _ (λ bs. refl)
    (front-cond 0 _ _ bytes (nat_lt byte 128) _ _ (front-nothing _ bytes byte (λ bs. refl))
    (front-less 1 0 _ bytes _ (omega arith) (front-map 1 (varint_within most) bytes _ (varint_within most bytes) (varint_within-front most bytes))))

pub varint-front : ReadsFront 1 varint
unfolding varint
varint-front bytes = front-bind 1 0 (varint_within 10) (λ n rest. cond (nat_lt n (2 ^ 64)) (Some (n, rest)) None) bytes (varint_within 10 bytes) _ (varint_within-front 10 bytes) (λ x. front-given x.1 (nat_lt x.0 (2 ^ 64)) x.0)

pub signed-front : (bits : ℕ) → ReadsFront 1 (signed bits)
unfolding signed
signed-front bits bytes =
    front-bind 1 0 varint (λ n rest. cond (nat_lt n (2 ^ bits)) (Some (zigzag n, rest)) None) bytes (varint bytes) _ (varint-front bytes) (λ x. front-given x.1 (nat_lt x.0 (2 ^ bits)) (zigzag x.0))

pub signed_byte-front : ReadsFront 1 signed_byte
unfolding signed_byte
signed_byte-front [] = tt
signed_byte-front (byte ∷ bytes) =
    let number : ℤ = cond (nat_lt byte 128) (pos byte) (negsuc (255 - byte)) in
    front-byte 0 signed_byte (λ bs. Some (number, bs)) byte bytes (Some (number, bytes)) (λ bs. refl) (front-nothing (λ bs. Some (number, bs)) bytes number (λ bs. refl))

raw-of : (front more : List ℕ) (count : ℕ) → length front ≡ count → raw count (front ++ more) ≡ Some (front, more)
unfolding raw
raw-of front more count e =
    let all : count ≤ length (front ++ more) = omega (arith, length-append front more) in
    rw (le-ltb (length (front ++ more)) count all, ← e, take-append_seam front more, drop-append_seam front more) refl

pub raw-front : (count : ℕ) → ReadsFront count (raw count)
unfolding raw
raw-front count bytes = elim (cases_lt (length bytes) count) [
  | inl lt ↦ rw (lt-ltb (length bytes) count lt) tt
  | inr le ↦
      let whole : length (take count bytes) ≡ count = omega (arith, length-take count bytes) in
      rw (le-ltb (length bytes) count le) (record {
        front = take count bytes;
        whole = sym (take-append-drop count bytes);
        some = omega arith;
        same = λ more. raw-of (take count bytes) more count whole;
      })
]

pub bytes_of_length-front : ReadsFront 1 bytes_of_length
unfolding bytes_of_length
bytes_of_length-front bytes =
    front-bind 1 0 varint raw bytes (varint bytes) _ (varint-front bytes) (λ x. front-less x.0 0 (raw x.0) x.1 (raw x.0 x.1) (omega arith) (raw-front x.0 x.1))

pub list_truth-front : ReadsFront 1 list_truth
unfolding list_truth
list_truth-front [] = tt
list_truth-front (byte ∷ bytes) = front-byte 0 list_truth _ byte bytes _ (λ bs. refl) (front-given bytes (nat_le byte 2) (nat_eq byte 1))

-- ---- headers

id_after-front : (previous : ℤ) (step : ℕ) → ReadsFront 0 (id_after previous step)
id_after-front previous zero bytes = front-less 1 0 (signed 16) bytes (signed 16 bytes) (omega arith) (signed-front 16 bytes)
id_after-front previous (suc step) bytes = front-given bytes (int_le (previous +ℤ pos (suc step)) (pos 32767)) (previous +ℤ pos (suc step))

pub field_header-front : (previous : ℤ) → ReadsFront 1 (field_header previous)
unfolding field_header
field_header-front previous [] = tt
field_header-front previous (zero ∷ bytes) =
    front-byte 0 (field_header previous) (λ bs. Some (None, bs)) zero bytes (Some (None, bytes)) (λ bs. refl) (front-nothing {A = Header} (λ bs. Some (None, bs)) bytes None (λ bs. refl))
field_header-front previous (suc byte ∷ bytes) =
    front-byte 0 (field_header previous) (header_of (suc byte % 16) (id_after previous (suc byte / 16))) (suc byte) bytes _ (λ bs. refl)
    (front-cond 0 _ _ bytes (is_kind (suc byte % 16)) _ _
    (front-bind 0 0 (id_after previous (suc byte / 16)) (λ n rest. Some (Some (n, suc byte % 16), rest)) bytes (id_after previous (suc byte / 16) bytes) _
    (id_after-front previous (suc byte / 16) bytes) (λ x. front-nothing _ x.1 (Some (x.0, suc byte % 16)) (λ bs. refl))) tt)

list_header_of-front : (kind : ℕ) (read : Read ℕ) (bytes : List ℕ) (o : Option (ℕ × List ℕ)) → FrontOf 0 read bytes o → FrontOf 0 (λ bs. list_header_of kind (read bs)) bytes (list_header_of kind o)
list_header_of-front kind read bytes None p = tt
list_header_of-front kind read bytes (Some (zero, rest)) p = front-through 0 read (list_header_of kind) bytes (0, rest) (0, kind) (λ r. refl) p
list_header_of-front kind read bytes (Some (suc count, rest)) p = by_kind (is_kind kind) refl
  where
    by_kind : (b : Bool) → is_kind kind ≡ b → FrontOf 0 (λ bs. list_header_of kind (read bs)) bytes (cond b (Some ((suc count, kind), rest)) None)
    by_kind false e = tt
    by_kind true e = front-through 0 read (list_header_of kind) bytes (suc count, rest) (suc count, kind) (λ r. rw e refl) p

pub list_header-front : ReadsFront 1 list_header
unfolding list_header
list_header-front [] = tt
list_header-front (byte ∷ bytes) =
    front-byte 0 list_header (λ bs. list_header_of (byte % 16) (cond (nat_eq (byte / 16) 15) (varint bs) (Some (byte / 16, bs)))) byte bytes _ (λ bs. refl)
    (list_header_of-front (byte % 16) (λ bs. cond (nat_eq (byte / 16) 15) (varint bs) (Some (byte / 16, bs))) bytes _
    (front-cond 0 varint _ bytes (nat_eq (byte / 16) 15) _ _ (front-less 1 0 varint bytes (varint bytes) (omega arith) (varint-front bytes)) (front-nothing _ bytes (byte / 16) (λ bs. refl))))

-- the kinds behind the count of a map
abbrev kinds_behind : ℕ → Read (ℕ × ℕ × ℕ)
kinds_behind count bytes = map_header_of (Some (count, bytes))

kinds_behind-front : (count : ℕ) → ReadsFront 0 (kinds_behind count)
kinds_behind-front zero bytes = front-nothing (kinds_behind 0) bytes (0, 0, 0) (λ bs. refl)
kinds_behind-front (suc count) [] = tt
kinds_behind-front (suc count) (byte ∷ bytes) =
    front-less 1 0 (kinds_behind (suc count)) (byte ∷ bytes) _ (omega arith)
    (front-byte 0 (kinds_behind (suc count)) _ byte bytes _ (λ bs. refl) (front-given bytes (is_kind (byte / 16) && is_kind (byte % 16)) (suc count, byte / 16, byte % 16)))

map_header_of-bind : (o : Option (ℕ × List ℕ)) → map_header_of o ≡ (o >>= λ n. kinds_behind n.0 n.1)
map_header_of-bind None = refl
map_header_of-bind (Some n) = refl

pub map_header-front : ReadsFront 1 map_header
unfolding map_header
map_header-front bytes =
    subst (FrontOf 1 map_header bytes) (sym (map_header_of-bind (varint bytes)))
    (front-along 1 (λ bs. varint bs >>= λ n. kinds_behind n.0 n.1) map_header bytes _ (λ bs. map_header_of-bind (varint bs))
    (front-bind 1 0 varint kinds_behind bytes (varint bytes) _ (varint-front bytes) (λ x. kinds_behind-front x.0 x.1)))

-- ---- values, which another read reads in the same way

elements-front : (element read : Read Value) → ((bs : List ℕ) → FrontOf 1 read bs (element bs)) → (count : ℕ) (bytes : List ℕ) → FrontOf count (elements read count) bytes (elements element count bytes)
unfolding elements
elements-front element read h zero bytes = front-nothing (elements read 0) bytes no_values (λ bs. refl)
elements-front element read h (suc count) bytes =
    front-less (1 + (count + 0)) (suc count) (elements read (suc count)) bytes _ (omega arith)
    (front-bind 1 (count + 0) read (λ v rest. elements read count rest >>= λ others. Some (values v others.0, others.1)) bytes (element bytes) _ (h bytes) (λ x.
    front-bind count 0 (elements read count) (λ others rest. Some (values x.0 others, rest)) x.1 (elements element count x.1) _ (elements-front element read h count x.1) (λ y.
    front-nothing _ y.1 (values x.0 y.0) (λ bs. refl))))

entries-front : (key value' key' read : Read Value) → ((bs : List ℕ) → FrontOf 1 key' bs (key bs)) → ((bs : List ℕ) → FrontOf 1 read bs (value' bs)) → (count : ℕ) (bytes : List ℕ) →
    FrontOf 0 (entries key' read count) bytes (entries key value' count bytes)
unfolding entries
entries-front key value' key' read hk hv zero bytes = front-nothing (entries key' read 0) bytes no_values (λ bs. refl)
entries-front key value' key' read hk hv (suc count) bytes =
    front-less (1 + (1 + (0 + 0))) 0 (entries key' read (suc count)) bytes _ (omega arith)
    (front-bind 1 (1 + (0 + 0)) key' (λ k rest. read rest >>= λ v. entries key' read count v.1 >>= λ others. Some (values k (values v.0 others.0), others.1)) bytes (key bytes) _ (hk bytes) (λ x.
    front-bind 1 (0 + 0) read (λ v rest. entries key' read count rest >>= λ others. Some (values x.0 (values v others.0), others.1)) x.1 (value' x.1) _ (hv x.1) (λ y.
    front-bind 0 0 (entries key' read count) (λ others rest. Some (values x.0 (values y.0 others), rest)) y.1 (entries key value' count y.1) _ (entries-front key value' key' read hk hv count y.1) (λ z.
    front-nothing _ z.1 (values x.0 (values y.0 z.0)) (λ bs. refl)))))

module _ (value' read : ℕ → Read Value) (grows : (kind : ℕ) → NeverGrows (read kind)) (same : (kind : ℕ) (bs : List ℕ) → FrontOf 0 (read kind) bs (value' kind bs)) where
  field-front : (others : ℤ → Read Fields) → ((id : ℤ) (bs : List ℕ) → FrontOf 1 (fields_of read id) bs (others id bs)) → (header : Header) (bytes : List ℕ) →
      FrontOf 0 (field_or_end read (fields_of read) header) bytes (field_or_end value' others header bytes)
  field-front others h None bytes = front-nothing (field_or_end read (fields_of read) None) bytes no_fields (λ bs. refl)
  field-front others h (Some (id, kind)) bytes =
      front-less (0 + (1 + 0)) 0 (field_or_end read (fields_of read) (Some (id, kind))) bytes _ (omega arith)
      (front-bind 0 (1 + 0) (read kind) (λ v rest. fields_of read id rest >>= λ more. Some (fields id kind v more.0, more.1)) bytes (value' kind bytes) _ (same kind bytes) (λ x.
      front-bind 1 0 (fields_of read id) (λ more rest. Some (fields id kind x.0 more, rest)) x.1 (others id x.1) _ (h id x.1) (λ y.
      front-nothing _ y.1 (fields id kind x.0 y.0) (λ bs. refl))))

  fields_within-front : (most : ℕ) (previous : ℤ) (bytes : List ℕ) → FrontOf 1 (fields_of read previous) bytes (fields_within value' most previous bytes)
  unfolding fields_within
  fields_within-front zero previous bytes = tt
  fields_within-front (suc most) previous bytes =
      front-along (1 + 0) (λ bs. field_header previous bs >>= λ header. field_or_end read (fields_of read) header.0 header.1) (fields_of read previous) bytes _ (fields_of-next read grows previous)
      (front-bind 1 0 (field_header previous) (field_or_end read (fields_of read)) bytes (field_header previous bytes) _ (field_header-front previous bytes)
      (λ x. field-front (fields_within value' most) (fields_within-front most) x.0 x.1))

-- a truth value that is a field takes no byte
abbrev pub least : Context → ℕ
least in_struct = 0
least in_list = 1

truth_at-front : (context : Context) (kind : ℕ) → ReadsFront (least context) (truth_at context kind)
truth_at-front in_struct kind bytes = front-nothing (truth_at in_struct kind) bytes (truth (nat_eq kind 1)) (λ bs. refl)
truth_at-front in_list kind bytes = front-map 1 list_truth bytes truth (list_truth bytes) (list_truth-front bytes)

least-one : (context : Context) → least context ≤ 1
least-one in_struct = omega arith
least-one in_list = omega arith

value_with-front : (inner read : Context → ℕ → Read Value) → ((kind : ℕ) → NeverGrows (read in_struct kind)) →
    ((c : Context) (k : ℕ) (bs : List ℕ) → FrontOf (least c) (read c k) bs (inner c k bs)) → (context : Context) (kind : ℕ) (bytes : List ℕ) →
    FrontOf (least context) (value_with read context kind) bytes (value_with inner context kind bytes)
value_with-front inner read grows h context kind bytes =
    front-cond k _ _ bytes (nat_le kind 2) _ _ (truth_at-front context kind bytes)
    (front-cond k _ _ bytes (nat_eq kind 3) _ _ (mapped signed_byte number (signed_byte-front bytes))
    (front-cond k _ _ bytes (nat_eq kind 4) _ _ (mapped (signed 16) number (signed-front 16 bytes))
    (front-cond k _ _ bytes (nat_eq kind 5) _ _ (mapped (signed 32) number (signed-front 32 bytes))
    (front-cond k _ _ bytes (nat_eq kind 6) _ _ (mapped (signed 64) number (signed-front 64 bytes))
    (front-cond k _ _ bytes (nat_eq kind 7) _ _ (mapped (raw 8) double (front-less 8 1 (raw 8) bytes (raw 8 bytes) (omega arith) (raw-front 8 bytes)))
    (front-cond k _ _ bytes (nat_eq kind 8) _ _ (mapped bytes_of_length binary (bytes_of_length-front bytes))
    (front-cond k _ _ bytes (nat_le kind 10) _ _ (lowered _ _ lists)
    (front-cond k _ _ bytes (nat_eq kind 11) _ _ (lowered _ _ maps)
    (lowered _ _ (front-map 1 (fields_of (read in_struct) (pos 0)) bytes struct (fields_of (inner in_struct) (pos 0) bytes)
    (fields_within-front (inner in_struct) (read in_struct) grows (h in_struct) (length bytes) (pos 0) bytes)))))))))))
  where
    k : ℕ
    k = least context

    lowered : {A : Type 0} (r : Read A) (o : Option (A × List ℕ)) → FrontOf 1 r bytes o → FrontOf (least context) r bytes o
    lowered r o p = front-less 1 (least context) r bytes o (least-one context) p

    mapped : {A : Type 0} (r : Read A) (f : A → Value) → FrontOf 1 r bytes (r bytes) → FrontOf (least context) (λ bs. map_value f (r bs)) bytes (map_value f (r bytes))
    mapped r f p = lowered (λ bs. map_value f (r bs)) (map_value f (r bytes)) (front-map 1 r bytes f (r bytes) p)

    lists : FrontOf 1 (λ bs. list_header bs >>= λ header. map_value (list header.0.1) (elements (read in_list header.0.1) header.0.0 header.1)) bytes
        (list_header bytes >>= λ header. map_value (list header.0.1) (elements (inner in_list header.0.1) header.0.0 header.1))
    lists =
        front-bind 1 0 list_header (λ header rest. map_value (list header.1) (elements (read in_list header.1) header.0 rest)) bytes (list_header bytes) _ (list_header-front bytes) (λ x.
        front-less x.0.0 0 _ x.1 _ (omega arith)
        (front-map x.0.0 (elements (read in_list x.0.1) x.0.0) x.1 (list x.0.1) (elements (inner in_list x.0.1) x.0.0 x.1)
        (elements-front (inner in_list x.0.1) (read in_list x.0.1) (h in_list x.0.1) x.0.0 x.1)))

    maps : FrontOf 1 (λ bs. map_header bs >>= λ header. map_value map (entries (read in_list header.0.1) (read in_list header.0.2) header.0.0 header.1)) bytes
        (map_header bytes >>= λ header. map_value map (entries (inner in_list header.0.1) (inner in_list header.0.2) header.0.0 header.1))
    maps =
        front-bind 1 0 map_header (λ header rest. map_value map (entries (read in_list header.1) (read in_list header.2) header.0 rest)) bytes (map_header bytes) _ (map_header-front bytes) (λ x.
        front-map 0 (entries (read in_list x.0.1) (read in_list x.0.2) x.0.0) x.1 map (entries (inner in_list x.0.1) (inner in_list x.0.2) x.0.0 x.1)
        (entries-front (inner in_list x.0.1) (inner in_list x.0.2) (read in_list x.0.1) (read in_list x.0.2) (h in_list x.0.1) (h in_list x.0.2) x.0.0 x.1))

value_within-front : (d : ℕ) (context : Context) (kind : ℕ) (bytes : List ℕ) → FrontOf (least context) (value context kind) bytes (value_within d context kind bytes)
unfolding value_within
value_within-front zero context kind bytes = tt
value_within-front (suc d) context kind bytes =
    front-along (least context) (λ bs. cond (is_kind kind) (value_with value context kind bs) None) (value context kind) bytes _ (value-next context kind)
    (front-cond (least context) _ _ bytes (is_kind kind) _ _ (value_with-front (value_within d) value (value-takes in_struct) (value_within-front d) context kind bytes) tt)

-- ---- what is read of the format

pub value-front : (context : Context) (kind : ℕ) → ReadsFront (least context) (value context kind)
unfolding value
value-front context kind bytes = value_within-front (suc (length bytes)) context kind bytes

pub fields-front : (previous : ℤ) → ReadsFront 1 (fields_of (value in_struct) previous)
fields-front previous bytes = fields_within-front (value in_struct) (value in_struct) (value-takes in_struct) (value-front in_struct) (length bytes) previous bytes

pub list_elements-front : (kind count : ℕ) → ReadsFront count (elements (value in_list kind) count)
list_elements-front kind count bytes = elements-front (value in_list kind) (value in_list kind) (value-front in_list kind) count bytes

-- ---- what follows from it

-- what stands after the bytes changes nothing
pub extends : {A : Type 0} (k : ℕ) (read : Read A) → ReadsFront k read → (bytes more : List ℕ) (x : A × List ℕ) → read bytes ≡ Some x → read (bytes ++ more) ≡ Some (x.0, x.1 ++ more)
extends k read front bytes more x e =
    let p : IsAtFront read k bytes x = subst (λ o. FrontOf k read bytes o) e (front bytes) in
    ap (λ (bs : List ℕ). read (bs ++ more)) p.whole ∙ ap read (append_assoc p.front x.1 more) ∙ p.same (x.1 ++ more)

-- the rest is an end of the bytes
pub front-ends : {A : Type 0} (k : ℕ) (read : Read A) → ReadsFront k read → (bytes : List ℕ) (x : A × List ℕ) → read bytes ≡ Some x → IsEnd bytes x.1
front-ends k read front bytes x e =
    let p : IsAtFront read k bytes x = subst (λ o. FrontOf k read bytes o) e (front bytes) in
    let behind : drop (length p.front) (p.front ++ x.1) ≡ x.1 = drop-append_seam p.front x.1 in
    let ends : IsEnd (p.front ++ x.1) x.1 = subst (λ rest. IsEnd (p.front ++ x.1) rest) behind (IsEnd_drop (length p.front) (p.front ++ x.1) (omega (arith, length-append p.front x.1))) in
    subst (λ bs. IsEnd bs x.1) (sym p.whole) ends

-- it is shorter by so many bytes at least
pub front-takes : {A : Type 0} (k : ℕ) (read : Read A) (bytes : List ℕ) (o : Option (A × List ℕ)) → FrontOf k read bytes o → Takes k bytes o
front-takes k read bytes None p = tt
front-takes k read bytes (Some x) p = omega (arith, ap length p.whole, length-append p.front x.1, p.some)

same_found : {A : Type 0} (x y : A × List ℕ) → Some x ≡ Some y → (x.0 ≡ y.0) × (x.1 ≡ y.1)
same_found {A = A} x y e = let same : x ≡ y = cc in (ap (λ (z : A × List ℕ). z.0) same, ap (λ (z : A × List ℕ). z.1) same)

-- spellings that begin the same bytes are one spelling of one value
pub spells_once : {A : Type 0} (k : ℕ) (read : Read A) → ReadsFront k read → SpellsOnce read
spells_once {A = A} k read front first second more others one other same a b =
    let x : read (first ++ more) ≡ Some (one, more) = extends k read front first more (one, []) a in
    let y : read (second ++ others) ≡ Some (other, others) = extends k read front second others (other, []) b in
    let both = same_found (one, more) (other, others) (sym x ∙ ap read same ∙ y) in
    (append_cancel_right first second more (same ∙ ap (λ (rest : List ℕ). second ++ rest) (sym both.1)), both.0)

-- a list has no more elements than there are bytes for them
pub elements-none : (kind count : ℕ) (bytes : List ℕ) → length bytes < count → elements (value in_list kind) count bytes ≡ None
elements-none kind count bytes lt = by_result (elements (value in_list kind) count bytes) (front-takes count _ bytes _ (list_elements-front kind count bytes))
  where
    by_result : (o : Option (Values × List ℕ)) → Takes count bytes o → o ≡ None
    by_result None t = refl
    by_result (Some x) t = absurd (omega arith)

-- a list, from a header whose elements may all be there
pub value-list_start : (context : Context) (bytes : List ℕ) →
    value context 9 bytes ≡ (list_start bytes >>= λ header. map_value (list header.0.1) (elements (value in_list header.0.1) header.0.0 header.1))
unfolding list_start
value-list_start context bytes = value-list context bytes ∙ tested (list_header bytes)
  where
    tested : (o : Option ((ℕ × ℕ) × List ℕ)) →
        (o >>= λ h. map_value (list h.0.1) (elements (value in_list h.0.1) h.0.0 h.1))
        ≡ ((o >>= λ h. given (nat_le h.0.0 (length h.1)) h) >>= λ h. map_value (list h.0.1) (elements (value in_list h.0.1) h.0.0 h.1))
    tested None = refl
    tested (Some h) = elim (cases_lt (length h.1) h.0.0) [
      | inl lt ↦ rw (elements-none h.0.1 h.0.0 h.1 lt, lt-leb h.0.0 (length h.1) lt) refl
      | inr le ↦ rw (le-leb h.0.0 (length h.1) le) refl
    ]
