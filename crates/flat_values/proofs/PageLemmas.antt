-- Pages spell values that their column stores.
use Rattle.std.proofs.Common.{◌≡◌, ℕ, zero, suc, ◌+◌, ◌-◌, ◌*◌, ◌/◌, ◌%◌, ◌<◌, ◌≤◌, ℤ, pos, negsuc, Bool, true, false, List, [], ◌∷◌, length, take, drop, map, refl, ◌∙◌, ap, subst, arith}
use Rattle.std.specs.Prelude.{nat_lt, ◌==◌, ◌+ℤ◌, if◌then◌else◌, slice_get, option_map, Option, Some, None}
use Rattle.std.specs.List.{list_all}
use Rattle.std.specs.Int.{w32, w64, cast_signed, int_wrap}
use Rattle.std.specs.Int.Signed.{mag}
use Rattle.std.specs.Simd.{first_chunks}
use Rattle.std.proofs.lemmas.Bool.{and_parts, and_from, eqb-true, eq-eqb, ltb-true, ltb-false}
use Rattle.std.proofs.lemmas.Int.{SFits-int_wrap}
use Rattle.std.proofs.lemmas.List.{length-drop, length-take-le}
use Rattle.std.proofs.lemmas.List.Folds.{list_all-map}
use Rattle.std.proofs.lemmas.Option.{none-some, cond_some, option_and_then_some}
use mir.Val.{sel}
use Rattle.columns_core.specs.declared.data_type.DataType.{DataType}
use Rattle.parquet_base.specs.Bytes.{little_endian}
use Rattle.parquet_base.specs.Reading.{◌>>=◌}
use Rattle.parquet_base.specs.Varint.{varint, varint_within, zigzag}
use Rattle.parquet_encoding.proofs.StepLemmas.{given_some, some_is}
use Rattle.parquet_encoding.specs.DeltaBinary.{blocks, delta_binary, running_sums, shape_at}
use Rattle.parquet_encoding.specs.DeltaLength.{delta_length}
use Rattle.parquet_encoding.specs.Plain.{plain_fixed, plain_bytes, plain_bits}
use Rattle.parquet_meta.specs.declared.metadata.PhysicalType.{PhysicalType}
use Rattle.parquet_meta.specs.declared.metadata.PhysicalType.TheVariants as physical
use Rattle.parquet_meta.specs.declared.metadata.PrimitiveType.{PrimitiveType}
use Rattle.parquet_page.specs.Content.{DataContent, DictContent}
use Rattle.parquet_page.specs.Levels.{placed, present_count}
use Rattle.parquet_page.specs.Spelling.{dictionary_entries, page_encoding, places_and_values, spelled}
use Rattle.parquet_page.specs.Stored.{Stored, Number, Octets}
use Rattle.parquet_page.specs.Values.{Encoding, Plain, Keys, DeltaPacked, DeltaLengths, plain_values, delta_values, delta_length_values, dictionary_keys, named_by, unless_none, values_in}
use Rattle.flat_values.specs.Conversion.{Conversion, Item, Value, NotInRange, NotText, convert, convert_place}
use Rattle.flat_values.specs.Items.{page_items}
use Rattle.flat_values.specs.Pairs.{conversion}
use Rattle.flat_values.specs.Sound.{is_stored_as, is_item_of, PageHasType}
use Rattle.columns_core.specs.Types.{signed_range, is_in}
use Rattle.flat_values.proofs.ConversionLemmas.{converts_to_type, within_mag, half}

-- what holds of each value that is mapped holds of the result
pub mapped : {A B : Type 0} (o : Option A) (f : A → B) (y : B) {P : Type 0} → option_map f o ≡ Some y → ((x : A) → o ≡ Some x → f x ≡ y → P) → P
mapped None f y e k = absurd (none-some y e)
mapped (Some x) f y e k = k x refl (some_is (f x) y e)

-- ---- lists

abbrev AllStored : PhysicalType → List Stored → Type 0
AllStored type values = list_all (is_stored_as type) values ≡ true

each : {A : Type 0} (p : A → Bool) → ((x : A) → p x ≡ true) → (xs : List A) → list_all p xs ≡ true
each p h [] = refl
each p h (x ∷ xs) = and_from _ _ (h x) (each p h xs)

each_mapped : {A : Type 0} (p : Stored → Bool) (f : A → Stored) → ((x : A) → p (f x) ≡ true) → (xs : List A) → list_all p (map f xs) ≡ true
each_mapped p f h xs = list_all-map p f xs ∙ each (λ x. p (f x)) h xs

all_front : {A : Type 0} (p : A → Bool) (n : ℕ) (xs : List A) → list_all p xs ≡ true → list_all p (take n xs) ≡ true
all_front p zero xs h = refl
all_front p (suc n) [] h = refl
all_front p (suc n) (x ∷ xs) h = and_from _ _ (and_parts _ _ h).0 (all_front p n xs (and_parts _ _ h).1)

-- ---- numbers of so many bits

pub int32 : (n : ℕ) → is_in (signed_range 32) (cast_signed w32 n) ≡ true
int32 n = within_mag 2147483647 (cast_signed w32 n) (half (nat_lt n 2147483648) n refl)

half64 : (b : Bool) (n : ℕ) → nat_lt n 9223372036854775808 ≡ b → mag (sel b (pos n) (negsuc (18446744073709551616 - suc n))) ≤ 9223372036854775807
half64 true n e = omega (arith, ltb-true n 9223372036854775808 e)
half64 false n e = omega (arith, ltb-false n 9223372036854775808 e)

pub int64 : (n : ℕ) → is_in (signed_range 64) (cast_signed w64 n) ≡ true
int64 n = within_mag 9223372036854775807 (cast_signed w64 n) (half64 (nat_lt n 9223372036854775808) n refl)

wrapped32 : (z : ℤ) → is_in (signed_range 32) (int_wrap w32 z) ≡ true
wrapped32 z = within_mag 2147483647 (int_wrap w32 z) (omega (arith, (SFits-int_wrap w32 z).sfits))

wrapped64 : (z : ℤ) → is_in (signed_range 64) (int_wrap w64 z) ≡ true
wrapped64 z = within_mag 9223372036854775807 (int_wrap w64 z) (omega (arith, (SFits-int_wrap w64 z).sfits))

-- ---- plain values

sized : (size count : ℕ) (bytes : List ℕ) → length bytes ≡ count * size → list_all (λ b. is_stored_as (physical.FixedLenByteArray size) (Octets b)) (first_chunks size count bytes) ≡ true
sized size zero bytes e = refl
sized size (suc count) bytes e =
    let whole : suc count * size ≡ size + count * size = omega arith in
    and_from _ _ (eq-eqb (length (take size bytes)) size (length-take-le size bytes (omega arith))) (sized size count (drop size bytes) (length-drop size bytes ∙ omega arith))

plain_stored : (type : PhysicalType) (bytes : List ℕ) (count : ℕ) (values : List Stored) → plain_values type bytes count ≡ Some values → AllStored type values
unfolding plain_values plain_fixed
plain_stored physical.Boolean bytes count values e = mapped (plain_bits bytes count) _ values e (λ xs p q. subst (AllStored physical.Boolean) q (each_mapped _ _ (λ b. refl) xs))
plain_stored physical.Int32 bytes count values e = mapped _ _ values e (λ xs p q. subst (AllStored physical.Int32) q (each_mapped _ _ (λ b. int32 (little_endian b)) xs))
plain_stored physical.Int64 bytes count values e = mapped _ _ values e (λ xs p q. subst (AllStored physical.Int64) q (each_mapped _ _ (λ b. int64 (little_endian b)) xs))
plain_stored physical.Int96 bytes count values e = mapped _ _ values e (λ xs p q. subst (AllStored physical.Int96) q (each_mapped _ _ (λ b. refl) xs))
plain_stored physical.Float bytes count values e = absurd (none-some values e)
plain_stored physical.Double bytes count values e = absurd (none-some values e)
plain_stored physical.ByteArray bytes count values e = mapped (plain_bytes bytes count) _ values e (λ xs p q. subst (AllStored physical.ByteArray) q (each_mapped _ _ (λ b. refl) xs))
plain_stored (physical.FixedLenByteArray size) bytes count values e =
    mapped _ _ values e (λ xs p q.
    let test = given_some (length bytes == count * size) (first_chunks size count bytes) xs p in
    subst (AllStored (physical.FixedLenByteArray size)) (ap (map Octets) test.1 ∙ q)
    (list_all-map _ Octets (first_chunks size count bytes) ∙ sized size count bytes (eqb-true (length bytes) (count * size) test.0)))

-- ---- delta

half_of : (b : Bool) (n : ℕ) → n < 18446744073709551616 → mag (if b then pos (n / 2) else negsuc (n / 2)) ≤ 9223372036854775807
half_of true n lt = omega (arith, lt)
half_of false n lt = omega (arith, lt)

varint-below : (bytes : List ℕ) (read : ℕ × List ℕ) → varint bytes ≡ Some read → read.0 < 18446744073709551616
unfolding varint
varint-below bytes read e =
    option_and_then_some _ (varint_within 10 bytes) read e (λ n found more.
    let test = cond_some (nat_lt n.0 18446744073709551616) n read more in
    subst (λ (m : ℕ). m < 18446744073709551616) (ap (λ (r : ℕ × List ℕ). r.0) test.1) (ltb-true n.0 18446744073709551616 test.0))

sums_stored : (value : ℤ) (deltas : List ℤ) → is_in (signed_range 64) value ≡ true → list_all (is_in (signed_range 64)) (running_sums value deltas) ≡ true
sums_stored value [] h = and_from _ _ h refl
sums_stored value (delta ∷ deltas) h = and_from _ _ h (sums_stored (int_wrap w64 (value +ℤ delta)) deltas (wrapped64 (value +ℤ delta)))

delta_numbers : (count : ℕ) (bytes : List ℕ) (read : List ℤ × List ℕ) → delta_binary count bytes ≡ Some read → list_all (is_in (signed_range 64)) read.0 ≡ true
unfolding delta_binary
delta_numbers count bytes read e =
    option_and_then_some _ (shape_at bytes) read e (λ shape a more.
    option_and_then_some _ (varint shape.1) read more (λ first b rest.
    option_and_then_some _ (blocks (length bytes) shape.0.size shape.0.miniblocks (count - 1) first.1) read rest (λ deltas c last.
    let sums = running_sums (zigzag first.0) deltas.0 in
    let test = given_some (shape.0.total == count) (take count sums, deltas.1) read last in
    let small = within_mag 9223372036854775807 (zigzag first.0) (half_of (first.0 % 2 == 0) first.0 (varint-below shape.1 first b)) in
    subst (λ (r : List ℤ × List ℕ). list_all (is_in (signed_range 64)) r.0 ≡ true) test.1 (all_front _ count sums (sums_stored (zigzag first.0) deltas.0 small)))))

delta_stored : (type : PhysicalType) (bytes : List ℕ) (count : ℕ) (values : List Stored) → delta_values type bytes count ≡ Some values → AllStored type values
unfolding delta_values
delta_stored physical.Int32 bytes count values e =
    mapped (delta_binary count bytes) _ values e (λ read p q. subst (AllStored physical.Int32) q (each_mapped (is_stored_as physical.Int32) (λ n. Number (int_wrap w32 n)) wrapped32 read.0))
delta_stored physical.Int64 bytes count values e =
    mapped (delta_binary count bytes) _ values e (λ read p q. subst (AllStored physical.Int64) q (list_all-map (is_stored_as physical.Int64) Number read.0 ∙ delta_numbers count bytes read p))
delta_stored _ bytes count values e = absurd (none-some values e)

delta_length_stored : (type : PhysicalType) (bytes : List ℕ) (count : ℕ) (values : List Stored) → delta_length_values type bytes count ≡ Some values → AllStored type values
unfolding delta_length_values
delta_length_stored physical.ByteArray bytes count values e = mapped (delta_length bytes count) _ values e (λ xs p q. subst (AllStored physical.ByteArray) q (each_mapped _ _ (λ b. refl) xs))
delta_length_stored _ bytes count values e = absurd (none-some values e)

-- ---- entries

found : (p : Stored → Bool) (entries : List Stored) (k : ℕ) (x : Stored) → list_all p entries ≡ true → slice_get entries k ≡ Some x → p x ≡ true
found p [] k x h e = absurd (none-some x e)
found p (y ∷ ys) zero x h e = subst (λ z. p z ≡ true) (some_is y x e) (and_parts _ _ h).0
found p (y ∷ ys) (suc k) x h e = found p ys k x (and_parts _ _ h).1 e

named_stored : (p : Stored → Bool) (entries : List Stored) → list_all p entries ≡ true → (keys : List ℕ) (values : List Stored) → named_by entries keys ≡ Some values → list_all p values ≡ true
named_stored p entries h [] values e = subst (λ v. list_all p v ≡ true) (some_is [] values e) refl
named_stored p entries h (k ∷ ks) values e =
    option_and_then_some _ (slice_get entries k) values e (λ x a more. option_and_then_some _ (named_by entries ks) values more (λ xs b last.
    subst (λ v. list_all p v ≡ true) (some_is (x ∷ xs) values last) (and_from _ _ (found p entries k x h a) (named_stored p entries h ks xs b))))

-- ---- pages

-- what a list of entries is, where there is one
abbrev EntriesStored : PhysicalType → Option (List Stored) → Type 0
EntriesStored type entries = (told : List Stored) → entries ≡ Some told → AllStored type told

values_stored :
    (encoding : Encoding) (type : PhysicalType) (entries : Option (List Stored)) → EntriesStored type entries →
    (bytes : List ℕ) (count : ℕ) (values : List Stored) → values_in encoding type entries bytes count ≡ Some values → AllStored type values
values_stored Plain type entries h bytes count values e = plain_stored type bytes count values e
values_stored Keys type entries h bytes count values e =
    option_and_then_some _ entries values e (λ told a more. option_and_then_some _ (dictionary_keys bytes count) values more (λ keys b last.
    named_stored (is_stored_as type) told (h told a) keys values last))
values_stored DeltaPacked type entries h bytes count values e = delta_stored type bytes count values e
values_stored DeltaLengths type entries h bytes count values e = delta_length_stored type bytes count values e

-- Where no value is stored there is none that could be of another type.
none_or : (count : ℕ) (p : Stored → Bool) (stored : Option (List Stored)) → ((values : List Stored) → stored ≡ Some values → list_all p values ≡ true) →
    (values : List Stored) → unless_none count stored ≡ Some values → list_all p values ≡ true
none_or zero p stored h values e = subst (λ l. list_all p l ≡ true) (some_is [] values e) refl
none_or (suc count) p stored h values e = h values e

-- a place is empty, or its value is of the type
abbrev is_place : (Stored → Bool) → Option Stored → Bool
is_place p None = true
is_place p (Some x) = p x

placed_stored : (p : Stored → Bool) (places : List Bool) (values : List Stored) → list_all p values ≡ true → (list : List (Option Stored)) → placed places values ≡ Some list → list_all (is_place p) list ≡ true
placed_stored p [] [] h list e = subst (λ l. list_all (is_place p) l ≡ true) (some_is [] list e) refl
placed_stored p [] (x ∷ xs) h list e = absurd (none-some list e)
placed_stored p (false ∷ places) [] h list e =
    option_and_then_some _ (placed places []) list e (λ others a last. subst (λ l. list_all (is_place p) l ≡ true) (some_is (None ∷ others) list last) (placed_stored p places [] h others a))
placed_stored p (false ∷ places) (x ∷ xs) h list e =
    option_and_then_some _ (placed places (x ∷ xs)) list e (λ others a last. subst (λ l. list_all (is_place p) l ≡ true) (some_is (None ∷ others) list last) (placed_stored p places (x ∷ xs) h others a))
placed_stored p (true ∷ places) [] h list e = absurd (none-some list e)
placed_stored p (true ∷ places) (x ∷ xs) h list e =
    option_and_then_some _ (placed places xs) list e (λ others a last.
    subst (λ l. list_all (is_place p) l ≡ true) (some_is (Some x ∷ others) list last) (and_from _ _ (and_parts _ _ h).0 (placed_stored p places xs (and_parts _ _ h).1 others a)))

spelled_stored :
    (page : DataContent) (entries : Option (List Stored)) → EntriesStored page.type.physical_type entries →
    (list : List (Option Stored)) → spelled page entries ≡ Some list → list_all (is_place (is_stored_as page.type.physical_type)) list ≡ true
unfolding spelled
spelled_stored page entries h list e =
    let type : PhysicalType = page.type.physical_type in
    option_and_then_some _ (page_encoding page) list e (λ encoding a more.
    option_and_then_some _ (places_and_values page) list more (λ parts b rest.
    option_and_then_some _ (unless_none (present_count parts.0) (values_in encoding type entries parts.1 (present_count parts.0))) list rest (λ values c last.
    placed_stored (is_stored_as type) parts.0 values
    (none_or (present_count parts.0) (is_stored_as type) _ (values_stored encoding type entries h parts.1 (present_count parts.0)) values c) list last)))

entries_stored : (type : PhysicalType) (dictionary : Option DictContent) → EntriesStored type (dictionary >>= dictionary_entries type)
entries_stored type dictionary told e = option_and_then_some _ dictionary told e (λ page a last. plain_stored type page.body page.num_values told last)

-- ---- items

item_of : (stored : PrimitiveType) (data_type : DataType) (rule : Conversion) (value : Stored) → conversion stored data_type ≡ Some rule → is_stored_as stored.physical_type value ≡ true →
    (item : Item) → convert rule value ≡ item → is_item_of data_type item ≡ true
item_of stored data_type rule value e h (Value cell) v = converts_to_type stored data_type rule value cell e h v
item_of stored data_type rule value e h NotInRange v = refl
item_of stored data_type rule value e h NotText v = refl

items_of : (stored : PrimitiveType) (data_type : DataType) (rule : Conversion) → conversion stored data_type ≡ Some rule →
    (places : List (Option Stored)) → list_all (is_place (is_stored_as stored.physical_type)) places ≡ true → list_all (is_item_of data_type) (map (convert_place rule) places) ≡ true
items_of stored data_type rule e [] h = refl
items_of stored data_type rule e (None ∷ places) h = items_of stored data_type rule e places h
items_of stored data_type rule e (Some value ∷ places) h =
    and_from _ _ (item_of stored data_type rule value e (and_parts _ _ h).0 (convert rule value) refl) (items_of stored data_type rule e places (and_parts _ _ h).1)

pub page_has_type : PageHasType
unfolding page_items
page_has_type data_type dictionary page items e =
    option_and_then_some _ (conversion page.type data_type) items e (λ rule a more.
    option_and_then_some _ (spelled page (dictionary >>= dictionary_entries page.type.physical_type)) items more (λ places b last.
    subst (λ l. list_all (is_item_of data_type) l ≡ true) (some_is _ items last)
    (items_of page.type data_type rule a places (spelled_stored page (dictionary >>= dictionary_entries page.type.physical_type) (entries_stored page.type.physical_type dictionary) places b))))
