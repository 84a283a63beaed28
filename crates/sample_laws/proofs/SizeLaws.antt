-- How many bytes the structs of a plain file have at most.
use Rattle.std.proofs.Common.{ℕ, zero, suc, ◌+◌, ◌*◌, ◌/◌, ◌%◌, ◌≤◌, ℤ, pos, negsuc, Bool, true, false, cond, List, [], ◌∷◌, Option, Some, None, arith, length, map, length-append}
use Rattle.std.specs.Prelude.{All, nat_lt, is_some}
use Rattle.std.proofs.lemmas.List.{length-map}
use Rattle.std.proofs.lemmas.List.Elements.{All-head, All-tail, All-cons, All-nil}
use Rattle.compact_write.specs.Fields.{values_of}
use Rattle.compact_write.specs.Written.{varint_bytes, varint_bytes_within, signed_bytes, binary_bytes, list_header_bytes, field_header_bytes, fields_bytes, value_bytes, element_bytes, elements_bytes, struct_kind, value_count}
use Rattle.parquet_thrift.specs.Values.{Value, binary, number, truth}
use Rattle.parquet_meta.specs.ColumnIndex.{index_with}
use Rattle.parquet_meta.specs.declared.metadata.PageLocation.{PageLocation}
use Rattle.parquet_meta.specs.declared.metadata.Repetition.{Repetition}
use Rattle.parquet_meta.specs.declared.metadata.Repetition.TheVariants.{Required, Optional, Repeated}
use Rattle.parquet_page.specs.Stored.{Stored}
use Rattle.parquet_plain.specs.Bodies.{bits_bytes, groups_of_bits, level_bytes, levels_of, number_bytes, present}
use Rattle.parquet_plain.specs.Structs.{column_index_bytes, location_value, offset_index_bytes, page_header_bytes}
use Rattle.parquet_plain.proofs.BodyLemmas.{length-bits, length-number}
use Rattle.sample_laws.proofs.PageLaws.{most}

-- ---- numbers and strings

varint-within : (turns n : ℕ) → length (varint_bytes_within turns n) ≤ turns
unfolding varint_bytes_within
varint-within zero n = omega arith
varint-within (suc turns) n = by_test (nat_lt n 128) (varint-within turns (n / 128)) where
  by_test : (b : Bool) → length (varint_bytes_within turns (n / 128)) ≤ turns → length (cond b (n ∷ []) ((128 + n % 128) ∷ varint_bytes_within turns (n / 128))) ≤ suc turns
  by_test true le = omega arith
  by_test false le = omega arith

pub varint-short : (n : ℕ) → length (varint_bytes n) ≤ 10
unfolding varint_bytes
varint-short n = varint-within 10 n

pub signed-short : (n : ℤ) → length (signed_bytes n) ≤ 10
unfolding signed_bytes
signed-short (pos n) = varint-short (2 * n)
signed-short (negsuc n) = varint-short (2 * n + 1)

pub binary-short : (bytes : List ℕ) → length (binary_bytes bytes) ≤ 10 + length bytes
unfolding binary_bytes
binary-short bytes = omega (arith, length-append (varint_bytes (length bytes)) bytes, varint-short (length bytes))

pub list_header-short : (kind count : ℕ) → length (list_header_bytes kind count) ≤ 11
unfolding list_header_bytes
list_header-short kind count = by_test (nat_lt count 15) where
  by_test : (b : Bool) → length (cond b ((16 * count + kind) ∷ []) ((240 + kind) ∷ varint_bytes count)) ≤ 11
  by_test true = omega arith
  by_test false = omega (arith, varint-short count)

-- elements of so many bytes at most
pub elements-short : {A : Type 0} (P : A → Type 0) (value : A → Value) (each : ℕ) (xs : List A) → ((x : A) → P x → length (element_bytes (value x)) ≤ each) → All P xs → length (elements_bytes (values_of value xs)) ≤ each * length xs
unfolding elements_bytes values_of
elements-short P value each [] short all = omega arith
elements-short P value each (x ∷ xs) short all =
    omega (arith, length-append (element_bytes (value x)) (elements_bytes (values_of value xs)), short x (All-head P x xs all), elements-short P value each xs short (All-tail P x xs all))

-- ---- pages

pub page_header-short : (rows size : ℕ) → length (page_header_bytes rows size) ≤ 80
unfolding page_header_bytes fields_bytes value_bytes field_header_bytes
page_header-short rows size = simp length-append (omega (arith, signed-short (pos 0), signed-short (pos size), signed-short (pos rows), signed-short (pos 3)))

-- ---- levels

level-short : (bs : List Bool) → length (level_bytes bs) ≤ 10 + groups_of_bits (length bs)
unfolding level_bytes
level-short bs = omega (arith, length-append (varint_bytes (2 * groups_of_bits (length bs) + 1)) (bits_bytes bs), varint-short (2 * groups_of_bits (length bs) + 1), length-bits bs)

pub flags-short : (items : List (Option Stored)) → length (level_bytes (map is_some items)) ≤ 11 + length items
flags-short items = omega (arith, level-short (map is_some items), length-map items (is_some {T = Stored}))

pub levels-short : (r : Repetition) (items : List (Option Stored)) → length (levels_of r items) ≤ 15 + length items
levels-short Required items = omega arith
levels-short Repeated items = omega arith
levels-short Optional items = omega (arith, length-append (number_bytes 4 (length (level_bytes (map is_some items)))) (level_bytes (map is_some items)), length-number 4 (length (level_bytes (map is_some items))), flags-short items)

pub present-few : (items : List (Option Stored)) → length (present items) ≤ length items
present-few [] = omega arith
present-few (None ∷ items) = omega (arith, present-few items)
present-few (Some s ∷ items) = omega (arith, present-few items)

-- ---- indexes

location-short : (page : PageLocation) → length (element_bytes (location_value page)) ≤ 34
unfolding element_bytes fields_bytes value_bytes field_header_bytes
location-short page = simp length-append (omega (arith, signed-short page.offset, signed-short page.compressed_page_size, signed-short page.first_row_index))

abbrev IsAny : {A : Type 0} → A → Type 0
IsAny x = Unit {0}

all-any : {A : Type 0} (xs : List A) → All (IsAny {A = A}) xs
all-any {A = A} [] = All-nil (IsAny {A = A})
all-any {A = A} (x ∷ xs) = All-cons (IsAny {A = A}) x xs tt (all-any xs)

pub offset_index-short : (pages : List PageLocation) → length (offset_index_bytes pages) ≤ 13 + 34 * length pages
unfolding offset_index_bytes fields_bytes value_bytes field_header_bytes
offset_index-short pages =
    simp length-append (omega (arith, list_header-short struct_kind (value_count (values_of location_value pages)), elements-short (IsAny {A = PageLocation}) location_value 34 pages (λ page is. location-short page) (all-any pages)))

-- an end of a page
abbrev pub IsShortEnd : List ℕ → Type 0
IsShortEnd end = length end ≤ most

truth-short : (b : Bool) → length (element_bytes (truth b)) ≤ 1
unfolding element_bytes
truth-short b = omega arith

end-short : (end : List ℕ) → IsShortEnd end → length (element_bytes (binary end)) ≤ 30
unfolding element_bytes
end-short end short = omega (arith, binary-short end)

count-short : (n : ℤ) → length (element_bytes (number n)) ≤ 10
unfolding element_bytes
count-short n = signed-short n

pub column_index-short : (nulls : List Bool) (lows highs : List (List ℕ)) (counts : List ℤ) → All IsShortEnd lows → All IsShortEnd highs
    → length (column_index_bytes (index_with nulls lows highs (Some counts))) ≤ 60 + length nulls + 30 * length lows + 30 * length highs + 10 * length counts
unfolding column_index_bytes fields_bytes value_bytes field_header_bytes
column_index-short nulls lows highs counts low high =
    simp length-append (
    omega (
      arith,
      list_header-short 1 (value_count (values_of truth nulls)),
      elements-short (IsAny {A = Bool}) truth 1 nulls (λ b is. truth-short b) (all-any nulls),
      list_header-short 8 (value_count (values_of binary lows)),
      elements-short IsShortEnd binary 30 lows end-short low,
      list_header-short 8 (value_count (values_of binary highs)),
      elements-short IsShortEnd binary 30 highs end-short high,
      signed-short (pos 0),
      list_header-short 6 (value_count (values_of number counts)),
      elements-short (IsAny {A = ℤ}) number 10 counts (λ n is. count-short n) (all-any counts),
    ))
