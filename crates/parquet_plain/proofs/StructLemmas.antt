-- Structs that are written are read as what they were written from.
use Rattle.std.proofs.Common.{◌≡◌, ℕ, ◌^◌, ◌<◌, ℤ, pos, Bool, true, List, [], ◌∷◌, ◌++◌, Some, refl, ap, ◌∙◌, arith, length, map}
use Rattle.std.specs.Prelude.{All}
use Rattle.std.proofs.lemmas.List.Elements.{All-head, All-tail}
use Rattle.std.proofs.Common.{eq-eqb}
use Rattle.std.proofs.lemmas.List.{length-map}
use Rattle.parquet_thrift.specs.Values.{Value, truth, number, binary, struct, Fields, no_fields, in_struct, value}
use Rattle.compact_write.specs.Fields.{i32_field, i64_field, values_of}
use Rattle.compact_write.specs.Written.{fields_bytes, CanWriteElements, CanWriteFields}
use Rattle.compact_write.proofs.FieldLemmas.{can_i32, can_i64, can_struct, can_list, can_values, can_end, can_none, can_one_more, can_struct_element, can_truth_element, can_bytes_element, can_i64_element, value_count-values}
use Rattle.compact_write.proofs.WrittenLemmas.{struct-back}
use Rattle.parquet_meta.specs.Code.{small_count}
use Rattle.parquet_meta.specs.ColumnIndex.{column_index_field, column_index_of, column_index, column_index_in, has_one_length, index_with}
use Rattle.parquet_meta.specs.Front.{value_in}
use Rattle.parquet_meta.specs.Meaning.{Rule, i32, i64, byte_string, truth_element, unknown, in_turn, struct_of, each, list_of, setting, made, with_rest, by_rule}
use Rattle.parquet_meta.specs.OffsetIndex.{location_field, location_of, location, offset_index_field, offset_index_of, offset_index, locations_in}
use Rattle.parquet_meta.specs.PageHeader.{data_field, data_of, data_header, header_field, page_header_of, header, page_header, page_type}
use Rattle.parquet_meta.specs.declared.metadata.PageLocation.{PageLocation}
use Rattle.parquet_plain.specs.Structs.{page_header_fields, page_header_bytes, location_value, offset_index_fields, offset_index_bytes, column_index_fields, column_index_bytes}
use Rattle.parquet_plain.specs.Fits.{FitsIndex, FitsLocation, IsFew, HasShortLength}
use Rattle.parquet_plain.specs.Found.{plain_header}

-- ---- any struct

-- what a rule makes of the fields is what it makes of their bytes
pub by_rule-written : {A : Type 0} (rule : Rule A) (fs : Fields) (rest : List ℕ) → CanWriteFields 0 fs → by_rule in_struct rule 12 (fields_bytes 0 fs ++ rest) ≡ with_rest (rule 12 (struct fs)) rest
unfolding by_rule
by_rule-written rule fs rest can = rw (struct-back fs rest can) refl

pub value_in-written : {A : Type 0} (rule : Rule A) (fs : Fields) (rest : List ℕ) (x : A) → CanWriteFields 0 fs → rule 12 (struct fs) ≡ Some x → value_in rule (fields_bytes 0 fs ++ rest) ≡ Some x
unfolding value_in
value_in-written rule fs rest x can means = rw (by_rule-written rule fs rest can, means) refl

-- the elements of a list, each of which is read as what it was written from
pub each-written : {A B : Type 0} (P : A → Type 0) (rule : Rule B) (kind : ℕ) (value : A → Value) (back : A → B) (xs : List A) → ((x : A) → P x → rule kind (value x) ≡ Some (back x)) → All P xs →
    each rule kind (values_of value xs) ≡ Some (map back xs)
unfolding each values_of
each-written P rule kind value back [] one all = refl
each-written P rule kind value back (x ∷ xs) one all = rw (one x (All-head P x xs all), each-written P rule kind value back xs one (All-tail P x xs all)) refl

map-same : {A : Type 0} (xs : List A) → map (λ (x : A). x) xs ≡ xs
map-same [] = refl
map-same {A = A} (x ∷ xs) = ap (λ (ys : List A). x ∷ ys) (map-same xs)

pub each-same : {A : Type 0} (rule : Rule A) (kind : ℕ) (value : A → Value) (xs : List A) → ((x : A) → rule kind (value x) ≡ Some x) → each rule kind (values_of value xs) ≡ Some xs
each-same {A = A} rule kind value xs one =
    each-written (λ x. Unit {0}) rule kind value (λ (x : A). x) xs (λ x all. one x) (λ k d lt. tt) ∙ ap (λ (ys : List A). Some ys) (map-same xs)

-- ---- page headers

page_header-means : (rows size : ℕ) → header 12 (struct (page_header_fields rows size)) ≡ Some (plain_header rows size)
unfolding header header_field page_type page_header_of data_header data_field data_of small_count i32 setting made struct_of in_turn unknown
page_header-means rows size = refl

page_header-can : (rows size : ℕ) → rows < 2 ^ 31 → size < 2 ^ 31 → CanWriteFields 0 (page_header_fields rows size)
page_header-can rows size few short =
    can_i32 0 1 0 _ refl (omega arith) (can_i32 1 2 size _ refl short (can_i32 2 3 size _ refl short
    (can_struct 3 5 _ _ refl (can_i32 0 1 rows _ refl few (can_i32 1 2 0 _ refl (omega arith) (can_i32 2 3 3 _ refl (omega arith) (can_i32 3 4 3 _ refl (omega arith) (can_end 4))))) (can_end 5))))

pub page_header-written : (rows size : ℕ) (rest : List ℕ) → rows < 2 ^ 31 → size < 2 ^ 31 → page_header (page_header_bytes rows size ++ rest) ≡ Some (plain_header rows size, rest)
unfolding page_header page_header_bytes
page_header-written rows size rest few short =
    by_rule-written header (page_header_fields rows size) rest (page_header-can rows size few short) ∙ rw (page_header-means rows size) refl

-- ---- offset indexes

location-means : (page : PageLocation) → location 12 (location_value page) ≡ Some page
unfolding location location_field location_of i32 i64 setting made struct_of in_turn
location-means page = refl

offset_index-means : (pages : List PageLocation) → offset_index 12 (struct (offset_index_fields pages)) ≡ Some pages
unfolding offset_index offset_index_field offset_index_of list_of setting made struct_of in_turn
offset_index-means pages = rw (each-same location 12 location_value pages location-means) refl

offset_index-can : (pages : List PageLocation) → length pages < 2 ^ 64 → All FitsLocation pages → CanWriteFields 0 (offset_index_fields pages)
offset_index-can pages few all =
    can_list 0 1 12 _ _ refl refl (rw (value_count-values location_value pages) few) (can_values FitsLocation 12 location_value pages (λ page fits. can_struct_element _ (rw fits.is (one fits.offset fits.size fits.row fits.low fits.short fits.few))) all) (can_end 1)
  where
    one : (offset size row : ℕ) → offset < 2 ^ 63 → size < 2 ^ 31 → row < 2 ^ 63 → CanWriteFields 0 (i64_field 1 (pos offset) (i32_field 2 (pos size) (i64_field 3 (pos row) no_fields)))
    one offset size row a b c = can_i64 0 1 offset (i32_field 2 (pos size) (i64_field 3 (pos row) no_fields)) refl a (can_i32 1 2 size (i64_field 3 (pos row) no_fields) refl b (can_i64 2 3 row no_fields refl c (can_end 3)))

pub locations-written : (pages : List PageLocation) (rest : List ℕ) → length pages < 2 ^ 64 → All FitsLocation pages → locations_in (offset_index_bytes pages ++ rest) ≡ Some pages
unfolding locations_in offset_index_bytes
locations-written pages rest few all = value_in-written offset_index (offset_index_fields pages) rest pages (offset_index-can pages few all) (offset_index-means pages)

-- ---- column indexes

truth-same : (b : Bool) → truth_element 1 (truth b) ≡ Some b
unfolding truth_element
truth-same b = refl

bytes-one : (x : List ℕ) → byte_string 8 (binary x) ≡ Some x
unfolding byte_string
bytes-one x = refl

pub number-same : (x : ℤ) → i64 6 (number x) ≡ Some x
unfolding i64
number-same x = refl

column_index-means : (nulls : List Bool) (lows highs : List (List ℕ)) (counts : List ℤ) → has_one_length (index_with nulls lows highs (Some counts)) ≡ true →
    column_index 12 (struct (column_index_fields (index_with nulls lows highs (Some counts)))) ≡ Some (index_with nulls lows highs (Some counts))
unfolding column_index column_index_field column_index_of i32 list_of setting made struct_of in_turn unknown
column_index-means nulls lows highs counts even = rw (each-same truth_element 1 truth nulls truth-same, each-same byte_string 8 binary lows bytes-one, each-same byte_string 8 binary highs bytes-one, each-same i64 6 number counts number-same, even) refl

counts-can : (xs : List ℕ) → All IsFew xs → CanWriteElements 6 (values_of number (map pos xs))
unfolding values_of
counts-can [] all = can_none 6
counts-can (x ∷ xs) all = can_one_more 6 (number (pos x)) (values_of number (map pos xs)) (can_i64_element x (All-head IsFew x xs all)) (counts-can xs (All-tail IsFew x xs all))

column_index-can : (nulls : List Bool) (lows highs : List (List ℕ)) (counts : List ℕ) → length nulls < 2 ^ 64 → length lows ≡ length nulls → length highs ≡ length nulls → length counts ≡ length nulls →
    All HasShortLength lows → All HasShortLength highs → All IsFew counts → CanWriteFields 0 (column_index_fields (index_with nulls lows highs (Some (map pos counts))))
column_index-can nulls lows highs counts few l h c short_lows short_highs small =
    can_list 0 1 1 (values_of truth nulls) _ refl refl (rw (value_count-values truth nulls) few) (can_values (λ b. Unit {0}) 1 truth nulls (λ b t. can_truth_element b) (λ k d lt. tt))
    (can_list 1 2 8 (values_of binary lows) _ refl refl (rw (value_count-values binary lows) (omega arith)) (can_values HasShortLength 8 binary lows (λ x s. can_bytes_element x s) short_lows)
    (can_list 2 3 8 (values_of binary highs) _ refl refl (rw (value_count-values binary highs) (omega arith)) (can_values HasShortLength 8 binary highs (λ x s. can_bytes_element x s) short_highs)
    (can_i32 3 4 0 _ refl (omega arith)
    (can_list 4 5 6 (values_of number (map pos counts)) no_fields refl refl (rw (value_count-values number (map pos counts), length-map counts pos) (omega arith)) (counts-can counts small) (can_end 5)))))

pub column_index-written : (nulls : List Bool) (lows highs : List (List ℕ)) (counts : List ℕ) (rest : List ℕ) → FitsIndex nulls lows highs counts →
    column_index_in (column_index_bytes (index_with nulls lows highs (Some (map pos counts))) ++ rest) ≡ Some (index_with nulls lows highs (Some (map pos counts)))
unfolding column_index_in column_index_bytes
column_index-written nulls lows highs counts rest fits =
    value_in-written column_index (column_index_fields (index_with nulls lows highs (Some (map pos counts)))) rest _
    (column_index-can nulls lows highs counts fits.few fits.lows_even fits.highs_even fits.counts_even fits.lows_short fits.highs_short fits.counts_few)
    (column_index-means nulls lows highs (map pos counts) even)
  where
    even : has_one_length (index_with nulls lows highs (Some (map pos counts))) ≡ true
    even = rw (length-map counts pos, fits.lows_even, fits.highs_even, fits.counts_even) (rw (eq-eqb (length nulls) (length nulls) refl) refl)
