-- The columns of the sample are of a kind: numbers below a limit, and texts.
use Rattle.std.proofs.Common.{◌≡◌, ℕ, ◌*◌, ◌^◌, ◌≤◌, ◌<◌, ℤ, pos, negsuc, Bool, true, false, List, [], ◌∷◌, Some, None, refl, sym, ap, ◌∙◌, arith, length, length-append, Ordering, Less, Equal, Greater}
use Rattle.std.specs.Prelude.{All, FitsSigned, int_le, int_lt, not}
use Rattle.std.specs.Cmp.Lexicographic.{slice_cmp}
use Rattle.std.specs.Int.{w32, w64, cast_unsigned}
use Rattle.std.specs.List.{flat_map}
use Rattle.std.specs.Ordering.{is_gt, nat_cmp, ordering_reverse}
use Rattle.std.specs.Str.{is_utf8}
use Rattle.std.proofs.lemmas.Bool.{le-leb}
use Rattle.std.proofs.lemmas.Bool.Decides.{nat_tests}
use Rattle.std.proofs.lemmas.Cmp.{nat_list_cmp_total, tied_itself, upto}
use Rattle.std.proofs.lemmas.List.Elements.{All-head, All-tail}
use Rattle.columns_core.specs.declared.cell.Cell.{Cell, Null, Int, Text}
use Rattle.columns_core.specs.declared.data_type.DataType.{DataType, out-DataType}
use Rattle.columns_core.specs.declared.data_type.DataType.TheOpen.{DataType-F}
use Rattle.parquet_meta.specs.PageIndexes.{typed_index}
use Rattle.parquet_meta.specs.StoredEnds.{bytes_end, int32_end, int64_end}
use Rattle.parquet_meta.specs.declared.metadata.Index.TheVariants as indexes
use Rattle.parquet_meta.specs.declared.metadata.PhysicalType.TheVariants as types
use Rattle.parquet_page.specs.Stored.{Stored, Number, Truth, Words, Octets}
use Rattle.flat_values.specs.Conversion.{AsText, Keep}
use Rattle.flat_values.specs.Sound.{is_stored_as}
use Rattle.flat_values.proofs.PairLemmas.{leaf_out, page_out}
use Rattle.parquet_scan.specs.declared.bound.Scalar.{Scalar}
use Rattle.parquet_scan.specs.declared.bound.Scalar.TheVariants as scalar
use Rattle.parquet_plain.specs.Bodies.{number_bytes, number_octets, octets_of, values_bytes, with_length}
use Rattle.parquet_plain.specs.Columns.{Written}
use Rattle.parquet_plain.specs.Orders.{IsNumber, IsOrder, numbers_at_most}
use Rattle.parquet_plain.proofs.BodyLemmas.{length-number}
use Rattle.parquet_plain.proofs.NumberOrder.{int64_end-back, numbers_order}
use Rattle.parquet_plain.proofs.OrderLemmas.{greatest-is, int32_end-back, least-is}
use Rattle.parquet_sample.specs.Sample.{id_column, name_column, qty_column, texts_at_most}
use Rattle.sample_laws.proofs.EndLaws.{AreEnds, IsEndRead, all-told, statistics-told}
use Rattle.sample_laws.proofs.KindLaws.{IsKind}
use Rattle.sample_laws.proofs.PageLaws.{IsReadBy, most}
use Rattle.sample_laws.proofs.StatisticsLaws.{HasEnds, IsEndedBy}
use Rattle.sample_laws.proofs.TruthLaws.{HasValues}

-- ---- kinds

-- a number that is not negative and below a limit
pub record IsBelow (limit : ℕ) (s : Stored) : Type 0 where
  pub number : ℕ
  pub is : s ≡ Number (pos number)
  pub low : number < limit

-- a text of few bytes
pub record IsShortText (s : Stored) : Type 0 where
  pub bytes : List ℕ
  pub is : s ≡ Octets bytes
  pub short : length bytes ≤ most
  pub text : is_utf8 bytes ≡ true

abbrev pub number_cell : Stored → Cell
number_cell (Number n) = Int n
number_cell _ = Null

abbrev pub text_cell : Stored → Cell
text_cell (Octets bytes) = Text bytes
text_cell _ = Null

abbrev pub number_value : Stored → Scalar
number_value (Number n) = scalar.Int n
number_value _ = scalar.Int (pos 0)

abbrev pub text_value : Stored → Scalar
text_value (Octets bytes) = scalar.Text bytes
text_value _ = scalar.Text []

-- ---- orders

sub-order : (P Q : Stored → Type 0) (at_most : Stored → Stored → Bool) → ((s : Stored) → P s → Q s) → IsOrder Q at_most → IsOrder P at_most
sub-order P Q at_most of order = record {
  same = λ a pa. order.same a (of a pa);
  total = λ a b pa pb. order.total a b (of a pa) (of b pb);
  through = λ a b c pa pb pc. order.through a b c (of a pa) (of b pb) (of c pc);
}

number-is : (limit : ℕ) (s : Stored) → IsBelow limit s → IsNumber s
number-is limit s is = rw is.is tt

below_order : (limit : ℕ) → IsOrder (IsBelow limit) numbers_at_most
below_order limit = sub-order (IsBelow limit) IsNumber numbers_at_most (number-is limit) numbers_order

order-ends : (P : Stored → Type 0) (at_most : Stored → Stored → Bool) → IsOrder P at_most → AreEnds P at_most
order-ends P at_most order = record {
  low = λ item items one all. (least-is P at_most order item items one all).0;
  high = λ item items one all. (greatest-is P at_most order item items one all).0;
}

not_true : (b : Bool) → not b ≡ true → b ≡ false
not_true true e = sym e
not_true false e = refl

turned : (o : Ordering) → not (is_gt (ordering_reverse o)) ≡ false → not (is_gt o) ≡ true
turned Less e = refl
turned Equal e = refl
turned Greater e = sym e

texts_order : IsOrder IsShortText texts_at_most
texts_order = record {
  same = λ a pa. rw (pa.is, tied_itself nat_list_cmp_total pa.bytes) refl;
  total = λ a b pa pb. rw (pa.is, pb.is) (λ h. turned (slice_cmp nat_cmp pb.bytes pa.bytes) (ap (λ (o : Ordering). not (is_gt o)) (sym (nat_list_cmp_total.antisymm pa.bytes pb.bytes)) ∙ h));
  through = λ a b c pa pb pc. rw (pa.is, pb.is, pc.is) (λ h k. ap not (upto nat_list_cmp_total pa.bytes pb.bytes pc.bytes (not_true _ h) (not_true _ k)));
}

-- ---- numbers

fits-64 : (n : ℕ) → n < 2 ^ 63 → FitsSigned w64 (pos n)
fits-64 n lt = omega arith

fits-32 : (n : ℕ) → n < 1000 → FitsSigned w32 (pos n)
fits-32 n lt = omega arith

not_past : (a n : ℤ) → int_le a n ≡ true → int_lt n a ≡ false
not_past (pos a) (pos n) le = grind (arith, nat_tests)
not_past (pos a) (negsuc n) le = absurd cc
not_past (negsuc a) (pos n) le = refl
not_past (negsuc a) (negsuc n) le = grind (arith, nat_tests)

octets-short : (size : ℕ) (pattern : ℤ → ℕ) (s : Stored) → length (number_octets size pattern s) ≤ size
octets-short size pattern (Number n) = omega (arith, length-number size (pattern n))
octets-short size pattern (Truth b) = omega arith
octets-short size pattern (Words a b c) = omega arith
octets-short size pattern (Octets bytes) = omega arith

numbers-short : (size : ℕ) (pattern : ℤ → ℕ) (values : List Stored) → size ≤ 24 → length (flat_map (number_octets size pattern) values) ≤ 24 * length values
numbers-short size pattern [] le = omega arith
numbers-short size pattern (v ∷ values) le =
    omega (arith, length-append (number_octets size pattern v) (flat_map (number_octets size pattern) values), octets-short size pattern v, numbers-short size pattern values le)

number_values : (to : Written) (limit : ℕ) → IsOrder (IsBelow limit) to.at_most → ((a b : ℕ) → to.at_most (Number (pos a)) (Number (pos b)) ≡ true → int_lt (pos b) (pos a) ≡ false) → HasValues to (IsBelow limit) number_cell number_value
number_values to limit order below = record {
  order = order;
  valued = λ s is. rw is.is refl;
  there = λ s is. rw is.is refl;
  below = λ a b pa pb. rw (pa.is, pb.is) (below pa.number pb.number);
}

pub id_values : HasValues id_column (IsBelow (2 ^ 63)) number_cell number_value
id_values = number_values id_column (2 ^ 63) (below_order (2 ^ 63)) (λ a b le. not_past (pos a) (pos b) le)

pub qty_values : HasValues qty_column (IsBelow 1000) number_cell number_value
qty_values = number_values qty_column 1000 (below_order 1000) (λ a b le. not_past (pos a) (pos b) le)

pub id_kind : IsKind id_column Keep (IsBelow (2 ^ 63)) number_cell
unfolding values_bytes
id_kind = record {
  plain = tt;
  is_of = λ s is. rw is.is (fits-64 is.number is.low);
  converts = λ s is. rw is.is refl;
  few = λ s is. rw is.is (omega arith);
  narrow = λ values all. numbers-short 8 (cast_unsigned w64) values (omega arith);
  sized = omega arith;
  small = omega arith;
}

pub qty_kind : IsKind qty_column Keep (IsBelow 1000) number_cell
unfolding values_bytes
qty_kind = record {
  plain = tt;
  is_of = λ s is. rw is.is (fits-32 is.number is.low);
  converts = λ s is. rw is.is refl;
  few = λ s is. rw is.is (omega arith);
  narrow = λ values all. numbers-short 4 (cast_unsigned w32) values (omega arith);
  sized = omega arith;
  small = omega arith;
}

-- ---- texts

texts-short : (values : List Stored) → All IsShortText values → length (flat_map (λ value. with_length (octets_of value)) values) ≤ 24 * length values
texts-short [] all = omega arith
texts-short (v ∷ values) all =
    let is : IsShortText v = All-head IsShortText v values all in
    omega (
      arith,
      length-append (with_length (octets_of v)) (flat_map (λ value. with_length (octets_of value)) values),
      length-append (number_bytes 4 (length (octets_of v))) (octets_of v),
      length-number 4 (length (octets_of v)),
      own v is,
      texts-short values (All-tail IsShortText v values all),
    )
  where
    own : (s : Stored) → IsShortText s → length (octets_of s) ≤ most
    own s is = rw is.is is.short

pub name_values : HasValues name_column IsShortText text_cell text_value
name_values = record {
  order = texts_order;
  valued = λ s is. rw is.is refl;
  there = λ s is. rw is.is refl;
  below = λ a b pa pb. rw (pa.is, pb.is) (λ h. not_true _ h);
}

pub name_kind : IsKind name_column AsText IsShortText text_cell
unfolding values_bytes
name_kind = record {
  plain = tt;
  is_of = λ s is. rw is.is (fits is.bytes is.short);
  converts = λ s is. rw (is.is, is.text) refl;
  few = λ s is. rw is.is is.short;
  narrow = texts-short;
  sized = omega arith;
  small = omega arith;
} where
  fits : (bytes : List ℕ) → length bytes ≤ most → length bytes < 2 ^ 32
  fits bytes le = omega arith

-- ---- ends

id-read : (s : Stored) → IsBelow (2 ^ 63) s → IsEndRead int64_end Number types.Int64 s
id-read s is = record { own = pos is.number; read = rw is.is (int64_end-back (pos is.number) (fits-64 is.number is.low)); same = sym is.is }

qty-read : (s : Stored) → IsBelow 1000 s → IsEndRead int32_end Number types.Int32 s
qty-read s is = record { own = pos is.number; read = rw is.is (int32_end-back (pos is.number) (fits-32 is.number is.low)); same = sym is.is }

name-read : (s : Stored) → IsShortText s → IsEndRead bytes_end Octets types.ByteArray s
name-read s is = record { own = is.bytes; read = rw is.is refl; same = sym is.is }

pub id_ends : HasEnds id_column Keep (IsBelow (2 ^ 63))
unfolding typed_index
id_ends = record {
  are = ends;
  short = λ s is. omega (arith, octets-short 8 (cast_unsigned w64) s);
  stored = λ s is. rw is.is (stored is.number is.low);
  by_rule = λ column. refl;
  statistics = λ nulls items all. let t = statistics-told int64_end Number id_column (IsBelow (2 ^ 63)) ends id-read nulls items all in rw t.told (ap Some t.stored);
  index = λ parts all. let t = all-told int64_end Number id_column (IsBelow (2 ^ 63)) ends id-read parts all in record { index = indexes.Int64 t.told; read = rw t.read refl; stored = t.stored };
} where
  ends : AreEnds (IsBelow (2 ^ 63)) numbers_at_most
  ends = order-ends (IsBelow (2 ^ 63)) numbers_at_most (below_order (2 ^ 63))

  stored : (n : ℕ) → n < 2 ^ 63 → is_stored_as types.Int64 (Number (pos n)) ≡ true
  stored n lt = rw (le-leb n 9223372036854775807 (omega arith)) refl

pub qty_ends : HasEnds qty_column Keep (IsBelow 1000)
unfolding typed_index
qty_ends = record {
  are = ends;
  short = λ s is. omega (arith, octets-short 4 (cast_unsigned w32) s);
  stored = λ s is. rw is.is (stored is.number is.low);
  by_rule = λ column. refl;
  statistics = λ nulls items all. let t = statistics-told int32_end Number qty_column (IsBelow 1000) ends qty-read nulls items all in rw t.told (ap Some t.stored);
  index = λ parts all. let t = all-told int32_end Number qty_column (IsBelow 1000) ends qty-read parts all in record { index = indexes.Int32 t.told; read = rw t.read refl; stored = t.stored };
} where
  ends : AreEnds (IsBelow 1000) numbers_at_most
  ends = order-ends (IsBelow 1000) numbers_at_most (below_order 1000)

  stored : (n : ℕ) → n < 1000 → is_stored_as types.Int32 (Number (pos n)) ≡ true
  stored n lt = rw (le-leb n 2147483647 (omega arith)) refl

pub name_ends : HasEnds name_column AsText IsShortText
unfolding typed_index
name_ends = record {
  are = ends;
  short = λ s is. rw is.is is.short;
  stored = λ s is. rw is.is refl;
  by_rule = λ column. refl;
  statistics = λ nulls items all. let t = statistics-told bytes_end Octets name_column IsShortText ends name-read nulls items all in rw t.told (ap Some t.stored);
  index = λ parts all. let t = all-told bytes_end Octets name_column IsShortText ends name-read parts all in record { index = indexes.ByteArray t.told; read = rw t.read refl; stored = t.stored };
} where
  ends : AreEnds IsShortText texts_at_most
  ends = order-ends IsShortText texts_at_most texts_order

-- ---- types

pub id_read_by : (data_type : DataType) → out-DataType data_type ≡ DataType-F.Int64 → IsReadBy id_column.column.type data_type Keep
id_read_by data_type e = record { carried = rw e refl; keyless = rw e refl; seen = rw e refl; roomy = λ count le. rw e refl }

pub qty_read_by : (data_type : DataType) → out-DataType data_type ≡ DataType-F.Int32 → IsReadBy qty_column.column.type data_type Keep
qty_read_by data_type e = record { carried = rw e refl; keyless = rw e refl; seen = rw e refl; roomy = λ count le. rw e refl }

pub name_read_by : (data_type : DataType) → out-DataType data_type ≡ DataType-F.Utf8 → IsReadBy name_column.column.type data_type AsText
name_read_by data_type e = record { carried = rw e refl; keyless = rw e refl; seen = rw e refl; roomy = λ count le. rw e (le-leb count 2147483647 le) }

pub id_ended_by : (data_type : DataType) → out-DataType data_type ≡ DataType-F.Int64 → IsEndedBy id_column data_type Keep
id_ended_by data_type e = record { own = rw e refl; group = leaf_out types.Int64 None data_type ∙ rw e refl; page = page_out types.Int64 None data_type ∙ rw e refl }

pub qty_ended_by : (data_type : DataType) → out-DataType data_type ≡ DataType-F.Int32 → IsEndedBy qty_column data_type Keep
qty_ended_by data_type e = record { own = rw e refl; group = leaf_out types.Int32 None data_type ∙ rw e refl; page = page_out types.Int32 None data_type ∙ rw e refl }

pub name_ended_by : (data_type : DataType) → out-DataType data_type ≡ DataType-F.Utf8 → IsEndedBy name_column data_type AsText
name_ended_by data_type e = record { own = rw e refl; group = leaf_out types.ByteArray None data_type ∙ rw e refl; page = page_out types.ByteArray None data_type ∙ rw e refl }
