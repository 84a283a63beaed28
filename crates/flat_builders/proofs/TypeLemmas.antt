-- Types whose values are kept alike have the same cells.
use Rattle.std.proofs.Common.{◌≡◌, ℕ, Bool, true, false, length, refl, sym, ap, subst}
use Rattle.std.specs.Prelude.{◌==◌, ◌&&◌, not}
use Rattle.std.specs.Option.{option_map_or}
use Rattle.std.specs.Str.{is_utf8}
use Rattle.std.proofs.lemmas.Bool.{eqb-true, true≢false}
use denote.Hole.Carrier
use Rattle.columns_core.specs.ElementType.{stores_i8, stores_i16, stores_i32, stores_i64, stores_u8, stores_u16, stores_u32, stores_u64, stores_i128, stores_days_ms, is_boolean}
use Rattle.columns_core.specs.Types.{Layer, signed_range, is_text_at, takes_bytes_at, is_in}
use Rattle.columns_core.specs.declared.cell.Cell.{Cell, Null, Bool as Truth, Int, DaysMs, Text, Bytes}
use Rattle.columns_core.specs.declared.data_type.DataType.{DataType, out-DataType}
use Rattle.columns_core.specs.declared.data_type.DataType as type
use Rattle.columns_core.specs.declared.data_type.DataType.TheOpen.{DataType-F}
use Rattle.columns_core.specs.declared.data_type.IntervalUnit.TheVariants.{YearMonth, DayTime}
use Rattle.flat_values.specs.CellTypes.{cell_range_at, is_boolean_at, is_day_time_at, is_cell_at, is_cell_of}
use Rattle.flat_values.specs.MostBytes.{most_bytes_at}
use Rattle.flat_builders.specs.Strings.{stores_strings}
use Rattle.flat_builders.specs.Built.{byte_layer, has_size, is_type_of_nulls, is_kept_as, kept_layer}
use Rattle.flat_builders.specs.declared.building.Building.{Building}
use Rattle.flat_builders.specs.declared.building.Building.TheVariants as part

-- a type has the cells of a layer, and as many bytes at most
pub record IsLike (data_type : DataType) (layer : Layer) : Type 0 where
  pub typed : (cell : Cell) → is_cell_of data_type cell ≡ is_cell_at layer cell
  pub most : most_bytes_at (out-DataType data_type) ≡ most_bytes_at layer

-- two layers of numbers of one range have the same cells
same_numbers : (a b : Layer) → is_boolean_at a ≡ is_boolean_at b → cell_range_at a ≡ cell_range_at b → is_day_time_at a ≡ is_day_time_at b → is_text_at a ≡ is_text_at b
    → ((n : ℕ) → takes_bytes_at a n ≡ takes_bytes_at b n) → (cell : Cell) → is_cell_at a cell ≡ is_cell_at b cell
same_numbers a b truth range interval text bytes Null = refl
same_numbers a b truth range interval text bytes (Truth value) = truth
same_numbers a b truth range interval text bytes (Int n) = ap (λ r. option_map_or (λ found. is_in found n) r false) range
same_numbers a b truth range interval text bytes (DaysMs days milliseconds) = ap (λ i. i && is_in (signed_range 32) days && is_in (signed_range 32) milliseconds) interval
same_numbers a b truth range interval text bytes (Text string) = ap (λ t. t && is_utf8 string) text
same_numbers a b truth range interval text bytes (Bytes string) = bytes (length string)
same_numbers a b truth range interval text bytes _ = refl

like_null : (data_type : DataType) → is_type_of_nulls data_type ≡ true → IsLike data_type DataType-F.Null
unfolding out-DataType denote.Hole.Carrier.out
like_null type.Null e = record { typed = λ cell. refl; most = refl }
like_null _ e = absurd cc

like_truth : (data_type : DataType) → is_boolean data_type ≡ true → IsLike data_type DataType-F.Boolean
unfolding out-DataType denote.Hole.Carrier.out
like_truth type.Boolean e = record { typed = λ cell. refl; most = refl }
like_truth _ e = absurd cc

like_i8 : (data_type : DataType) → stores_i8 data_type ≡ true → IsLike data_type DataType-F.Int8
unfolding out-DataType denote.Hole.Carrier.out
like_i8 type.Int8 e = record { typed = λ cell. refl; most = refl }
like_i8 _ e = absurd cc

like_i16 : (data_type : DataType) → stores_i16 data_type ≡ true → IsLike data_type DataType-F.Int16
unfolding out-DataType denote.Hole.Carrier.out
like_i16 type.Int16 e = record { typed = λ cell. refl; most = refl }
like_i16 _ e = absurd cc

like_i32 : (data_type : DataType) → stores_i32 data_type ≡ true → IsLike data_type DataType-F.Int32
unfolding out-DataType denote.Hole.Carrier.out
like_i32 type.Int32 e = record { typed = λ cell. refl; most = refl }
like_i32 type.Date32 e = record { typed = λ cell. same_numbers DataType-F.Date32 DataType-F.Int32 refl refl refl refl (λ n. refl) cell; most = refl }
like_i32 (type.Time32 unit) e = record { typed = λ cell. same_numbers (DataType-F.Time32 unit) DataType-F.Int32 refl refl refl refl (λ n. refl) cell; most = refl }
like_i32 (type.Interval YearMonth) e = record { typed = λ cell. same_numbers (DataType-F.Interval YearMonth) DataType-F.Int32 refl refl refl refl (λ n. refl) cell; most = refl }
like_i32 _ e = absurd cc

like_i64 : (data_type : DataType) → stores_i64 data_type ≡ true → IsLike data_type DataType-F.Int64
unfolding out-DataType denote.Hole.Carrier.out
like_i64 type.Int64 e = record { typed = λ cell. refl; most = refl }
like_i64 type.Date64 e = record { typed = λ cell. same_numbers DataType-F.Date64 DataType-F.Int64 refl refl refl refl (λ n. refl) cell; most = refl }
like_i64 (type.Time64 unit) e = record { typed = λ cell. same_numbers (DataType-F.Time64 unit) DataType-F.Int64 refl refl refl refl (λ n. refl) cell; most = refl }
like_i64 (type.Duration unit) e = record { typed = λ cell. same_numbers (DataType-F.Duration unit) DataType-F.Int64 refl refl refl refl (λ n. refl) cell; most = refl }
like_i64 (type.Timestamp unit zone) e = record { typed = λ cell. same_numbers (DataType-F.Timestamp unit zone) DataType-F.Int64 refl refl refl refl (λ n. refl) cell; most = refl }
like_i64 _ e = absurd cc

like_u8 : (data_type : DataType) → stores_u8 data_type ≡ true → IsLike data_type DataType-F.UInt8
unfolding out-DataType denote.Hole.Carrier.out
like_u8 type.UInt8 e = record { typed = λ cell. refl; most = refl }
like_u8 _ e = absurd cc

like_u16 : (data_type : DataType) → stores_u16 data_type ≡ true → IsLike data_type DataType-F.UInt16
unfolding out-DataType denote.Hole.Carrier.out
like_u16 type.UInt16 e = record { typed = λ cell. refl; most = refl }
like_u16 _ e = absurd cc

like_u32 : (data_type : DataType) → stores_u32 data_type ≡ true → IsLike data_type DataType-F.UInt32
unfolding out-DataType denote.Hole.Carrier.out
like_u32 type.UInt32 e = record { typed = λ cell. refl; most = refl }
like_u32 _ e = absurd cc

like_u64 : (data_type : DataType) → stores_u64 data_type ≡ true → IsLike data_type DataType-F.UInt64
unfolding out-DataType denote.Hole.Carrier.out
like_u64 type.UInt64 e = record { typed = λ cell. refl; most = refl }
like_u64 _ e = absurd cc

like_i128 : (data_type : DataType) → stores_i128 data_type ≡ true → IsLike data_type (DataType-F.Decimal 0 0)
unfolding out-DataType denote.Hole.Carrier.out
like_i128 (type.Decimal precision scale) e = record { typed = λ cell. same_numbers (DataType-F.Decimal precision scale) (DataType-F.Decimal 0 0) refl refl refl refl (λ n. refl) cell; most = refl }
like_i128 _ e = absurd cc

like_days : (data_type : DataType) → stores_days_ms data_type ≡ true → IsLike data_type (DataType-F.Interval DayTime)
unfolding out-DataType denote.Hole.Carrier.out
like_days (type.Interval DayTime) e = record { typed = λ cell. refl; most = refl }
like_days _ e = absurd cc

own_size : (a b : ℕ) (other : Bool) → (a == b && other) ≡ true → (a == b) ≡ true
own_size a b other e = first (a == b) e where
  first : (test : Bool) → (test && other) ≡ true → test ≡ true
  first true e = refl
  first false e = absurd cc

-- no size is both 0 and not 0
no_size : (size : ℕ) → (0 == size && not (size == 0)) ≡ true → ⊥
no_size size e =
    let none : 0 ≡ size = eqb-true 0 size (own_size 0 size (not (size == 0)) e) in
    true≢false (sym (subst (λ n. (0 == n && not (n == 0)) ≡ true) (sym none) e))

like_fixed : (size : ℕ) (data_type : DataType) → has_size size data_type ≡ true → IsLike data_type (DataType-F.FixedSizeBinary size)
unfolding out-DataType denote.Hole.Carrier.out
like_fixed size (type.FixedSizeBinary own) e =
    subst (λ n. IsLike (type.FixedSizeBinary own) (DataType-F.FixedSizeBinary n)) (eqb-true own size (own_size own size (not (size == 0)) e)) (record { typed = λ cell. refl; most = refl })
like_fixed size _ e = absurd (no_size size e)

like_strings : (is_text is_large : Bool) (data_type : DataType) → stores_strings is_text is_large data_type ≡ true → IsLike data_type (byte_layer is_text is_large)
unfolding out-DataType denote.Hole.Carrier.out
like_strings true false type.Utf8 e = record { typed = λ cell. refl; most = refl }
like_strings true true type.LargeUtf8 e = record { typed = λ cell. refl; most = refl }
like_strings false false type.Binary e = record { typed = λ cell. refl; most = refl }
like_strings false true type.LargeBinary e = record { typed = λ cell. refl; most = refl }
like_strings true true _ e = absurd cc
like_strings true false _ e = absurd cc
like_strings false true _ e = absurd cc
like_strings false false _ e = absurd cc

pub like : (building : Building) (data_type : DataType) → is_kept_as building data_type ≡ true → IsLike data_type (kept_layer building)
like (part.Nulls count) = like_null
like (part.Truths items) = like_truth
like (part.Int8 items) = like_i8
like (part.Int16 items) = like_i16
like (part.Int32 items) = like_i32
like (part.Int64 items) = like_i64
like (part.UInt8 items) = like_u8
like (part.UInt16 items) = like_u16
like (part.UInt32 items) = like_u32
like (part.UInt64 items) = like_u64
like (part.Int128 items) = like_i128
like (part.DaysMs items) = like_days
like (part.Fixed bytes) = like_fixed bytes.0
like (part.Strings strings) = like_strings strings.0 false
like (part.LargeStrings strings) = like_strings strings.0 true
