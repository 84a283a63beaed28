-- The arrays of a column, by the definitions of a scan.
use Rattle.std.proofs.Common.{◌≡◌, ◌∙◌, ℕ, ◌+◌, ◌-◌, ◌^◌, ◌≤◌, true, false, List, [], length, map, take, Option, ap, ap₂, refl, subst, sym}
use Rattle.std.specs.Prelude.{is_some, min, All, None, Some, Result, Ok, Err, IfErr, IfOk, IfSome, OnOk, sum_by}
use Rattle.std.specs.Option.{option_map_or}
use Rattle.columns_core.specs.Array.{cells, data_type_of}
use Rattle.columns_core.specs.Causes.{NotYetImplemented}
use Rattle.columns_core.specs.declared.array.Array.{Array}
use Rattle.columns_core.specs.declared.data_type.DataType.{DataType}
use Rattle.columns_core.specs.declared.error.Error.{Error}
use Rattle.parquet_base.specs.Pieces.{cut}
use Rattle.parquet_meta.specs.declared.metadata.PrimitiveType.{PrimitiveType}
use Rattle.page_decoding.specs.Bytes.{IsCausedByChunks, cell_bytes, fits_most}
use Rattle.page_decoding.specs.Outcome.{Given}
use Rattle.flat_values.specs.ColumnLeft.{ColumnLeft, wanted}
use Rattle.flat_values.specs.Conversion.{Conversion}
use Rattle.flat_values.specs.MostBytes.{most_bytes}
use Rattle.flat_values.specs.Pairs.{conversion}
use Rattle.flat_binary.specs.Begun.{column_left}
use Rattle.flat_binary.specs.Collected.{AreCollected, Collects}
use Rattle.flat_binary.specs.Left.{Supply, converted_left}
use Rattle.flat_binary.specs.NullType.{is_null_type}
use Rattle.flat_binary.specs.PagesWanted.{pages_wanted}
use Rattle.parquet_scan.specs.Causes.{pair_causes}
use Rattle.parquet_scan.specs.Decoded.{column_rows, pages_by, pages_for, rows_by}
use Rattle.parquet_page.proofs.SpelledLemmas.{none_of}

-- ---- pairs of types

chosen : (found : Option Conversion) → is_some found ≡ true → (rule : Conversion) × (found ≡ Some rule)
chosen None some = absurd cc
chosen (Some rule) some = (rule, refl)

-- ---- what is left of a column

-- a column whose pages are all to come, by the definitions of a scan
pub record IsWhole (stored : PrimitiveType) (data_type : DataType) (size : Option ℕ) (rows : ℕ) (supply : Supply) (left : ColumnLeft) : Type 0 where
  pub typed : left.data_type ≡ data_type
  pub most : left.decoding.most_bytes ≡ most_bytes data_type
  pub cut_by : left.size ≡ size
  pub rows_left : wanted left ≡ take rows (column_rows stored data_type supply.pages supply.causes)
  pub pages_left : pages_wanted left.decoding.entries left.decoding.outcomes left.standing.dictionary left.standing.remaining left.pages ≡ pages_for stored data_type rows supply.pages
  pub lent : left.lent ≡ supply.lent

whole_by : (stored : PrimitiveType) (data_type : DataType) (size : Option ℕ) (rows : ℕ) (supply : Supply) (rule : Conversion) → conversion stored data_type ≡ Some rule
    → IsWhole stored data_type size rows supply (converted_left stored.physical_type data_type size rows supply rule)
whole_by stored data_type size rows supply rule pair = record {
  typed = refl;
  most = refl;
  cut_by = refl;
  rows_left = ap (λ found. take rows (option_map_or (rows_by data_type stored.physical_type supply.pages supply.causes) found [])) (sym pair);
  pages_left = ap (λ found. option_map_or (pages_by data_type stored.physical_type rows supply.pages) found []) (sym pair);
  lent = refl;
}

-- ---- all arrays of a column

-- what all arrays of a column are, by the definitions of a scan
pub record IsDecoded {X : Type 0} (arrays : X → List Array) (count : X → ℕ) (stored : PrimitiveType) (data_type : DataType) (size : Option ℕ) (rows : ℕ) (supply : Supply) (result : Result X Error) (steps steps_now : ℕ) : Type 0 where
  pub typed : IfOk result (λ found. All (λ array. data_type_of array ≡ data_type) (arrays found))
  pub chunks : IfOk result (λ found. map (λ array. map Given (cells array)) (arrays found) ≡ cut size (take rows (column_rows stored data_type supply.pages supply.causes)))
  pub fits : IfOk result (λ found. All (λ array. fits_most (most_bytes data_type) (sum_by cell_bytes (cells array)) ≡ true) (arrays found))
  pub cause : IfErr result (IsCausedByChunks (most_bytes data_type) size (take rows (column_rows stored data_type supply.pages supply.causes)))
  pub later : steps ≤ steps_now
  pub counted : IfOk result (λ found. count found ≡ min (steps_now - steps) (2 ^ 64 - 1))
  pub lent : OnOk result (steps_now ≡ steps + length (pages_for stored data_type rows supply.pages))

if_ok : {X : Type 0} (result : Result X Error) (P Q : X → Type 0) → ((found : X) → P found → Q found) → IfOk result P → IfOk result Q
if_ok (Ok found) P Q goes holds = goes found holds
if_ok (Err error) P Q goes holds = tt

if_err : {X : Type 0} (result : Result X Error) (P Q : Error → Type 0) → ((error : Error) → P error → Q error) → IfErr result P → IfErr result Q
if_err (Ok found) P Q goes holds = tt
if_err (Err error) P Q goes holds = goes error holds

decoded_by : {X : Type 0} (arrays : X → List Array) (count : X → ℕ) (stored : PrimitiveType) (data_type : DataType) (size : Option ℕ) (rows : ℕ) (supply : Supply) (left : ColumnLeft) (result : Result X Error) (steps steps_now : ℕ)
    → IsWhole stored data_type size rows supply left → Collects arrays count left result steps steps_now → IsDecoded arrays count stored data_type size rows supply result steps steps_now
decoded_by arrays count stored data_type size rows supply left result steps steps_now whole collects =
    let C = AreCollected left in
    let T : DataType → List Array → Type 0 = λ type items. All (λ array. data_type_of array ≡ type) items in
    let F : Option ℕ → List Array → Type 0 = λ most items. All (λ array. fits_most most (sum_by cell_bytes (cells array)) ≡ true) items in
    let all = take rows (column_rows stored data_type supply.pages supply.causes) in
    record {
      typed = if_ok result (λ found. C (arrays found)) (λ found. T data_type (arrays found)) (λ found is. subst (λ type. T type (arrays found)) whole.typed is.typed) collects.collected;
      chunks = if_ok result (λ found. C (arrays found)) (λ found. map (λ array. map Given (cells array)) (arrays found) ≡ cut size all)
          (λ found is. is.chunks ∙ ap₂ (λ size rows. cut size rows) whole.cut_by whole.rows_left) collects.collected;
      fits = if_ok result (λ found. C (arrays found)) (λ found. F (most_bytes data_type) (arrays found)) (λ found is. subst (λ most. F most (arrays found)) whole.most is.fits) collects.collected;
      cause = if_err result (IsCausedByChunks left.decoding.most_bytes left.size (wanted left)) (IsCausedByChunks (most_bytes data_type) size all)
          (λ error told. subst (λ rows. IsCausedByChunks (most_bytes data_type) size rows error) whole.rows_left
          (subst (λ size. IsCausedByChunks (most_bytes data_type) size (wanted left) error) whole.cut_by
          (subst (λ most. IsCausedByChunks most left.size (wanted left) error) whole.most told)))
          collects.cause;
      later = collects.later;
      counted = collects.counted;
      lent = subst (λ n. OnOk result (steps_now ≡ steps + n)) (ap length whole.pages_left) collects.lent;
    }

-- A column of a pair that is carried and is not read as nulls, collected by its conversion.
pub is_decoded : {X : Type 0} (arrays : X → List Array) (count : X → ℕ) (stored : PrimitiveType) (data_type own : DataType) (size : Option ℕ) (rows : ℕ) (supply : Supply) (result : Result X Error) (steps steps_now : ℕ)
    → pair_causes stored data_type ≡ [] → is_null_type data_type ≡ false → own ≡ data_type
    → IfSome (conversion stored own) (λ rule. Collects arrays count (column_left stored.physical_type own size rows supply rule) result steps steps_now)
    → IsDecoded arrays count stored data_type size rows supply result steps steps_now
is_decoded arrays count stored data_type own size rows supply result steps steps_now none present copy collects =
    let found = chosen (conversion stored data_type) (none_of (is_some (conversion stored data_type)) NotYetImplemented none) in
    let left = converted_left stored.physical_type data_type size rows supply found.0 in
    let W : DataType → Type 0 = λ type. IfSome (conversion stored type) (λ rule. Collects arrays count (column_left stored.physical_type type size rows supply rule) result steps steps_now) in
    let R : Conversion → Type 0 = λ rule. Collects arrays count (column_left stored.physical_type data_type size rows supply rule) result steps steps_now in
    let by : R found.0 = subst (λ rule. IfSome rule R) found.1 (subst W copy collects) in
    let same : column_left stored.physical_type data_type size rows supply found.0 ≡ left = rw present refl in
    decoded_by arrays count stored data_type size rows supply left result steps steps_now (whole_by stored data_type size rows supply found.0 found.1)
    (subst (λ left. Collects arrays count left result steps steps_now) same by)
