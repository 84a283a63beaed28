-- Groups whose columns are opened.
use Rattle.std.proofs.Common.{◌≡◌, ◌∙◌, ℕ, ◌<◌, Bool, true, false, List, [], length, map, refl, sym, ap, subst, arith, Option}
use Rattle.std.specs.Prelude.{IfErr, IfOk, IfSome, IsTrue, Some, Result, Ok, Err, sum_by}
use Rattle.std.proofs.lemmas.List.{length-map}
use Rattle.std.proofs.lemmas.Simd.{map-map}
use Rattle.columns_core.specs.Causes.{is_invalid_argument}
use Rattle.columns_core.specs.declared.data_type.Field.{Field}
use Rattle.columns_core.specs.declared.error.Error.{Error}
use Rattle.flat_values.specs.ColumnLeft.{ColumnLeft}
use Rattle.parquet_read.specs.Asked.{GroupReading, PageLists, asked_fields, fields_left, is_readable, rows_asked, size_asked}
use Rattle.parquet_read.specs.Groups.{OpensGroup, rows_of_group}
use Rattle.parquet_read.specs.Opening.{rows_wanted}
use Rattle.parquet_read.specs.Rows.{GroupLeft, limited}
use Rattle.parquet_read.proofs.OutlineLemmas.{sum_of_map}

pub surely : (b : Bool) → (b ≡ false → ⊥) → b ≡ true
surely true not = refl
surely false not = absurd (not refl)

-- what is known of the columns, whatever the source gives
pub record AreOpened (reading : GroupReading) (fields : List Field) (lists : Option PageLists) (columns : List ColumnLeft) : Type 0 where
  pub each : length columns ≡ length fields
  pub typed : map (λ (left : ColumnLeft). left.data_type) columns ≡ map (λ (field : Field). field.data_type) fields
  pub sized : map (λ (left : ColumnLeft). left.size) columns ≡ map (size_asked reading) (asked_fields reading.limit fields lists)
  pub counted : map rows_wanted columns ≡ map (rows_asked reading) (asked_fields reading.limit fields lists)
  pub fresh : sum_by (λ (left : ColumnLeft). left.lent) columns ≡ 0

pub columns_opened : {X : Type 0} (left_of : X → ColumnLeft) (reading : GroupReading) (fields : List Field) (lists : Option PageLists) (columns : List X)
    → length columns ≡ length fields → map (λ column. (left_of column).data_type) columns ≡ map (λ (field : Field). field.data_type) fields
    → map (λ column. (left_of column).size) columns ≡ map (size_asked reading) (asked_fields reading.limit fields lists)
    → map (λ column. rows_wanted (left_of column)) columns ≡ map (rows_asked reading) (asked_fields reading.limit fields lists)
    → sum_by (λ column. (left_of column).lent) columns ≡ 0 → AreOpened reading fields lists (map left_of columns)
columns_opened left_of reading fields lists columns each typed sized counted fresh = record {
  each = length-map columns left_of ∙ each;
  typed = map-map (λ (left : ColumnLeft). left.data_type) left_of columns ∙ typed;
  sized = map-map (λ (left : ColumnLeft). left.size) left_of columns ∙ sized;
  counted = map-map rows_wanted left_of columns ∙ counted;
  fresh = sum_of_map (λ (left : ColumnLeft). left.lent) left_of columns ∙ fresh;
}

pub group_opens : {X : Type 0} (group_of : X → GroupLeft) (told : Option (List ℕ)) (before now : ℕ) (reading : GroupReading) (fields : List Field) (lists : Option PageLists) (columns : List ColumnLeft) (rows : ℕ) (result : Result X Error)
    → is_readable reading fields lists ≡ true → IfSome told (λ file. fields_left reading (asked_fields reading.limit fields lists) file ≡ Some columns) → AreOpened reading fields lists columns → 0 < length fields
    → rows ≡ rows_of_group reading.group lists → IfOk result (λ found. group_of found ≡ record { columns = columns; num_rows = rows; wanted = limited reading.limit rows }) → IfErr result (λ _. columns ≡ [])
    → OpensGroup group_of told before now reading fields lists result
group_opens group_of told before now reading fields lists columns rows (Ok found) readable left all some counted is none =
    record {
      readable = readable;
      columns = subst (λ (l : List ColumnLeft). IfSome told (λ file. fields_left reading (asked_fields reading.limit fields lists) file ≡ Some l)) (sym (ap (λ (g : GroupLeft). g.columns) is)) left;
      each = ap (λ (g : GroupLeft). length g.columns) is ∙ all.each;
      typed = ap (λ (g : GroupLeft). map (λ (left : ColumnLeft). left.data_type) g.columns) is ∙ all.typed;
      sized = ap (λ (g : GroupLeft). map (λ (left : ColumnLeft). left.size) g.columns) is ∙ all.sized;
      counted = ap (λ (g : GroupLeft). map rows_wanted g.columns) is ∙ all.counted;
      fresh = ap (λ (g : GroupLeft). sum_by (λ (left : ColumnLeft). left.lent) g.columns) is ∙ all.fresh;
      rows = ap (λ (g : GroupLeft). g.num_rows) is ∙ counted;
      wanted = ap (λ (g : GroupLeft). g.wanted) is ∙ ap (limited reading.limit) counted;
      refused = tt;
      failed = tt;
    }
group_opens group_of told before now reading fields lists columns rows (Err e) readable left all some counted is none = absurd (omega (arith, ap length none, all.each, some))

pub none_made : {X A B : Type 0} (f : A → B) (xs : List A) (result : Result X Error) → IfErr result (λ e. IsTrue (is_invalid_argument e) × (xs ≡ [])) → IfErr result (λ _. map f xs ≡ [])
none_made f xs (Ok x) err = tt
none_made f xs (Err e) err = ap (map f) err.1
