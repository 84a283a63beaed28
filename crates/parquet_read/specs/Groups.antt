-- Groups of a file that are still to be read, one after another, and what the reading of the next one gives.
use Rattle.std.specs.Prelude.{◌≡◌, ◌⊎◌, ℕ, ◌-◌, ◌==◌, ◌||◌, ◌&&◌, Bool, true, false, if◌then◌else◌, List, [], ◌∷◌, drop, length, map, sum_by, Option, Some, None, IfSome, IfOk, IfErr, OnOk, option_and_then, option_map, Result, Ok, Err}
use Rattle.std.specs.List.{list_all}
use Rattle.std.specs.Option.{option_map_or}
use Rattle.columns_core.specs.declared.data_type.Field.{Field}
use Rattle.columns_core.specs.declared.error.Error.{Error}
use Rattle.parquet_meta.specs.Source.{Finds}
use Rattle.parquet_meta.specs.declared.metadata.RowGroupMetaData.{RowGroupMetaData}
use Rattle.parquet_page.specs.Lent.{selected_count}
use Rattle.parquet_page.specs.declared.page.FilteredPage.{FilteredPage}
use Rattle.flat_values.specs.ColumnLeft.{ColumnLeft}
use Rattle.parquet_read.specs.Asked.{GroupReading, PageLists, asked_fields, fields_causes, fields_left, fields_length, group_reading, have_one_list, is_chunk_size, is_legal_reading, is_readable, rows_asked, size_asked}
use Rattle.parquet_read.specs.Opening.{IsRefusal, rows_wanted}
use Rattle.parquet_read.specs.Rows.{GroupLeft, limited}

-- ---- one group

-- the selected rows of the first column
abbrev pub rows_of_columns : List (List FilteredPage) → ℕ
rows_of_columns [] = 0
rows_of_columns (entries ∷ others) = selected_count entries

-- those of the first field
abbrev pub rows_of_lists : PageLists → ℕ
rows_of_lists [] = 0
rows_of_lists (own ∷ others) = rows_of_columns own

-- The selected rows of a group are those of its first field's pages, whatever the limit, or without locations all.
abbrev pub rows_of_group : RowGroupMetaData → Option PageLists → ℕ
rows_of_group group lists = option_map_or rows_of_lists lists group.num_rows

-- The first rows of a group, no more than the limit, of all its fields; or what is refused of it.
pub record OpensGroup {X : Type 0} (group_of : X → GroupLeft) (told : Option (List ℕ)) (before now : ℕ) (reading : GroupReading) (fields : List Field) (lists : Option PageLists) (result : Result X Error) : Type 0 where
  pub readable : OnOk result (is_readable reading fields lists ≡ true)
  pub columns : IfOk result (λ found. IfSome told (λ file. fields_left reading (asked_fields reading.limit fields lists) file ≡ Some (group_of found).columns))
  -- Of any source: a column for each field, of its type, with arrays of at most so many rows, of which so many are wanted; no page was lent.
  pub each : IfOk result (λ found. length (group_of found).columns ≡ length fields)
  pub typed : IfOk result (λ found. map (λ (left : ColumnLeft). left.data_type) (group_of found).columns ≡ map (λ (field : Field). field.data_type) fields)
  pub sized : IfOk result (λ found. map (λ (left : ColumnLeft). left.size) (group_of found).columns ≡ map (size_asked reading) (asked_fields reading.limit fields lists))
  pub counted : IfOk result (λ found. map rows_wanted (group_of found).columns ≡ map (rows_asked reading) (asked_fields reading.limit fields lists))
  pub fresh : IfOk result (λ found. sum_by (λ (left : ColumnLeft). left.lent) (group_of found).columns ≡ 0)
  pub rows : IfOk result (λ found. (group_of found).num_rows ≡ rows_of_group reading.group lists)
  pub wanted : IfOk result (λ found. (group_of found).wanted ≡ limited reading.limit (rows_of_group reading.group lists))
  pub refused : IfErr result (λ e. is_readable reading fields lists ≡ false
      → IsRefusal (is_legal_reading reading.size (length fields) lists ≡ true) (fields_causes reading (asked_fields reading.limit fields lists)) e)
  pub failed : IfErr result (λ e. is_readable reading fields lists ≡ true
      → Finds (λ (found : X). (group_of found).columns) (fields_left reading (asked_fields reading.limit fields lists)) told before now (Err e))

-- ---- the next group

-- The fields, the chunk size, the limit that is left, the groups and, where pages are located, the lists of their pages.
pub record GroupsLeft : Type 0 where
  pub fields : List Field
  pub size : Option ℕ
  pub wanted : Option ℕ
  pub groups : List RowGroupMetaData
  pub lists : Option (List PageLists)

-- no row is wanted, or there is no field
abbrev pub wants_none : GroupsLeft → Bool
wants_none left = (option_map_or (λ limit. limit == 0) left.wanted false) || (length left.fields == 0)

abbrev pub front_of_lists : List PageLists → Option PageLists
front_of_lists [] = None
front_of_lists (own ∷ others) = Some own

-- the lists of the first group
abbrev pub front_lists : Option (List PageLists) → Option PageLists
front_lists lists = option_and_then front_of_lists lists

-- those of the groups behind it
abbrev pub lists_behind : Option (List PageLists) → Option (List PageLists)
lists_behind lists = option_map (drop 1) lists

abbrev pub front_reading : GroupsLeft → RowGroupMetaData → GroupReading
front_reading left group = group_reading group left.size left.wanted

-- The limit falls by the selected rows of a group that is read. One whose reading failed counts nothing.
abbrev pub wanted_then : {X : Type 0} → GroupsLeft → RowGroupMetaData → Result X Error → Option ℕ
wanted_then old group (Ok found) = option_map (λ limit. limit - rows_of_group group (front_lists old.lists)) old.wanted
wanted_then old group (Err e) = old.wanted

-- Whether it could be read or not, a group is not tried again.
pub record GivesFirstGroup {X : Type 0} (group_of : X → GroupLeft) (told : Option (List ℕ)) (before now : ℕ) (old : GroupsLeft) (result : Result X Error) (new : GroupsLeft) : Type 0 where
  pub wants : wants_none old ≡ false
  pub group : RowGroupMetaData
  pub others : List RowGroupMetaData
  pub groups : old.groups ≡ group ∷ others
  pub opens : OpensGroup group_of told before now (front_reading old group) old.fields (front_lists old.lists) result
  pub left : new ≡ record old { groups = others; lists = lists_behind old.lists; wanted = wanted_then old group result }

-- None comes only where no row is wanted, there is no field, or no group is left.
abbrev pub GivesGroup : {X : Type 0} → (X → GroupLeft) → Option (List ℕ) → ℕ → ℕ → GroupsLeft → Option (Result X Error) → GroupsLeft → Type 0
GivesGroup group_of told before now old None new = (new ≡ old) × ((wants_none old ≡ true) ⊎ (old.groups ≡ []))
GivesGroup group_of told before now old (Some result) new = GivesFirstGroup group_of told before now old result new

-- how many bytes are taken for the first of some groups at most
abbrev pub length_of_front : GroupsLeft → List RowGroupMetaData → ℕ
length_of_front left [] = 0
length_of_front left (group ∷ others) =
    if wants_none left then 0 else fields_length (front_reading left group) (asked_fields left.wanted left.fields (front_lists left.lists))

-- the first of some groups, if there is one, is readable
abbrev pub is_front_readable : GroupsLeft → List RowGroupMetaData → Bool
is_front_readable left [] = true
is_front_readable left (group ∷ others) = is_readable (front_reading left group) left.fields (front_lists left.lists)

-- ---- what is legal

-- For each group a list for each field, of one column.
abbrev pub have_all_lists : ℕ → ℕ → Option (List PageLists) → Bool
have_all_lists groups fields None = true
have_all_lists groups fields (Some all) = (length all == groups) && list_all (λ own. have_one_list fields (Some own)) all

abbrev pub is_legal_file : Option ℕ → ℕ → ℕ → Option (List PageLists) → Bool
is_legal_file size groups fields lists = is_chunk_size size && have_all_lists groups fields lists
