-- The runs of rows that bounds keep by their pages.
use Rattle.std.proofs.Common.{◌≡◌, ℕ, zero, suc, ◌<◌, Bool, true, false, cond, List, [], ◌∷◌, length, map, get_or, Option, Some, None, refl, sym, ◌∙◌, ap, arith}
use Rattle.std.specs.Prelude.{◌&&◌, filter, is_some, option_map, unwrap_or, zip, IfSome}
use Rattle.std.specs.List.{list_all}
use Rattle.std.specs.Option.{option_map_or}
use Rattle.std.proofs.lemmas.Bool.{and_parts}
use Rattle.std.proofs.lemmas.List.{get_or-map}
use Rattle.columns_core.specs.Causes.{ExternalFormat}
use Rattle.columns_core.specs.declared.data_type.DataType.{DataType}
use Rattle.columns_core.specs.declared.data_type.Field.{Field}
use Rattle.parquet_base.specs.Reading.{◌>>=◌}
use Rattle.parquet_base.specs.Intervals.{covers, is_kept_page, maximal_runs}
use Rattle.parquet_base.specs.declared.interval.Interval.{Interval}
use Rattle.parquet_base.proofs.SegmentLemmas.{covers-maximal_runs, same_runs}
use Rattle.parquet_meta.specs.declared.metadata.ColumnChunkMetaData.{ColumnChunkMetaData}
use Rattle.parquet_meta.specs.declared.metadata.PageLocation.{PageLocation}
use Rattle.parquet_meta.specs.declared.metadata.RowGroupMetaData.{RowGroupMetaData}
use Rattle.parquet_scan.specs.declared.bound.Bound.{Bound}
use Rattle.parquet_page.specs.Locations.{has_shape, page_intervals}
use Rattle.parquet_scan.specs.Causes.{index_causes_of_bound}
use Rattle.parquet_scan.specs.Counting.{AreLocated}
use Rattle.parquet_scan.specs.Pages.{column_index_causes, locations, page_ends, rows_at}
use Rattle.parquet_scan.specs.Request.{are_values_of, begins, bound_type, bounded_field, is_legal_bound_of}
use Rattle.parquet_scan.specs.Rows.{bound_keeps, bounded_column, column_named, field_locations, is_named, only_one, pages_keep, keeps_row, page_keeps, row_keeps}

-- ---- the column of a name

same_first : {X : Type 0} (a b : X) (as' bs : List X) → a ∷ as' ≡ b ∷ bs → a ≡ b
same_first a b as' bs e = cc

passes_or : {X : Type 0} (p : X → Bool) (first x : X) (rest ys : List X) (b : Bool) → p first ≡ b → (rest ≡ x ∷ ys → p x ≡ true) → cond b (first ∷ rest) rest ≡ x ∷ ys → p x ≡ true
passes_or p first x rest ys true passes behind e = ap p (sym (same_first first x rest ys e)) ∙ passes
passes_or p first x rest ys false passes behind e = behind e

first_passes : {X : Type 0} (p : X → Bool) (xs ys : List X) (x : X) → filter p xs ≡ x ∷ ys → p x ≡ true
first_passes p [] ys x e = absurd cc
first_passes p (first ∷ xs) ys x e = passes_or p first x (filter p xs) ys (p first) refl (first_passes p xs ys x) e

one_alone : {X : Type 0} (xs : List X) (x : X) → only_one xs ≡ Some x → xs ≡ x ∷ []
one_alone [] x e = absurd cc
one_alone (y ∷ []) x e = ap (λ o. unwrap_or o y ∷ []) e
one_alone (y ∷ z ∷ xs) x e = absurd cc

pub named_begins : (group : RowGroupMetaData) (name : List ℕ) (column : ColumnChunkMetaData) → column_named group name ≡ Some column → begins name column.descriptor ≡ true
named_begins group name column e = first_passes (is_named name) group.columns [] column (one_alone (filter (is_named name) group.columns) column e)

at_column : (bytes : List ℕ) (group : RowGroupMetaData) (name : List ℕ) (column : ColumnChunkMetaData) (list : List PageLocation) → column_named group name ≡ Some column → field_locations bytes group name ≡ list → locations bytes column ≡ list
at_column bytes group name column list named e = sym (ap (λ o. option_map_or (locations bytes) o []) named) ∙ e

-- ---- the column of a bound, whose values are of a type

-- the type of a field and a column, where both are there
abbrev pub typed_by : Option Field → Option ColumnChunkMetaData → Option (DataType × ColumnChunkMetaData)
typed_by field column = do
  found ← field
  own ← column
  Some (bound_type found, own)

pub bound_column : (fields : List Field) (group : RowGroupMetaData) (bound : Bound) (data_type : DataType) (column : ColumnChunkMetaData) → bounded_column fields group bound ≡ Some (data_type, column) → column_named group bound.field ≡ Some column
bound_column fields group bound data_type column e = by (bounded_field fields bound) (column_named group bound.field) e where
  by : (field : Option Field) (found : Option ColumnChunkMetaData) → typed_by field found ≡ Some (data_type, column) → found ≡ Some column
  by None found e = absurd cc
  by (Some field) None e = absurd cc
  by (Some field) (Some found) e = ap (λ (o : Option (DataType × ColumnChunkMetaData)). option_map (λ typed. typed.1) o) e

pub of_bound : (told : Option (List ℕ)) (fields : List Field) (group : RowGroupMetaData) (bound : Bound) (data_type : DataType) (column : ColumnChunkMetaData) (list : List PageLocation) → bounded_column fields group bound ≡ Some (data_type, column)
    → IfSome told (λ bytes. field_locations bytes group bound.field ≡ list) → IfSome told (λ bytes. index_causes_of_bound fields bytes group bound ≡ column_index_causes data_type (length list) bytes column)
of_bound None fields group bound data_type column list typed e = tt
of_bound (Some bytes) fields group bound data_type column list typed e =
    ap (λ (o : Option (DataType × ColumnChunkMetaData)). option_map_or (λ typed. column_index_causes typed.0 (length (locations bytes typed.1)) bytes typed.1) o (ExternalFormat ∷ [])) typed
    ∙ ap (λ found. column_index_causes data_type (length found) bytes column) (at_column bytes group bound.field column list (bound_column fields group bound data_type column typed) e)

-- ---- the runs of a bound

-- what is wrong with a column index by the number of its pages
pub counted_as : (told : Option (List ℕ)) (data_type : DataType) (column : ColumnChunkMetaData) (m n : ℕ) → m ≡ n → IfSome told (λ bytes. column_index_causes data_type m bytes column ≡ column_index_causes data_type n bytes column)
counted_as None data_type column m n e = tt
counted_as (Some bytes) data_type column m n e = ap (λ n. column_index_causes data_type n bytes column) e

-- those of the rows in kept pages
pub kept_runs : (told : Option (List ℕ)) (data_type : DataType) (column : ColumnChunkMetaData) (bound : Bound) (list : List PageLocation) (count : ℕ) (rows : List Interval) (keep : List Bool) (runs : List Interval) → page_intervals list count ≡ Some rows
    → IfSome told (λ bytes. map (page_keeps bound) (zip rows (page_ends data_type bytes column)) ≡ keep) → runs ≡ maximal_runs (is_kept_page rows keep) count
    → IfSome told (λ bytes. runs ≡ maximal_runs (keeps_row (rows_at list count) (page_ends data_type bytes column) bound) count)
kept_runs None data_type column bound list count rows keep runs at are e = tt
kept_runs (Some bytes) data_type column bound list count rows keep runs at are e =
    e ∙ ap (λ keep. maximal_runs (is_kept_page rows keep) count) (sym are)
    ∙ ap (λ (rows : List Interval). maximal_runs (keeps_row rows (page_ends data_type bytes column) bound) count) (sym (ap (λ o. unwrap_or o []) at))

pub bound_runs : (told : Option (List ℕ)) (fields : List Field) (group : RowGroupMetaData) (bound : Bound) (data_type : DataType) (column : ColumnChunkMetaData) (list : List PageLocation) (runs : List Interval) → bounded_column fields group bound ≡ Some (data_type, column)
    → IfSome told (λ bytes. field_locations bytes group bound.field ≡ list)
    → IfSome told (λ bytes. runs ≡ maximal_runs (keeps_row (rows_at list group.num_rows) (page_ends data_type bytes column) bound) group.num_rows)
    → IfSome told (λ bytes. maximal_runs (λ row. bound_keeps fields bytes group row bound) group.num_rows ≡ runs)
bound_runs None fields group bound data_type column list runs typed at e = tt
bound_runs (Some bytes) fields group bound data_type column list runs typed at e =
    ap (λ (o : Option (DataType × ColumnChunkMetaData)). maximal_runs (λ row. option_map_or (λ typed. row_keeps typed.0 bytes group bound typed.1 row) o false) group.num_rows) typed
    ∙ ap (λ list. maximal_runs (keeps_row (rows_at list group.num_rows) (page_ends data_type bytes column) bound) group.num_rows)
    (at_column bytes group bound.field column list (bound_column fields group bound data_type column typed) at) ∙ sym e

-- ---- the runs of all bounds

all_mapped : {X Y : Type 0} (p : Y → Bool) (f : X → Y) (xs : List X) → list_all (λ x. p (f x)) xs ≡ list_all p (map f xs)
all_mapped p f [] = refl
all_mapped p f (x ∷ xs) = ap (λ b. p (f x) && b) (all_mapped p f xs)

all_agree : {X : Type 0} (p q : X → Bool) (xs : List X) → ((x : X) → p x ≡ q x) → list_all p xs ≡ list_all q xs
all_agree p q [] same = refl
all_agree p q (x ∷ xs) same = λ i. same x i && all_agree p q xs same i

pub all_runs : {X : Type 0} (told : Option (List ℕ)) (fields : List Field) (group : RowGroupMetaData) (bounds : List Bound) (items : X → List Interval) (lists : List X) (runs : List Interval)
    → IfSome told (λ bytes. map (λ bound. maximal_runs (λ row. bound_keeps fields bytes group row bound) group.num_rows) bounds ≡ map items lists)
    → runs ≡ maximal_runs (λ row. list_all (λ list. covers (items list) row) lists) group.num_rows
    → IfSome told (λ bytes. runs ≡ maximal_runs (pages_keep true fields bounds bytes group) group.num_rows)
all_runs None fields group bounds items lists runs are e = tt
all_runs (Some bytes) fields group bounds items lists runs are e =
    e ∙ same_runs _ (pages_keep true fields bounds bytes group) group.num_rows (λ row low.
    all_mapped (λ runs. covers runs row) items lists ∙ ap (list_all (λ runs. covers runs row)) (sym are)
    ∙ sym (all_mapped (λ runs. covers runs row) (λ bound. maximal_runs (λ row. bound_keeps fields bytes group row bound) group.num_rows) bounds)
    ∙ all_agree (λ bound. covers (maximal_runs (λ row. bound_keeps fields bytes group row bound) group.num_rows) row) (bound_keeps fields bytes group row) bounds
    (λ bound. covers-maximal_runs (λ row. bound_keeps fields bytes group row bound) group.num_rows row low))

-- ---- items at a place

pub all_at : {X : Type 0} (p : X → Bool) (xs : List X) (i : ℕ) (d : X) → list_all p xs ≡ true → i < length xs → p (get_or xs i d) ≡ true
all_at p [] i d all h = absurd (omega (arith, h))
all_at p (x ∷ xs) zero d all h = (and_parts (p x) (list_all p xs) all).0
all_at p (x ∷ xs) (suc i) d all h = all_at p xs i d (and_parts (p x) (list_all p xs) all).1 (omega (arith, h))

-- the locations of a bound's column stand at the place of its field
pub locations_at : (told : Option (List ℕ)) (group : RowGroupMetaData) (fields : List Field) (lists : List (List PageLocation)) (bound : Bound) (i : ℕ) (d : List PageLocation)
    → IfSome told (λ bytes. map (λ field. field_locations bytes group field.name) fields ≡ lists) → i < length fields → ((field : Field) → (get_or fields i field).name ≡ bound.field)
    → IfSome told (λ bytes. field_locations bytes group bound.field ≡ get_or lists i d)
locations_at None group fields lists bound i d same h named = tt
locations_at (Some bytes) group [] lists bound i d same h named = absurd (omega (arith, h))
locations_at (Some bytes) group (field ∷ fields) lists bound i d same h named =
    ap (field_locations bytes group) (sym (named field)) ∙ sym (get_or-map (λ (field : Field). field_locations bytes group field.name) (field ∷ fields) i field d h) ∙ ap (λ lists. get_or lists i d) same

-- those of each field are those of the one column that it names
pub are_located : (told : Option (List ℕ)) (fields : List Field) (group : RowGroupMetaData) (lists : List (List PageLocation)) → IfSome told (λ bytes. map (λ field. field_locations bytes group field.name) fields ≡ lists)
    → list_all (λ list. has_shape list group.num_rows) lists ≡ true → length lists ≡ length fields → AreLocated told fields group lists
are_located told fields group lists same shaped count i field h at column named = record {
  shape = all_at (λ list. has_shape list group.num_rows) lists i [] shaped (omega (arith, h, count));
  same = by told same;
} where
  by : (told : Option (List ℕ)) → IfSome told (λ bytes. map (λ field. field_locations bytes group field.name) fields ≡ lists) → IfSome told (λ bytes. locations bytes column ≡ get_or lists i [])
  by None e = tt
  by (Some bytes) e =
      at_column bytes group field.name column (get_or lists i []) named
      (ap (λ (field : Field). field_locations bytes group field.name) at ∙ sym (get_or-map (λ (field : Field). field_locations bytes group field.name) fields i field [] h) ∙ ap (λ lists. get_or lists i []) e)

-- ---- the field of a legal bound

pub field_there : (fields : List Field) (bound : Bound) → is_legal_bound_of fields bound ≡ true → is_some (bounded_field fields bound) ≡ true
field_there fields bound legal = by (bounded_field fields bound) legal where
  by : (o : Option Field) → option_map_or (λ (field : Field). are_values_of (bound_type field) bound) o false ≡ true → is_some o ≡ true
  by None legal = legal
  by (Some field) legal = refl
