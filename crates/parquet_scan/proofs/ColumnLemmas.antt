-- The cells of the arrays of a column, read as nulls or not.
use Rattle.std.proofs.Common.{◌≡◌, ℕ, ◌-◌, ◌<◌, Bool, true, false, List, [], ◌∷◌, length, map, refl, sym, ◌∙◌, ap, arith}
use Rattle.std.specs.Prelude.{All, Option, Some, None, option_and_then, replicate, nat_lt, IfSome, if◌then◌else◌}
use Rattle.std.proofs.lemmas.Bool.{lt-ltb}
use Rattle.std.proofs.lemmas.List.{length-replicate}
use Rattle.std.proofs.lemmas.List.Elements.{All-cons, All-nil}
use Rattle.std.proofs.lemmas.Simd.{map-map}
use Rattle.columns_core.specs.Array.{cells, column_of, data_type_of}
use Rattle.columns_core.specs.declared.array.Array.{Array}
use Rattle.columns_core.specs.declared.cell.Cell.{Cell, Null}
use Rattle.columns_core.specs.Types.{Layer}
use Rattle.columns_core.specs.declared.data_type.DataType.{DataType, out-DataType, roll-DataType, roll-out-DataType}
use Rattle.columns_core.specs.declared.data_type.DataType.TheOpen.{DataType-F}
use Rattle.columns_core.specs.declared.data_type.DataType as type
use Rattle.parquet_base.specs.Intervals.{covers, is_well_shaped, rows_of}
use Rattle.parquet_base.specs.Pieces.{cut}
use Rattle.parquet_base.specs.Reading.{given}
use Rattle.parquet_base.specs.declared.interval.Interval.{Interval}
use Rattle.parquet_base.proofs.RowLemmas.{rows_of-passing}
use Rattle.parquet_meta.specs.declared.metadata.ColumnChunkMetaData.{ColumnChunkMetaData}
use Rattle.parquet_meta.specs.declared.metadata.RowGroupMetaData.{RowGroupMetaData}
use Rattle.page_decoding.specs.Queue.{IsChunkSize}
use Rattle.flat_values.specs.Conversion.{Item, Value}
use Rattle.flat_binary.specs.NullType.{is_null_at}
use Rattle.column_ends.specs.Converted.{as_cell}
use Rattle.parquet_scan.specs.Cells.{column_cell, is_null_type, located_item, walked_item}
use Rattle.parquet_scan.proofs.CellLemmas.{map_passing}
use Rattle.parquet_scan.proofs.PieceLemmas.{cut-lengths, pieces-as}

-- ---- the cells of a column

-- the item of a row that is not read as null
abbrev pub item_by : Bool → List ℕ → RowGroupMetaData → DataType → ColumnChunkMetaData → ℕ → Option Item
item_by by_pages bytes group data_type column row = if by_pages then located_item bytes group data_type column row else walked_item bytes group data_type column row

-- the item of a row that is read as null, below a number
abbrev null_item : ℕ → ℕ → Option Item
null_item rows row = given (nat_lt row rows) (Value Null)

-- items that are values are cells
cells_of : (item : ℕ → Option Item) (rows : List ℕ) (found : List Cell) → map item rows ≡ map (λ cell. Some (Value cell)) found → map (λ row. option_and_then as_cell (item row)) rows ≡ map Some found
cells_of item rows found e = sym (map-map (option_and_then as_cell) item rows) ∙ ap (map (option_and_then as_cell)) e ∙ map-map (option_and_then as_cell) (λ cell. Some (Value cell)) found

pieces_of : (item : ℕ → Option Item) (pieces : List (List ℕ)) (found : List (List Cell)) → map (map (λ cell. Some (Value cell))) found ≡ map (map item) pieces
    → map (map Some) found ≡ map (map (λ row. option_and_then as_cell (item row))) pieces
pieces_of item [] [] e = refl
pieces_of item [] (cells ∷ found) e = absurd cc
pieces_of item (piece ∷ pieces) [] e = absurd cc
pieces_of item (piece ∷ pieces) (cells ∷ found) e =
    let both = split (map (λ cell. Some (Value cell)) cells) (map item piece) (map (map (λ cell. Some (Value cell))) found) (map (map item) pieces) e in
    λ i. sym (cells_of item piece cells (sym both.0)) i ∷ pieces_of item pieces found both.1 i where
      split : (x y : List (Option Item)) (xs ys : List (List (Option Item))) → x ∷ xs ≡ y ∷ ys → (x ≡ y) × (xs ≡ ys)
      split x y xs ys e = (cc, cc)

pub cells_read : (told : Option (List ℕ)) (by_pages : Bool) (group : RowGroupMetaData) (data_type : DataType) (column : ColumnChunkMetaData) (pieces : List (List ℕ)) (found : List (List Cell)) → is_null_type data_type ≡ false
    → IfSome told (λ bytes. map (map (λ cell. Some (Value cell))) found ≡ map (map (item_by by_pages bytes group data_type column)) pieces)
    → IfSome told (λ bytes. map (map Some) found ≡ map (map (column_cell by_pages bytes group data_type column)) pieces)
cells_read None by_pages group data_type column pieces found not_null e = tt
cells_read (Some bytes) by_pages group data_type column pieces found not_null e =
    pieces_of (item_by by_pages bytes group data_type column) pieces found e
    ∙ sym (ap (λ b. map (map (λ row. option_and_then as_cell (if b then null_item group.num_rows row else item_by by_pages bytes group data_type column row))) pieces) not_null)

-- ---- a column that is read as nulls

-- what stands in a row below a number
abbrev null_in : ℕ → ℕ → Option Cell
null_in rows row = option_and_then as_cell (given (nat_lt row rows) (Value Null))

null_at : (rows row : ℕ) → row < rows → null_in rows row ≡ Some Null
null_at rows row low = ap (λ b. option_and_then as_cell (given b (Value Null))) (lt-ltb row rows low)

null_rows : (rows : ℕ) (runs : List Interval) → is_well_shaped runs rows ≡ true → map (null_in rows) (rows_of runs) ≡ map (λ row. Some Null) (rows_of runs)
null_rows rows runs shaped =
    let are = rows_of-passing 0 runs rows shaped in
    ap (map (null_in rows)) are
    ∙ map_passing (null_in rows) (λ row. Some Null) (covers runs) 0 (rows - 0) (λ row above below. null_at rows row (omega (arith, below)))
    ∙ ap (map (λ row. Some Null)) (sym are)

all_null : (rows : List ℕ) → map (λ row. Some Null) rows ≡ map Some (replicate (length rows) Null)
all_null [] = refl
all_null (row ∷ rows) = ap (λ rest. Some Null ∷ rest) (all_null rows)

-- arrays of nulls
abbrev pub AreNulls : Option ℕ → ℕ → List Array → Type 0
AreNulls size rows arrays = map column_of arrays ≡ map (λ nulls. (type.Null, nulls)) (cut size (replicate rows Null))

null_cells : (arrays : List Array) (pieces : List (List Cell)) → map column_of arrays ≡ map (λ nulls. (type.Null, nulls)) pieces → map cells arrays ≡ pieces
null_cells arrays pieces e =
    sym (map-map (λ (column : DataType × List Cell). column.1) column_of arrays) ∙ ap (map (λ (column : DataType × List Cell). column.1)) e
    ∙ map-map (λ (column : DataType × List Cell). column.1) (λ nulls. (type.Null, nulls)) pieces ∙ map_same pieces where
      map_same : (pieces : List (List Cell)) → map (λ nulls. nulls) pieces ≡ pieces
      map_same [] = refl
      map_same (nulls ∷ pieces) = ap (λ rest. nulls ∷ rest) (map_same pieces)

-- All have the type of nulls,
pub nulls_typed : (data_type : DataType) (arrays : List Array) (pieces : List (List Cell)) → map column_of arrays ≡ map (λ nulls. (type.Null, nulls)) pieces → data_type ≡ type.Null
    → All (λ array. data_type_of array ≡ data_type) arrays
nulls_typed data_type [] pieces e is = All-nil (λ array. data_type_of array ≡ data_type)
nulls_typed data_type (array ∷ arrays) [] e is = absurd cc
nulls_typed data_type (array ∷ arrays) (nulls ∷ pieces) e is =
    let both = split (column_of array) (type.Null, nulls) (map column_of arrays) (map (λ nulls. (type.Null, nulls)) pieces) e in
    All-cons (λ array. data_type_of array ≡ data_type) array arrays (ap (λ (column : DataType × List Cell). column.0) both.0 ∙ sym is) (nulls_typed data_type arrays pieces both.1 is) where
      split : (x y : DataType × List Cell) (xs ys : List (DataType × List Cell)) → x ∷ xs ≡ y ∷ ys → (x ≡ y) × (xs ≡ ys)
      split x y xs ys e = (cc, cc)

-- there is one for each row,
pub nulls_counted : (size : Option ℕ) (rows : List ℕ) (arrays : List Array) → IsChunkSize size → AreNulls size (length rows) arrays → map (λ array. length (cells array)) arrays ≡ map length (cut size rows)
nulls_counted size rows arrays some e =
    sym (map-map length cells arrays) ∙ ap (map length) (null_cells arrays (cut size (replicate (length rows) Null)) e)
    ∙ cut-lengths size (replicate (length rows) Null) rows some (length-replicate (length rows) Null)

-- and they are the cells of the rows.
pub nulls_read : (told : Option (List ℕ)) (by_pages : Bool) (size : Option ℕ) (group : RowGroupMetaData) (runs : List Interval) (data_type : DataType) (column : ColumnChunkMetaData) (arrays : List Array) → is_well_shaped runs group.num_rows ≡ true
    → is_null_type data_type ≡ true → AreNulls size (length (rows_of runs)) arrays
    → IfSome told (λ bytes. map (λ array. map Some (cells array)) arrays ≡ map (map (column_cell by_pages bytes group data_type column)) (cut size (rows_of runs)))
nulls_read None by_pages size group runs data_type column arrays shaped is_null e = tt
nulls_read (Some bytes) by_pages size group runs data_type column arrays shaped is_null e =
    let each : map (column_cell by_pages bytes group data_type column) (rows_of runs) ≡ map Some (replicate (length (rows_of runs)) Null)
    = ap (λ b. map (λ row. option_and_then as_cell (if b then null_item group.num_rows row else item_by by_pages bytes group data_type column row)) (rows_of runs)) is_null
    ∙ null_rows group.num_rows runs shaped ∙ all_null (rows_of runs) in
    sym (map-map (map Some) cells arrays) ∙ ap (map (map Some)) (null_cells arrays (cut size (replicate (length (rows_of runs)) Null)) e)
    ∙ sym (pieces-as Some (column_cell by_pages bytes group data_type column) size (rows_of runs) (replicate (length (rows_of runs)) Null) each)

-- ---- the type whose only items are nulls

null_layer : (layer : Layer) → is_null_at layer ≡ true → layer ≡ DataType-F.Null
null_layer DataType-F.Null e = refl
null_layer layer e = absurd cc

pub null_type : (data_type : DataType) → is_null_type data_type ≡ true → data_type ≡ type.Null
unfolding out-DataType denote.Hole.Carrier.out
null_type data_type e =
    sym (roll-out-DataType data_type) ∙ ap roll-DataType (null_layer (out-DataType data_type) e ∙ sym (null_layer (out-DataType type.Null) refl)) ∙ roll-out-DataType type.Null
