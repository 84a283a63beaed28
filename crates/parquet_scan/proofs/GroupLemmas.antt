-- The chunks of a group, put together from the arrays of its columns.
use Rattle.std.proofs.Common.{◌≡◌, ℕ, zero, suc, ◌<◌, ◌≤◌, Bool, List, [], ◌∷◌, ◌++◌, length, map, take, drop, get_or, refl, sym, subst, ◌∙◌, ap, arith, All}
use Rattle.std.specs.Prelude.{Option, Some, None, option_and_then, option_map, flat_map, sum_by, IfSome}
use Rattle.std.proofs.lemmas.List.{length-drop, length-map, length-take, map-append}
use Rattle.std.proofs.lemmas.List.Elements.{All-cons, All-nil, All-tail}
use Rattle.std.proofs.lemmas.List.Sums.{sum_by-cons}
use Rattle.std.proofs.lemmas.Simd.{map-map}
use Rattle.columns_core.specs.Array.{cells, column_of, data_type_of}
use Rattle.columns_core.specs.Chunk.{AreEqualLengths, array_rows as chunk_rows}
use Rattle.columns_core.specs.declared.array.Array.{Array}
use Rattle.columns_core.specs.declared.cell.Cell.{Cell}
use Rattle.columns_core.specs.declared.data_type.DataType.{DataType}
use Rattle.columns_core.specs.declared.data_type.Field.{Field}
use Rattle.page_decoding.specs.Queue.{IsChunkSize}
use Rattle.parquet_base.specs.Pieces.{cut, pieces}
use Rattle.parquet_base.specs.Reading.{◌>>=◌}
use Rattle.parquet_meta.specs.declared.metadata.ColumnChunkMetaData.{ColumnChunkMetaData}
use Rattle.parquet_meta.specs.declared.metadata.RowGroupMetaData.{RowGroupMetaData}
use Rattle.parquet_page.specs.Values.{all_some}
use Rattle.parquet_scan.specs.Cells.{column_cell, columns_of_chunk, given_chunk, given_column}
use Rattle.parquet_scan.specs.Chunks.{side_by_side, turned}
use Rattle.parquet_scan.specs.Counting.{shown}
use Rattle.parquet_scan.specs.Rows.{column_named}
use Rattle.parquet_scan.specs.Scan.{shape_of, shapes_of_rows}

-- ---- lists of which each item is there

pub all_there : {A B : Type 0} (f : A → B) (xs : List A) → all_some (map (λ x. Some (f x)) xs) ≡ Some (map f xs)
all_there f [] = refl
all_there f (x ∷ xs) = ap (λ o. o >>= (λ others. Some (f x ∷ others))) (all_there f xs)

all_some-map : {A : Type 0} (xs : List A) → all_some (map Some xs) ≡ Some xs
all_some-map [] = refl
all_some-map (x ∷ xs) = ap (λ o. o >>= (λ others. Some (x ∷ others))) (all_some-map xs)

-- ---- the arrays of a column

module _ (by_pages : Bool) (bytes : List ℕ) (group : RowGroupMetaData) (field : Field) (column : ColumnChunkMetaData) where
  abbrev with_type : List (Option Cell) → Option (DataType × List Cell)
  with_type found = option_map (λ cells. (field.data_type, cells)) (all_some found)

  arrays_are : (arrays : List Array) → All (λ array. data_type_of array ≡ field.data_type) arrays → map (λ array. with_type (map Some (cells array))) arrays ≡ map (λ array. Some (column_of array)) arrays
  arrays_are [] typed = refl
  arrays_are (array ∷ arrays) typed =
      let own = ap (option_map (λ cells. (field.data_type, cells))) (all_some-map (cells array)) ∙ ap (λ data_type. Some (data_type, cells array)) (sym (typed 0 array (omega arith))) in
      λ i. own i ∷ arrays_are arrays (All-tail (λ array. data_type_of array ≡ field.data_type) array arrays typed) i

  columns_are : (pieces : List (List ℕ)) (arrays : List Array) → column_named group field.name ≡ Some column → All (λ array. data_type_of array ≡ field.data_type) arrays
      → map (λ array. map Some (cells array)) arrays ≡ map (map (column_cell by_pages bytes group field.data_type column)) pieces
      → map (λ rows. given_column by_pages bytes group rows field) pieces ≡ map (λ array. Some (column_of array)) arrays
  columns_are pieces arrays named typed e =
      let cell : ℕ → Option Cell = column_cell by_pages bytes group field.data_type column in
      ap (λ o. map (λ rows. with_type (map (λ row. option_and_then (λ column. column_cell by_pages bytes group field.data_type column row) o) rows)) pieces) named
      ∙ sym (map-map with_type (map cell) pieces)
      ∙ ap (map with_type) (sym e)
      ∙ map-map with_type (λ array. map Some (cells array)) arrays
      ∙ arrays_are arrays typed

pub told_columns : (told : Option (List ℕ)) (by_pages : Bool) (group : RowGroupMetaData) (field : Field) (column : ColumnChunkMetaData) (pieces : List (List ℕ)) (arrays : List Array) → column_named group field.name ≡ Some column
    → All (λ array. data_type_of array ≡ field.data_type) arrays
    → IfSome told (λ bytes. map (λ array. map Some (cells array)) arrays ≡ map (map (column_cell by_pages bytes group field.data_type column)) pieces)
    → IfSome told (λ bytes. map (λ rows. given_column by_pages bytes group rows field) pieces ≡ map (λ array. Some (column_of array)) arrays)
told_columns None by_pages group field column pieces arrays named typed e = tt
told_columns (Some bytes) by_pages group field column pieces arrays named typed e = columns_are by_pages bytes group field column pieces arrays named typed e

-- ---- what stands in all columns at one place

module _ {A R F Z : Type 0} (g : R → F → Z) (h : A → Z) where
  first_items : (piece : R) (pieces : List R) (fields : List F) → flat_map (take 1) (map (λ field. g piece field ∷ map (λ rows. g rows field) pieces) fields) ≡ map (g piece) fields
  first_items piece pieces [] = refl
  first_items piece pieces (field ∷ fields) = ap (λ rest. g piece field ∷ rest) (first_items piece pieces fields)

  first_mapped : (lists : List (List A)) → flat_map (take 1) (map (map h) lists) ≡ map h (flat_map (take 1) lists)
  first_mapped [] = refl
  first_mapped ([] ∷ lists) = first_mapped lists
  first_mapped ((x ∷ xs) ∷ lists) = ap (λ rest. h x ∷ rest) (first_mapped lists)

  other_items : (piece : R) (pieces : List R) (fields : List F) → map (drop 1) (map (λ field. g piece field ∷ map (λ rows. g rows field) pieces) fields) ≡ map (λ field. map (λ rows. g rows field) pieces) fields
  other_items piece pieces [] = refl
  other_items piece pieces (field ∷ fields) = ap (λ rest. map (λ rows. g rows field) pieces ∷ rest) (other_items piece pieces fields)

  other_mapped : (lists : List (List A)) → map (drop 1) (map (map h) lists) ≡ map (map h) (map (drop 1) lists)
  other_mapped [] = refl
  other_mapped ([] ∷ lists) = ap (λ rest. [] ∷ rest) (other_mapped lists)
  other_mapped ((x ∷ xs) ∷ lists) = ap (λ rest. map h xs ∷ rest) (other_mapped lists)

  turned_is : (pieces : List R) (fields : List F) (lists : List (List A)) → map (λ field. map (λ rows. g rows field) pieces) fields ≡ map (map h) lists
      → map (λ rows. map (g rows) fields) pieces ≡ map (map h) (turned (length pieces) lists)
  turned_is [] fields lists e = refl
  turned_is (piece ∷ pieces) fields lists e =
      let first = sym (first_items piece pieces fields) ∙ ap (flat_map (take 1)) e ∙ first_mapped lists in
      let others = turned_is pieces fields (map (drop 1) lists) (sym (other_items piece pieces fields) ∙ ap (map (drop 1)) e ∙ other_mapped lists) in
      λ i. first i ∷ others i

chunks_are : (by_pages : Bool) (fields : List Field) (bytes : List ℕ) (group : RowGroupMetaData) (pieces : List (List ℕ)) (lists : List (List Array))
    → map (λ field. map (λ rows. given_column by_pages bytes group rows field) pieces) fields ≡ map (map (λ array. Some (column_of array))) lists
    → map (given_chunk by_pages fields bytes group) pieces ≡ shown (turned (length pieces) lists)
chunks_are by_pages fields bytes group pieces lists e =
    let chunks = turned (length pieces) lists in
    sym (map-map all_some (λ rows. map (given_column by_pages bytes group rows) fields) pieces)
    ∙ ap (map all_some) (turned_is (given_column by_pages bytes group) (λ array. Some (column_of array)) pieces fields lists e)
    ∙ map-map all_some (map (λ array. Some (column_of array))) chunks
    ∙ each chunks where
      each : (chunks : List (List Array)) → map (λ arrays. all_some (map (λ array. Some (column_of array)) arrays)) chunks ≡ shown chunks
      each [] = refl
      each (arrays ∷ chunks) = λ i. all_there column_of arrays i ∷ each chunks i

-- ---- how long they are

equal_lengths : (arrays : List Array) (rows : ℕ) → 0 < length arrays → All (λ array. length (cells array) ≡ rows) arrays → AreEqualLengths arrays
equal_lengths [] rows some all = absurd (omega (arith, some))
equal_lengths (first ∷ rest) rows some all =
    let own : length (cells first) ≡ rows = all 0 first some in
    (some, λ k d h. all k d h ∙ sym own)

first_length : (arrays : List Array) (rows : ℕ) → 0 < length arrays → All (λ array. length (cells array) ≡ rows) arrays → chunk_rows arrays ≡ rows
first_length [] rows some all = absurd (omega (arith, some))
first_length (first ∷ rest) rows some all = all 0 first some

-- columns of arrays that are so long
abbrev AreLong : List ℕ → List (List Array) → Type 0
AreLong lengths lists = All (λ list. map (λ array. length (cells array)) list ≡ lengths) lists

-- the first of them are as many, and of the first length
record HaveFirst (n : ℕ) (lists : List (List Array)) : Type 0 where
  count : length (flat_map (take 1) lists) ≡ length lists
  long : All (λ array. length (cells array) ≡ n) (flat_map (take 1) lists)

first_of : (n : ℕ) (lengths : List ℕ) (lists : List (List Array)) → AreLong (n ∷ lengths) lists → HaveFirst n lists
first_of n lengths [] are = record { count = refl; long = All-nil (λ array. length (cells array) ≡ n) }
first_of n lengths ([] ∷ lists) are = let none : [] ≡ n ∷ lengths = are 0 [] (omega arith) in absurd cc
first_of n lengths ((array ∷ arrays) ∷ lists) are =
    let others = first_of n lengths lists (All-tail (λ list. map (λ array. length (cells array)) list ≡ n ∷ lengths) (array ∷ arrays) lists are) in
    let own : length (cells array) ≡ n = ap (λ lengths. get_or lengths 0 n) (are 0 (array ∷ arrays) (omega arith)) in
    record {
      count = ap suc others.count;
      long = All-cons (λ array. length (cells array) ≡ n) array (flat_map (take 1) lists) own others.long;
    }

behind_first : (n : ℕ) (lengths : List ℕ) (lists : List (List Array)) → AreLong (n ∷ lengths) lists → AreLong lengths (map (drop 1) lists)
behind_first n lengths [] are = All-nil (λ list. map (λ array. length (cells array)) list ≡ lengths)
behind_first n lengths (list ∷ lists) are =
    All-cons (λ list. map (λ array. length (cells array)) list ≡ lengths) (drop 1 list) (map (drop 1) lists) (behind list (are 0 list (omega arith)))
    (behind_first n lengths lists (All-tail (λ list. map (λ array. length (cells array)) list ≡ n ∷ lengths) list lists are)) where
      behind : (list : List Array) → map (λ array. length (cells array)) list ≡ n ∷ lengths → map (λ array. length (cells array)) (drop 1 list) ≡ lengths
      behind [] e = absurd cc
      behind (array ∷ arrays) e = ap (drop 1) e

-- the chunks are even, and have so many rows
record AreChunks (lengths : List ℕ) (chunks : List (List Array)) : Type 0 where
  even : All AreEqualLengths chunks
  rows : map chunk_rows chunks ≡ lengths

turned_long : (lengths : List ℕ) (lists : List (List Array)) → 0 < length lists → AreLong lengths lists → AreChunks lengths (turned (length lengths) lists)
turned_long [] lists some are = record { even = All-nil AreEqualLengths; rows = refl }
turned_long (n ∷ lengths) lists some are =
    let first = first_of n lengths lists are in
    let arrays = flat_map (take 1) lists in
    let more : 0 < length arrays = omega (arith, some, first.count) in
    let left : 0 < length (map (drop {A = Array} 1) lists) = omega (arith, some, length-map lists (drop {A = Array} 1)) in
    let others = turned_long lengths (map (drop 1) lists) left (behind_first n lengths lists are) in
    record {
      even = All-cons AreEqualLengths arrays (turned (length lengths) (map (drop 1) lists)) (equal_lengths arrays n more first.long) others.even;
      rows = λ i. first_length arrays n more first.long i ∷ others.rows i;
    }

-- as many chunks as each column has arrays
sides : (lengths : List ℕ) (lists : List (List Array)) → 0 < length lists → AreLong lengths lists → side_by_side lists ≡ turned (length lengths) lists
sides lengths [] some are = absurd (omega (arith, some))
sides lengths (first ∷ others) some are =
    let count : length first ≡ length lengths = sym (length-map first (λ array. length (cells array))) ∙ ap length (are 0 first some) in
    ap (λ n. turned n (first ∷ others)) count

-- as what columns are seen
columns_long : {X : Type 0} (items : X → List Array) (lengths : List ℕ) (columns : List X) → All (λ column. map (λ array. length (cells array)) (items column) ≡ lengths) columns → AreLong lengths (map items columns)
columns_long items lengths [] are = All-nil (λ list. map (λ array. length (cells array)) list ≡ lengths)
columns_long items lengths (column ∷ columns) are =
    All-cons (λ list. map (λ array. length (cells array)) list ≡ lengths) (items column) (map items columns) (are 0 column (omega arith))
    (columns_long items lengths columns (All-tail (λ column. map (λ array. length (cells array)) (items column) ≡ lengths) column columns are))

some_lists : {X : Type 0} (items : X → List Array) (columns : List X) → 0 < length columns → 0 < length (map items columns)
some_lists items columns some = omega (arith, some, length-map columns items)

pub even_chunks : {X : Type 0} (items : X → List Array) (lengths : List ℕ) (columns : List X) → 0 < length columns → All (λ column. map (λ array. length (cells array)) (items column) ≡ lengths) columns → All AreEqualLengths (side_by_side (map items columns))
even_chunks items lengths columns some are =
    let more = some_lists items columns some in
    let long = columns_long items lengths columns are in
    subst (All AreEqualLengths) (sym (sides lengths (map items columns) more long)) (turned_long lengths (map items columns) more long).even

-- ---- how many rows they have

sum_same : {X Y : Type 0} (f : X → ℕ) (g : Y → ℕ) (xs : List X) (ys : List Y) → map f xs ≡ map g ys → sum_by f xs ≡ sum_by g ys
sum_same f g [] [] e = refl
sum_same f g [] (y ∷ ys) e = absurd cc
sum_same f g (x ∷ xs) [] e = absurd cc
sum_same f g (x ∷ xs) (y ∷ ys) e =
    let own : f x ≡ g y = ap (λ ns. get_or ns 0 0) e in
    let others = sum_same f g xs ys (ap (drop 1) e) in
    omega (arith, own, others, sum_by-cons f x xs, sum_by-cons g y ys)

pieces_rows : (turns size : ℕ) (rows : List ℕ) → 0 < size → length rows ≤ turns → sum_by length (pieces turns size rows) ≡ length rows
pieces_rows zero size [] some enough = refl
pieces_rows zero size (row ∷ rows) some enough = absurd (omega (arith, enough))
pieces_rows (suc turns) size [] some enough = refl
pieces_rows (suc turns) size (row ∷ rows) some enough =
    let all = row ∷ rows in
    let rest = pieces_rows turns size (drop size all) some (omega (arith, length-drop size all, some, enough)) in
    omega (arith, rest, length-take size all, length-drop size all, sum_by-cons length (take size all) (pieces turns size (drop size all)))

cut_rows : (size : Option ℕ) (rows : List ℕ) → IsChunkSize size → sum_by length (cut size rows) ≡ length rows
cut_rows None [] some = refl
cut_rows None (row ∷ rows) some = omega (arith, sum_by-cons length (row ∷ rows) [])
cut_rows (Some size) rows some = pieces_rows (length rows) size rows some (omega arith)

pub chunk_count : {X : Type 0} (size : Option ℕ) (rows : List ℕ) (items : X → List Array) (columns : List X) → IsChunkSize size → 0 < length columns → All (λ column. map (λ array. length (cells array)) (items column) ≡ map length (cut size rows)) columns
    → sum_by chunk_rows (side_by_side (map items columns)) ≡ length rows
chunk_count size rows items columns is some are =
    let lengths = map length (cut size rows) in
    let more = some_lists items columns some in
    let long = columns_long items lengths columns are in
    ap (sum_by chunk_rows) (sides lengths (map items columns) more long)
    ∙ sum_same chunk_rows length (turned (length lengths) (map items columns)) (cut size rows) (turned_long lengths (map items columns) more long).rows
    ∙ cut_rows size rows is

-- ---- they are those of the group

pub told_chunks : {X : Type 0} (told : Option (List ℕ)) (by_pages : Bool) (fields : List Field) (group : RowGroupMetaData) (pieces : List (List ℕ)) (items : X → List Array) (columns : List X) (before : List (List Array)) → 0 < length columns
    → All (λ column. map (λ array. length (cells array)) (items column) ≡ map length pieces) columns
    → IfSome told (λ bytes. map (λ field. map (λ rows. given_column by_pages bytes group rows field) pieces) fields ≡ map (λ column. map (λ array. Some (column_of array)) (items column)) columns)
    → IfSome told (λ bytes. shown (before ++ side_by_side (map items columns)) ≡ shown before ++ map (given_chunk by_pages fields bytes group) pieces)
told_chunks None by_pages fields group pieces items columns before some are e = tt
told_chunks (Some bytes) by_pages fields group pieces items columns before some are e =
    let lists = map items columns in
    let count : length (map (length {A = ℕ}) pieces) ≡ length pieces = length-map pieces length in
    map-append (λ arrays. Some (columns_of_chunk arrays)) before (side_by_side lists)
    ∙ ap (λ chunks. shown before ++ shown chunks) (sides (map length pieces) lists (some_lists items columns some) (columns_long items (map length pieces) columns are) ∙ ap (λ n. turned n lists) count)
    ∙ ap (λ chunks. shown before ++ chunks) (sym (chunks_are by_pages fields bytes group pieces lists (e ∙ sym (map-map (map (λ array. Some (column_of array))) items columns))))

-- ---- what shape they have

-- each array of a column has the column's type
pub own_types : (type : DataType) (pieces : List (List ℕ)) (arrays : List Array) → All (λ array. data_type_of array ≡ type) arrays
    → map (λ array. length (cells array)) arrays ≡ map length pieces → map (λ _. type) pieces ≡ map data_type_of arrays
own_types type [] [] typed e = refl
own_types type [] (array ∷ arrays) typed e = absurd cc
own_types type (piece ∷ pieces) [] typed e = absurd cc
own_types type (piece ∷ pieces) (array ∷ arrays) typed e =
    let own : type ≡ data_type_of array = sym (typed 0 array (omega arith)) in
    λ i. own i ∷ own_types type pieces arrays (All-tail (λ array. data_type_of array ≡ type) array arrays typed) (ap (drop 1) e) i

-- chunks of these types, beside the pieces whose rows they have
paired : (types : List DataType) (pieces : List (List ℕ)) (chunks : List (List Array)) → map (λ _. types) pieces ≡ map (map data_type_of) chunks → map chunk_rows chunks ≡ map length pieces
    → map shape_of chunks ≡ map (λ (piece : List ℕ). (types, length piece)) pieces
paired types [] [] typed rows = refl
paired types [] (chunk ∷ chunks) typed rows = absurd cc
paired types (piece ∷ pieces) [] typed rows = absurd cc
paired types (piece ∷ pieces) (chunk ∷ chunks) typed rows =
    let own : map data_type_of chunk ≡ types = sym (ap (λ lists. get_or lists 0 types) typed) in
    let count : chunk_rows chunk ≡ length piece = ap (λ ns. get_or ns 0 0) rows in
    λ i. (own i, count i) ∷ paired types pieces chunks (ap (drop 1) typed) (ap (drop 1) rows) i

pub side_shapes : {X : Type 0} (fields : List Field) (size : Option ℕ) (rows : List ℕ) (items : X → List Array) (columns : List X) → 0 < length columns
    → All (λ column. map (λ array. length (cells array)) (items column) ≡ map length (cut size rows)) columns
    → map (λ (field : Field). map (λ _. field.data_type) (cut size rows)) fields ≡ map (λ column. map data_type_of (items column)) columns
    → map shape_of (side_by_side (map items columns)) ≡ shapes_of_rows fields size rows
side_shapes fields size rows items columns some are types =
    let pieces = cut size rows in
    let lists = map items columns in
    let more = some_lists items columns some in
    let long = columns_long items (map length pieces) columns are in
    let count : length (map (length {A = ℕ}) pieces) ≡ length pieces = length-map pieces length in
    let typed = turned_is (λ (piece : List ℕ) (field : Field). field.data_type) data_type_of pieces fields lists (types ∙ sym (map-map (map data_type_of) items columns)) in
    ap (map shape_of) (sides (map length pieces) lists more long ∙ ap (λ n. turned n lists) count)
    ∙ paired (map (λ (field : Field). field.data_type) fields) pieces (turned (length pieces) lists) typed
    (ap (λ n. map chunk_rows (turned n lists)) (sym count) ∙ (turned_long (map length pieces) lists more long).rows)
