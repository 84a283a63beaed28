-- What of a plain file has to fit its fields, so that it is read back.
use Rattle.std.specs.Prelude.{◌≡◌, ◌<◌, ◌^◌, ℕ, Bool, true, List, [], ◌∷◌, length, map, All, IfSome, is_some, sum_by, pos, FitsSigned, Option}
use Rattle.std.specs.Int.{w32, w64}
use Rattle.std.specs.Str.{is_utf8}
use Rattle.parquet_meta.specs.Tree.{is_flat}
use Rattle.parquet_meta.specs.declared.metadata.PageLocation.{PageLocation}
use Rattle.parquet_meta.specs.declared.metadata.PhysicalType.{PhysicalType}
use Rattle.parquet_meta.specs.declared.metadata.PhysicalType.TheVariants as types
use Rattle.parquet_meta.specs.declared.metadata.PrimitiveType.{PrimitiveType}
use Rattle.parquet_meta.specs.declared.metadata.Repetition.{Repetition}
use Rattle.parquet_meta.specs.declared.metadata.Repetition.TheVariants.{Required, Optional, Repeated}
use Rattle.parquet_page.specs.Stored.{Stored, Number, Truth, Octets}
use Rattle.parquet_plain.specs.Bodies.{level_bytes, present}
use Rattle.parquet_plain.specs.Description.{PlainPage, PlainChunk, PlainColumn, PlainGroup, PlainFile, rows_of_chunk}
use Rattle.parquet_plain.specs.File.{Starts, behind, behind_all, chunk_index_bytes, chunk_locations_bytes, chunks_of, first_starts, meta_data_of_plain, plain_file}
use Rattle.parquet_plain.specs.Structs.{footer_bytes, width_of}

-- a length that stands in front of bytes
abbrev pub HasShortLength : List ℕ → Type 0
HasShortLength bytes = length bytes < 2 ^ 64

-- a number that is not negative in 64 bits
abbrev pub IsFew : ℕ → Type 0
IsFew n = n < 2 ^ 63

-- ---- columns

-- fixed bytes have a length
abbrev pub IsType : PhysicalType → Type 0
IsType (types.FixedLenByteArray width) = 0 < width
IsType _ = Unit {0}

-- a type with a length, no repetition, and a name that is a text
pub record IsPlainColumn (column : PlainColumn) : Type 0 where
  pub typed : IsType column.type.physical_type
  pub flat : is_flat (column.name ∷ []) column.type.repetition ≡ true
  pub text : is_utf8 column.name ≡ true
  pub short : HasShortLength column.name
  pub narrow : IfSome (width_of column.type.physical_type) (λ width. width < 2 ^ 31)

-- ---- pages

pub record FitsPage (page : PlainPage) : Type 0 where
  pub some : 0 < page.rows
  pub few : page.rows < 2 ^ 31
  pub short : length page.body < 2 ^ 31

-- types of which plain values are read
abbrev pub IsPlainType : PhysicalType → Type 0
IsPlainType types.Int96 = ⊥
IsPlainType types.Float = ⊥
IsPlainType types.Double = ⊥
IsPlainType _ = Unit {0}

-- a value that pages of the type can store
abbrev pub IsOf : PhysicalType → Stored → Type 0
IsOf types.Boolean (Truth b) = Unit {0}
IsOf types.Int32 (Number n) = FitsSigned w32 n
IsOf types.Int64 (Number n) = FitsSigned w64 n
IsOf types.ByteArray (Octets bytes) = length bytes < 2 ^ 32
IsOf (types.FixedLenByteArray width) (Octets bytes) = length bytes ≡ width
IsOf _ _ = ⊥

-- a column that is not repeated, and has nulls only where it is optional
abbrev pub HasPlaces : Repetition → List (Option Stored) → Type 0
HasPlaces Required items = All (λ item. is_some item ≡ true) items
HasPlaces Optional items = Unit {0}
HasPlaces Repeated items = ⊥

-- items that a page of a column can hold
pub record FitsItems (type : PrimitiveType) (items : List (Option Stored)) : Type 0 where
  pub plain : IsPlainType type.physical_type
  pub each_is : All (IsOf type.physical_type) (present items)
  pub some : 0 < length items
  pub few : length items < 2 ^ 62
  pub short : length (level_bytes (map is_some items)) < 2 ^ 32

-- ---- indexes

-- a location of numbers that are not negative
pub record FitsLocation (page : PageLocation) : Type 0 where
  pub offset : ℕ
  pub size : ℕ
  pub row : ℕ
  pub is : page ≡ record { offset = pos offset; compressed_page_size = pos size; first_row_index = pos row }
  pub low : IsFew offset
  pub short : size < 2 ^ 31
  pub few : IsFew row

-- the lists of a column index have an entry for each page
pub record FitsIndex (nulls : List Bool) (lows highs : List (List ℕ)) (counts : List ℕ) : Type 0 where
  pub few : length nulls < 2 ^ 64
  pub lows_even : length lows ≡ length nulls
  pub highs_even : length highs ≡ length nulls
  pub counts_even : length counts ≡ length nulls
  pub lows_short : All HasShortLength lows
  pub highs_short : All HasShortLength highs
  pub counts_few : All IsFew counts

-- ---- files

-- each group has a chunk for each column
abbrev pub HasChunks : ℕ → PlainGroup → Type 0
HasChunks columns group = length group.chunks ≡ columns

-- the numbers of a chunk, places aside: those lie in the file
pub record FitsPlainChunk (at : Starts) (chunk : PlainChunk) : Type 0 where
  pub rows : IsFew (rows_of_chunk chunk)
  pub nulls : IsFew chunk.nulls
  pub index : length (chunk_index_bytes chunk) < 2 ^ 31
  pub locations : length (chunk_locations_bytes at.chunk chunk) < 2 ^ 31
  pub ends : IfSome chunk.ends (λ ends. HasShortLength ends.least × HasShortLength ends.greatest)

abbrev pub FitsPlainChunks : Starts → List PlainChunk → Type 0
FitsPlainChunks at [] = Unit {0}
FitsPlainChunks at (chunk ∷ chunks) = FitsPlainChunk at chunk × FitsPlainChunks (behind at chunk) chunks

abbrev pub FitsPlainGroups : Starts → List PlainGroup → Type 0
FitsPlainGroups at [] = Unit {0}
FitsPlainGroups at (group ∷ groups) = FitsPlainChunks at group.chunks × IsFew group.rows × FitsPlainGroups (behind_all at group.chunks) groups

pub record FitsFile (file : PlainFile) : Type 0 where
  pub columns : All IsPlainColumn file.columns
  pub few : length file.columns < 2 ^ 31
  pub chunks : All (HasChunks (length file.columns)) file.groups
  pub groups : length file.groups < 2 ^ 64
  pub rows : IsFew (sum_by (λ (group : PlainGroup). group.rows) file.groups)
  pub numbers : FitsPlainGroups (first_starts (chunks_of file.groups)) file.groups
  pub footer : length (footer_bytes (meta_data_of_plain file)) < 2 ^ 32
  pub size : length (plain_file file) < 2 ^ 63
