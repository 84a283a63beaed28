-- What holds of the rows and the cells of a scan, whatever the file.
use Rattle.std.specs.Prelude.{◌≡◌, ℕ, List, All, Option, Some, IfSome, IsTrue}
use Rattle.columns_core.specs.declared.data_type.Field.{Field}
use Rattle.parquet_meta.specs.File.{footer}
use Rattle.parquet_meta.specs.declared.metadata.ColumnChunkMetaData.{ColumnChunkMetaData}
use Rattle.parquet_meta.specs.declared.metadata.RowGroupMetaData.{RowGroupMetaData}
use Rattle.parquet_scan.specs.Causes.{IsValid}
use Rattle.parquet_scan.specs.Cells.{cell, file_chunks, given_cell, given_chunks, located_cell}
use Rattle.parquet_scan.specs.Request.{Request, is_legal}
use Rattle.parquet_scan.specs.Rows.{File, column_named, file_of, groups_of, groups_read, prunes_pages}
use Rattle.parquet_scan.specs.Scan.{kept_groups}
use Rattle.parquet_scan.specs.Truth.{AreTrueCounts, AreTrueLocations, HasTrueCountsAndLocations, LosesNoRow}

-- Where the counts and the locations of a column are true, a row has the same cell in the page that a location names as in the page
-- that stands in the chunk's order.
abbrev pub LocatedCellsAreCells : Type 0
LocatedCellsAreCells =
    (bytes : List ℕ) (group : RowGroupMetaData) (column : ColumnChunkMetaData) (field : Field) (row : ℕ)
    → column_named group field.name ≡ Some column → AreTrueCounts bytes group column → AreTrueLocations bytes group column
    → located_cell bytes group field row ≡ cell bytes group field row

-- So the cells that a scan gives are the file's, where the counts are true and, if rows are pruned by pages, the locations.
abbrev pub GivenCellsAreCells : Type 0
GivenCellsAreCells =
    (request : Request) (file : File) → HasTrueCountsAndLocations request file
    → All (λ (read : RowGroupMetaData × List ℕ). All (λ (field : Field). (row : ℕ) → given_cell (prunes_pages request (groups_of file)) file.bytes read.0 field row ≡ cell file.bytes read.0 field row) request.fields) (groups_read request file)

-- So the chunks that a scan gives are the file's own.
abbrev pub GivenChunksAreTheFiles : Type 0
GivenChunksAreTheFiles =
    (request : Request) (file : File) → HasTrueCountsAndLocations request file → given_chunks request file ≡ file_chunks request file

-- The runs of kept rows are the same for every chunk size and every limit.
abbrev pub RunsAreTheSame : Type 0
RunsAreTheSame =
    (request : Request) (chunk_size limit : Option ℕ) (file : File)
    → kept_groups (record request { chunk_size = chunk_size; limit = limit }) file ≡ kept_groups request file

-- Where the statistics of a group of a valid file are true, a legal request loses no row of it that meets all its bounds.
abbrev pub LosesNoRowOfValidFiles : Type 0
LosesNoRowOfValidFiles = (request : Request) (bytes : List ℕ) → IsTrue (is_legal request (footer bytes)) → IsValid request bytes → IfSome (file_of bytes) (LosesNoRow request)
