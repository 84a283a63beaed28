-- The parts of a file that grow side by side, what is told of them, and the file that they make.
use Rattle.std.specs.Prelude.{◌≡◌, ◌⊎◌, ℕ, ◌+◌, Bool, true, false, List, [], ◌∷◌, ◌++◌, length, Result, Vec, OnOk, IfErr}
use Rattle.columns_core.specs.Causes.{IsWantOfMemory}
use Rattle.columns_core.specs.declared.error.Error.{Error}
use Rattle.columns_core.specs.declared.error.Error.TheVariants.{Overflow}
use Rattle.compact_write.specs.Calls.{Writes}
use Rattle.parquet_meta.specs.declared.metadata.ColumnDescriptor.{ColumnDescriptor}
use Rattle.parquet_meta.specs.declared.metadata.FileMetaData.{FileMetaData}
use Rattle.parquet_plain.specs.Description.{PlainChunk, PlainGroup, PlainPage, page_bytes}
use Rattle.parquet_plain.specs.File.{Starts, all_locations_bytes, behind_all, data_bytes, indexes_bytes, magic}
use Rattle.parquet_write.specs.Told.{all_facts, end_of_file_bytes, file_told}
use Rattle.parquet_write.specs.declared.facts.Bases.{Bases}
use Rattle.parquet_write.specs.declared.facts.GroupFacts.{GroupFacts}
use Rattle.parquet_write.specs.declared.facts.PageFacts.{PageFacts}
use Rattle.parquet_write.specs.declared.parts.Parts.{Parts}

-- ---- parts that grow

-- a file before its first group
pub record BeginsFile (parts : Parts) : Type 0 where
  pub begins : parts.chunks.items ≡ magic
  pub no_indexes : parts.indexes.items ≡ []
  pub no_locations : parts.locations.items ≡ []

abbrev pub starts_of : Parts → Starts
starts_of parts = record {
  chunk = length parts.chunks.items;
  index = length parts.indexes.items;
  locations = length parts.locations.items;
}

-- chunks with their indexes stand behind what stood
pub record AddsChunks (old new : Parts) (chunks : List PlainChunk) : Type 0 where
  pub pages : new.chunks.items ≡ old.chunks.items ++ data_bytes chunks
  pub indexes : new.indexes.items ≡ old.indexes.items ++ indexes_bytes chunks
  pub locations : new.locations.items ≡ old.locations.items ++ all_locations_bytes (length old.chunks.items) chunks

-- ---- what is told of them

-- of a page that begins at a place of the file and with a row
abbrev pub page_told : ℕ → ℕ → PlainPage → PageFacts
page_told start row page = record {
  offset = start;
  size = length (page_bytes page);
  first_row = row;
  nulls = page.nulls;
  ends = page.ends;
}

abbrev pub pages_told : ℕ → ℕ → List PlainPage → List PageFacts
pages_told start row [] = []
pages_told start row (page ∷ pages) =
    page_told start row page ∷ pages_told (start + length (page_bytes page)) (row + page.rows) pages

abbrev pub group_facts : Starts → PlainGroup → GroupFacts
group_facts at group = record { rows = group.rows; chunks = all_facts at group.chunks }

abbrev pub groups_facts : Starts → List PlainGroup → List GroupFacts
groups_facts at [] = []
groups_facts at (group ∷ groups) = group_facts at group ∷ groups_facts (behind_all at group.chunks) groups

-- ---- the whole file

-- column indexes stand behind all chunks, and offset indexes behind these
abbrev pub bases_of : Parts → Bases
bases_of parts = record {
  indexes = length parts.chunks.items;
  locations = length parts.chunks.items + length parts.indexes.items;
}

abbrev pub told_of : Parts → List ColumnDescriptor → List GroupFacts → FileMetaData
told_of parts columns groups = file_told columns (bases_of parts) groups

-- the parts one behind another, and the end of the file
abbrev pub file_bytes : Parts → List ColumnDescriptor → List GroupFacts → List ℕ
file_bytes parts columns groups =
    ((parts.chunks.items ++ parts.indexes.items) ++ parts.locations.items) ++ end_of_file_bytes columns (bases_of parts) groups

-- ---- what is refused

-- An answer comes only where a test holds, and a refusal as too large only where it fails; memory may want at any time.
pub record OverflowsUnless {T : Type 0} (is_short : Bool) (result : Result T Error) : Type 0 where
  pub fits : OnOk result (is_short ≡ true)
  pub cause : IfErr result (λ e. IsWantOfMemory e ⊎ ((e ≡ Overflow) × (is_short ≡ false)))

-- These bytes stand behind the old ones, where a test of them holds.
pub record WritesShort {Z T : Type 0} (bytes : List ℕ) (is_short : Bool) (old : Vec ℕ Z) (result : Result T Error) (new : Vec ℕ Z) : Type 0 where
  pub written : Writes bytes old result new
  pub short : OverflowsUnless is_short result
