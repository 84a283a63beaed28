-- The sample fits a plain file.
use Rattle.std.proofs.Common.{◌≡◌, ℕ, suc, ◌+◌, ◌*◌, ◌^◌, ◌≤◌, ◌<◌, true, List, [], ◌∷◌, refl, sym, ap, ◌∙◌, arith, length, length-append, map}
use Rattle.std.specs.Prelude.{All, sum_by}
use Rattle.std.specs.Int.{w32, to_le_bytes}
use Rattle.std.specs.Str.{IsAscii, is_utf8}
use Rattle.std.proofs.lemmas.List.{length-map}
use Rattle.std.proofs.lemmas.List.Elements.{All-head, All-tail, All-cons, All-nil}
use Rattle.std.proofs.lemmas.List.Sums.{sum_by-cons}
use Rattle.std.proofs.lemmas.Str.{IsUtf8-from_ascii, is_utf8-from_IsUtf8}
use Rattle.std.proofs.lemmas.Str.Ascii.{IsAscii-cons, IsAscii-nil}
use Rattle.compact_write.specs.Fields.{values_of}
use Rattle.compact_write.specs.Written.{binary_bytes, element_bytes, elements_bytes, field_header_bytes, fields_bytes, list_header_bytes, signed_bytes, value_bytes, varint_bytes, varint_bytes_within}
use Rattle.parquet_meta.specs.declared.metadata.ColumnChunkMetaData.{ColumnChunkMetaData}
use Rattle.parquet_meta.specs.declared.metadata.RowGroupMetaData.{RowGroupMetaData}
use Rattle.flat_values.specs.Conversion.{AsText, Keep}
use Rattle.parquet_plain.specs.Columns.{Written, written_chunk, written_chunks, written_file, written_group}
use Rattle.parquet_plain.specs.Description.{PlainChunk, PlainColumn, PlainFile, PlainGroup, chunk_bytes, descriptor_of}
use Rattle.parquet_plain.specs.File.{Starts, all_locations_bytes, behind, chunk_index_bytes, chunk_locations_bytes, chunks_of, column_at, columns_at, data_bytes, first_starts, groups_at, indexes_bytes, meta_data_of_plain, plain_file}
use Rattle.parquet_plain.specs.Fits.{FitsFile, FitsPlainGroups, HasChunks, IsPlainColumn}
use Rattle.parquet_plain.specs.Structs.{element_value, footer_bytes}
use Rattle.parquet_plain.proofs.BodyLemmas.{four-bytes, length-number}
use Rattle.parquet_sample.specs.Sample.{id_column, id_item, name_column, name_item, qty_column, qty_item, rows_of_numbers, sample_columns}
use Rattle.sample_laws.proofs.ChunkLaws.{chunk-short}
use Rattle.sample_laws.proofs.FitLaws.{chunk-ends-short, chunk-fits, chunk-index-short, chunk-locations-short}
use Rattle.sample_laws.proofs.FooterSizes.{IsShortChunk, IsShortGroup, chunk_value-short, footer-short, group_value-short}
use Rattle.sample_laws.proofs.SampleItems.{IsGroup, ids-placed, names-placed, qtys-placed}
use Rattle.sample_laws.proofs.SampleKinds.{IsBelow, IsShortText, id_ends, id_kind, name_ends, name_kind, number_cell, qty_ends, qty_kind, text_cell}

-- ---- the chunks of a group

abbrev pub id_chunk : List ℕ → PlainChunk
id_chunk ns = written_chunk id_column (map id_item ns)

abbrev pub qty_chunk : List ℕ → PlainChunk
qty_chunk ns = written_chunk qty_column (map qty_item ns)

abbrev pub name_chunk : List ℕ → PlainChunk
name_chunk ns = written_chunk name_column (map name_item ns)

abbrev pub group_of : List ℕ → PlainGroup
group_of ns = record { rows = length ns; chunks = id_chunk ns ∷ qty_chunk ns ∷ name_chunk ns ∷ [] }

pub group-is : (ns : List ℕ) → written_group sample_columns (rows_of_numbers ns) ≡ group_of ns
unfolding written_chunks
group-is ns = refl

abbrev pub groups_of : List (List ℕ) → List PlainGroup
groups_of parts = map group_of parts

abbrev pub columns : List PlainColumn
columns = map (λ (to : Written). to.column) sample_columns

abbrev pub file_of : List (List ℕ) → PlainFile
file_of parts = record { columns = columns; groups = groups_of parts }

groups-are : (parts : List (List ℕ)) → map (written_group sample_columns) (map rows_of_numbers parts) ≡ groups_of parts
groups-are [] = refl
groups-are (ns ∷ parts) = rw (group-is ns, groups-are parts) refl

pub file-is : (parts : List (List ℕ)) → written_file sample_columns (map rows_of_numbers parts) ≡ file_of parts
unfolding written_file
file-is parts = rw (groups-are parts) refl

-- ---- how many bytes a group has

-- the chunks of a group, their indexes and their locations
pub record IsShortGroupOf (ns : List ℕ) : Type 0 where
  pub id : length (chunk_bytes (id_chunk ns)) ≤ 120 * length ns
  pub qty : length (chunk_bytes (qty_chunk ns)) ≤ 120 * length ns
  pub name : length (chunk_bytes (name_chunk ns)) ≤ 120 * length ns
  pub id_index : length (chunk_index_bytes (id_chunk ns)) ≤ 60 + 71 * length ns
  pub qty_index : length (chunk_index_bytes (qty_chunk ns)) ≤ 60 + 71 * length ns
  pub name_index : length (chunk_index_bytes (name_chunk ns)) ≤ 60 + 71 * length ns
  pub id_locations : (start : ℕ) → length (chunk_locations_bytes start (id_chunk ns)) ≤ 13 + 34 * length ns
  pub qty_locations : (start : ℕ) → length (chunk_locations_bytes start (qty_chunk ns)) ≤ 13 + 34 * length ns
  pub name_locations : (start : ℕ) → length (chunk_locations_bytes start (name_chunk ns)) ≤ 13 + 34 * length ns

group-short : (ns : List ℕ) → IsGroup ns → IsShortGroupOf ns
group-short ns is =
    let ids = ids-placed ns is.all in
    let qtys = qtys-placed ns is.all in
    let names = names-placed ns is.all in
    let a : length (map id_item ns) ≡ length ns = length-map ns id_item in
    let b : length (map qty_item ns) ≡ length ns = length-map ns qty_item in
    let c : length (map name_item ns) ≡ length ns = length-map ns name_item in
    record {
      id = omega (arith, chunk-short id_column Keep (IsBelow (2 ^ 63)) number_cell id_kind tt (map id_item ns) ids);
      qty = omega (arith, chunk-short qty_column Keep (IsBelow 1000) number_cell qty_kind tt (map qty_item ns) qtys);
      name = omega (arith, chunk-short name_column AsText IsShortText text_cell name_kind tt (map name_item ns) names);
      id_index = omega (arith, chunk-index-short id_column Keep (IsBelow (2 ^ 63)) number_cell id_kind tt id_ends (map id_item ns) ids);
      qty_index = omega (arith, chunk-index-short qty_column Keep (IsBelow 1000) number_cell qty_kind tt qty_ends (map qty_item ns) qtys);
      name_index = omega (arith, chunk-index-short name_column AsText IsShortText text_cell name_kind tt name_ends (map name_item ns) names);
      id_locations = λ start. omega (arith, a, chunk-locations-short id_column Keep (IsBelow (2 ^ 63)) number_cell id_kind tt id_ends start (map id_item ns) ids);
      qty_locations = λ start. omega (arith, b, chunk-locations-short qty_column Keep (IsBelow 1000) number_cell qty_kind tt qty_ends start (map qty_item ns) qtys);
      name_locations = λ start. omega (arith, c, chunk-locations-short name_column AsText IsShortText text_cell name_kind tt name_ends start (map name_item ns) names);
    }

-- ---- how many bytes all groups have

data-short : (parts : List (List ℕ)) → All IsGroup parts → length (data_bytes (chunks_of (groups_of parts))) ≤ 360 * sum_by length parts
data-short [] all = omega arith
data-short (ns ∷ parts) all =
    let own = group-short ns (All-head IsGroup ns parts all) in
    let others : List PlainChunk = chunks_of (groups_of parts) in
    omega (
      arith,
      own.id,
      own.qty,
      own.name,
      length-append (chunk_bytes (id_chunk ns)) (data_bytes (qty_chunk ns ∷ name_chunk ns ∷ others)),
      length-append (chunk_bytes (qty_chunk ns)) (data_bytes (name_chunk ns ∷ others)),
      length-append (chunk_bytes (name_chunk ns)) (data_bytes others),
      sum_by-cons {X = List ℕ} length ns parts,
      data-short parts (All-tail IsGroup ns parts all),
    )

indexes-short : (parts : List (List ℕ)) → All IsGroup parts → length (indexes_bytes (chunks_of (groups_of parts))) ≤ 400 * sum_by length parts
indexes-short [] all = omega arith
indexes-short (ns ∷ parts) all =
    let is : IsGroup ns = All-head IsGroup ns parts all in
    let own = group-short ns is in
    let others : List PlainChunk = chunks_of (groups_of parts) in
    omega (
      arith,
      is.some,
      own.id_index,
      own.qty_index,
      own.name_index,
      length-append (chunk_index_bytes (id_chunk ns)) (indexes_bytes (qty_chunk ns ∷ name_chunk ns ∷ others)),
      length-append (chunk_index_bytes (qty_chunk ns)) (indexes_bytes (name_chunk ns ∷ others)),
      length-append (chunk_index_bytes (name_chunk ns)) (indexes_bytes others),
      sum_by-cons {X = List ℕ} length ns parts,
      indexes-short parts (All-tail IsGroup ns parts all),
    )

locations-short : (start : ℕ) (parts : List (List ℕ)) → All IsGroup parts → length (all_locations_bytes start (chunks_of (groups_of parts))) ≤ 150 * sum_by length parts
unfolding all_locations_bytes
locations-short start [] all = omega arith
locations-short start (ns ∷ parts) all =
    let is : IsGroup ns = All-head IsGroup ns parts all in
    let own = group-short ns is in
    let others : List PlainChunk = chunks_of (groups_of parts) in
    let second : ℕ = start + length (chunk_bytes (id_chunk ns)) in
    let third : ℕ = second + length (chunk_bytes (qty_chunk ns)) in
    let behind : ℕ = third + length (chunk_bytes (name_chunk ns)) in
    omega (
      arith,
      is.some,
      own.id_locations start,
      own.qty_locations second,
      own.name_locations third,
      length-append (chunk_locations_bytes start (id_chunk ns)) (all_locations_bytes second (qty_chunk ns ∷ name_chunk ns ∷ others)),
      length-append (chunk_locations_bytes second (qty_chunk ns)) (all_locations_bytes third (name_chunk ns ∷ others)),
      length-append (chunk_locations_bytes third (name_chunk ns)) (all_locations_bytes behind others),
      sum_by-cons {X = List ℕ} length ns parts,
      locations-short behind parts (All-tail IsGroup ns parts all),
    )

pub few-groups : (parts : List (List ℕ)) → All IsGroup parts → length parts ≤ sum_by length parts
few-groups [] all = omega arith
few-groups (ns ∷ parts) all = omega (arith, (All-head IsGroup ns parts all).some, sum_by-cons {X = List ℕ} length ns parts, few-groups parts (All-tail IsGroup ns parts all))

-- ---- the footer

schema-short : length (elements_bytes (values_of element_value (map descriptor_of columns))) ≤ 200
unfolding values_of varint_bytes_within varint_bytes signed_bytes binary_bytes field_header_bytes list_header_bytes value_bytes element_bytes elements_bytes fields_bytes
schema-short = omega arith

-- a group in the footer
abbrev pub id_at : Starts → List ℕ → ColumnChunkMetaData
id_at at ns = column_at (descriptor_of id_column.column) at (id_chunk ns)

abbrev pub qty_start : Starts → List ℕ → Starts
qty_start at ns = behind at (id_chunk ns)

abbrev pub qty_at : Starts → List ℕ → ColumnChunkMetaData
qty_at at ns = column_at (descriptor_of qty_column.column) (qty_start at ns) (qty_chunk ns)

abbrev pub name_start : Starts → List ℕ → Starts
name_start at ns = behind (qty_start at ns) (qty_chunk ns)

abbrev pub name_at : Starts → List ℕ → ColumnChunkMetaData
name_at at ns = column_at (descriptor_of name_column.column) (name_start at ns) (name_chunk ns)

abbrev pub group_at : Starts → List ℕ → RowGroupMetaData
group_at at ns = record { columns = id_at at ns ∷ qty_at at ns ∷ name_at at ns ∷ []; num_rows = length ns }

abbrev pub behind_group : Starts → List ℕ → Starts
behind_group at ns = behind (name_start at ns) (name_chunk ns)

unfoldable pub all_at : Starts → List (List ℕ) → List RowGroupMetaData
all_at at [] = []
all_at at (ns ∷ parts) = group_at at ns ∷ all_at (behind_group at ns) parts

pub groups-at : (at : Starts) (parts : List (List ℕ)) → groups_at (map descriptor_of columns) at (groups_of parts) ≡ all_at at parts
unfolding groups_at columns_at all_at
groups-at at [] = refl
groups-at at (ns ∷ parts) = ap (λ others. group_at at ns ∷ others) (groups-at (behind_group at ns) parts)

pub length-at : (at : Starts) (parts : List (List ℕ)) → length (all_at at parts) ≡ length parts
unfolding all_at
length-at at [] = refl
length-at at (ns ∷ parts) = ap suc (length-at (behind_group at ns) parts)

group-footed : (at : Starts) (ns : List ℕ) → IsGroup ns → IsShortGroup (group_at at ns)
group-footed at ns is =
    let id : IsShortChunk (id_at at ns) =
    chunk_value-short id_column at (id_chunk ns) (omega arith) (chunk-ends-short id_column Keep (IsBelow (2 ^ 63)) number_cell id_kind tt id_ends (map id_item ns) (ids-placed ns is.all)) in
    let qty : IsShortChunk (qty_at at ns) =
    chunk_value-short qty_column (qty_start at ns) (qty_chunk ns) (omega arith) (chunk-ends-short qty_column Keep (IsBelow 1000) number_cell qty_kind tt qty_ends (map qty_item ns) (qtys-placed ns is.all)) in
    let name : IsShortChunk (name_at at ns) =
    chunk_value-short name_column (name_start at ns) (name_chunk ns) (omega arith) (chunk-ends-short name_column AsText IsShortText text_cell name_kind tt name_ends (map name_item ns) (names-placed ns is.all)) in
    group_value-short (group_at at ns)
    (All-cons IsShortChunk (id_at at ns) (qty_at at ns ∷ name_at at ns ∷ []) id (All-cons IsShortChunk (qty_at at ns) (name_at at ns ∷ []) qty (All-cons IsShortChunk (name_at at ns) [] name (All-nil IsShortChunk)))) (omega arith)

groups-footed : (at : Starts) (parts : List (List ℕ)) → All IsGroup parts → All IsShortGroup (all_at at parts)
unfolding all_at
groups-footed at [] all = All-nil IsShortGroup
groups-footed at (ns ∷ parts) all =
    All-cons IsShortGroup (group_at at ns) (all_at (behind_group at ns) parts) (group-footed at ns (All-head IsGroup ns parts all)) (groups-footed (behind_group at ns) parts (All-tail IsGroup ns parts all))

sample-footer : (parts : List (List ℕ)) → All IsGroup parts → length (footer_bytes (meta_data_of_plain (file_of parts))) ≤ 300 + 1000 * length parts
unfolding meta_data_of_plain
sample-footer parts all =
    let at : Starts = first_starts (chunks_of (groups_of parts)) in
    let groups : All IsShortGroup (groups_at (map descriptor_of columns) at (groups_of parts)) = rw (groups-at at parts) (groups-footed at parts all) in
    omega (arith, footer-short (meta_data_of_plain (file_of parts)) schema-short groups, ap length (groups-at at parts), length-at at parts)

-- ---- it fits

numbers-fit : (at : Starts) (parts : List (List ℕ)) → All IsGroup parts → FitsPlainGroups at (groups_of parts)
numbers-fit at [] all = tt
numbers-fit at (ns ∷ parts) all =
    let is : IsGroup ns = All-head IsGroup ns parts all in
    let a : length (map id_item ns) ≡ length ns = length-map ns id_item in
    let b : length (map qty_item ns) ≡ length ns = length-map ns qty_item in
    let c : length (map name_item ns) ≡ length ns = length-map ns name_item in (
      (
        chunk-fits id_column Keep (IsBelow (2 ^ 63)) number_cell id_kind tt id_ends at (map id_item ns) (ids-placed ns is.all) (omega (arith, is.few)),
        (
          chunk-fits qty_column Keep (IsBelow 1000) number_cell qty_kind tt qty_ends (qty_start at ns) (map qty_item ns) (qtys-placed ns is.all) (omega (arith, is.few)),
          (chunk-fits name_column AsText IsShortText text_cell name_kind tt name_ends (name_start at ns) (map name_item ns) (names-placed ns is.all) (omega (arith, is.few)), tt),
        ),
      ),
      omega (arith, is.few),
      numbers-fit (behind_group at ns) parts (All-tail IsGroup ns parts all),
    )

rows-of : (parts : List (List ℕ)) → sum_by (λ (group : PlainGroup). group.rows) (groups_of parts) ≡ sum_by length parts
rows-of [] = refl
rows-of (ns ∷ parts) =
    sum_by-cons (λ (group : PlainGroup). group.rows) (group_of ns) (groups_of parts) ∙ ap (λ n. length ns + n) (rows-of parts) ∙ sym (sum_by-cons {X = List ℕ} length ns parts)

three-chunks : (parts : List (List ℕ)) → All (HasChunks 3) (groups_of parts)
three-chunks [] = All-nil (HasChunks 3)
three-chunks (ns ∷ parts) = All-cons (HasChunks 3) (group_of ns) (groups_of parts) refl (three-chunks parts)

is-text : (bytes : List ℕ) → IsAscii bytes → is_utf8 bytes ≡ true
is-text bytes ascii = is_utf8-from_IsUtf8 bytes (IsUtf8-from_ascii bytes ascii)

id-text : is_utf8 id_column.column.name ≡ true
id-text = is-text (105 ∷ 100 ∷ []) (IsAscii-cons 105 (100 ∷ []) (omega arith) (IsAscii-cons 100 [] (omega arith) IsAscii-nil))

qty-text : is_utf8 qty_column.column.name ≡ true
qty-text = is-text (113 ∷ 116 ∷ 121 ∷ []) (IsAscii-cons 113 (116 ∷ 121 ∷ []) (omega arith) (IsAscii-cons 116 (121 ∷ []) (omega arith) (IsAscii-cons 121 [] (omega arith) IsAscii-nil)))

name-text : is_utf8 name_column.column.name ≡ true
name-text =
    is-text (110 ∷ 97 ∷ 109 ∷ 101 ∷ [])
    (IsAscii-cons 110 (97 ∷ 109 ∷ 101 ∷ []) (omega arith) (IsAscii-cons 97 (109 ∷ 101 ∷ []) (omega arith) (IsAscii-cons 109 (101 ∷ []) (omega arith) (IsAscii-cons 101 [] (omega arith) IsAscii-nil))))

columns-fit : All IsPlainColumn columns
columns-fit =
    All-cons IsPlainColumn id_column.column (qty_column.column ∷ name_column.column ∷ []) (record { typed = tt; flat = refl; text = id-text; short = omega arith; narrow = tt })
    (All-cons IsPlainColumn qty_column.column (name_column.column ∷ []) (record { typed = tt; flat = refl; text = qty-text; short = omega arith; narrow = tt })
    (All-cons IsPlainColumn name_column.column [] (record { typed = tt; flat = refl; text = name-text; short = omega arith; narrow = tt }) (All-nil IsPlainColumn)))

sample-size : (parts : List (List ℕ)) → All IsGroup parts → sum_by length parts ≤ 2000000 → length (plain_file (file_of parts)) < 2 ^ 63
unfolding plain_file
sample-size parts all few =
    let chunks : List PlainChunk = chunks_of (groups_of parts) in
    let own : List ℕ = footer_bytes (meta_data_of_plain (file_of parts)) in
    let word : length (to_le_bytes w32 (length own)) ≡ 4 = ap length (sym (four-bytes (length own))) ∙ length-number 4 (length own) in
    simp length-append (omega (arith, word, data-short parts all, indexes-short parts all, locations-short 4 parts all, sample-footer parts all, few-groups parts all))

pub sample_fits : (parts : List (List ℕ)) → All IsGroup parts → sum_by length parts ≤ 2000000 → FitsFile (file_of parts)
sample_fits parts all few = record {
  columns = columns-fit;
  few = omega arith;
  chunks = three-chunks parts;
  groups = omega (arith, few-groups parts all, length-map parts group_of);
  rows = omega (arith, rows-of parts);
  numbers = numbers-fit (first_starts (chunks_of (groups_of parts))) parts all;
  footer = omega (arith, sample-footer parts all, few-groups parts all);
  size = sample-size parts all few;
}
