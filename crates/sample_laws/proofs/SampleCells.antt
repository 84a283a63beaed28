-- The rows of a sample have the cells that the sample says.
use Rattle.std.proofs.Common.{◌≡◌, ℕ, ◌^◌, ◌≤◌, ◌<◌, pos, Bool, true, false, cond, List, [], ◌∷◌, Option, Some, None, refl, sym, ap, ◌∙◌, arith, length, map}
use Rattle.std.specs.Prelude.{All, IsSomeAnd, flat_map}
use Rattle.std.specs.List.{range_with_len}
use Rattle.std.proofs.lemmas.List.{map-append}
use Rattle.std.proofs.lemmas.List.Elements.{All-head, All-tail}
use Rattle.columns_core.specs.declared.cell.Cell.{Cell, Null, Int}
use Rattle.columns_core.specs.declared.data_type.Field.{Field}
use Rattle.parquet_meta.specs.declared.metadata.RowGroupMetaData.{RowGroupMetaData}
use Rattle.parquet_page.specs.Stored.{Number}
use Rattle.flat_values.specs.Conversion.{AsText, Keep}
use Rattle.parquet_scan.specs.Cells.{cell}
use Rattle.parquet_scan.specs.Rows.{file_of as file_of_bytes, file_with}
use Rattle.parquet_plain.specs.Description.{PlainFile}
use Rattle.parquet_plain.specs.File.{Starts, chunks_of, first_starts, meta_data_of_plain, plain_file}
use Rattle.parquet_plain.specs.Found.{ChunkStands, GroupsStand}
use Rattle.parquet_plain.proofs.PieceLemmas.{cut-joined}
use Rattle.parquet_plain.proofs.PlaceLemmas.{all_parts_stand}
use Rattle.parquet_sample.specs.Sample.{id_column, id_item, is_absent, name_column, name_item, qty_column, qty_item, quantity, sample, sample_cell_at}
use Rattle.sample_laws.specs.Laws.{HasCells, IsIdField, IsNameField, IsQtyField, field_cells, sample_cells}
use Rattle.sample_laws.proofs.FieldLaws.{whole-rows}
use Rattle.sample_laws.proofs.KindLaws.{cells_of, place_cell}
use Rattle.sample_laws.proofs.SampleFits.{all_at, behind_group, file_of, group_at, groups-at, groups_of, id_chunk, name_chunk, name_start, qty_chunk, qty_start}
use Rattle.sample_laws.proofs.SampleItems.{IsGroup}
use Rattle.sample_laws.proofs.SampleKinds.{IsBelow, IsShortText, id_ends, id_kind, id_read_by, name_ends, name_kind, name_read_by, number_cell, qty_ends, qty_kind, qty_read_by, text_cell}
use Rattle.sample_laws.proofs.SampleLaws.{fits, found, id-chunk, metadata, name-chunk, parts, parts-are, qty-chunk, sample-is}

-- the cells of rows, each of which is there
abbrev pub cells_from : ℕ → List ℕ → List (Option Cell)
cells_from column numbers = map (λ n. Some (sample_cell_at column n)) numbers

-- ---- of items

ids-are : (ns : List ℕ) → map Some (cells_of number_cell (map id_item ns)) ≡ cells_from 0 ns
ids-are [] = refl
ids-are (n ∷ ns) = ap (λ others. Some (Int (pos n)) ∷ others) (ids-are ns)

qty-is : (n : ℕ) (b : Bool) → Some (place_cell number_cell (cond b None (Some (Number (pos (quantity n)))))) ≡ Some (cond b Null (Int (pos (quantity n))))
qty-is n true = refl
qty-is n false = refl

qtys-are : (ns : List ℕ) → map Some (cells_of number_cell (map qty_item ns)) ≡ cells_from 1 ns
qtys-are [] = refl
qtys-are (n ∷ ns) = λ i. qty-is n (is_absent n) i ∷ qtys-are ns i

names-are : (ns : List ℕ) → map Some (cells_of text_cell (map name_item ns)) ≡ cells_from 2 ns
names-are [] = refl
names-are (n ∷ ns) = ap (λ others. sample_cell 2 n ∷ others) (names-are ns) where
  sample_cell : ℕ → ℕ → Option Cell
  sample_cell column k = Some (sample_cell_at column k)

-- ---- of the rows of a group

abbrev pub group_cells : List ℕ → Field → RowGroupMetaData → List (Option Cell)
group_cells file field group = map (cell file group field) (range_with_len 0 group.num_rows)

id-rows : (file : List ℕ) (size : length file < 2 ^ 63) (at : Starts) (ns : List ℕ) → IsGroup ns → ChunkStands file at (id_chunk ns) → (field : Field) → IsIdField field → group_cells file field (group_at at ns) ≡ cells_from 0 ns
id-rows file size at [] is stands field is_field = absurd (omega (arith, is.some))
id-rows file size at (n ∷ ns) is stands field is_field =
    whole-rows id_column Keep (IsBelow (2 ^ 63)) number_cell id_kind tt id_ends file at (group_at at (n ∷ ns)) (id_item n) (map id_item ns) (id-chunk file size at (n ∷ ns) is stands) field (id_read_by field.data_type is_field.type) (rw is_field.name refl)
    ∙ ids-are (n ∷ ns)

qty-rows : (file : List ℕ) (size : length file < 2 ^ 63) (at : Starts) (ns : List ℕ) → IsGroup ns → ChunkStands file (qty_start at ns) (qty_chunk ns) → (field : Field) → IsQtyField field → group_cells file field (group_at at ns) ≡ cells_from 1 ns
qty-rows file size at [] is stands field is_field = absurd (omega (arith, is.some))
qty-rows file size at (n ∷ ns) is stands field is_field =
    whole-rows qty_column Keep (IsBelow 1000) number_cell qty_kind tt qty_ends file (qty_start at (n ∷ ns)) (group_at at (n ∷ ns)) (qty_item n) (map qty_item ns) (qty-chunk file size at (n ∷ ns) is stands) field (qty_read_by field.data_type is_field.type)
    (rw is_field.name refl)
    ∙ qtys-are (n ∷ ns)

name-rows : (file : List ℕ) (size : length file < 2 ^ 63) (at : Starts) (ns : List ℕ) → IsGroup ns → ChunkStands file (name_start at ns) (name_chunk ns) → (field : Field) → IsNameField field → group_cells file field (group_at at ns) ≡ cells_from 2 ns
name-rows file size at [] is stands field is_field = absurd (omega (arith, is.some))
name-rows file size at (n ∷ ns) is stands field is_field =
    whole-rows name_column AsText IsShortText text_cell name_kind tt name_ends file (name_start at (n ∷ ns)) (group_at at (n ∷ ns)) (name_item n) (map name_item ns) (name-chunk file size at (n ∷ ns) is stands) field (name_read_by field.data_type is_field.type)
    (rw is_field.name refl)
    ∙ names-are (n ∷ ns)

-- ---- of all rows

-- the chunks of a group stand where the footer says
abbrev pub Stand : List ℕ → Starts → List ℕ → Type 0
Stand file at ns = ChunkStands file at (id_chunk ns) × (ChunkStands file (qty_start at ns) (qty_chunk ns) × (ChunkStands file (name_start at ns) (name_chunk ns) × Unit {0}))

all-rows : (column : ℕ) (file : List ℕ) (field : Field) → ((at : Starts) (ns : List ℕ) → IsGroup ns → Stand file at ns → group_cells file field (group_at at ns) ≡ cells_from column ns)
    → (at : Starts) (parts : List (List ℕ)) → All IsGroup parts → GroupsStand file at (groups_of parts) → flat_map (group_cells file field) (all_at at parts) ≡ cells_from column (flat_map (λ part. part) parts)
unfolding all_at
all-rows column file field each at [] all stand = refl
all-rows column file field each at (ns ∷ parts) all stand =
    let first = each at ns (All-head IsGroup ns parts all) stand.0 in
    let others = all-rows column file field each (behind_group at ns) parts (All-tail IsGroup ns parts all) stand.1 in
    rw (first, others) (sym (map-append (λ n. Some (sample_cell_at column n)) ns (flat_map (λ part. part) parts)))

module _ (rows seed : ℕ) (few : rows ≤ 2000000) (small : seed < 2 ^ 32) (field : Field) where
  all-numbers : flat_map (λ part. part) (parts rows seed few small) ≡ range_with_len seed rows
  all-numbers = cut-joined 20000 (range_with_len seed rows) (omega arith)

  cells-are : (column : ℕ) → ((at : Starts) (ns : List ℕ) → IsGroup ns → Stand (plain_file (file_of (parts rows seed few small))) at ns → group_cells (plain_file (file_of (parts rows seed few small))) field (group_at at ns) ≡ cells_from column ns)
      → field_cells (file_with (plain_file (file_of (parts rows seed few small))) (metadata rows seed few small)) field ≡ sample_cells column rows seed
  unfolding meta_data_of_plain
  cells-are column each =
      let file : PlainFile = file_of (parts rows seed few small) in
      let at : Starts = first_starts (chunks_of (groups_of (parts rows seed few small))) in
      ap (flat_map (group_cells (plain_file file) field)) (groups-at at (parts rows seed few small))
      ∙ all-rows column (plain_file file) field each at (parts rows seed few small) (parts-are rows seed few small) (all_parts_stand file) ∙ ap (cells_from column) all-numbers

  plain-cells : HasCells rows seed field (file_with (plain_file (file_of (parts rows seed few small))) (metadata rows seed few small))
  plain-cells =
      let file : PlainFile = file_of (parts rows seed few small) in
      let size : length (plain_file file) < 2 ^ 63 = (fits rows seed few small).size in
      record {
        id = λ is_field. cells-are 0 (λ at ns is stand. id-rows (plain_file file) size at ns is stand.0 field is_field);
        qty = λ is_field. cells-are 1 (λ at ns is stand. qty-rows (plain_file file) size at ns is stand.1.0 field is_field);
        name = λ is_field. cells-are 2 (λ at ns is stand. name-rows (plain_file file) size at ns is stand.1.1.0 field is_field);
      }

  pub sample_has_cells : IsSomeAnd (file_of_bytes (sample rows seed)) (HasCells rows seed field)
  sample_has_cells = rw (sample-is rows seed few small, found rows seed few small) plain-cells
