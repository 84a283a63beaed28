-- A sample is whole, true and readable for every request over its columns.
use Rattle.std.proofs.Common.{◌≡◌, inl, inr, ℕ, ◌^◌, ◌≤◌, ◌<◌, true, List, [], ◌∷◌, Some, None, refl, ap, ◌∙◌, arith, length, map}
use Rattle.std.specs.Prelude.{All, IsSomeAnd, IsTrue, sum_by}
use Rattle.std.specs.List.{list_all, list_any, range_with_len}
use Rattle.std.proofs.lemmas.List.{length-map}
use Rattle.std.proofs.lemmas.List.Elements.{All-head, All-tail, All-cons, All-nil, All-weaker}
use Rattle.std.proofs.lemmas.List.FromFn.{length-range_with_len}
use Rattle.columns_core.specs.declared.data_type.Field.{Field}
use Rattle.parquet_base.specs.Pieces.{cut}
use Rattle.parquet_meta.specs.File.{footer}
use Rattle.parquet_meta.specs.declared.metadata.FileMetaData.{FileMetaData}
use Rattle.parquet_meta.specs.declared.metadata.RowGroupMetaData.{RowGroupMetaData}
use Rattle.flat_values.specs.Conversion.{AsText, Keep}
use Rattle.parquet_scan.specs.Request.{Request, begins, is_legal, is_legal_bound_of, names_columns}
use Rattle.parquet_scan.specs.Rows.{file_of as file_of_bytes, file_with}
use Rattle.parquet_scan.proofs.Sound.{legal_bounds}
use Rattle.parquet_plain.specs.Description.{descriptor_of}
use Rattle.parquet_plain.specs.File.{Starts, chunks_of, first_starts, meta_data_of_plain, plain_file}
use Rattle.parquet_plain.specs.Fits.{FitsFile}
use Rattle.parquet_plain.specs.Found.{ChunkStands, GroupsStand}
use Rattle.parquet_plain.proofs.EndLemmas.{footer-of-plain}
use Rattle.parquet_plain.proofs.FitLemmas.{writable}
use Rattle.parquet_plain.proofs.PieceLemmas.{cut-sum}
use Rattle.parquet_plain.proofs.PlaceLemmas.{all_parts_stand}
use Rattle.parquet_sample.specs.Sample.{id_column, id_item, name_column, name_item, qty_column, qty_item, sample}
use Rattle.sample_laws.specs.Laws.{IsGoodFor, IsIdField, IsNameField, IsQtyField, IsSampleField, IsTrueOfField, IsTrueOfGroup}
use Rattle.sample_laws.proofs.ChunkLaws.{IsChunk}
use Rattle.sample_laws.proofs.FieldLaws.{IsGood, good}
use Rattle.sample_laws.proofs.RequestLaws.{IsGoodField, true_counts_and_locations, true_statistics, valid}
use Rattle.sample_laws.proofs.RowLaws.{cut-are}
use Rattle.sample_laws.proofs.SampleFits.{all_at, behind_group, columns, few-groups, file-is, file_of, group_at, groups-at, groups_of, id_chunk, length-at, name_chunk, name_start, qty_chunk, qty_start, sample_fits}
use Rattle.sample_laws.proofs.SampleItems.{IsGroup, IsRowNumber, ids-placed, names-placed, qtys-placed, range-small}
use Rattle.sample_laws.proofs.SampleKinds.{IsBelow, IsShortText, id_ended_by, id_ends, id_kind, id_read_by, id_values, name_ended_by, name_ends, name_kind, name_read_by, name_values, number_cell, number_value, qty_ended_by, qty_ends, qty_kind, qty_read_by, qty_values, text_cell, text_value}

-- ---- a group

module _ (file : List ℕ) (size : length file < 2 ^ 63) (at : Starts) (ns : List ℕ) (is : IsGroup ns) where
  pub id-chunk : ChunkStands file at (id_chunk ns) → IsChunk file id_column (IsBelow (2 ^ 63)) at (group_at at ns) (map id_item ns)
  id-chunk stands =
      let many : length (map id_item ns) ≡ length ns = length-map ns id_item in
      record { stands = stands; size = size; all = ids-placed ns is.all; rows = many; some = omega (arith, is.some); few = omega (arith, is.few) }

  pub qty-chunk : ChunkStands file (qty_start at ns) (qty_chunk ns) → IsChunk file qty_column (IsBelow 1000) (qty_start at ns) (group_at at ns) (map qty_item ns)
  qty-chunk stands =
      let many : length (map qty_item ns) ≡ length ns = length-map ns qty_item in
      record { stands = stands; size = size; all = qtys-placed ns is.all; rows = many; some = omega (arith, is.some); few = omega (arith, is.few) }

  pub name-chunk : ChunkStands file (name_start at ns) (name_chunk ns) → IsChunk file name_column IsShortText (name_start at ns) (group_at at ns) (map name_item ns)
  name-chunk stands =
      let many : length (map name_item ns) ≡ length ns = length-map ns name_item in
      record { stands = stands; size = size; all = names-placed ns is.all; rows = many; some = omega (arith, is.some); few = omega (arith, is.few) }

good-id : (file : List ℕ) (size : length file < 2 ^ 63) (at : Starts) (ns : List ℕ) (is : IsGroup ns) → ChunkStands file at (id_chunk ns) → (field : Field) → IsIdField field → IsGood file (group_at at ns) field
good-id file size at [] is stands field is_field = absurd (omega (arith, is.some))
good-id file size at (n ∷ ns) is stands field is_field =
    good id_column Keep (IsBelow (2 ^ 63)) number_cell id_kind tt id_ends file at (group_at at (n ∷ ns)) (id_item n) (map id_item ns) (id-chunk file size at (n ∷ ns) is stands) field (id_read_by field.data_type is_field.type) number_value id_values
    (id_ended_by field.data_type is_field.type) (rw is_field.name refl)

good-qty : (file : List ℕ) (size : length file < 2 ^ 63) (at : Starts) (ns : List ℕ) (is : IsGroup ns) → ChunkStands file (qty_start at ns) (qty_chunk ns) → (field : Field) → IsQtyField field → IsGood file (group_at at ns) field
good-qty file size at [] is stands field is_field = absurd (omega (arith, is.some))
good-qty file size at (n ∷ ns) is stands field is_field =
    good qty_column Keep (IsBelow 1000) number_cell qty_kind tt qty_ends file (qty_start at (n ∷ ns)) (group_at at (n ∷ ns)) (qty_item n) (map qty_item ns) (qty-chunk file size at (n ∷ ns) is stands) field (qty_read_by field.data_type is_field.type) number_value qty_values
    (qty_ended_by field.data_type is_field.type) (rw is_field.name refl)

good-name : (file : List ℕ) (size : length file < 2 ^ 63) (at : Starts) (ns : List ℕ) (is : IsGroup ns) → ChunkStands file (name_start at ns) (name_chunk ns) → (field : Field) → IsNameField field → IsGood file (group_at at ns) field
good-name file size at [] is stands field is_field = absurd (omega (arith, is.some))
good-name file size at (n ∷ ns) is stands field is_field =
    good name_column AsText IsShortText text_cell name_kind tt name_ends file (name_start at (n ∷ ns)) (group_at at (n ∷ ns)) (name_item n) (map name_item ns) (name-chunk file size at (n ∷ ns) is stands) field (name_read_by field.data_type is_field.type) text_value name_values
    (name_ended_by field.data_type is_field.type) (rw is_field.name refl)

-- ---- all groups

groups-good : (file : List ℕ) → length file < 2 ^ 63 → (fields : List Field) → All IsSampleField fields → (at : Starts) (parts : List (List ℕ)) → All IsGroup parts → GroupsStand file at (groups_of parts)
    → All (λ group. All (IsGood file group) fields) (all_at at parts)
unfolding all_at
groups-good file size fields asked at [] all stand = All-nil (λ group. All (IsGood file group) fields)
groups-good file size fields asked at (ns ∷ parts) all stand =
    All-cons (λ group. All (IsGood file group) fields) (group_at at ns) (all_at (behind_group at ns) parts) (All-weaker IsSampleField (IsGood file (group_at at ns)) (each (All-head IsGroup ns parts all) stand.0) fields asked)
    (groups-good file size fields asked (behind_group at ns) parts (All-tail IsGroup ns parts all) stand.1)
  where
    each : IsGroup ns → ChunkStands file at (id_chunk ns) × (ChunkStands file (qty_start at ns) (qty_chunk ns) × (ChunkStands file (name_start at ns) (name_chunk ns) × Unit {0})) → (field : Field) → IsSampleField field → IsGood file (group_at at ns) field
    each is stands field (inl id) = good-id file size at ns is stands.0 field id
    each is stands field (inr (inl qty)) = good-qty file size at ns is stands.1.0 field qty
    each is stands field (inr (inr name)) = good-name file size at ns is stands.1.1.0 field name

-- ---- fields in the schema

id-field : (field : Field) → IsIdField field → IsGoodField (map descriptor_of columns) field
id-field field is_field =
    let read = id_read_by field.data_type is_field.type in
    let by = id_ended_by field.data_type is_field.type in
    record { causes = rw (is_field.name, read.carried) refl; roomy = λ count le. rw (by.own, by.own) (read.roomy count le) }

qty-field : (field : Field) → IsQtyField field → IsGoodField (map descriptor_of columns) field
qty-field field is_field =
    let read = qty_read_by field.data_type is_field.type in
    let by = qty_ended_by field.data_type is_field.type in
    record { causes = rw (is_field.name, read.carried) refl; roomy = λ count le. rw (by.own, by.own) (read.roomy count le) }

name-field : (field : Field) → IsNameField field → IsGoodField (map descriptor_of columns) field
name-field field is_field =
    let read = name_read_by field.data_type is_field.type in
    let by = name_ended_by field.data_type is_field.type in
    record { causes = rw (is_field.name, read.carried) refl; roomy = λ count le. rw (by.own, by.own) (read.roomy count le) }

sample-field : (field : Field) → IsSampleField field → IsGoodField (map descriptor_of columns) field
sample-field field (inl id) = id-field field id
sample-field field (inr (inl qty)) = qty-field field qty
sample-field field (inr (inr name)) = name-field field name

-- the name of a field begins one of the three columns
is-named : (field : Field) → IsSampleField field → list_any (begins field.name) (map descriptor_of columns) ≡ true
is-named field (inl id) = rw id.name refl
is-named field (inr (inl qty)) = rw qty.name refl
is-named field (inr (inr name)) = rw name.name refl

all-named : (fields : List Field) → All IsSampleField fields → list_all (λ (field : Field). list_any (begins field.name) (map descriptor_of columns)) fields ≡ true
all-named [] all = refl
all-named (field ∷ fields) all = rw (is-named field (All-head IsSampleField field fields all), all-named fields (All-tail IsSampleField field fields all)) refl

-- what is good tells the truth
good-is-true : (bytes : List ℕ) (group : RowGroupMetaData) (field : Field) → IsGood bytes group field → IsTrueOfGroup bytes field group
good-is-true bytes group field good = rw good.named (record { counts = good.counts; located = good.located; statistics = good.true_whole; index = good.true_pages; index_is_whole = good.index })

-- ---- the sample

module _ (rows seed : ℕ) (few : rows ≤ 2000000) (small : seed < 2 ^ 32) where
  abbrev pub parts : List (List ℕ)
  parts = cut (Some 20000) (range_with_len seed rows)

  pub parts-are : All IsGroup parts
  parts-are = cut-are IsRowNumber 20000 (range_with_len seed rows) (omega arith) (range-small seed rows (omega arith))

  parts-sum : sum_by length parts ≡ rows
  parts-sum = cut-sum 20000 (range_with_len seed rows) (omega arith) ∙ length-range_with_len seed rows

  pub sample-is : sample rows seed ≡ plain_file (file_of parts)
  unfolding sample
  sample-is = ap plain_file (file-is parts)

  pub fits : FitsFile (file_of parts)
  fits = sample_fits parts parts-are (omega (arith, parts-sum))

  -- what the footer says
  abbrev pub metadata : FileMetaData
  metadata = meta_data_of_plain (file_of parts)

  pub found : footer (plain_file (file_of parts)) ≡ Some metadata
  found = footer-of-plain (file_of parts) (writable (file_of parts) fits)

  module _ (fields : List Field) (asked : All IsSampleField fields) where
    groups-are : All (λ group. All (IsGood (plain_file (file_of parts)) group) fields) metadata.row_groups
    unfolding meta_data_of_plain
    groups-are =
        let at : Starts = first_starts (chunks_of (groups_of parts)) in
        rw (groups-at at parts) (groups-good (plain_file (file_of parts)) fits.size fields asked at parts parts-are (all_parts_stand (file_of parts)))

    fields-are : All (IsGoodField metadata.columns) fields
    unfolding meta_data_of_plain
    fields-are = All-weaker IsSampleField (IsGoodField (map descriptor_of columns)) sample-field fields asked

  -- ---- whatever is asked

  plain-true : (field : Field) → IsTrueOfField field (file_with (plain_file (file_of parts)) metadata)
  plain-true field asked =
      All-weaker (λ group. All (IsGood (plain_file (file_of parts)) group) (field ∷ [])) (IsTrueOfGroup (plain_file (file_of parts)) field)
      (λ group all. good-is-true (plain_file (file_of parts)) group field (All-head (IsGood (plain_file (file_of parts)) group) field [] all)) metadata.row_groups
      (groups-are (field ∷ []) (All-cons IsSampleField field [] asked (All-nil IsSampleField)))

  pub sample_is_true_of : (field : Field) → IsSomeAnd (file_of_bytes (sample rows seed)) (IsTrueOfField field)
  sample_is_true_of field = rw (sample-is, found) (plain-true field)

  -- ---- for a request

  module _ (request : Request) (asked : All IsSampleField request.fields) (legal : IsTrue (is_legal request None)) where
    names-are : names_columns request (Some metadata) ≡ true
    unfolding meta_data_of_plain
    names-are = all-named request.fields asked

    legal-is : is_legal request (footer (plain_file (file_of parts))) ≡ true
    legal-is = rw (found, names-are) legal

    bounds-are : list_all (is_legal_bound_of request.fields) request.bounds ≡ true
    bounds-are = legal_bounds request None legal

    groups-few : length metadata.row_groups ≤ 2000000
    unfolding meta_data_of_plain
    groups-few =
        let at : Starts = first_starts (chunks_of (groups_of parts)) in omega (arith, ap length (groups-at at parts), length-at at parts, few-groups parts parts-are, parts-sum)

    plain-good : IsGoodFor request (plain_file (file_of parts))
    plain-good =
        let fields = fields-are request.fields asked in
        let groups = groups-are request.fields asked in
        record {
          legal = legal-is;
          valid = valid request (plain_file (file_of parts)) metadata found fields groups groups-few bounds-are;
          is_true = rw found (record {
            counts_and_locations = true_counts_and_locations request (plain_file (file_of parts)) metadata found fields groups groups-few bounds-are;
            statistics = true_statistics request (plain_file (file_of parts)) metadata found fields groups groups-few bounds-are;
          });
        }

    pub sample_is_good : IsGoodFor request (sample rows seed)
    sample_is_good = rw sample-is plain-good
