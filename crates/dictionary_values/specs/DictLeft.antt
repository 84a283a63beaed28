-- What is left of a column of keys that is read in arrays.
use Rattle.std.specs.Prelude.{◌≡◌, ◌⊎◌, ℕ, true, All, List, [], ◌∷◌, Option, Some, None, Result, refl, unwrap_or}
use Rattle.std.specs.Coded.{Coded, code_by, coded×}
use Rattle.std.specs.List.{list_all}
use Rattle.std.specs.Result.{result_ok}
use Rattle.columns_core.specs.Causes.{Cause}
use Rattle.columns_core.specs.declared.cell.Cell.{Cell}
use Rattle.columns_core.specs.declared.data_type.DataType.{DataType}
use Rattle.columns_core.specs.Keyed.{KeyedColumn, named_cells}
use Rattle.columns_core.specs.declared.error.Error.{Error}
use Rattle.parquet_page.specs.Content.{Content, DataOf, DictContent, DictOf, is_data}
use Rattle.parquet_page.specs.Lending.{has_data_behind}
use Rattle.page_decoding.specs.Chunks.{ChunksLeft, IfGiven, chunks_code, standing_of}
use Rattle.page_decoding.specs.Outcome.{cells_in}
use Rattle.page_decoding.specs.Standing.{Advances, Standing}
use Rattle.flat_values.specs.ColumnLeft.{ColumnLeft, Decoding, GivesArray}
use Rattle.dictionary_values.specs.Keys.{NamesEntry, named_standing, selected_entries, selected_keys}
use Rattle.dictionary_values.specs.declared.key_decoder.KeyDecoder.{KeyDecoder}

-- how a column of keys is decoded by a reader of its entries, where its type has so many keys
abbrev pub keys_decoding : (DictContent → Result (List Cell) (List Cause)) → ℕ → Decoding
keys_decoding entries most = record { entries = entries; outcomes = selected_entries most; most_bytes = None }

-- The entries that the keys of a column name: those of the dictionary that was lent, or of the first page that is to come, where this is a
-- dictionary page.
abbrev pub first_dictionary : (DictContent → Result (List Cell) (List Cause)) → Option (List Cell) → List Content → Option (List Cell)
first_dictionary entries dictionary [] = dictionary
first_dictionary entries dictionary (DataOf page ∷ pages) = dictionary
first_dictionary entries dictionary (DictOf page ∷ pages) = result_ok (entries page)

abbrev pub named_entries : (DictContent → Result (List Cell) (List Cause)) → Option (List Cell) → List Content → List Cell
named_entries entries dictionary pages = unwrap_or (first_dictionary entries dictionary pages) []

-- Keys that wait name entries of the dictionary, which was lent then, and no other is to come: it is the first page, or there is none.
pub record IsKeyed (s : Standing) (pages : List Content) : Type 0 where
  pub named : All (NamesEntry (unwrap_or s.dictionary [])) s.waiting
  pub lent : s.dictionary ≡ None → cells_in s.waiting ≡ []
  pub still : (s.waiting ≡ []) ⊎ (list_all is_data pages ≡ true)
  pub ordered : has_data_behind pages ≡ true

-- So many rows are wanted still: as many as before where no page was read, and else as many as the page leaves.
abbrev pub LeavesWanted : (DictContent → Result (List Cell) (List Cause)) → ℕ → List Content → List Content → Standing → ℕ → Type 0
LeavesWanted entries most old new before remaining =
    (after : Standing) × Advances entries (selected_keys most) old new before after × (after.remaining ≡ remaining)

-- the type of the arrays, and what is left of the column in chunks, with the reader of its entries in the place of the decoder
pub record DictLeft (I R : Type 0) : Type 0 where
  pub data_type : DataType
  pub chunks : ChunksLeft I R

abbrev pub dict_code : {I R : Type 0} → Coded I → Coded R → Coded DataType → Coded Cell → Coded (DictLeft I R)
dict_code {I} {R} pages readers types cell =
    code_by (DataType × ChunksLeft I R) (coded× types (chunks_code pages readers cell))
    (λ d. (d.data_type, d.chunks)) (λ p. record { data_type = p.0; chunks = p.1 }) (λ _. refl)

abbrev pub read_by : {I K R : Type 0} → ChunksLeft I (KeyDecoder K R) → ChunksLeft I R
read_by chunks = record {
  pages = chunks.pages;
  decoder = chunks.decoder.read_dict;
  size = chunks.size;
  waiting = chunks.waiting;
  remaining = chunks.remaining;
  dictionary = chunks.dictionary;
}

abbrev pub array_type : KeyedColumn → DataType
array_type array = array.data_type

-- as what is left of any column
module _ {I D : Type 0} (decoding : D → Decoding) (to_come : I → List Content) (causes : I → List Cause) (row_count lent_count : I → ℕ) where
  abbrev pub keyed_left : DataType → ChunksLeft I D → ColumnLeft
  keyed_left data_type chunks = record {
    data_type = data_type;
    decoding = decoding chunks.decoder;
    size = chunks.size;
    standing = named_standing (standing_of chunks);
    pages = to_come chunks.pages;
    causes = causes chunks.pages;
    row_count = row_count chunks.pages;
    lent = lent_count chunks.pages;
  }

  abbrev pub dict_left : DictLeft I D → ColumnLeft
  dict_left iter = keyed_left iter.data_type iter.chunks

  -- the next array, with all entries of the dictionary, over steps of its own
  abbrev pub GivesDict : DictLeft I D → Option (Result KeyedColumn Error) → DictLeft I D → Type 0
  GivesDict old result new =
      GivesArray array_type named_cells (dict_left old) result (dict_left new)
      × IfGiven result (λ array. new.chunks.dictionary ≡ Some array.entries)
