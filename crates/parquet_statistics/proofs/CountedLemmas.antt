-- Keys that are counted from 0 on name all entries in turn.
use Rattle.std.proofs.Common.{◌≡◌, refl, sym, ◌∙◌, ap, ℕ, ◌+◌, ◌<◌, List, [], ◌∷◌, ◌++◌, length, get_or, map, is_some, option_map, arith}
use Rattle.std.specs.Prelude.{ℤ, pos, IfOk, Result, Ok, Err, Option, Some, None, slice_get, option_and_then}
use Rattle.std.specs.List.{range_with_len}
use Rattle.std.proofs.Math.ListN.{get_or-map}
use Rattle.std.proofs.lemmas.List.{length-map, map-append}
use Rattle.std.proofs.lemmas.Simd.{map-map}
use Rattle.std.proofs.lemmas.List.FromFn.{fill_by_all, get_or-map-range_with_len, length-map-range_with_len, map-range_with_len_more}
use Rattle.std.proofs.lemmas.Option.{same_Some, slice_get-get_or}
use Rattle.columns_core.specs.Column.{Column, as_column, cell_of}
use Rattle.columns_core.specs.Entries.{NameEntries, entries_named, entry_named, key_places, place_of_key}
use Rattle.columns_core.specs.Keyed.{KeyedColumn, keyed_cells, keyed_column}
use Rattle.columns_core.specs.declared.cell.Cell.{Cell, Null}
use Rattle.columns_core.specs.declared.data_type.DataType.{DataType}
use Rattle.columns_core.specs.declared.error.Error.{Error}
use Rattle.parquet_statistics.specs.Made.{keyed_in_turn, keys_of_all}

module _ {K : Type 0} (number : K → ℤ) where
  pub counted_more : (keys pushed : List K) (key : K) (n : ℕ) → pushed ≡ keys ++ key ∷ [] → map number keys ≡ map pos (range_with_len 0 n) → number key ≡ pos n → map number pushed ≡ map pos (range_with_len 0 (n + 1))
  counted_more keys pushed key n more so is =
      ap (map number) more ∙ map-append number keys (key ∷ []) ∙ (λ i. so i ++ is i ∷ []) ∙ sym (map-range_with_len_more pos 0 n n (omega arith))

  all_there : (keys : List K) (n : ℕ) → map number keys ≡ map pos (range_with_len 0 n) → map (option_map number) (map Some keys) ≡ map (λ place. Some (pos place)) (range_with_len 0 n)
  all_there keys n so =
      map-map (option_map number) Some keys ∙ sym (map-map Some number keys) ∙ ap (map Some) so ∙ map-map Some pos (range_with_len 0 n)

  pub all_keys : (r : Result (Column K) Error) (data_type : DataType) (keys : List K) (n : ℕ) → map number keys ≡ map pos (range_with_len 0 n) → IfOk r (λ array. array ≡ as_column data_type (map Some keys))
      → IfOk r (λ array. map (option_map number) array.items ≡ map (λ place. Some (pos place)) (range_with_len 0 n))
  all_keys (Ok array) data_type keys n so is = ap (λ (column : Column K). map (option_map number) column.items) is ∙ all_there keys n so
  all_keys (Err e) data_type keys n so is = tt

  abbrev named : List Cell → Option ℤ → Option Cell
  named entries key = option_and_then (entry_named entries) key

  named_by : (entries : List Cell) (keys : List (Option K)) → entries_named number entries keys ≡ map (named entries) (map (option_map number) keys)
  named_by entries [] = refl
  named_by entries (None ∷ keys) = ap (λ rest. None ∷ rest) (named_by entries keys)
  named_by entries (Some key ∷ keys) = ap (λ rest. entry_named entries (number key) ∷ rest) (named_by entries keys)

  placed_by : (keys : List (Option K)) → map (option_map place_of_key) (map (option_map number) keys) ≡ key_places number keys
  placed_by [] = refl
  placed_by (None ∷ keys) = ap (λ rest. None ∷ rest) (placed_by keys)
  placed_by (Some key ∷ keys) = ap (λ rest. Some (place_of_key (number key)) ∷ rest) (placed_by keys)

  module _ (entries : List Cell) (keys : List (Option K)) (count : map (option_map number) keys ≡ map (λ place. Some (pos place)) (range_with_len 0 (length entries))) where
    abbrev cell_there : ℕ → Cell
    cell_there place = cell_of (λ cell. cell) (slice_get entries place)

    entry_there : (i : ℕ) → i < length entries → get_or entries i Null ≡ cell_there i
    entry_there i h = ap (cell_of (λ cell. cell)) (sym (slice_get-get_or entries i Null h))

    pub all_entries : keyed_cells number entries keys ≡ entries
    all_entries =
        ap (map (cell_of (λ cell. cell))) (named_by entries keys ∙ ap (map (named entries)) count ∙ map-map (named entries) (λ place. Some (pos place)) (range_with_len 0 (length entries)))
        ∙ map-map (cell_of (λ cell. cell)) (slice_get entries) (range_with_len 0 (length entries))
        ∙ sym (fill_by_all cell_there entries (length entries) Null refl entry_there)

    all_places : key_places number keys ≡ keys_of_all entries
    all_places =
        sym (placed_by keys) ∙ ap (map (option_map place_of_key)) count ∙ map-map (option_map place_of_key) (λ place. Some (pos place)) (range_with_len 0 (length entries))

    pub all_keyed : (column : KeyedColumn) (data_type : DataType) → column ≡ keyed_column number data_type keys entries → Some (column.keys, column.entries) ≡ Some (keyed_in_turn entries)
    all_keyed column data_type is = ap (λ (column : KeyedColumn). Some (column.keys, column.entries)) is ∙ ap (λ (places : List (Option ℕ)). Some (places, entries)) all_places

    as_many : length keys ≡ length entries
    as_many = sym (length-map keys (option_map number)) ∙ ap length count ∙ length-map-range_with_len (λ place. Some (pos place)) 0 (length entries)

    key_at : (i : ℕ) (d : Option K) (key : K) → i < length keys → get_or keys i d ≡ Some key → number key ≡ pos i
    key_at i d key h is =
        let read = sym (get_or-map (option_map number) keys i d) ∙ ap (λ numbers. get_or numbers i (option_map number d)) count ∙ get_or-map-range_with_len (λ place. Some (pos place)) 0 (length entries) i i (option_map number d) (omega (arith, as_many)) (omega arith) in
        same_Some (number key) (pos i) (ap (option_map number) (sym is) ∙ read)

    pub names_all : NameEntries number entries keys
    names_all i d h key is =
        ap (λ n. is_some (entry_named entries n)) (key_at i d key h is) ∙ ap is_some (slice_get-get_or entries i Null (omega (arith, as_many)))
