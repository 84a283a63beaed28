-- A column of keys by its chunks.
use Rattle.std.proofs.Common.{◌≡◌, ℕ, List, [], ◌∷◌, map, Option, Some, None, refl, sym, subst, inl, All}
use Rattle.std.specs.Prelude.{if◌then◌else◌, is_ok, IfErr, IfNone, IfOk, Result, Ok, Err, unwrap_or}
use Rattle.std.proofs.lemmas.List.Elements.{All-nil}
use Rattle.columns_core.specs.Causes.{Cause, IsWantOfMemory}
use Rattle.columns_core.specs.declared.cell.Cell.{Cell}
use Rattle.columns_core.specs.declared.data_type.DataType.{DataType}
use Rattle.columns_core.specs.declared.error.Error.{Error}
use Rattle.parquet_page.specs.Content.{Content, DictContent, DataOf, DictOf}
use Rattle.page_decoding.specs.Chunks.{ChunksLeft, GivesFirstChunk, ReadsChunks, ended, standing_of}
use Rattle.page_decoding.specs.Column.{DataPagesAre}
use Rattle.page_decoding.specs.Outcome.{Given}
use Rattle.page_decoding.specs.Standing.{NoneComes, still_wanted}
use Rattle.flat_values.specs.ColumnLeft.{ColumnLeft, GivesColumn}
use Rattle.dictionary_values.specs.DictLeft.{IsKeyed, keyed_left, keys_decoding}
use Rattle.dictionary_values.specs.Keys.{NamesEntry, named_cell, selected_entries, selected_keys}
use Rattle.dictionary_values.proofs.ColumnLemmas.{KeysRead, array-given, array-memory, chunk-keyed, chunk-names, chunk-there, end-given, error-given}
use Rattle.dictionary_values.proofs.PageLemmas.{selected-name, selected-named, selected-none}

-- Pages of keys may be of any type.
pub any-pages : (pages : List Content) → DataPagesAre (λ page. Unit {0}) pages
any-pages [] = tt
any-pages (DataOf page ∷ pages) = (tt, any-pages pages)
any-pages (DictOf page ∷ pages) = any-pages pages

module _ {I D X : Type 0} (shown : X → List Cell) (reads : D → DictContent → Result (List Cell) (List Cause)) (most : ℕ) (to_come : I → List Content) (causes : I → List Cause) (row_count lent_count : I → ℕ) (data_type : DataType) (old new : ChunksLeft I D) (steps steps_now : ℕ) where
  -- what is left by a decoder, in chunks of a size
  abbrev pub column_left : D → Option ℕ → ChunksLeft I D → ColumnLeft
  column_left decoder size chunks = keyed_left (λ (d : D). keys_decoding (reads d) most) to_come causes row_count lent_count data_type (record chunks { decoder = decoder; size = size })

  -- what a call for the next chunk of keys says
  pub record IsCalled (result : Option (Result X Error)) : Type 0 where
    pub chunk : GivesFirstChunk shown None old.size (still_wanted (reads old.decoder) (selected_keys most) (standing_of old) (to_come old.pages) (causes old.pages)) (still_wanted (reads new.decoder) (selected_keys most) (standing_of new) (to_come new.pages) (causes new.pages)) result
    pub pages : ReadsChunks shown (reads old.decoder) (selected_keys most) None old.size result (to_come old.pages) (to_come new.pages) (causes old.pages) (standing_of old) (standing_of new) steps steps_now (lent_count old.pages) (lent_count new.pages)
    pub end : IfNone result (NoneComes new.remaining (to_come new.pages) (causes new.pages))
    pub ended : still_wanted (reads old.decoder) (selected_keys most) (standing_of old) (to_come old.pages) (causes old.pages) ≡ [] → NoneComes old.remaining (to_come old.pages) (causes old.pages) → result ≡ None
    pub rows : row_count new.pages ≡ row_count old.pages
    pub decoder : new.decoder ≡ old.decoder
    pub size : new.size ≡ old.size
    pub keyed : IsKeyed (standing_of old) (to_come old.pages)

  abbrev KeysAre : Option (Result X Error) → Type 0
  KeysAre result =
      KeysRead shown data_type old.size (reads old.decoder) (selected_keys most) (selected_entries most) (selected-named most) (selected-name most) (selected-none most)
      (standing_of old) (standing_of new) (to_come old.pages) (to_come new.pages) (causes old.pages) (causes new.pages) steps steps_now (row_count old.pages) (row_count new.pages) (lent_count old.pages) (lent_count new.pages) result

  keys-are : (result : Option (Result X Error)) → IsCalled result → KeysAre result
  keys-are result called =
      let P : D → Type 0 = λ d. GivesFirstChunk shown None old.size (still_wanted (reads old.decoder) (selected_keys most) (standing_of old) (to_come old.pages) (causes old.pages)) (still_wanted (reads d) (selected_keys most) (standing_of new) (to_come new.pages) (causes new.pages)) result in
      record { chunk = subst P called.decoder called.chunk; pages = called.pages; end = called.end; ended = called.ended; rows = called.rows; keyed = called.keyed }

  module _ {Y : Type 0} (type_of : Y → DataType) (cells_of : Y → List Cell) where
    abbrev pub Gives : Option (Result Y Error) → D → Option ℕ → ChunksLeft I D → Type 0
    Gives result decoder size chunks = GivesColumn type_of cells_of (column_left old.decoder old.size old) result (column_left decoder size chunks) steps steps_now

    -- by the decoder and in the chunks that are left
    own-left : (result : Option (Result Y Error)) (chunks : ChunksLeft I D) → new.decoder ≡ old.decoder → new.size ≡ old.size → Gives result old.decoder old.size chunks → Gives result new.decoder new.size chunks
    own-left result chunks decoder size gives =
        let P : D → Type 0 = λ d. Gives result d old.size chunks in
        let Q : Option ℕ → Type 0 = λ s. Gives result new.decoder s chunks in
        subst Q (sym size) (subst P (sym decoder) gives)

    pub array-gives : (keys : X) (result : Result Y Error) (final : ChunksLeft I D) → IsCalled (Some (Ok keys)) → final ≡ (if is_ok result then new else ended new) → IfOk result (λ array. cells_of array ≡ map (named_cell (unwrap_or new.dictionary [])) (shown keys))
        → IfOk result (λ array. type_of array ≡ data_type) → IfErr result IsWantOfMemory → Gives (Some result) final.decoder final.size final
    array-gives keys (Ok array) final called is cells typed memory =
        let P : ChunksLeft I D → Type 0 = λ chunks. Gives (Some (Ok array)) chunks.decoder chunks.size chunks in
        subst P (sym is) (own-left (Some (Ok array)) new called.decoder called.size
        (array-given shown data_type old.size (reads old.decoder) (selected_keys most) (selected_entries most) (selected-named most) (selected-name most) (selected-none most)
        (standing_of old) (standing_of new) (to_come old.pages) (to_come new.pages) (causes old.pages) (causes new.pages) steps steps_now (row_count old.pages) (row_count new.pages) (lent_count old.pages) (lent_count new.pages)
        keys (keys-are (Some (Ok keys)) called) type_of cells_of array cells typed))
    array-gives keys (Err error) final called is cells typed memory =
        let P : ChunksLeft I D → Type 0 = λ chunks. Gives (Some (Err error)) chunks.decoder chunks.size chunks in
        subst P (sym is) (own-left (Some (Err error)) (ended new) called.decoder called.size
        (array-memory shown data_type old.size (reads old.decoder) (selected_keys most) (selected_entries most) (selected-named most) (selected-name most) (selected-none most)
        (standing_of old) (standing_of new) (to_come old.pages) (to_come new.pages) (causes old.pages) (causes new.pages) steps steps_now (row_count old.pages) (row_count new.pages) (lent_count old.pages) (lent_count new.pages)
        keys (keys-are (Some (Ok keys)) called) type_of cells_of error memory))

    pub error-gives : (error : Error) → IsCalled (Some (Err error)) → Gives (Some (Err error)) new.decoder new.size new
    error-gives error called =
        own-left (Some (Err error)) new called.decoder called.size
        (error-given shown data_type old.size (reads old.decoder) (selected_keys most) (selected_entries most) (selected-named most) (selected-name most) (selected-none most)
        (standing_of old) (standing_of new) (to_come old.pages) (to_come new.pages) (causes old.pages) (causes new.pages) steps steps_now (row_count old.pages) (row_count new.pages) (lent_count old.pages) (lent_count new.pages)
        error (keys-are (Some (Err error)) called) type_of cells_of)

    pub end-gives : IsCalled None → Gives None new.decoder new.size new
    end-gives called =
        own-left None new called.decoder called.size
        (end-given shown data_type old.size (reads old.decoder) (selected_keys most) (selected_entries most) (selected-named most) (selected-name most) (selected-none most)
        (standing_of old) (standing_of new) (to_come old.pages) (to_come new.pages) (causes old.pages) (causes new.pages) steps steps_now (row_count old.pages) (row_count new.pages) (lent_count old.pages) (lent_count new.pages)
        (keys-are None called) type_of cells_of)

  -- ---- keys that wait

  pub keys-name : (keys : X) → IsCalled (Some (Ok keys)) → All (NamesEntry (unwrap_or new.dictionary [])) (map Given (shown keys))
  keys-name keys called =
      chunk-names shown data_type old.size (reads old.decoder) (selected_keys most) (selected_entries most) (selected-named most) (selected-name most) (selected-none most)
      (standing_of old) (standing_of new) (to_come old.pages) (to_come new.pages) (causes old.pages) (causes new.pages) steps steps_now (row_count old.pages) (row_count new.pages) (lent_count old.pages) (lent_count new.pages)
      keys (keys-are (Some (Ok keys)) called)

  pub keys-there : (keys : X) → IsCalled (Some (Ok keys)) → new.dictionary ≡ None → ⊥
  keys-there keys called =
      chunk-there shown data_type old.size (reads old.decoder) (selected_keys most) (selected_entries most) (selected-named most) (selected-name most) (selected-none most)
      (standing_of old) (standing_of new) (to_come old.pages) (to_come new.pages) (causes old.pages) (causes new.pages) steps steps_now (row_count old.pages) (row_count new.pages) (lent_count old.pages) (lent_count new.pages)
      keys (keys-are (Some (Ok keys)) called)

  pub array-keyed : {Y : Type 0} (keys : X) (result : Result Y Error) (final : ChunksLeft I D) → IsCalled (Some (Ok keys)) → final ≡ (if is_ok result then new else ended new) → IsKeyed (standing_of final) (to_come final.pages)
  array-keyed {Y = Y} keys result final called is = go result is where
    after : IsKeyed (standing_of new) (to_come new.pages)
    after =
        chunk-keyed shown data_type old.size (reads old.decoder) (selected_keys most) (selected_entries most) (selected-named most) (selected-name most) (selected-none most)
        (standing_of old) (standing_of new) (to_come old.pages) (to_come new.pages) (causes old.pages) (causes new.pages) steps steps_now (row_count old.pages) (row_count new.pages) (lent_count old.pages) (lent_count new.pages)
        keys (keys-are (Some (Ok keys)) called)

    go : (result : Result Y Error) → final ≡ (if is_ok result then new else ended new) → IsKeyed (standing_of final) (to_come final.pages)
    go (Ok array) is = let P : ChunksLeft I D → Type 0 = λ chunks. IsKeyed (standing_of chunks) (to_come chunks.pages) in subst P (sym is) after
    go (Err error) is =
        let P : ChunksLeft I D → Type 0 = λ chunks. IsKeyed (standing_of chunks) (to_come chunks.pages) in
        subst P (sym is) (record { named = All-nil (NamesEntry []); lent = λ gone. refl; still = inl refl; ordered = after.ordered })
