-- Calls for the next array of a column come to an end.
use Rattle.std.proofs.Common.{◌≡◌, ℕ, zero, suc, ◌+◌, ◌-◌, ◌<◌, ◌≤◌, Bool, true, false, List, [], ◌∷◌, ◌++◌, length, map, refl, sym, ap, ◌∙◌, subst, inl, arith}
use Rattle.std.specs.Prelude.{if◌then◌else◌, min, sum_by, Option, Some, None, Result, Ok, Err, OnSome}
use Rattle.std.specs.Iterator.{MakesProgress}
use Rattle.std.proofs.lemmas.List.{length-drop, length-map, length-take}
use Rattle.columns_core.specs.Causes.{Cause, is_empty}
use Rattle.columns_core.specs.declared.cell.Cell.{Cell}
use Rattle.columns_core.specs.declared.data_type.DataType.{DataType}
use Rattle.columns_core.specs.declared.error.Error.{Error}
use Rattle.parquet_page.specs.Content.{Content, DataContent, DictContent}
use Rattle.page_decoding.specs.Bytes.{cell_bytes, fits_most}
use Rattle.page_decoding.specs.NextChunk.{IsFirstChunk}
use Rattle.page_decoding.specs.Outcome.{Outcome, Given, causes_in}
use Rattle.page_decoding.specs.Column.{page_rows}
use Rattle.page_decoding.specs.Queue.{first_chunk}
use Rattle.page_decoding.specs.Standing.{Standing, after_page, after_pages}
use Rattle.flat_values.specs.ColumnLeft.{ColumnLeft, GivesArray, GivesColumn, arrays_at_most, wanted}

fewer : (b : Bool) (remaining own : ℕ) → (if b then remaining - own else 0) ≤ remaining
fewer true remaining own = omega arith
fewer false remaining own = omega arith

-- no more rows are wanted behind pages than in front of them
falls : (entries : DictContent → Result (List Cell) (List Cause)) (outcomes : Option (List Cell) → DataContent → List Outcome) (s : Standing) (pages : List Content) → (after_pages entries outcomes s pages).remaining ≤ s.remaining
falls entries outcomes s [] = omega arith
falls entries outcomes s (page ∷ pages) =
    let own = page_rows entries outcomes s.dictionary page in
    let rest : (after_pages entries outcomes (after_page entries outcomes s page) pages).remaining ≤ (if is_empty (causes_in own) then s.remaining - length own else 0) = falls entries outcomes (after_page entries outcomes s page) pages in
    let first = fewer (is_empty (causes_in own)) s.remaining (length own) in
    omega (arith, rest, first)

-- a chunk that is not empty leaves fewer rows
chunk_smaller : {X : Type 0} (shown : X → List Cell) (size : Option ℕ) (old new : List Outcome) (chunk : X) → IsFirstChunk shown size old new chunk → length new < length old
chunk_smaller shown None old new chunk is =
    let own = ap length is.cells in
    omega (arith, is.some, own, length-map (shown chunk) Given, ap length is.others)
chunk_smaller shown (Some size) old new chunk is =
    let own = ap length is.cells in
    omega (arith, is.some, own, length-map (shown chunk) Given, ap length is.others, length-take size old, length-drop size old)

some_left : (rows remaining : ℕ) → (rows ≡ 0 → remaining ≡ 0 → ⊥) → 0 < rows + min 1 remaining
some_left zero zero none = absurd (none refl refl)
some_left zero (suc remaining) none = omega arith
some_left (suc rows) remaining none = omega arith

none_long : (outcomes : List Outcome) → length outcomes ≡ 0 → outcomes ≡ []
none_long [] e = refl
none_long (outcome ∷ outcomes) e = absurd (omega (arith, e))

-- no more calls than this give something
abbrev pub calls : ColumnLeft → ℕ
calls left = length (wanted left) + min 1 left.standing.remaining

module _ {X : Type 0} (type_of : X → DataType) (shown : X → List Cell) where
  pub nearer : (old : ColumnLeft) (result : Option (Result X Error)) (new : ColumnLeft) (steps steps_now : ℕ) → GivesColumn type_of shown old result new steps steps_now → OnSome result (calls new < calls old)
  nearer old None new steps steps_now gives = tt
  nearer old (Some (Ok array)) new steps steps_now gives =
      let few = chunk_smaller shown old.size _ _ array gives.chunk in
      let read = gives.pages in
      let rest : new.standing.remaining ≤ old.standing.remaining = subst (λ (s : Standing). s.remaining ≤ old.standing.remaining) read.reached (falls _ _ _ read.lent_pages) in
      omega (arith, few, rest)
  nearer old (Some (Err error)) new steps steps_now gives =
      let none = ap length gives.chunk.1 in
      let finished : new.standing.remaining ≡ 0 = gives.pages.reached.1 in
      let more = some_left (length (wanted old)) old.standing.remaining (λ no_row no_wanted. awaited no_row no_wanted) in
      omega (arith, more, none, finished) where
        awaited : length (wanted old) ≡ 0 → old.standing.remaining ≡ 0 → ⊥
        awaited no_row no_wanted = let e = gives.ended (none_long _ no_row) (inl no_wanted) in cc

  -- each array, and each error, is a step nearer to the end
  pub goes : {S : Type 0} (left : S → ColumnLeft) {can : S → Type 0} → ((s : S) → can s) → (old : S) (result : Option (Result X Error)) (new : S) → GivesArray type_of shown (left old) result (left new)
      → MakesProgress can (λ s. arrays_at_most (left s)) old result new
  goes left can old None new gives = record { on = λ _. tt; keeps = tt; rests = λ finite. finite }
  goes left can old (Some given) new gives = record { on = λ finite. (can new, finite, nearer (left old) (Some given) (left new) 0 gives.0 gives.1); keeps = can new; rests = λ _. tt }

module _ {X Y : Type 0} (type_of : X → DataType) (shown : X → List Cell) (own_type : Y → DataType) (own_cells : Y → List Cell) (result : Option (Result X Error)) (own : Option (Result Y Error)) (old new : ColumnLeft) (steps steps_now : ℕ) where
  -- An array with the type and the cells of another is given as that one is.
  pub same_given : (array : X) (column : Y) → result ≡ Some (Ok array) → own ≡ Some (Ok column) → own_type column ≡ type_of array → own_cells column ≡ shown array
      → GivesColumn type_of shown old result new steps steps_now → GivesColumn own_type own_cells old own new steps steps_now
  same_given array column is own-is typed same given =
      let G : Option (Result X Error) → Type 0 = λ found. GivesColumn type_of shown old found new steps steps_now in
      let H : Option (Result Y Error) → Type 0 = λ found. GivesColumn own_type own_cells old found new steps steps_now in
      subst H (sym own-is) (by (subst G is given)) where
        by : GivesColumn type_of shown old (Some (Ok array)) new steps steps_now → GivesColumn own_type own_cells old (Some (Ok column)) new steps steps_now
        by gives =
            let back = sym same in
            let P : List Cell → Type 0 = λ cells. 0 < length cells in
            let Q : List Cell → Type 0 = λ cells. map Given cells ≡ first_chunk old.size (wanted old) in
            let F : List Cell → Type 0 = λ cells. fits_most old.decoding.most_bytes (sum_by cell_bytes cells) ≡ true in
            let R : List Cell → Type 0 = λ cells. after_pages old.decoding.entries old.decoding.outcomes old.standing gives.pages.lent_pages ≡ record { waiting = map Given cells ++ new.standing.waiting; remaining = new.standing.remaining; dictionary = new.standing.dictionary } in
            record {
              chunk = record { some = subst P back gives.chunk.some; cells = subst Q back gives.chunk.cells; others = gives.chunk.others };
              typed = typed ∙ gives.typed;
              fits = subst F back gives.fits;
              pages = record { lent_pages = gives.pages.lent_pages; split = gives.pages.split; needed = gives.pages.needed; reached = subst R back gives.pages.reached; tells = tt; ticked = gives.pages.ticked; counted = gives.pages.counted; data_alone = gives.pages.data_alone };
              end = tt;
              ended = λ none ends. let e = gives.ended none ends in cc;
              decoding = gives.decoding;
              size = gives.size;
              data_type = gives.data_type;
              row_count = gives.row_count;
            }

  -- so is an error
  pub same_failed : (error : Error) → result ≡ Some (Err error) → own ≡ Some (Err error) → GivesColumn type_of shown old result new steps steps_now → GivesColumn own_type own_cells old own new steps steps_now
  same_failed error is own-is given =
      let G : Option (Result X Error) → Type 0 = λ found. GivesColumn type_of shown old found new steps steps_now in
      let H : Option (Result Y Error) → Type 0 = λ found. GivesColumn own_type own_cells old found new steps steps_now in
      subst H (sym own-is) (by (subst G is given)) where
        by : GivesColumn type_of shown old (Some (Err error)) new steps steps_now → GivesColumn own_type own_cells old (Some (Err error)) new steps steps_now
        by gives =
            record {
              chunk = gives.chunk;
              typed = tt;
              fits = tt;
              pages = record { lent_pages = gives.pages.lent_pages; split = gives.pages.split; needed = gives.pages.needed; reached = gives.pages.reached; tells = gives.pages.tells; ticked = gives.pages.ticked; counted = gives.pages.counted; data_alone = gives.pages.data_alone };
              end = tt;
              ended = λ none ends. let e = gives.ended none ends in cc;
              decoding = gives.decoding;
              size = gives.size;
              data_type = gives.data_type;
              row_count = gives.row_count;
            }

  -- and so is the end
  pub same_none : result ≡ None → own ≡ None → GivesColumn type_of shown old result new steps steps_now → GivesColumn own_type own_cells old own new steps steps_now
  same_none is own-is given =
      let G : Option (Result X Error) → Type 0 = λ found. GivesColumn type_of shown old found new steps steps_now in
      let H : Option (Result Y Error) → Type 0 = λ found. GivesColumn own_type own_cells old found new steps steps_now in
      subst H (sym own-is) (by (subst G is given)) where
        by : GivesColumn {X = X} type_of shown old None new steps steps_now → GivesColumn {X = Y} own_type own_cells old None new steps steps_now
        by gives =
            record {
              chunk = gives.chunk;
              typed = tt;
              fits = tt;
              pages = record { lent_pages = gives.pages.lent_pages; split = gives.pages.split; needed = gives.pages.needed; reached = gives.pages.reached; tells = tt; ticked = gives.pages.ticked; counted = gives.pages.counted; data_alone = gives.pages.data_alone };
              end = gives.end;
              ended = λ none ends. refl;
              decoding = gives.decoding;
              size = gives.size;
              data_type = gives.data_type;
              row_count = gives.row_count;
            }
