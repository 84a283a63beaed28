-- What a call for the next array of a column of keys gives.
use Rattle.std.proofs.Common.{◌≡◌, ℕ, ◌<◌, true, List, [], ◌∷◌, ◌++◌, length, take, map, Option, Some, None, refl, sym, ap, ap₂, ◌∙◌, subst, inl, inr, arith, All}
use Rattle.std.specs.Prelude.{Result, Ok, Err, IfNone, unwrap_or}
use Rattle.std.specs.List.{list_all}
use Rattle.std.proofs.lemmas.List.{length-append, length-map}
use Rattle.std.proofs.lemmas.List.Elements.{All-cons, All-nil, All-tail}
use Rattle.columns_core.specs.Causes.{Cause, IsWantOfMemory}
use Rattle.columns_core.specs.declared.cell.Cell.{Cell}
use Rattle.columns_core.specs.declared.data_type.DataType.{DataType}
use Rattle.columns_core.specs.declared.error.Error.{Error}
use Rattle.parquet_page.specs.Content.{Content, DataContent, DictContent, is_data}
use Rattle.page_decoding.specs.Bytes.{IsCausedByChunks}
use Rattle.page_decoding.specs.Chunks.{GivesFirstChunk, ReadsChunks}
use Rattle.page_decoding.specs.Column.{rows}
use Rattle.page_decoding.specs.Outcome.{Outcome, Given, cells_in}
use Rattle.page_decoding.specs.Standing.{NoneComes, Standing, after_pages, causes_behind, still_wanted}
use Rattle.flat_values.specs.ColumnLeft.{ColumnLeft, GivesColumn}
use Rattle.dictionary_values.specs.DictLeft.{IsKeyed}
use Rattle.dictionary_values.specs.Keys.{NamesEntry, named_cell, named_row, named_standing}
use Rattle.dictionary_values.proofs.NamedLemmas.{afters-named, chunks-named, data-alone, first-named, given-named, keyed-front, keyed-pages, names-data, names-pages, names_of, needed-named, wanted-named}
use Rattle.std.proofs.lemmas.List.{map-append}

pub all-front : {A : Type 0} (P : A → Type 0) (xs ys : List A) → All P (xs ++ ys) → All P xs
all-front P [] ys all = All-nil P
all-front P (x ∷ xs) ys all = All-cons P x xs (all 0 x (omega arith)) (all-front P xs ys (All-tail P x (xs ++ ys) all))

pub all-back : {A : Type 0} (P : A → Type 0) (xs ys : List A) → All P (xs ++ ys) → All P ys
all-back P [] ys all = all
all-back P (x ∷ xs) ys all = all-back P xs ys (All-tail P x (xs ++ ys) all)

pub none-front : (cells : List Cell) (others : List Outcome) → cells_in (map Given cells ++ others) ≡ [] → length cells ≡ 0
none-front [] others none = refl
none-front (cell ∷ cells) others none = cc

no-rows : (f : Outcome → Outcome) (xs : List Outcome) → map f xs ≡ [] → xs ≡ []
no-rows f [] none = refl
no-rows f (x ∷ xs) none = cc

-- a chunk of keys waits in front of others
abbrev pub in_front : {X : Type 0} → (X → List Cell) → X → Standing → Standing
in_front shown keys now = record { waiting = map Given (shown keys) ++ now.waiting; remaining = now.remaining; dictionary = now.dictionary }

module _ {X : Type 0} (shown : X → List Cell) (data_type : DataType) (size : Option ℕ) (entries : DictContent → Result (List Cell) (List Cause)) (outcomes own : Option (List Cell) → DataContent → List Outcome)
    (named_is : (dictionary : Option (List Cell)) (page : DataContent) → map (named_row (unwrap_or dictionary [])) (outcomes dictionary page) ≡ own dictionary page)
    (names : (dictionary : Option (List Cell)) (page : DataContent) → All (NamesEntry (unwrap_or dictionary [])) (outcomes dictionary page))
    (none_given : (page : DataContent) → cells_in (outcomes None page) ≡ []) where
  -- what is left of the column
  abbrev pub cells_left : Standing → List Content → List Cause → ℕ → ℕ → ColumnLeft
  cells_left s pages causes row_count lent = record {
    data_type = data_type;
    decoding = record { entries = entries; outcomes = own; most_bytes = None };
    size = size;
    standing = named_standing s;
    pages = pages;
    causes = causes;
    row_count = row_count;
    lent = lent;
  }

  module _ (before now : Standing) (old new : List Content) (causes causes_now : List Cause) (steps steps_now row_count row_count_now lent lent_now : ℕ) where
    -- a call for the next chunk of keys
    pub record KeysRead (result : Option (Result X Error)) : Type 0 where
      pub chunk : GivesFirstChunk shown None size (still_wanted entries outcomes before old causes) (still_wanted entries outcomes now new causes_now) result
      pub pages : ReadsChunks shown entries outcomes None size result old new causes before now steps steps_now lent lent_now
      pub end : IfNone result (NoneComes now.remaining new causes_now)
      pub ended : still_wanted entries outcomes before old causes ≡ [] → NoneComes before.remaining old causes → result ≡ None
      pub rows : row_count_now ≡ row_count
      pub keyed : IsKeyed before old

    module _ {Y : Type 0} (type_of : Y → DataType) (cells_of : Y → List Cell) where
      abbrev pub GivesCells : Option (Result Y Error) → Standing → Type 0
      GivesCells result now = GivesColumn type_of cells_of (cells_left before old causes row_count lent) result (cells_left now new causes_now row_count_now lent_now) steps steps_now

    module _ (result : Option (Result X Error)) (read : KeysRead result) where
      lent-keyed : IsKeyed before (read.pages.lent_pages ++ new)
      lent-keyed = let P : List Content → Type 0 = IsKeyed before in subst P read.pages.split read.keyed

      reached-keyed : IsKeyed (after_pages entries outcomes before read.pages.lent_pages) new
      reached-keyed = keyed-pages entries outcomes own named_is names none_given before read.pages.lent_pages new lent-keyed

      wanted-is : still_wanted entries own (named_standing before) old causes ≡ map (named_row (names_of entries outcomes own named_is names none_given before old)) (still_wanted entries outcomes before old causes)
      wanted-is = wanted-named entries outcomes own named_is names none_given before old causes read.keyed

      still-none : still_wanted entries own (named_standing before) old causes ≡ [] → NoneComes before.remaining old causes → result ≡ None
      still-none none ends = read.ended (no-rows (named_row (names_of entries outcomes own named_is names none_given before old)) _ (sym wanted-is ∙ none)) ends

      tells-cells : (error : Error) → IsCausedByChunks None size (still_wanted entries outcomes before read.pages.lent_pages (causes_behind new causes)) error
          → IsCausedByChunks None size (still_wanted entries own (named_standing before) read.pages.lent_pages (causes_behind new causes)) error
      tells-cells error told =
          chunks-named (names_of entries outcomes own named_is names none_given before read.pages.lent_pages) size _ _ error
          (wanted-named entries outcomes own named_is names none_given before read.pages.lent_pages (causes_behind new causes) (keyed-front before read.pages.lent_pages new lent-keyed)) told

    -- ---- a chunk

    module _ (keys : X) (read : KeysRead (Some (Ok keys))) where
      front-keyed : IsKeyed (in_front shown keys now) new
      front-keyed = let P : Standing → Type 0 = λ s. IsKeyed s new in subst P read.pages.reached (reached-keyed (Some (Ok keys)) read)

      some-front : 0 < length (map Given (shown keys) ++ now.waiting)
      some-front = let same : length (map Given (shown keys)) ≡ length (shown keys) = simp length-map in omega (arith, read.chunk.some, same, length-append (map Given (shown keys)) now.waiting)

      alone : list_all is_data new ≡ true
      alone = data-alone (in_front shown keys now) new some-front front-keyed

      names-now : names_of entries outcomes own named_is names none_given before old ≡ unwrap_or now.dictionary []
      names-now =
          ap (names_of entries outcomes own named_is names none_given before) read.pages.split
          ∙ sym (names-pages entries outcomes own named_is names none_given before read.pages.lent_pages new (lent-keyed (Some (Ok keys)) read))
          ∙ ap (λ s. names_of entries outcomes own named_is names none_given s new) read.pages.reached
          ∙ names-data entries outcomes own named_is names none_given (in_front shown keys now) new alone

      -- each key of the chunk names an entry
      pub chunk-names : All (NamesEntry (unwrap_or now.dictionary [])) (map Given (shown keys))
      chunk-names = all-front (NamesEntry (unwrap_or now.dictionary [])) (map Given (shown keys)) now.waiting front-keyed.named

      -- a dictionary was lent
      pub chunk-there : now.dictionary ≡ None → ⊥
      chunk-there gone = omega (arith, none-front (shown keys) now.waiting (front-keyed.lent gone), read.chunk.some)

      pub chunk-keyed : IsKeyed now new
      chunk-keyed = record {
        named = all-back (NamesEntry (unwrap_or now.dictionary [])) (map Given (shown keys)) now.waiting front-keyed.named;
        lent = λ gone. absurd (chunk-there gone);
        still = inr alone;
        ordered = front-keyed.ordered;
      }

      wanted-now : still_wanted entries own (named_standing now) new causes_now ≡ map (named_row (unwrap_or now.dictionary [])) (still_wanted entries outcomes now new causes_now)
      wanted-now =
          wanted-named entries outcomes own named_is names none_given now new causes_now chunk-keyed
          ∙ ap (λ found. map (named_row found) (still_wanted entries outcomes now new causes_now)) (names-data entries outcomes own named_is names none_given now new alone)

      module _ {Y : Type 0} (type_of : Y → DataType) (cells_of : Y → List Cell) where
        pub array-given : (array : Y) → cells_of array ≡ map (named_cell (unwrap_or now.dictionary [])) (shown keys) → type_of array ≡ data_type → GivesCells type_of cells_of (Some (Ok array)) now
        array-given array is typed =
            let found = unwrap_or now.dictionary [] in
            let lent_pages = read.pages.lent_pages in
            let own_keyed = lent-keyed (Some (Ok keys)) read in
            let wanted = wanted-is (Some (Ok keys)) read ∙ ap (λ cells. map (named_row cells) (still_wanted entries outcomes before old causes)) names-now in
            let front : map (named_row found) (map Given (shown keys) ++ now.waiting) ≡ map Given (cells_of array) ++ map (named_row found) now.waiting =
            map-append (named_row found) (map Given (shown keys)) now.waiting ∙ ap (λ xs. xs ++ map (named_row found) now.waiting) (sym (given-named found (shown keys)) ∙ ap (map Given) (sym is)) in
            record {
              chunk = first-named shown cells_of found size (still_wanted entries outcomes before old causes) (still_wanted entries outcomes now new causes_now) _ _ keys array is wanted wanted-now read.chunk;
              typed = typed;
              fits = refl;
              pages = record {
                lent_pages = lent_pages;
                split = read.pages.split;
                data_alone = read.pages.data_alone;
                needed = needed-named entries outcomes own named_is names none_given size before lent_pages new own_keyed read.pages.needed;
                reached = afters-named entries outcomes own named_is names none_given before lent_pages new own_keyed ∙ ap named_standing read.pages.reached ∙ (λ i. record { waiting = front i; remaining = now.remaining; dictionary = now.dictionary });
                tells = tt;
                ticked = read.pages.ticked;
                counted = read.pages.counted;
              };
              end = tt;
              ended = λ none ends. let e = still-none (Some (Ok keys)) read none ends in cc;
              decoding = refl;
              size = refl;
              data_type = refl;
              row_count = read.rows;
            }

        -- there is no memory for its array, and no row is wanted any more
        pub array-memory : (error : Error) → IsWantOfMemory error → GivesCells type_of cells_of (Some (Err error)) (record { waiting = []; remaining = 0; dictionary = None })
        array-memory error memory =
            let lent_pages = read.pages.lent_pages in
            record {
              chunk = (inl (inl memory), refl);
              typed = tt;
              fits = tt;
              pages = record {
                lent_pages = lent_pages;
                split = read.pages.split;
                data_alone = read.pages.data_alone;
                needed = needed-named entries outcomes own named_is names none_given size before lent_pages new (lent-keyed (Some (Ok keys)) read) read.pages.needed;
                reached = (refl, refl);
                tells = inl (inl memory);
                ticked = read.pages.ticked;
                counted = read.pages.counted;
              };
              end = tt;
              ended = λ none ends. let e = still-none (Some (Ok keys)) read none ends in cc;
              decoding = refl;
              size = refl;
              data_type = refl;
              row_count = read.rows;
            }

    -- ---- an error

    module _ (error : Error) (read : KeysRead (Some (Err error))) where
      module _ {Y : Type 0} (type_of : Y → DataType) (cells_of : Y → List Cell) where
        pub error-given : GivesCells type_of cells_of (Some (Err error)) now
        error-given =
            let lent_pages = read.pages.lent_pages in
            let f = named_row (unwrap_or now.dictionary []) in
            let waits : map f now.waiting ≡ [] = ap (map f) read.pages.reached.0 in
            let coming = λ (n : ℕ). take n (rows entries own now.dictionary new causes_now) in
            record {
              chunk = (chunks-named (names_of entries outcomes own named_is names none_given before old) size _ _ error (wanted-is (Some (Err error)) read) read.chunk.0, ap₂ (λ front n. front ++ coming n) waits read.pages.reached.1);
              typed = tt;
              fits = tt;
              pages = record {
                lent_pages = lent_pages;
                split = read.pages.split;
                data_alone = read.pages.data_alone;
                needed = needed-named entries outcomes own named_is names none_given size before lent_pages new (lent-keyed (Some (Err error)) read) read.pages.needed;
                reached = (waits, read.pages.reached.1);
                tells = tells-cells (Some (Err error)) read error read.pages.tells;
                ticked = read.pages.ticked;
                counted = read.pages.counted;
              };
              end = tt;
              ended = λ none ends. let e = still-none (Some (Err error)) read none ends in cc;
              decoding = refl;
              size = refl;
              data_type = refl;
              row_count = read.rows;
            }

    -- ---- the end

    module _ (read : KeysRead None) where
      pub end-keyed : IsKeyed now new
      end-keyed = let P : Standing → Type 0 = λ s. IsKeyed s new in subst P read.pages.reached (reached-keyed None read)

      module _ {Y : Type 0} (type_of : Y → DataType) (cells_of : Y → List Cell) where
        pub end-given : GivesCells type_of cells_of None now
        end-given =
            let lent_pages = read.pages.lent_pages in
            let own_keyed = lent-keyed None read in
            record {
              chunk = (
                wanted-is None read ∙ ap (map (named_row (names_of entries outcomes own named_is names none_given before old))) read.chunk.0,
                wanted-named entries outcomes own named_is names none_given now new causes_now end-keyed ∙ ap (map (named_row (names_of entries outcomes own named_is names none_given now new))) read.chunk.1,
              );
              typed = tt;
              fits = tt;
              pages = record {
                lent_pages = lent_pages;
                split = read.pages.split;
                data_alone = read.pages.data_alone;
                needed = needed-named entries outcomes own named_is names none_given size before lent_pages new own_keyed read.pages.needed;
                reached = afters-named entries outcomes own named_is names none_given before lent_pages new own_keyed ∙ ap named_standing read.pages.reached;
                tells = tt;
                ticked = read.pages.ticked;
                counted = read.pages.counted;
              };
              end = read.end;
              ended = λ none ends. refl;
              decoding = refl;
              size = refl;
              data_type = refl;
              row_count = read.rows;
            }
