-- Decoded byte strings behind which more stand.
use Rattle.std.proofs.Common.{◌≡◌, ℕ, zero, suc, ◌+◌, ◌-◌, ◌≤◌, Bool, true, false, List, [], ◌∷◌, ◌++◌, length, map, take, replicate, Some, None, refl, sym, ap, ◌∙◌, subst, inl, inr, arith}
use Rattle.std.specs.Prelude.{All, IsUtf8, sum_by}
use Rattle.std.proofs.lemmas.Bool.{le-leb, leb-true, lt-leb}
use Rattle.std.proofs.lemmas.List.{length-append, length-replicate, map-append}
use Rattle.std.proofs.lemmas.List.Elements.{All-append, All-cons, All-nil}
use Rattle.std.proofs.lemmas.List.Sums.{sum_by-append, sum_by-cons}
use Rattle.std.proofs.lemmas.Str.{IsUtf8-nil}
use Rattle.columns_core.specs.Column.{cell_of}
use Rattle.columns_core.specs.declared.cell.Cell.{Cell, Null}
use Rattle.columns_core.specs.declared.error.Error.{Error}
use Rattle.parquet_page.specs.Levels.{present_count}
use Rattle.parquet_page.specs.Plan.{along, plan, plan_from}
use Rattle.parquet_page.proofs.SpelledLemmas.{absent_same, present_suc}
use Rattle.page_decoding.specs.Bytes.{IsCausedByChunks, cell_bytes, row_bytes}
use Rattle.page_decoding.specs.Outcome.{Outcome, Given}
use Rattle.page_decoding.proofs.BytesLemmas.{chunks-right}
use Rattle.page_decoding.proofs.FilteredLemmas.{stored-plan}
use Rattle.flat_values.specs.Added.{Adds}
use Rattle.flat_values.specs.Decoded.{IsMaskFor, marked_cells, spread_over, with_nulls, with_places, with_values}
use Rattle.flat_values.specs.FlatLeft.{given_along}
use Rattle.flat_values.proofs.DecodedLemmas.{cells-with_nulls, cells-with_places, given-with_added, mask-added, mask-with_places}
use Rattle.flat_values.proofs.WordLemmas.{cells-along, word-caused}
use Rattle.binary_values.specs.ByteStrings.{AreJudged, IsCausedByBytes, byte_cell}
use Rattle.binary_values.specs.OwnBytes.{AreOwnBytes}
use Rattle.binary_values.proofs.StoredLemmas.{bytes-given, given_strings}

shown_bytes : (cells : List Cell) → sum_by row_bytes (map Given cells) ≡ sum_by cell_bytes cells
shown_bytes [] = refl
shown_bytes (cell ∷ cells) = omega (arith, sum_by-cons row_bytes (Given cell) (map Given cells), sum_by-cons cell_bytes cell cells, shown_bytes cells)

-- the bytes of what is added
added_bytes : (is_text : Bool) (old new : List (List ℕ)) (rows : List Outcome) → Adds (byte_cell is_text) old new rows → sum_by length new ≡ sum_by length old + sum_by row_bytes rows
added_bytes is_text old new rows added =
    omega (arith, bytes-given is_text new, bytes-given is_text old, ap (sum_by row_bytes) added, sum_by-append row_bytes (given_strings is_text old) rows)

-- the bytes of the rows of a word are those of its values
bytes-along : (row : ℕ) (places : List Bool) (values : List Outcome) → sum_by row_bytes (given_along (plan_from None row places) values) ≡ sum_by row_bytes (take (present_count places) values)
bytes-along row [] values = refl
bytes-along row (false ∷ places) values =
    omega (arith, sum_by-cons row_bytes (Given Null) (given_along (plan_from None (row + 1) places) values), bytes-along (row + 1) places values, ap (λ n. sum_by row_bytes (take n values)) (absent_same places))
bytes-along row (true ∷ places) [] = ap (λ n. sum_by row_bytes (take n [])) (sym (present_suc places))
bytes-along row (true ∷ places) (value ∷ values) =
    omega (
      arith,
      sum_by-cons row_bytes value (given_along (plan_from None (row + 1) places) values),
      sum_by-cons row_bytes value (take (present_count places) values),
      bytes-along (row + 1) places values,
      ap (λ n. sum_by row_bytes (take n (value ∷ values))) (present_suc places),
    )

module _ (most : ℕ) (is_text own_text : Bool) (old : List (List ℕ)) (mask : List Bool) (own : AreOwnBytes most is_text own_text old mask) where
  -- what is held fits
  pub own-fits : sum_by length old ≤ most
  own-fits = omega (arith, own.counted, leb-true (sum_by cell_bytes (marked_cells (byte_cell own_text) old mask)) most own.fits)

  pub own-added : (new : List (List ℕ)) (rows : List Outcome) → Adds (byte_cell is_text) old new rows → Adds (byte_cell own_text) old new rows
  own-added new rows added = subst (λ text. Adds (byte_cell text) old new rows) (sym own.same) added

  pub own-cells : (new : List (List ℕ)) (marks : List Bool) (rows : List Outcome) → Adds (byte_cell is_text) old new rows → marks ≡ with_values (length new - length old) mask
      → map Given (marked_cells (byte_cell own_text) new marks) ≡ map Given (marked_cells (byte_cell own_text) old mask) ++ rows
  own-cells new marks rows added marked = given-with_added (byte_cell own_text) old new mask marks rows own.masked (own-added new rows added) marked

  pub own-more : (new : List (List ℕ)) (marks : List Bool) (rows : List Outcome) → Adds (byte_cell is_text) old new rows → marks ≡ with_values (length new - length old) mask → AreJudged is_text new → sum_by length new ≤ most
      → AreOwnBytes most is_text own_text new marks
  own-more new marks rows added marked judged fits =
      let shown = marked_cells (byte_cell own_text) old mask in
      let after = marked_cells (byte_cell own_text) new marks in
      let all = sym (shown_bytes after) ∙ ap (sum_by row_bytes) (own-cells new marks rows added marked) ∙ sum_by-append row_bytes (map Given shown) rows in
      let same : sum_by cell_bytes after ≡ sum_by length new = omega (arith, all, shown_bytes shown, own.counted, added_bytes is_text old new rows added) in
      record {
        same = own.same;
        masked = mask-added (byte_cell own_text) old new mask marks rows own.masked (own-added new rows added) marked;
        judged = judged;
        counted = same;
        fits = le-leb (sum_by cell_bytes after) most (omega (arith, same, fits));
      }

  pub own-caused : (rows : List Outcome) (error : Error) → IsCausedByBytes most old rows error → IsCausedByChunks (Some most) None (map Given (marked_cells (byte_cell own_text) old mask) ++ rows) error
  own-caused rows error (inl told) = chunks-right (Some most) None (map Given (marked_cells (byte_cell own_text) old mask)) rows error told
  own-caused rows error (inr (is, past)) =
      let shown = marked_cells (byte_cell own_text) old mask in
      let all = map Given shown ++ rows in
      inr (is, (0, lt-leb (sum_by row_bytes all) most (omega (arith, past, own.counted, shown_bytes shown, sum_by-append row_bytes (map Given shown) rows))))

  -- ---- nulls

  pub null-cells : (new : List (List ℕ)) (marks : List Bool) (held count : ℕ) → new ≡ old ++ replicate count [] → held ≡ length old → marks ≡ with_nulls held count mask
      → marked_cells (byte_cell own_text) new marks ≡ marked_cells (byte_cell own_text) old mask ++ replicate count Null
  null-cells new marks held count is counted marked =
      ap (λ xs. marked_cells (byte_cell own_text) xs marks) is ∙ ap (marked_cells (byte_cell own_text) (old ++ replicate count [])) (marked ∙ ap (λ n. with_nulls n count mask) counted)
      ∙ cells-with_nulls (byte_cell own_text) old (replicate count []) mask count (length-replicate count []) own.masked

  pub null-own : (new : List (List ℕ)) (marks : List Bool) (held count : ℕ) → new ≡ old ++ replicate count [] → held ≡ length old → marks ≡ with_nulls held count mask → AreOwnBytes most is_text own_text new marks
  null-own new marks held count is counted marked =
      let shown = marked_cells (byte_cell own_text) old mask in
      let after = marked_cells (byte_cell own_text) new marks in
      let cells = ap (sum_by cell_bytes) (null-cells new marks held count is counted marked) ∙ sum_by-append cell_bytes shown (replicate count Null) in
      let strings = ap (sum_by length) is ∙ sum_by-append length old (replicate count []) in
      let same : sum_by cell_bytes after ≡ sum_by length new = omega (arith, cells, strings, own.counted, no_bytes count, empty_bytes count) in
      record {
        same = own.same;
        masked = mask_nulls old new mask marks held count is counted marked own.masked;
        judged = λ text. let P : List (List ℕ) → Type 0 = All IsUtf8 in subst P (sym is) (All-append IsUtf8 old (replicate count []) (own.judged text) (empty_texts count));
        counted = same;
        fits = le-leb (sum_by cell_bytes after) most (omega (arith, same, strings, empty_bytes count, own-fits));
      } where
        no_bytes : (n : ℕ) → sum_by cell_bytes (replicate n Null) ≡ 0
        no_bytes zero = refl
        no_bytes (suc n) = omega (arith, sum_by-cons cell_bytes Null (replicate n Null), no_bytes n)

        empty_bytes : (n : ℕ) → sum_by (length {A = ℕ}) (replicate n []) ≡ 0
        empty_bytes zero = refl
        empty_bytes (suc n) = omega (arith, sum_by-cons (length {A = ℕ}) [] (replicate n []), empty_bytes n)

        empty_texts : (n : ℕ) → All IsUtf8 (replicate n [])
        empty_texts zero = All-nil IsUtf8
        empty_texts (suc n) = All-cons IsUtf8 [] (replicate n []) IsUtf8-nil (empty_texts n)

        mask_nulls : (old new : List (List ℕ)) (mask marks : List Bool) (held count : ℕ) → new ≡ old ++ replicate count [] → held ≡ length old → marks ≡ with_nulls held count mask → IsMaskFor old mask → IsMaskFor new marks
        mask_nulls old new [] marks held zero is counted marked masked = inl marked
        mask_nulls old new (set ∷ mask) marks held zero is counted marked (inl none) = cc
        mask_nulls old new (set ∷ mask) marks held zero is counted marked (inr long) = inr (omega (arith, ap length marked, long, ap length is, length-append old []))
        mask_nulls old new [] marks held (suc count) is counted marked masked =
            inr (omega (arith, ap length marked, length-append (replicate held true) (replicate (suc count) false), length-replicate held true, length-replicate (suc count) false, ap length is, length-append old (replicate (suc count) []), length-replicate {A = List ℕ} (suc count) [], counted))
        mask_nulls old new (set ∷ mask) marks held (suc count) is counted marked (inl none) = cc
        mask_nulls old new (set ∷ mask) marks held (suc count) is counted marked (inr long) =
            inr (omega (arith, ap length marked, length-append (set ∷ mask) (replicate (suc count) false), long, length-replicate (suc count) false, ap length is, length-append old (replicate (suc count) []), length-replicate {A = List ℕ} (suc count) []))

  -- ---- rows of a word

  pub word-cells : (new stored : List (List ℕ)) (marks places : List Bool) (outcomes : List Outcome) (held : ℕ) → held ≡ length old → new ≡ old ++ spread_over [] places stored → marks ≡ with_places held places mask
      → present_count places ≤ length stored → given_strings is_text stored ≡ take (present_count places) outcomes
      → map Given (marked_cells (byte_cell own_text) new marks) ≡ map Given (marked_cells (byte_cell own_text) old mask) ++ given_along (plan None places) outcomes
  word-cells new stored marks places outcomes held counted added marked enough given =
      let cell = byte_cell own_text in
      let shown = marked_cells cell old mask in
      let steps = plan None places in
      let P : Bool → Type 0 = λ text. given_strings text stored ≡ take (present_count places) outcomes in
      let few = stored-plan None 0 places in
      ap (map Given) (cells-with_places cell [] old stored new mask places marks held counted enough own.masked added marked)
      ∙ map-append Given shown (map (cell_of cell) (along steps stored))
      ∙ ap (λ rows. map Given shown ++ rows) (cells-along cell steps stored outcomes (present_count places) (omega (arith, few)) (subst P (sym own.same) given))

  pub word-own : (new stored : List (List ℕ)) (marks places : List Bool) (outcomes : List Outcome) (held : ℕ) → held ≡ length old → new ≡ old ++ spread_over [] places stored → marks ≡ with_places held places mask
      → present_count places ≤ length stored → given_strings is_text stored ≡ take (present_count places) outcomes → sum_by length (spread_over [] places stored) ≡ sum_by length stored → AreJudged is_text new → sum_by length new ≤ most
      → AreOwnBytes most is_text own_text new marks
  word-own new stored marks places outcomes held counted added marked enough given sum judged fits =
      let cell = byte_cell own_text in
      let shown = marked_cells cell old mask in
      let after = marked_cells cell new marks in
      let rows = given_along (plan None places) outcomes in
      let cells = word-cells new stored marks places outcomes held counted added marked enough given in
      let all = sym (shown_bytes after) ∙ ap (sum_by row_bytes) cells ∙ sum_by-append row_bytes (map Given shown) rows in
      let bytes = bytes-along 0 places outcomes ∙ sym (ap (sum_by row_bytes) given) ∙ bytes-given is_text stored in
      let strings = ap (sum_by length) added ∙ sum_by-append length old (spread_over [] places stored) in
      let same : sum_by cell_bytes after ≡ sum_by length new = omega (arith, all, shown_bytes shown, own.counted, bytes, strings, sum) in
      record {
        same = own.same;
        masked = mask-with_places [] old stored new mask places marks held counted own.masked added marked;
        judged = judged;
        counted = same;
        fits = le-leb (sum_by cell_bytes after) most (omega (arith, same, fits));
      }

  pub word-told : (places : List Bool) (outcomes : List Outcome) (error : Error) → IsCausedByBytes most old (take (present_count places) outcomes) error
      → IsCausedByChunks (Some most) None (map Given (marked_cells (byte_cell own_text) old mask) ++ given_along (plan None places) outcomes) error
  word-told places outcomes error (inl told) =
      chunks-right (Some most) None (map Given (marked_cells (byte_cell own_text) old mask)) (given_along (plan None places) outcomes) error (word-caused places outcomes (present_count places) error refl told)
  word-told places outcomes error (inr (is, past)) =
      let shown = marked_cells (byte_cell own_text) old mask in
      let rows = given_along (plan None places) outcomes in
      let all = map Given shown ++ rows in
      inr (is, (0, lt-leb (sum_by row_bytes all) most (omega (arith, past, own.counted, shown_bytes shown, bytes-along 0 places outcomes, sum_by-append row_bytes (map Given shown) rows))))
