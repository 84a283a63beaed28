-- Nulls are given as the arrays of a column, whose rows wait.
use Rattle.std.proofs.Common.{◌≡◌, ℕ, zero, suc, ◌+◌, ◌-◌, ◌<◌, ◌≤◌, List, [], ◌∷◌, ◌++◌, length, map, take, replicate, refl, sym, ap, ◌∙◌, subst, inl, arith, append-nil}
use Rattle.std.specs.Prelude.{min, Option, Some, None, Result, Ok}
use Rattle.std.proofs.lemmas.List.{drop-replicate, length-replicate, replicate-append-replicate, take-replicate}
use Rattle.columns_core.specs.Array.{cells, data_type_of}
use Rattle.columns_core.specs.declared.array.Array.{Array}
use Rattle.columns_core.specs.declared.array.Array.TheVariants as array
use Rattle.columns_core.specs.declared.cell.Cell.{Null}
use Rattle.columns_core.specs.declared.error.Error.{Error}
use Rattle.page_decoding.specs.NextChunk.{IsFirstChunk}
use Rattle.page_decoding.specs.Outcome.{Outcome, Given}
use Rattle.page_decoding.specs.Queue.{first_chunk, later_chunks}
use Rattle.flat_values.specs.ColumnLeft.{GivesColumn, wanted}
use Rattle.flat_values.specs.NullChunks.{NullsLeft, TakesFirst, TakesRows, first_nulls, nulls_left}

abbrev nulls : ℕ → List Outcome
nulls rows = replicate rows (Given Null)

given_nulls : (rows : ℕ) → map Given (replicate rows Null) ≡ nulls rows
given_nulls zero = refl
given_nulls (suc rows) = ap (λ others. Given Null ∷ others) (given_nulls rows)

-- no page gives rows behind those that wait
all_wait : (left : NullsLeft) → wanted (nulls_left left) ≡ nulls left.rows
all_wait left = append-nil (nulls left.rows)

first_of : (size : Option ℕ) (rows first : ℕ) → first ≡ first_nulls size rows → nulls first ≡ first_chunk size (nulls rows)
first_of None rows first is = ap nulls is
first_of (Some size) rows first is = by size rows first is where
  by : (size rows first : ℕ) → first ≡ min size rows → nulls first ≡ take size (nulls rows)
  by zero rows first is = let none : first ≡ 0 = omega (arith, is) in ap nulls none ∙ sym (take-replicate 0 rows (Given Null) (omega arith))
  by (suc size) zero first is = let none : first ≡ 0 = omega (arith, is) in ap nulls none
  by (suc size) (suc rows) first is =
      let less : min (suc size) (suc rows) ≡ suc (min size rows) = omega arith in
      ap nulls (is ∙ less) ∙ ap (λ others. Given Null ∷ others) (by size rows (min size rows) refl)

later_of : (size : Option ℕ) (rows first left : ℕ) → first ≡ first_nulls size rows → left ≡ rows - first → nulls left ≡ later_chunks size (nulls rows)
later_of None rows first left is others = let none : left ≡ 0 = omega (arith, is, others) in ap nulls none
later_of (Some size) rows first left is others = let less : left ≡ rows - size = omega (arith, is, others) in ap nulls less ∙ sym (drop-replicate size rows (Given Null))

within : (size : Option ℕ) (rows first : ℕ) → first ≡ first_nulls size rows → first ≤ rows
within None rows first is = omega (arith, is)
within (Some size) rows first is = omega (arith, is)

first_given : (old new : NullsLeft) (rows : ℕ) → TakesFirst old rows new → IsFirstChunk cells old.size (wanted (nulls_left old)) (wanted (nulls_left new)) (array.Null rows)
first_given old new rows is =
    record {
      some = omega (arith, is.some, length-replicate rows Null);
      cells = given_nulls rows ∙ first_of old.size old.rows rows is.first ∙ ap (first_chunk old.size) (sym (all_wait old));
      others = all_wait new ∙ later_of old.size old.rows rows new.rows is.first is.left ∙ ap (later_chunks old.size) (sym (all_wait old));
    }

some_wait : (rows : ℕ) → 0 < rows → nulls rows ≡ [] → ⊥
some_wait rows some none = omega (arith, some, length-replicate rows (Given Null), ap length none)

taken_gives : (old new : NullsLeft) (rows steps : ℕ) → TakesFirst old rows new → GivesColumn data_type_of cells (nulls_left old) (Some (Ok (array.Null rows))) (nulls_left new) steps steps
taken_gives old new rows steps is =
    let enough = within old.size old.rows rows is.first in
    let whole : old.rows ≡ rows + new.rows = omega (arith, enough, is.left) in
    let waiting : nulls old.rows ≡ map Given (replicate rows Null) ++ nulls new.rows = ap nulls whole ∙ sym (replicate-append-replicate rows new.rows (Given Null)) ∙ ap (λ first. first ++ nulls new.rows) (sym (given_nulls rows)) in
    record {
      chunk = first_given old new rows is;
      typed = refl;
      fits = refl;
      pages = record { lent_pages = []; split = refl; data_alone = inl refl; needed = tt; reached = ap (λ wait. record { waiting = wait; remaining = 0; dictionary = None }) waiting; tells = tt; ticked = omega arith; counted = refl };
      end = tt;
      ended = λ none ends. absurd (some_wait old.rows (omega (arith, enough, is.some)) (sym (all_wait old) ∙ none));
      decoding = refl;
      size = is.size;
      data_type = refl;
      row_count = refl;
    }

-- the next array of nulls
pub gives_nulls : (old new : NullsLeft) (rows : ℕ) (steps : ℕ) (result : Option (Result Array Error)) → TakesRows old (Some rows) new → result ≡ Some (Ok (array.Null rows))
    → GivesColumn data_type_of cells (nulls_left old) result (nulls_left new) steps steps
gives_nulls old new rows steps result takes is =
    let G : Option (Result Array Error) → Type 0 = λ found. GivesColumn data_type_of cells (nulls_left old) found (nulls_left new) steps steps in
    subst G (sym is) (taken_gives old new rows steps takes)
