-- Pages that are lent for the chunks of a group.
use Rattle.std.proofs.Common.{◌≡◌, ◌∙◌, ℕ, zero, suc, ◌+◌, ◌-◌, ◌^◌, ◌≤◌, List, [], ◌∷◌, length, ap, arith}
use Rattle.std.specs.Prelude.{min, sum_by, Some, Result}
use Rattle.std.proofs.lemmas.List.Sums.{sum_by-append, sum_by-cons}
use Rattle.columns_core.specs.declared.array.Array.{Array}
use Rattle.columns_core.specs.declared.error.Error.{Error}
use Rattle.parquet_meta.specs.Source.{raised}
use Rattle.page_decoding.specs.Chunks.{lent_more}
use Rattle.flat_values.specs.ColumnLeft.{ColumnLeft}
use Rattle.parquet_read.specs.Rows.{Answer, AnswerInTurn, AreAsked, GivesNextRows, GroupLeft}

-- how many pages were lent for some columns
abbrev pub all_lent : List ColumnLeft → ℕ
all_lent columns = sum_by (λ (left : ColumnLeft). left.lent) columns

within : (lent more : ℕ) → min (lent_more lent more) (2 ^ 64 - 1) ≡ min (lent + more) (2 ^ 64 - 1)
within lent zero = omega arith
within lent (suc more) = omega arith

-- the steps of columns that are asked in turn are the pages that are lent for them
record AreSteps (olds news : List ColumnLeft) (steps steps_now : ℕ) : Type 0 where
  later : steps ≤ steps_now
  lent : min (all_lent news) (2 ^ 64 - 1) ≡ min (all_lent olds + (steps_now - steps)) (2 ^ 64 - 1)

turn_steps : (olds : List ColumnLeft) (answers : List Answer) (news : List ColumnLeft) (steps steps_now : ℕ) → AnswerInTurn olds answers news steps steps_now → AreSteps olds news steps steps_now
turn_steps [] [] [] steps steps_now turns = record { later = omega (arith, turns); lent = omega (arith, turns) }
turn_steps (old ∷ olds) (answer ∷ answers) (new ∷ news) steps steps_now turns =
    let lent = λ (left : ColumnLeft). left.lent in
    let behind = turn_steps olds answers news turns.0 steps_now turns.2 in
    let pages = turns.1.pages in
    let own = ap (λ n. min n (2 ^ 64 - 1)) pages.counted ∙ within old.lent (length pages.lent_pages) in
    record {
      later = omega (arith, pages.ticked, behind.later);
      lent = omega (arith, own, pages.ticked, behind.later, behind.lent, sum_by-cons lent old olds, sum_by-cons lent new news);
    }
turn_steps [] [] (new ∷ news) steps steps_now turns = absurd turns
turn_steps [] (answer ∷ answers) news steps steps_now turns = absurd turns
turn_steps (old ∷ olds) [] news steps steps_now turns = absurd turns
turn_steps (old ∷ olds) (answer ∷ answers) [] steps steps_now turns = absurd turns

asked_steps : (olds : List ColumnLeft) (answers : List Answer) (news : List ColumnLeft) (steps steps_now : ℕ) → AreAsked olds answers news steps steps_now → AreSteps olds news steps steps_now
asked_steps olds answers news steps steps_now are =
    let lent = λ (left : ColumnLeft). left.lent in
    let front = turn_steps are.asked answers are.asked_now steps steps_now are.answered in
    let before = ap all_lent are.old ∙ sum_by-append lent are.asked are.others in
    let after = ap all_lent are.new ∙ sum_by-append lent are.asked_now are.others in
    record { later = front.later; lent = omega (arith, front.lent, before, after) }

-- the pages of a group are raised by the steps of its next chunk
pub chunk_steps : (old : GroupLeft) (given : Result (List Array) Error) (new : GroupLeft) (steps steps_now : ℕ) → GivesNextRows old (Some given) new steps steps_now
    → min (all_lent new.columns) (2 ^ 64 - 1) ≡ raised (min (all_lent old.columns) (2 ^ 64 - 1)) (steps_now - steps)
chunk_steps old given new steps steps_now gives =
    let are = asked_steps old.columns gives.1.answers new.columns steps steps_now gives.1.asked in
    omega (arith, are.lent)
