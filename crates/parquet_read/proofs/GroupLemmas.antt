-- Calls for the next chunk of a group come to an end.
use Rattle.std.proofs.Common.{ℕ, ◌<◌, List, [], ◌∷◌, length, subst, arith}
use Rattle.std.specs.Prelude.{Option, Some, None, Result, Ok, Err, OnSome}
use Rattle.std.specs.Iterator.{MakesProgress, at_most}
use Rattle.columns_core.specs.Chunk.{array_rows}
use Rattle.columns_core.specs.declared.array.Array.{Array}
use Rattle.columns_core.specs.declared.error.Error.{Error}
use Rattle.flat_values.specs.ColumnLeft.{ColumnLeft}
use Rattle.parquet_read.specs.Rows.{Answer, AnswerInTurn, GivesNextRows, GroupLeft, MakesChunk, each_given}

-- the first of some arrays has rows
first_rows : (olds : List ColumnLeft) (arrays : List Array) (news : List ColumnLeft) (steps steps_now : ℕ)
    → AnswerInTurn olds (each_given arrays) news steps steps_now → 0 < length arrays → 0 < array_rows arrays
first_rows olds [] news steps steps_now turns some = absurd (omega arith)
first_rows [] (array ∷ arrays) news steps steps_now turns some = absurd turns
first_rows (old ∷ olds) (array ∷ arrays) [] steps steps_now turns some = absurd turns
first_rows (old ∷ olds) (array ∷ arrays) (new ∷ news) steps steps_now turns some = turns.1.chunk.some

chunk_rows : (olds : List ColumnLeft) (arrays : List Array) (news : List ColumnLeft) (steps steps_now : ℕ)
    → MakesChunk olds (Ok arrays) news steps steps_now → 0 < array_rows arrays
chunk_rows olds arrays news steps steps_now makes =
    let so_far = makes.asked in
    first_rows so_far.asked arrays so_far.asked_now steps steps_now
    (subst (λ (answers : List Answer). AnswerInTurn so_far.asked answers so_far.asked_now steps steps_now) makes.given.0 so_far.answered) makes.even.0

-- fewer rows are wanted behind a chunk and behind an error
pub nearer : (old : GroupLeft) (result : Option (Result (List Array) Error)) (new : GroupLeft) (steps steps_now : ℕ)
    → GivesNextRows old result new steps steps_now → OnSome result (new.wanted < old.wanted)
nearer old None new steps steps_now gives = tt
nearer old (Some (Ok arrays)) new steps steps_now gives =
    let some = chunk_rows old.columns arrays new.columns steps steps_now gives.1 in
    omega (arith, some, gives.0, gives.3)
nearer old (Some (Err error)) new steps steps_now gives = omega (arith, gives.0, gives.3)

pub goes : {S : Type 0} (left : S → GroupLeft) {can : S → Type 0} → ((s : S) → can s) → (old : S) (result : Option (Result (List Array) Error)) (new : S) (steps steps_now : ℕ)
    → GivesNextRows (left old) result (left new) steps steps_now → MakesProgress can (λ s. at_most (left s).wanted) old result new
goes left can old None new steps steps_now gives = record { on = λ _. tt; keeps = tt; rests = λ finite. finite }
goes left can old (Some given) new steps steps_now gives = record {
  on = λ finite. (can new, finite, nearer (left old) (Some given) (left new) steps steps_now gives);
  keeps = can new;
  rests = λ _. tt;
}
