-- Columns that are asked in turn for their next arrays.
use Rattle.std.proofs.Common.{◌≡◌, ◌⊎◌, ℕ, ◌+◌, ◌<◌, List, [], ◌∷◌, ◌++◌, length, map, set, get_or, refl, sym, ap, ◌∙◌, subst, inr, arith, append_assoc, length-append}
use Rattle.std.specs.Prelude.{IsTrue, Some, Result, Ok, Err, IfOk, IfErr}
use Rattle.std.specs.Result.{result_or}
use Rattle.std.proofs.Math.Seq.{get_or-append_seam}
use Rattle.std.proofs.lemmas.List.{append-nil, get_or-map, length-map, map-set, map_push, set_at}
use Rattle.columns_core.specs.Causes.{ExternalFormat, cause_of, is_invalid_argument}
use Rattle.columns_core.specs.Array.{cells, data_type_of}
use Rattle.columns_core.specs.Chunk.{AreEqualLengths}
use Rattle.columns_core.specs.declared.array.Array.{Array}
use Rattle.columns_core.specs.declared.error.Error.{Error}
use Rattle.flat_values.specs.ColumnLeft.{ColumnLeft, GivesColumn}
use Rattle.parquet_read.specs.Rows.{AllGive, Answer, AnswerInTurn, AreAsked, IsStopped, IsUneven, each_given}

-- one column more is asked
answer_more : (olds : List ColumnLeft) (answers : List Answer) (news : List ColumnLeft) (old : ColumnLeft) (answer : Answer) (new : ColumnLeft) (steps between steps_now : ℕ)
    → AnswerInTurn olds answers news steps between → GivesColumn data_type_of cells old answer new between steps_now
    → AnswerInTurn (olds ++ old ∷ []) (answers ++ answer ∷ []) (news ++ new ∷ []) steps steps_now
answer_more [] [] [] old answer new steps between steps_now turns gives =
    (steps_now, subst (λ (s : ℕ). GivesColumn data_type_of cells old answer new s steps_now) turns gives, refl)
answer_more (first ∷ olds) (own ∷ answers) (first_now ∷ news) old answer new steps between steps_now turns gives =
    (turns.0, turns.1, answer_more olds answers news old answer new turns.0 between steps_now turns.2 gives)
answer_more [] [] (first_now ∷ news) old answer new steps between steps_now turns gives = absurd turns
answer_more [] (own ∷ answers) news old answer new steps between steps_now turns gives = absurd turns
answer_more (first ∷ olds) [] news old answer new steps between steps_now turns gives = absurd turns
answer_more (first ∷ olds) (own ∷ answers) [] old answer new steps between steps_now turns gives = absurd turns

-- so many columns are asked so far
pub record IsAsking (olds : List ColumnLeft) (answers : List Answer) (news : List ColumnLeft) (count steps steps_now : ℕ) : Type 0 where
  pub asked : AreAsked olds answers news steps steps_now
  pub counted : length asked.asked_now ≡ count

pub asks_none : (olds : List ColumnLeft) (steps : ℕ) → IsAsking olds [] olds 0 steps steps
asks_none olds steps = record {
  asked = record { asked = []; asked_now = []; others = olds; old = refl; new = refl; answered = refl };
  counted = refl;
}

asks_next : (olds : List ColumnLeft) (answers : List Answer) (news asked asked_now others : List ColumnLeft) (old : ColumnLeft) (answer : Answer) (new : ColumnLeft) (count steps between steps_now : ℕ)
    → olds ≡ asked ++ others → news ≡ asked_now ++ others → AnswerInTurn asked answers asked_now steps between → length asked_now ≡ count
    → count < length news → old ≡ get_or news count old → GivesColumn data_type_of cells old answer new between steps_now
    → IsAsking olds (answers ++ answer ∷ []) (set news count new) (count + 1) steps steps_now
asks_next olds answers news asked asked_now [] old answer new count steps between steps_now is_old is_new turns counted below at gives =
    absurd (omega (arith, below, counted, ap length is_new, ap length (append-nil asked_now)))
asks_next olds answers news asked asked_now (next ∷ others) old answer new count steps between steps_now is_old is_new turns counted below at gives =
    let same : old ≡ next = at ∙ ap (λ (l : List ColumnLeft). get_or l count old) is_new
    ∙ ap (λ (n : ℕ). get_or (asked_now ++ next ∷ others) n old) (sym counted) ∙ get_or-append_seam asked_now next others old in
    record {
      asked = record {
        asked = asked ++ next ∷ [];
        asked_now = asked_now ++ new ∷ [];
        others = others;
        old = is_old ∙ sym (append_assoc asked (next ∷ []) others);
        new = ap (λ (l : List ColumnLeft). set l count new) is_new ∙ set_at asked_now next others new count counted ∙ sym (append_assoc asked_now (new ∷ []) others);
        answered = answer_more asked answers asked_now next answer new steps between steps_now turns
            (subst (λ (o : ColumnLeft). GivesColumn data_type_of cells o answer new between steps_now) same gives);
      };
      counted = omega (arith, counted, length-append asked_now (new ∷ []));
    }

module _ {A : Type 0} (left : A → ColumnLeft) (before : List A) where
  -- the next column is asked
  pub asks : (columns : List A) (answers : List Answer) (answer : Answer) (count : ℕ) (item new : A) (steps between steps_now : ℕ)
      → IsAsking (map left before) answers (map left columns) count steps between → count < length columns
      → GivesColumn data_type_of cells (left (get_or columns count item)) answer (left new) between steps_now
      → IsAsking (map left before) (answers ++ answer ∷ []) (map left (set columns count new)) (count + 1) steps steps_now
  asks columns answers answer count item new steps between steps_now asking below gives =
      let so_far = asking.asked in
      let old = left (get_or columns count item) in
      let within : count < length (map left columns) = omega (arith, below, length-map columns left) in
      let at = sym (get_or-map left columns count item old below) in
      subst (λ (l : List ColumnLeft). IsAsking (map left before) (answers ++ answer ∷ []) l (count + 1) steps steps_now) (sym (map-set left columns count new))
      (asks_next (map left before) answers (map left columns) so_far.asked so_far.asked_now so_far.others old answer (left new) count steps between steps_now
      so_far.old so_far.new so_far.answered asking.counted within at gives)

pub given_more : (arrays more : List Array) (array : Array) (answer : Answer) → answer ≡ Some (Ok array) → more ≡ arrays ++ array ∷ [] → each_given arrays ++ answer ∷ [] ≡ each_given more
given_more arrays more array answer given is =
    ap (λ (last : Answer). each_given arrays ++ last ∷ []) given ∙ sym (map_push (λ (a : Array). Some (Ok a)) arrays array) ∙ ap each_given (sym is)

-- what is made of the arrays of all columns
pub record IsMade (count : ℕ) (answers : List Answer) (result : Result (List Array) Error) : Type 0 where
  pub given : IfOk result (AllGive count answers)
  pub even : IfOk result AreEqualLengths
  pub refused : IfErr result (λ error. IsStopped answers error ⊎ IsUneven count answers error)

pub made : (count : ℕ) (answers : List Answer) (arrays : List Array) (tried result : Result (List Array) Error) (error : Error)
    → AllGive count answers arrays → cause_of error ≡ Some ExternalFormat
    → IfOk tried (λ chunk. chunk ≡ arrays) → IfOk tried (λ _. AreEqualLengths arrays) → IfErr tried (λ e. IsTrue (is_invalid_argument e) × (AreEqualLengths arrays → ⊥))
    → result ≡ result_or tried (Err error) → IsMade count answers result
made count answers arrays (Ok chunk) result error given cause same even err is = rw is (record {
  given = subst (AllGive count answers) (sym same) given;
  even = subst AreEqualLengths (sym same) even;
  refused = tt;
})
made count answers arrays (Err e) result error given cause same even err is = rw is (record {
  given = tt;
  even = tt;
  refused = inr (record { arrays = arrays; given = given; uneven = err.1; cause = cause });
})
