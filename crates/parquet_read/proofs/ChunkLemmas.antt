-- The rows of all chunks of a group.
use Rattle.std.proofs.Common.{◌≡◌, ◌∙◌, ℕ, zero, suc, List, [], ◌∷◌, ◌++◌, length, map, refl, sym, ap, subst, arith, append_assoc, length-append}
use Rattle.std.specs.Prelude.{slice_get, Option, Some, None, Ok}
use Rattle.std.specs.Option.{option_map_or}
use Rattle.std.proofs.lemmas.List.{append-nil, length-map, map-append, take-append-drop}
use Rattle.std.proofs.lemmas.List.Concat.{flat_map-cons}
use Rattle.std.proofs.lemmas.List.Sums.{sum_by-cons}
use Rattle.columns_core.specs.Array.{cells, data_type_of}
use Rattle.columns_core.specs.Chunk.{array_rows}
use Rattle.columns_core.specs.declared.array.Array.{Array}
use Rattle.columns_core.specs.declared.cell.Cell.{Cell}
use Rattle.page_decoding.specs.Outcome.{Given, Outcome}
use Rattle.page_decoding.specs.Queue.{first_chunk, later_chunks}
use Rattle.flat_values.specs.ColumnLeft.{ColumnLeft, GivesColumn, wanted as rows_left}
use Rattle.parquet_read.specs.AllChunks.{HaveFirstRows, HaveRows, cells_of_column}
use Rattle.parquet_read.specs.Rows.{Answer, AnswerInTurn, MakesChunk, each_given}

-- ---- how many rows there are

pub have_rows : HaveRows
have_rows left [] all = omega (arith, all)
have_rows left (chunk ∷ chunks) all =
    let rest = have_rows all.0 chunks all.4 in
    omega (arith, rest, all.3.3, sum_by-cons array_rows chunk chunks)

-- ---- which rows they are

-- an array of a column has the first of its rows
pub record GivesFront (column : ColumnLeft) (array : Array) (next : ColumnLeft) : Type 0 where
  pub rows : rows_left column ≡ map Given (cells array) ++ rows_left next

front_and_others : (size : Option ℕ) (rows : List Outcome) → first_chunk size rows ++ later_chunks size rows ≡ rows
front_and_others None rows = append-nil rows
front_and_others (Some size) rows = take-append-drop size rows

front : (column : ColumnLeft) (array : Array) (next : ColumnLeft) (steps steps_now : ℕ) → GivesColumn data_type_of cells column (Some (Ok array)) next steps steps_now → GivesFront column array next
front column array next steps steps_now gives =
    let chunk = gives.chunk in
    let all = rows_left column in
    record {
      rows = sym (ap (λ (first : List Outcome). first ++ rows_left next) chunk.cells ∙ ap (λ (others : List Outcome). first_chunk column.size all ++ others) chunk.others ∙ front_and_others column.size all);
    }

-- a column that gives an array
record GivesAt (columns : List ColumnLeft) (arrays : List Array) (columns_now : List ColumnLeft) (k : ℕ) (column : ColumnLeft) : Type 0 where
  array : Array
  next : ColumnLeft
  given : slice_get arrays k ≡ Some array
  now : slice_get columns_now k ≡ Some next
  front : GivesFront column array next

at : (olds : List ColumnLeft) (arrays : List Array) (news : List ColumnLeft) (steps steps_now k : ℕ) (column : ColumnLeft) → AnswerInTurn olds (each_given arrays) news steps steps_now
    → slice_get olds k ≡ Some column → GivesAt olds arrays news k column
at [] arrays news steps steps_now k column turns is = absurd (let bad : None ≡ Some column = is in cc)
at (old ∷ olds) [] news steps steps_now k column turns is = absurd turns
at (old ∷ olds) (array ∷ arrays) [] steps steps_now k column turns is = absurd turns
at (old ∷ olds) (array ∷ arrays) (new ∷ news) steps steps_now zero column turns is =
    let same : old ≡ column = (let own : Some old ≡ Some column = is in cc) in
    record { array = array; next = new; given = refl; now = refl; front = subst (λ (c : ColumnLeft). GivesFront c array new) same (front old array new steps turns.0 turns.1) }
at (old ∷ olds) (array ∷ arrays) (new ∷ news) steps steps_now (suc k) column turns is =
    let behind = at olds arrays news turns.0 steps_now k column turns.2 is in
    record { array = behind.array; next = behind.next; given = behind.given; now = behind.now; front = behind.front }

as_many : (olds : List ColumnLeft) (answers : List Answer) (news : List ColumnLeft) (steps steps_now : ℕ) → AnswerInTurn olds answers news steps steps_now → length answers ≡ length olds
as_many [] [] [] steps steps_now turns = refl
as_many (old ∷ olds) (answer ∷ answers) (new ∷ news) steps steps_now turns = omega (arith, as_many olds answers news turns.0 steps_now turns.2)
as_many [] [] (new ∷ news) steps steps_now turns = absurd turns
as_many [] (answer ∷ answers) news steps steps_now turns = absurd turns
as_many (old ∷ olds) [] news steps steps_now turns = absurd turns
as_many (old ∷ olds) (answer ∷ answers) [] steps steps_now turns = absurd turns

none_long : (columns : List ColumnLeft) → length columns ≡ 0 → columns ≡ []
none_long [] none = refl
none_long (column ∷ columns) none = absurd (omega (arith, none))

in_chunk : (olds : List ColumnLeft) (arrays : List Array) (news : List ColumnLeft) (steps steps_now k : ℕ) (column : ColumnLeft) → MakesChunk olds (Ok arrays) news steps steps_now
    → slice_get olds k ≡ Some column → GivesAt olds arrays news k column
in_chunk olds arrays news steps steps_now k column makes is =
    let asked = makes.asked in
    let turns = subst (λ (answers : List Answer). AnswerInTurn asked.asked answers asked.asked_now steps steps_now) makes.given.0 asked.answered in
    let many = as_many asked.asked (each_given arrays) asked.asked_now steps steps_now turns in
    let none = none_long asked.others (omega (arith, many, length-map arrays (λ (a : Array). let answer : Answer = Some (Ok a) in answer), makes.given.1, ap length asked.old, length-append asked.asked asked.others)) in
    let olds_are : olds ≡ asked.asked = asked.old ∙ ap (λ (l : List ColumnLeft). asked.asked ++ l) none ∙ append-nil asked.asked in
    let news_are : news ≡ asked.asked_now = asked.new ∙ ap (λ (l : List ColumnLeft). asked.asked_now ++ l) none ∙ append-nil asked.asked_now in
    let found = at asked.asked arrays asked.asked_now steps steps_now k column turns (sym (ap (λ (l : List ColumnLeft). slice_get l k) olds_are) ∙ is) in
    record { array = found.array; next = found.next; given = found.given; now = ap (λ (l : List ColumnLeft). slice_get l k) news_are ∙ found.now; front = found.front }

pub have_first_rows : HaveFirstRows
have_first_rows left [] k column all is = (rows_left column, refl)
have_first_rows left (chunk ∷ chunks) k column all is =
    let found = in_chunk left.columns chunk all.0.columns all.1 all.2 k column all.3.1 is in
    let behind = have_first_rows all.0 chunks k found.next all.4 found.now in
    let own = cells found.array in
    let rest = cells_of_column k chunks in
    let joined : cells_of_column k (chunk ∷ chunks) ≡ own ++ rest =
    flat_map-cons (λ (c : List Array). option_map_or cells (slice_get c k) []) chunk chunks ∙ ap (λ (o : Option Array). option_map_or cells o [] ++ rest) found.given in (
      behind.0,
      found.front.rows ∙ ap (λ (l : List Outcome). map Given own ++ l) behind.1 ∙ sym (append_assoc (map Given own) (map Given rest) behind.0)
          ∙ ap (λ (l : List Outcome). l ++ behind.0) (sym (map-append Given own rest)) ∙ ap (λ (l : List Cell). map Given l ++ behind.0) (sym joined),
    )
