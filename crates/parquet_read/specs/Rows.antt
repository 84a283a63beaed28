-- The columns of a group, asked for their next arrays, and the chunks that these make.
use Rattle.std.specs.Prelude.{◌≡◌, ◌⊎◌, ℕ, ◌-◌, ◌<◌, min, List, [], ◌∷◌, ◌++◌, length, map, Option, Some, None, Result, Ok, Err, IfOk, IfErr}
use Rattle.columns_core.specs.Causes.{ExternalFormat, IsWantOfMemory, cause_of}
use Rattle.columns_core.specs.Array.{cells, data_type_of}
use Rattle.columns_core.specs.Chunk.{AreEqualLengths, array_rows}
use Rattle.columns_core.specs.declared.array.Array.{Array}
use Rattle.columns_core.specs.declared.error.Error.{Error}
use Rattle.flat_values.specs.ColumnLeft.{ColumnLeft, GivesColumn}

-- ---- the arrays of all columns

-- what a column answers that is asked for its next array
abbrev pub Answer : Type 0
Answer = Option (Result Array Error)

-- Each of these columns is asked in turn, and answers so. The steps of one come behind those of the columns in front of it.
abbrev pub AnswerInTurn : List ColumnLeft → List Answer → List ColumnLeft → ℕ → ℕ → Type 0
AnswerInTurn [] [] [] steps steps_now = steps_now ≡ steps
AnswerInTurn (old ∷ olds) (answer ∷ answers) (new ∷ news) steps steps_now =
    (between : ℕ) × GivesColumn data_type_of cells old answer new steps between × AnswerInTurn olds answers news between steps_now
AnswerInTurn _ _ _ _ _ = ⊥

-- The columns in front are asked in turn, and answer so. The others stay as they were.
pub record AreAsked (olds : List ColumnLeft) (answers : List Answer) (news : List ColumnLeft) (steps steps_now : ℕ) : Type 0 where
  pub asked : List ColumnLeft
  pub asked_now : List ColumnLeft
  pub others : List ColumnLeft
  pub old : olds ≡ asked ++ others
  pub new : news ≡ asked_now ++ others
  pub answered : AnswerInTurn asked answers asked_now steps steps_now

-- an array of each
abbrev pub each_given : List Array → List Answer
each_given arrays = map (λ array. Some (Ok array)) arrays

-- an array of each of so many columns
abbrev pub AllGive : ℕ → List Answer → List Array → Type 0
AllGive count answers arrays = (answers ≡ each_given arrays) × (length arrays ≡ count)

-- A column answers an error, which is passed on, or it has ended too early.
abbrev pub IsStoppedBy : Answer → Error → Type 0
IsStoppedBy None error = cause_of error ≡ Some ExternalFormat
IsStoppedBy (Some (Ok array)) error = ⊥
IsStoppedBy (Some (Err own)) error = error ≡ own

-- The columns in front give arrays, and then memory is wanting, or the next column gives none.
pub data IsStopped (answers : List Answer) (error : Error) : Type 0 where
  Wants : (arrays : List Array) → answers ≡ each_given arrays → IsWantOfMemory error → IsStopped answers error
  Stops : (arrays : List Array) (last : Answer) → answers ≡ each_given arrays ++ last ∷ [] → IsStoppedBy last error → IsStopped answers error

-- the answer of one column
pub record GivesOne (old : ColumnLeft) (result : Result Array Error) (new : ColumnLeft) (steps steps_now : ℕ) : Type 0 where
  pub answer : Answer
  pub asked : GivesColumn data_type_of cells old answer new steps steps_now
  pub given : IfOk result (λ array. answer ≡ Some (Ok array))
  pub stopped : IfErr result (IsStoppedBy answer)

-- the arrays of all columns, or an error
pub record GivesAll {X : Type 0} (arrays : X → List Array) (olds : List ColumnLeft) (result : Result X Error) (news : List ColumnLeft) (steps steps_now : ℕ) : Type 0 where
  pub answers : List Answer
  pub asked : AreAsked olds answers news steps steps_now
  pub given : IfOk result (λ found. AllGive (length olds) answers (arrays found))
  pub stopped : IfErr result (IsStopped answers)

-- ---- chunks

-- the columns' arrays are not equally long
pub record IsUneven (count : ℕ) (answers : List Answer) (error : Error) : Type 0 where
  pub arrays : List Array
  pub given : AllGive count answers arrays
  pub uneven : AreEqualLengths arrays → ⊥
  pub cause : cause_of error ≡ Some ExternalFormat

-- The arrays of all columns, equally long, or an error.
pub record MakesChunk (olds : List ColumnLeft) (result : Result (List Array) Error) (news : List ColumnLeft) (steps steps_now : ℕ) : Type 0 where
  pub answers : List Answer
  pub asked : AreAsked olds answers news steps steps_now
  pub given : IfOk result (AllGive (length olds) answers)
  pub even : IfOk result AreEqualLengths
  pub refused : IfErr result (λ error. IsStopped answers error ⊎ IsUneven (length olds) answers error)

-- ---- rows

-- what is left of the columns, how many rows the group has, and how many are still wanted
pub record GroupLeft : Type 0 where
  pub columns : List ColumnLeft
  pub num_rows : ℕ
  pub wanted : ℕ

-- so many rows, and no more than the limit
abbrev pub limited : Option ℕ → ℕ → ℕ
limited None rows = rows
limited (Some limit) rows = min limit rows

-- The rows of a chunk are wanted no more. After an error none are.
abbrev pub wanted_behind : ℕ → Result (List Array) Error → ℕ
wanted_behind wanted (Ok arrays) = wanted - array_rows arrays
wanted_behind wanted (Err error) = 0

-- The next chunk, while rows are wanted.
abbrev pub GivesNextRows : GroupLeft → Option (Result (List Array) Error) → GroupLeft → ℕ → ℕ → Type 0
GivesNextRows old None new steps steps_now = (old.wanted ≡ 0) × (new ≡ old) × (steps_now ≡ steps)
GivesNextRows old (Some result) new steps steps_now =
    (0 < old.wanted) × MakesChunk old.columns result new.columns steps steps_now
    × (new.num_rows ≡ old.num_rows) × (new.wanted ≡ wanted_behind old.wanted result)
