-- A reader of the rows of a file, group after group: what is left of the group at hand, and what it answers.
use Rattle.std.specs.Prelude.{◌≡◌, ◌⊎◌, ℕ, suc, ◌+◌, ◌-◌, ◌≤◌, ◌==◌, Bool, true, if◌then◌else◌, List, [], ◌∷◌, sum_by, Option, None, Some, IfNone, IfSome, Result, Ok, Err, OnOk}
use Rattle.std.specs.Iterator.{Count, at_most}
use Rattle.columns_core.specs.declared.array.Array.{Array}
use Rattle.columns_core.specs.declared.error.Error.{Error}
use Rattle.parquet_meta.specs.Keeps.{Keeps}
use Rattle.parquet_meta.specs.Source.{raised}
use Rattle.parquet_meta.specs.declared.metadata.RowGroupMetaData.{RowGroupMetaData}
use Rattle.parquet_meta.specs.declared.source.Source.{Ghosts}
use Rattle.parquet_read.specs.Asked.{PageLists}
use Rattle.parquet_read.specs.GroupReader.{NextGroup, groups_left, lists_left}
use Rattle.parquet_read.specs.Groups.{front_lists, length_of_front, lists_behind, rows_of_group}
use Rattle.parquet_read.specs.RowGroup.{group_left, group_lent}
use Rattle.parquet_read.specs.Rows.{GivesNextRows}
use Rattle.parquet_read.specs.declared.file_reader.FileReader.{FileReader}
use Rattle.parquet_read.specs.declared.row_group.RowGroupDeserializer.{RowGroupDeserializer}

-- ---- the group at hand

-- how many of its rows are wanted
abbrev pub rows_at_hand : Option RowGroupDeserializer → ℕ
rows_at_hand None = 0
rows_at_hand (Some group) = group.wanted

-- how many of its pages were lent
abbrev pub pages_at_hand : Option RowGroupDeserializer → ℕ
pages_at_hand None = 0
pages_at_hand (Some group) = group_lent group

-- There is none, or no row of it is wanted any more.
abbrev pub is_group_over : {S : Type 0} → FileReader S → Bool
is_group_over reader = rows_at_hand reader.group == 0

-- the pages that were lent of all groups
abbrev pub file_lent : {S : Type 0} → FileReader S → ℕ
file_lent reader = raised reader.lent (pages_at_hand reader.group)

-- ---- the next group

-- the group that is opened
abbrev pub opened_group : Option (Result RowGroupDeserializer Error) → Option RowGroupDeserializer
opened_group None = None
opened_group (Some (Ok group)) = Some group
opened_group (Some (Err error)) = None

-- The next group stands in the place of one that is over, whose pages stay counted.
pub record ReplacesGroup {S : Type 0} (g : Ghosts S) (old : FileReader S) (found : Option (Result RowGroupDeserializer Error)) (new : FileReader S) : Type 0 where
  pub over : is_group_over old ≡ true
  pub next : NextGroup g old.groups found new.groups
  pub group : new.group ≡ opened_group found
  pub lent : new.lent ≡ file_lent old

-- A group is opened, its reading failed, or none comes.
abbrev pub OpensNext : {S : Type 0} → Ghosts S → FileReader S → Option (Result (Unit {0}) Error) → FileReader S → Type 0
OpensNext g old None new = ReplacesGroup g old None new
OpensNext g old (Some (Ok done)) new = (group : RowGroupDeserializer) × ReplacesGroup g old (Some (Ok group)) new
OpensNext g old (Some (Err error)) new = ReplacesGroup g old (Some (Err error)) new

-- One group after another is opened, each behind one that is over: the readers before each, the last one first.
abbrev pub OpensInTurn : {S : Type 0} → Ghosts S → List (FileReader S) → FileReader S → FileReader S → Type 0
OpensInTurn g [] old new = new ≡ old
OpensInTurn g (mid ∷ mids) old new = OpensInTurn g mids old mid × OpensNext g mid (Some (Ok tt)) new

-- how many bytes are taken for the next group at most, where the one at hand is over
abbrev pub length_of_next : {S : Type 0} → FileReader S → ℕ
length_of_next reader = if is_group_over reader then length_of_front (groups_left reader.groups) (groups_left reader.groups).groups else 0

-- ---- the next chunk

-- The group at hand gives its next rows, or an error.
pub record GivesRowsAtHand {S : Type 0} (old : FileReader S) (given : Result (List Array) Error) (new : FileReader S) (steps steps_now : ℕ) : Type 0 where
  pub group : RowGroupDeserializer
  pub group_now : RowGroupDeserializer
  pub at_hand : old.group ≡ Some group
  pub gives : GivesNextRows (group_left group) (Some given) (group_left group_now) steps steps_now
  pub left : new ≡ record old { group = Some group_now }

-- A chunk is one of the group at hand. An error is one of it, or where it is over one of the reading of the next. None comes where no group does.
abbrev pub AnswersHere : {S : Type 0} → Ghosts S → FileReader S → Option (Result (List Array) Error) → FileReader S → ℕ → ℕ → Type 0
AnswersHere g old None new steps steps_now = OpensNext g old None new × (steps_now ≡ steps)
AnswersHere g old (Some (Ok chunk)) new steps steps_now = GivesRowsAtHand old (Ok chunk) new steps steps_now
AnswersHere g old (Some (Err error)) new steps steps_now =
    GivesRowsAtHand old (Err error) new steps steps_now ⊎ (OpensNext g old (Some (Err error)) new × (steps_now ≡ steps))

-- Groups are opened while the one at hand is over, and then it answers. What is said of the source and of the pages follows from these.
pub record GivesFileRows {S : Type 0} (g : Ghosts S) (old : FileReader S) (result : Option (Result (List Array) Error)) (new : FileReader S) (steps steps_now : ℕ) : Type 0 where
  pub passed : List (FileReader S)
  pub last : FileReader S
  pub opened : OpensInTurn g passed old last
  pub answers : AnswersHere g last result new steps steps_now
  pub keeps : Keeps g old.groups.source new.groups.source
  pub quiet : IfSome result (λ given. OnOk given (g.faults new.groups.source ≡ g.faults old.groups.source))
  pub quiet_end : IfNone result (g.faults new.groups.source ≡ g.faults old.groups.source)
  pub taken : g.taken new.groups.source ≤ g.taken old.groups.source + sum_by length_of_next (last ∷ passed)
  pub lent : file_lent new ≡ raised (file_lent old) (steps_now - steps)

-- over steps of its own
abbrev pub GivesFileAlone : {S : Type 0} → Ghosts S → FileReader S → Option (Result (List Array) Error) → FileReader S → Type 0
GivesFileAlone g old result new = (steps : ℕ) × GivesFileRows g old result new 0 steps

-- ---- how many chunks

-- Of a group that is to come no more chunks come than it has selected rows, and one error.
abbrev pub most_answers : List RowGroupMetaData → Option (List PageLists) → ℕ
most_answers [] lists = 0
most_answers (group ∷ groups) lists = suc (rows_of_group group (front_lists lists) + most_answers groups (lists_behind lists))

-- no more answers than these come, chunks and errors together
abbrev pub answers_left : {S : Type 0} → FileReader S → ℕ
answers_left reader = rows_at_hand reader.group + most_answers reader.groups.groups.rest.items (lists_left reader.groups.lists)

abbrev pub answers_to_come : {S : Type 0} → FileReader S → Count
answers_to_come reader = at_most (answers_left reader)
