-- A reader of row groups: what is left for it to read, and what it answers.
use Rattle.std.specs.Prelude.{◌≡◌, ℕ, ◌+◌, ◌-◌, ◌≤◌, false, Option, Ok, Err, IfNone, IfSome, OnOk, List, Vec, Result, length, map, option_map}
use Rattle.std.specs.Iterator.{Count, at_most}
use Rattle.std.specs.declared.alloc.Global.{Global}
use Rattle.std.specs.declared.vec.IntoIter.{IntoIter}
use Rattle.columns_core.specs.declared.error.Error.{Error}
use Rattle.parquet_meta.specs.Keeps.{Keeps}
use Rattle.parquet_meta.specs.declared.source.Source.{Ghosts}
use Rattle.parquet_read.specs.Asked.{HeldLists, PageLists, held_lists}
use Rattle.parquet_read.specs.Groups.{GivesGroup, GroupsLeft, is_front_readable, length_of_front}
use Rattle.parquet_read.specs.RowGroup.{group_left}
use Rattle.parquet_read.specs.declared.group_reader.RowGroupReader.{RowGroupReader}
use Rattle.parquet_read.specs.declared.row_group.RowGroupDeserializer.{RowGroupDeserializer}

abbrev pub lists_left : Option (IntoIter HeldLists Global) → Option (List PageLists)
lists_left lists = option_map (λ (all : IntoIter HeldLists Global). map held_lists all.rest.items) lists

abbrev pub groups_left : {S : Type 0} → RowGroupReader S → GroupsLeft
groups_left reader = record { fields = reader.schema.fields; size = reader.chunk_size; wanted = reader.wanted; groups = reader.groups.rest.items; lists = lists_left reader.lists }

-- the limit that is left behind a group: one whose reading failed counts nothing
abbrev pub limit_behind : Option ℕ → Result RowGroupDeserializer Error → Option ℕ
limit_behind wanted (Ok group) = option_map (λ limit. limit - (group_left group).num_rows) wanted
limit_behind wanted (Err e) = wanted

-- The next group. Where none comes nothing changes. Where it is not readable the source stays as it was.
pub record NextGroup {S : Type 0} (g : Ghosts S) (old : RowGroupReader S) (result : Option (Result RowGroupDeserializer Error)) (new : RowGroupReader S) : Type 0 where
  pub keeps : Keeps g old.source new.source
  pub quiet : IfSome result (λ found. OnOk found (g.faults new.source ≡ g.faults old.source))
  pub gives : GivesGroup group_left (g.told old.source) (g.faults old.source) (g.faults new.source) (groups_left old) result (groups_left new)
  pub taken : g.taken new.source ≤ g.taken old.source + length_of_front (groups_left old) (groups_left old).groups
  pub untouched : IfNone result (new.source ≡ old.source)
  pub unread : is_front_readable (groups_left old) (groups_left old).groups ≡ false → new.source ≡ old.source

-- no more groups than these come
abbrev pub groups_to_come : {S : Type 0} → RowGroupReader S → Count
groups_to_come reader = at_most (length reader.groups.rest.items)

-- the lists of all groups as they are handed over
abbrev pub all_lists : Option (Vec HeldLists Global) → Option (List PageLists)
all_lists lists = option_map (λ (all : Vec HeldLists Global). map held_lists all.items) lists
