-- Groups of a file that are opened one after another, and their chunks.
use Rattle.std.proofs.Common.{◌≡◌, ◌∙◌, ℕ, ◌+◌, ◌-◌, ◌<◌, ◌≤◌, Bool, true, false, List, [], ◌∷◌, refl, sym, ap, subst, inl, inr, arith}
use Rattle.std.specs.Prelude.{sum_by, if◌then◌else◌, ◌==◌, Option, Some, None, IfNone, IfSome, Result, Ok, Err, OnOk}
use Rattle.std.specs.Iterator.{MakesProgress}
use Rattle.std.proofs.lemmas.List.Sums.{sum_by-cons}
use Rattle.columns_core.specs.declared.array.Array.{Array}
use Rattle.columns_core.specs.declared.data_type.Field.{Field}
use Rattle.columns_core.specs.declared.error.Error.{Error}
use Rattle.parquet_meta.specs.Keeps.{Keeps}
use Rattle.parquet_meta.specs.Source.{raised}
use Rattle.parquet_meta.specs.declared.metadata.RowGroupMetaData.{RowGroupMetaData}
use Rattle.parquet_meta.specs.declared.source.Source.{Ghosts}
use Rattle.parquet_read.specs.Asked.{GroupReading, PageLists}
use Rattle.parquet_read.specs.FileReader.{AnswersHere, GivesFileRows, GivesRowsAtHand, OpensInTurn, ReplacesGroup, answers_left, answers_to_come, file_lent, is_group_over, length_of_next, most_answers, opened_group, pages_at_hand, rows_at_hand}
use Rattle.parquet_read.specs.GroupReader.{groups_left}
use Rattle.parquet_read.specs.Groups.{GroupsLeft, OpensGroup, front_lists, front_reading, length_of_front, rows_of_group}
use Rattle.parquet_read.specs.RowGroup.{group_left, group_lent}
use Rattle.parquet_read.specs.Rows.{GivesNextRows, limited}
use Rattle.parquet_read.specs.declared.file_reader.FileReader.{FileReader}
use Rattle.parquet_read.specs.declared.row_group.RowGroupDeserializer.{RowGroupDeserializer}
use Rattle.parquet_read.proofs.GroupLemmas.{nearer}
use Rattle.parquet_read.proofs.LentLemmas.{all_lent, chunk_steps}

-- ---- one group after another

chosen : (b : Bool) (x y : ℕ) → b ≡ true → (if b then x else y) ≡ x
chosen true x y is = refl
chosen false x y is = cc

limited_within : (limit : Option ℕ) (rows : ℕ) → limited limit rows ≤ rows
limited_within None rows = omega arith
limited_within (Some limit) rows = omega arith

module _ {S : Type 0} (g : Ghosts S) where
  keeps_on : {a b c : S} → Keeps g a b → Keeps g b c → Keeps g a c
  keeps_on first second = record { same = second.same ∙ first.same; kept = second.kept ∙ first.kept; later = omega (arith, first.later, second.later) }

  keeps_same : (a b : S) → b ≡ a → Keeps g a b
  keeps_same a b is = subst (λ (s : S). Keeps g a s) (sym is) (record { same = refl; kept = refl; later = omega arith })

  opened_keeps : (passed : List (FileReader S)) (old last : FileReader S) → OpensInTurn g passed old last → Keeps g old.groups.source last.groups.source
  opened_keeps [] old last is = keeps_same old.groups.source last.groups.source (ap (λ (r : FileReader S). r.groups.source) is)
  opened_keeps (mid ∷ mids) old last opens = keeps_on (opened_keeps mids old mid opens.0) opens.1.1.next.keeps

  opened_quiet : (passed : List (FileReader S)) (old last : FileReader S) → OpensInTurn g passed old last → g.faults last.groups.source ≡ g.faults old.groups.source
  opened_quiet [] old last is = ap (λ (r : FileReader S). g.faults r.groups.source) is
  opened_quiet (mid ∷ mids) old last opens = opens.1.1.next.quiet ∙ opened_quiet mids old mid opens.0

  -- what is taken for a group that is tried
  replaced_taken : (old : FileReader S) (found : Option (Result RowGroupDeserializer Error)) (new : FileReader S) → ReplacesGroup g old found new → g.taken new.groups.source ≤ g.taken old.groups.source + length_of_next old
  replaced_taken old found new opens =
      omega (arith, opens.next.taken, chosen (is_group_over old) (length_of_front (groups_left old.groups) (groups_left old.groups).groups) 0 opens.over)

  opened_taken : (passed : List (FileReader S)) (old last : FileReader S) → OpensInTurn g passed old last → g.taken last.groups.source ≤ g.taken old.groups.source + sum_by length_of_next passed
  opened_taken [] old last is = omega (arith, ap (λ (r : FileReader S). g.taken r.groups.source) is)
  opened_taken (mid ∷ mids) old last opens =
      omega (arith, opened_taken mids old mid opens.0, replaced_taken mid (Some (Ok opens.1.0)) last opens.1.1, sum_by-cons length_of_next mid mids)

  -- no page is lent where a group is replaced
  replaced_lent : (old : FileReader S) (found : Option (Result RowGroupDeserializer Error)) (new : FileReader S) → ReplacesGroup g old found new → pages_at_hand (opened_group found) ≡ 0 → file_lent new ≡ file_lent old
  replaced_lent old found new opens none =
      let here : pages_at_hand new.group ≡ 0 = ap pages_at_hand opens.group ∙ none in
      ap (λ (n : ℕ). raised new.lent n) here ∙ ap (λ (n : ℕ). raised n 0) opens.lent ∙ omega arith

  -- of a group that is opened no page was lent
  fresh_next : (old : FileReader S) (group : RowGroupDeserializer) (new : FileReader S) → ReplacesGroup g old (Some (Ok group)) new → group_lent group ≡ 0
  fresh_next old group new opens =
      let none : all_lent (group_left group).columns ≡ 0 = opens.next.gives.opens.fresh in
      omega (arith, none)

  opened_lent : (passed : List (FileReader S)) (old last : FileReader S) → OpensInTurn g passed old last → file_lent last ≡ file_lent old
  opened_lent [] old last is = ap file_lent is
  opened_lent (mid ∷ mids) old last opens = replaced_lent mid (Some (Ok opens.1.0)) last opens.1.1 (fresh_next mid opens.1.0 last opens.1.1) ∙ opened_lent mids old mid opens.0

  -- ---- an answer behind them

  -- a call that changes so much of the last reader
  record IsLastCall (last : FileReader S) (result : Option (Result (List Array) Error)) (new : FileReader S) (steps steps_now : ℕ) : Type 0 where
    keeps : Keeps g last.groups.source new.groups.source
    quiet : IfSome result (λ given. OnOk given (g.faults new.groups.source ≡ g.faults last.groups.source))
    quiet_end : IfNone result (g.faults new.groups.source ≡ g.faults last.groups.source)
    taken : g.taken new.groups.source ≤ g.taken last.groups.source + length_of_next last
    lent : file_lent new ≡ raised (file_lent last) (steps_now - steps)

  behind_opened : (passed : List (FileReader S)) (old last : FileReader S) (result : Option (Result (List Array) Error)) (new : FileReader S) (steps steps_now : ℕ)
      → OpensInTurn g passed old last → AnswersHere g last result new steps steps_now → IsLastCall last result new steps steps_now → GivesFileRows g old result new steps steps_now
  behind_opened passed old last result new steps steps_now opens answers call = record {
    passed = passed;
    last = last;
    opened = opens;
    answers = answers;
    keeps = keeps_on (opened_keeps passed old last opens) call.keeps;
    quiet = subst (λ (n : ℕ). IfSome result (λ given. OnOk given (g.faults new.groups.source ≡ n))) (opened_quiet passed old last opens) call.quiet;
    quiet_end = subst (λ (n : ℕ). IfNone result (g.faults new.groups.source ≡ n)) (opened_quiet passed old last opens) call.quiet_end;
    taken = omega (arith, call.taken, opened_taken passed old last opens, sum_by-cons length_of_next last passed);
    lent = call.lent ∙ ap (λ (n : ℕ). raised n (steps_now - steps)) (opened_lent passed old last opens);
  }

  -- no group is opened
  replaced_call : (last : FileReader S) (found : Option (Result RowGroupDeserializer Error)) (result : Option (Result (List Array) Error)) (new : FileReader S) (steps steps_now : ℕ)
      → ReplacesGroup g last found new → steps_now ≡ steps → pages_at_hand (opened_group found) ≡ 0 → IfSome result (λ given. OnOk given (g.faults new.groups.source ≡ g.faults last.groups.source)) → IfNone result (g.faults new.groups.source ≡ g.faults last.groups.source)
      → IsLastCall last result new steps steps_now
  replaced_call last found result new steps steps_now opens still none quiet quiet_end = record {
    keeps = opens.next.keeps;
    quiet = quiet;
    quiet_end = quiet_end;
    taken = replaced_taken last found new opens;
    lent = omega (arith, replaced_lent last found new opens none, still);
  }

  -- the group at hand answers
  at_hand_call : (last : FileReader S) (given : Result (List Array) Error) (new : FileReader S) (steps steps_now : ℕ) → GivesRowsAtHand last given new steps steps_now → IsLastCall last (Some given) new steps steps_now
  at_hand_call last given new steps steps_now gives =
      let source : new.groups.source ≡ last.groups.source = ap (λ (r : FileReader S). r.groups.source) gives.left in
      let pages = chunk_steps (group_left gives.group) given (group_left gives.group_now) steps steps_now gives.gives in
      let before : pages_at_hand last.group ≡ group_lent gives.group = ap pages_at_hand gives.at_hand in
      let after : file_lent new ≡ raised last.lent (group_lent gives.group_now) = ap file_lent gives.left in
      record {
        keeps = keeps_same last.groups.source new.groups.source source;
        quiet = all given (ap g.faults source);
        quiet_end = tt;
        taken = omega (arith, ap g.taken source);
        lent = omega (arith, pages, before, after);
      } where
        all : (own : Result (List Array) Error) → g.faults new.groups.source ≡ g.faults last.groups.source → OnOk own (g.faults new.groups.source ≡ g.faults last.groups.source)
        all (Ok chunk) same = same
        all (Err error) same = tt

  -- a group of which a row is wanted answers
  pub answers_at_hand : (old : FileReader S) (group : RowGroupDeserializer) (result : Option (Result (List Array) Error)) (group_now : RowGroupDeserializer) (steps steps_now : ℕ)
      → old.group ≡ Some group → is_group_over old ≡ false → GivesNextRows (group_left group) result (group_left group_now) steps steps_now → AnswersHere g old result (record old { group = Some group_now }) steps steps_now
  answers_at_hand old group None group_now steps steps_now at_hand wants gives =
      let over : is_group_over old ≡ true = ap (λ (own : Option RowGroupDeserializer). rows_at_hand own == 0) at_hand ∙ ap (λ (n : ℕ). n == 0) gives.0 in
      absurd (let bad : true ≡ false = sym over ∙ wants in cc)
  answers_at_hand old group (Some (Ok chunk)) group_now steps steps_now at_hand wants gives =
      record { group = group; group_now = group_now; at_hand = at_hand; gives = gives; left = refl }
  answers_at_hand old group (Some (Err error)) group_now steps steps_now at_hand wants gives =
      inl (record { group = group; group_now = group_now; at_hand = at_hand; gives = gives; left = refl })

  pub gives_rows : (passed : List (FileReader S)) (old last : FileReader S) (result : Option (Result (List Array) Error)) (new : FileReader S) (steps steps_now : ℕ)
      → OpensInTurn g passed old last → AnswersHere g last result new steps steps_now → GivesFileRows g old result new steps steps_now
  gives_rows passed old last None new steps steps_now opens answers =
      behind_opened passed old last None new steps steps_now opens answers (replaced_call last None None new steps steps_now answers.0 answers.1 refl tt (ap g.faults answers.0.next.untouched))
  gives_rows passed old last (Some (Ok chunk)) new steps steps_now opens answers =
      behind_opened passed old last (Some (Ok chunk)) new steps steps_now opens answers (at_hand_call last (Ok chunk) new steps steps_now answers)
  gives_rows passed old last (Some (Err error)) new steps steps_now opens (inl gives) =
      behind_opened passed old last (Some (Err error)) new steps steps_now opens (inl gives) (at_hand_call last (Err error) new steps steps_now gives)
  gives_rows passed old last (Some (Err error)) new steps steps_now opens (inr fails) =
      behind_opened passed old last (Some (Err error)) new steps steps_now opens (inr fails)
      (replaced_call last (Some (Err error)) (Some (Err error)) new steps steps_now fails.0 fails.1 refl tt tt)

  -- ---- the calls come to an end

  -- a group has no more rows that are wanted than are selected
  rows_within : (told : Option (List ℕ)) (before now : ℕ) (reading : GroupReading) (fields : List Field) (lists : Option PageLists) (found : Result RowGroupDeserializer Error)
      → OpensGroup group_left told before now reading fields lists found → rows_at_hand (opened_group (Some found)) ≤ rows_of_group reading.group lists
  rows_within told before now reading fields lists (Ok group) opens = omega (arith, opens.wanted, limited_within reading.limit (rows_of_group reading.group lists))
  rows_within told before now reading fields lists (Err error) opens = omega arith

  pub replaced_nearer : (old : FileReader S) (found : Result RowGroupDeserializer Error) (new : FileReader S) → ReplacesGroup g old (Some found) new → answers_left new < answers_left old
  replaced_nearer old found new opens =
      let gives = opens.next.gives in
      let left = groups_left old.groups in
      let lists = left.lists in
      let group = rows_within (g.told old.groups.source) (g.faults old.groups.source) (g.faults new.groups.source) (front_reading left gives.group) left.fields (front_lists lists) found gives.opens in
      let at_hand = ap rows_at_hand opens.group in
      let before = ap (λ (groups : List RowGroupMetaData). most_answers groups lists) gives.groups in
      let after = ap (λ (next : GroupsLeft). most_answers next.groups next.lists) gives.left in
      omega (arith, group, at_hand, before, after)

  opened_nearer : (passed : List (FileReader S)) (old last : FileReader S) → OpensInTurn g passed old last → answers_left last ≤ answers_left old
  opened_nearer [] old last is = omega (arith, ap answers_left is)
  opened_nearer (mid ∷ mids) old last opens = omega (arith, opened_nearer mids old mid opens.0, replaced_nearer mid (Ok opens.1.0) last opens.1.1)

  at_hand_nearer : (last : FileReader S) (given : Result (List Array) Error) (new : FileReader S) (steps steps_now : ℕ) → GivesRowsAtHand last given new steps steps_now → answers_left new < answers_left last
  at_hand_nearer last given new steps steps_now gives =
      let fewer = nearer (group_left gives.group) (Some given) (group_left gives.group_now) steps steps_now gives.gives in
      omega (arith, fewer, ap rows_at_hand gives.at_hand, ap answers_left gives.left)

  answer_nearer : (last : FileReader S) (given : Result (List Array) Error) (new : FileReader S) (steps steps_now : ℕ) → AnswersHere g last (Some given) new steps steps_now → answers_left new < answers_left last
  answer_nearer last (Ok chunk) new steps steps_now gives = at_hand_nearer last (Ok chunk) new steps steps_now gives
  answer_nearer last (Err error) new steps steps_now (inl gives) = at_hand_nearer last (Err error) new steps steps_now gives
  answer_nearer last (Err error) new steps steps_now (inr fails) = replaced_nearer last (Err error) new fails.0

  pub file_goes : {can : FileReader S → Type 0} → ((s : FileReader S) → can s) → (old : FileReader S) (result : Option (Result (List Array) Error)) (new : FileReader S) (steps steps_now : ℕ)
      → GivesFileRows g old result new steps steps_now → MakesProgress can answers_to_come old result new
  file_goes can old None new steps steps_now gives = record { on = λ _. tt; keeps = tt; rests = λ finite. finite }
  file_goes can old (Some given) new steps steps_now gives = record {
    on = λ finite. (can new, finite, omega (arith, opened_nearer gives.passed old gives.last gives.opened, answer_nearer gives.last given new steps steps_now gives.answers));
    keeps = can new;
    rests = λ _. tt;
  }
