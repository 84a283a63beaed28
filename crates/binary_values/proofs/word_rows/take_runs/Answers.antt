use Rattle.std.proofs.Common.{◌∙◌, ◌++◌, List, map, None, Some, rules, subst}
use Rattle.std.specs.Option.{option_copied}
use Rattle.parquet_page.specs.ValidityParts.{word_places}
use Rattle.page_decoding.specs.Bytes.{IsCausedByChunks}
use Rattle.page_decoding.specs.Outcome.{Given, Outcome}
use Rattle.flat_values.specs.Decoded.{marked_cells}
use Rattle.flat_values.specs.FlatLeft.{word_outcomes}
use Rattle.flat_values.proofs.FlatLemmas.{null-turned, present-turned, run-caused}
use Rattle.binary_values.specs.ByteLeft.{byte_left}
use Rattle.binary_values.specs.ByteStrings.{byte_cell, byte_entries}
use Rattle.binary_values.proofs.word_rows.take_runs.Goals as goal

pub loop-present-preserved-in-Continue-1 : goal.loop-present-preserved-in-Continue-1
loop-present-preserved-in-Continue-1 g c =
    let is_text = c.args.values.now.is_text in
    let left = byte_left is_text (byte_entries is_text (option_copied c.args.dict)) c.args.bytes.now in
    let before = c.loop-present.invariant in
    let shown = marked_cells (byte_cell c.loop-present.decoded.is_text) c.loop-present.decoded.strings c.loop-present.decoded.validity in
    let after = marked_cells (byte_cell c.take.new.decoded.is_text) c.take.new.decoded.strings c.take.new.decoded.validity in
    let more = present-turned c.in-Some.present c.in-Some.rows (word_places c.loop-present.rest) (word_places c.next_run.new.self) (left c.loop-present.place) (left c.take.new.place) shown after
    c.if-present.true c.in-Some.ensures.begins.split before.enough c.in_ok-take.ensures.left c.in_ok-take.ensures.cells in
    record {
      over = c.in_ok-take.ensures.over;
      own = c.in_ok-take.ensures.own;
      enough = more.enough;
      cells = more.cells ∙ before.cells;
      left = more.left ∙ before.left;
    }

pub returns-in_err-take-clause-cause : goal.returns-in_err-take-clause-cause
returns-in_err-take-clause-cause g c =
    let is_text = c.args.values.now.is_text in
    let left = byte_left is_text (byte_entries is_text (option_copied c.args.dict)) c.args.bytes.now in
    let before = c.loop-present.invariant in
    let error = c.in_err-take.field-0.0 in
    let most = Some g.O.Offset.greatest in
    let old = c.args.decoded.now in
    let held = marked_cells (byte_cell old.is_text) old.strings old.validity in
    let shown = marked_cells (byte_cell c.loop-present.decoded.is_text) c.loop-present.decoded.strings c.loop-present.decoded.validity in
    let P : List Outcome → Type 0 = λ rows. IsCausedByChunks most None rows error in
    let cause : P (map Given held ++ word_outcomes c.args.word (left c.args.place.now)) =
    subst P before.cells (run-caused most c.in-Some.present c.in-Some.rows (word_places c.loop-present.rest) (word_places c.next_run.new.self) (left c.loop-present.place) shown error
    c.if-present.true c.in-Some.ensures.begins.split before.enough c.in_err-take.ensures.cause) in
    search rules

pub loop-present-preserved : goal.loop-present-preserved
loop-present-preserved g c =
    let is_text = c.args.values.now.is_text in
    let left = byte_left is_text (byte_entries is_text (option_copied c.args.dict)) c.args.bytes.now in
    let before = c.loop-present.invariant in
    let shown = marked_cells (byte_cell c.loop-present.decoded.is_text) c.loop-present.decoded.strings c.loop-present.decoded.validity in
    let after = marked_cells (byte_cell c.push_nulls.new.decoded.is_text) c.push_nulls.new.decoded.strings c.push_nulls.new.decoded.validity in
    let more = null-turned c.in-Some.present c.in-Some.rows (word_places c.loop-present.rest) (word_places c.next_run.new.self) (left c.loop-present.place) shown after
    c.if-present.false c.in-Some.ensures.begins.split before.enough c.in_ok-push_nulls.ensures.cells in
    record {
      over = before.over;
      own = c.in_ok-push_nulls.ensures.own;
      enough = more.enough;
      cells = more.cells ∙ before.cells;
      left = more.left ∙ before.left;
    }
