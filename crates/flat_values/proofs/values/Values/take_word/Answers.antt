use Rattle.std.proofs.Common.{◌∙◌, ◌++◌, List, map, None, rules, subst}
use Rattle.std.specs.Option.{option_copied}
use Rattle.parquet_page.specs.ValidityParts.{word_places}
use Rattle.page_decoding.specs.Bytes.{IsCausedByChunks}
use Rattle.page_decoding.specs.Outcome.{Given, Outcome}
use Rattle.flat_values.specs.FlatLeft.{word_outcomes}
use Rattle.flat_values.proofs.FlatLemmas.{null-turned, present-turned, run-caused}
use Rattle.flat_values.proofs.values.Values.take_word.Goals as goal

pub loop-present-preserved-in-Continue-1 : goal.loop-present-preserved-in-Continue-1
loop-present-preserved-in-Continue-1 g c =
    let left = g.Self.Values.left c.args.self.now (option_copied c.args.dict) c.args.bytes.now in
    let shown = g.Self.Decoded.DecodedState.shown in
    let before = c.loop-present.invariant in
    let more = present-turned c.in-Some.present c.in-Some.rows (word_places c.loop-present.rest) (word_places c.next_run.new.self) (left c.loop-present.place) (left c.take.new.place) (shown c.loop-present.decoded) (shown c.take.new.decoded)
    c.if-present.true c.in-Some.ensures.begins.split before.enough c.in_ok-take.ensures.left c.in_ok-take.ensures.cells in
    record {
      over = c.in_ok-take.ensures.over;
      own = c.in_ok-take.ensures.own;
      enough = more.enough;
      cells = more.cells ∙ before.cells;
      left = more.left ∙ before.left;
    }

pub returns-in_err-take-clause-cause : goal.returns-in_err-take-clause-cause
returns-in_err-take-clause-cause g c =
    let left = g.Self.Values.left c.args.self.now (option_copied c.args.dict) c.args.bytes.now in
    let before = c.loop-present.invariant in
    let error = c.in_err-take.field-0.0 in
    let most = g.Self.Values.most_bytes c.args.self.now in
    let shown = g.Self.Decoded.DecodedState.shown in
    let P : List Outcome → Type 0 = λ rows. IsCausedByChunks most None rows error in
    let cause : P (map Given (shown c.args.decoded.now) ++ word_outcomes c.args.word (left c.args.place.now)) =
    subst P before.cells (run-caused most c.in-Some.present c.in-Some.rows (word_places c.loop-present.rest) (word_places c.next_run.new.self) (left c.loop-present.place) (shown c.loop-present.decoded) error
    c.if-present.true c.in-Some.ensures.begins.split before.enough c.in_err-take.ensures.cause) in
    search rules

pub loop-present-preserved : goal.loop-present-preserved
loop-present-preserved g c =
    let left = g.Self.Values.left c.args.self.now (option_copied c.args.dict) c.args.bytes.now in
    let shown = g.Self.Decoded.DecodedState.shown in
    let before = c.loop-present.invariant in
    let more = null-turned c.in-Some.present c.in-Some.rows (word_places c.loop-present.rest) (word_places c.next_run.new.self) (left c.loop-present.place) (shown c.loop-present.decoded) (shown c.push_nulls.new.decoded)
    c.if-present.false c.in-Some.ensures.begins.split before.enough c.in_ok-push_nulls.ensures.cells in
    record {
      over = before.over;
      own = c.in_ok-push_nulls.ensures.own;
      enough = more.enough;
      cells = more.cells ∙ before.cells;
      left = more.left ∙ before.left;
    }
