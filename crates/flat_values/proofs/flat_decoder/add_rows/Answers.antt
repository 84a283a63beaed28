use Rattle.std.proofs.Common.{rules, ◌∙◌, ◌++◌, List, map, None, subst, take}
use Rattle.std.specs.Option.{option_copied}
use Rattle.parquet_page.specs.Content.{data_content}
use Rattle.page_decoding.specs.FilteredLeft.{filtered_steps}
use Rattle.page_decoding.specs.Bytes.{IsCausedByChunks}
use Rattle.page_decoding.specs.Outcome.{Given, Outcome}
use Rattle.flat_values.specs.FlatLeft.{given_along, values_left}
use Rattle.flat_values.proofs.FlatLemmas.{Turn, part-caused, turn, turned}
use Rattle.flat_values.proofs.flat_decoder.add_rows.Given.{Over}
use Rattle.flat_values.proofs.flat_decoder.add_rows.Goals as goal
use Rattle.flat_values.proofs.flat_decoder.add_rows.Goals.{In-Some}

-- the part that comes next
own : (g : Over) (c : In-Some g) → Turn c.in-Some.part c.loop-wanted.wanted (filtered_steps c.loop-wanted.walk (data_content c.args.page.now)) (filtered_steps c.next_part.new.self (data_content c.args.page.now))
    (values_left (g.V.Values.left c.args.values.now (option_copied c.args.dict) c.args.bytes.now) c.loop-wanted.place)
own g c =
    let page = data_content c.args.page.now in
    turn c.in-Some.part c.loop-wanted.wanted (filtered_steps c.loop-wanted.walk page) (filtered_steps c.next_part.new.self page)
    (values_left (g.V.Values.left c.args.values.now (option_copied c.args.dict) c.args.bytes.now) c.loop-wanted.place) c.in-Some.ensures.part c.loop-wanted.invariant.state.enough

pub add_part-requires-clause-enough : goal.add_part-requires-clause-enough
add_part-requires-clause-enough g c = (own g (goal.at.add_part-requires-clause-enough g c).In-Some).stored

pub loop-wanted-smaller : goal.loop-wanted-smaller
loop-wanted-smaller g c = (own g (goal.at.loop-wanted-smaller g c).In-Some).shorter

pub returns-in_err-add_part-clause-cause : goal.returns-in_err-add_part-clause-cause
returns-in_err-add_part-clause-cause g c =
    let left = g.V.Values.left c.args.values.now (option_copied c.args.dict) c.args.bytes.now in
    let page = data_content c.args.page.now in
    let old = filtered_steps c.loop-wanted.walk page in
    let new = filtered_steps c.next_part.new.self page in
    let error = c.in_err-add_part.field-0.0 in
    let most = g.V.Values.most_bytes c.args.values.now in
    let shown = g.V.Decoded.DecodedState.shown in
    let P : List Outcome → Type 0 = λ rows. IsCausedByChunks most None rows error in
    let cause : P (map Given (shown c.args.decoded.now) ++ take c.args.additional (given_along (filtered_steps c.args.walk.now page) (values_left left c.args.place.now))) =
    subst P c.loop-wanted.invariant.rows (part-caused most c.in-Some.part c.loop-wanted.wanted old new (values_left left c.loop-wanted.place) (shown c.loop-wanted.decoded) error
    (own g (goal.at.returns-in_err-add_part-clause-cause g c).In-Some) c.in_err-add_part.ensures.cause) in
    search rules

pub loop-wanted-preserved : goal.loop-wanted-preserved
loop-wanted-preserved g c =
    let left = g.V.Values.left c.args.values.now (option_copied c.args.dict) c.args.bytes.now in
    let shown = g.V.Decoded.DecodedState.shown in
    let page = data_content c.args.page.now in
    let old = filtered_steps c.loop-wanted.walk page in
    let new = filtered_steps c.next_part.new.self page in
    let before = c.loop-wanted.invariant in
    let more = turned c.in-Some.part c.loop-wanted.wanted c.rows-wanted.result old new (values_left left c.loop-wanted.place) (values_left left c.add_part.new.place) (shown c.loop-wanted.decoded) (shown c.add_part.new.decoded)
    (own g (goal.at.loop-wanted-preserved g c).In-Some) c.rows-wanted.ensures c.in_ok-add_part.ensures.left c.in_ok-add_part.ensures.cells in
    record {
      state = record { page_is = c.in-Some.ensures.page; over = c.in_ok-add_part.ensures.over; enough = more.enough };
      own = c.in_ok-add_part.ensures.own;
      rows = more.all ∙ before.rows;
      rest = more.rest ∙ before.rest;
    }
