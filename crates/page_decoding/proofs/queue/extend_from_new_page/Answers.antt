use Rattle.std.proofs.Common.{◌∙◌, map, arith}
use Rattle.std.specs.Option.{option_copied}
use Rattle.parquet_page.specs.Content.{data_content}
use Rattle.page_decoding.specs.Queue.{joined}
use Rattle.page_decoding.proofs.RowLemmas.{Turn, Turn-from}
use Rattle.page_decoding.proofs.queue.extend_from_new_page.Goals as goal

pub loop-wanted-preserved : goal.loop-wanted-preserved
loop-wanted-preserved g c =
    let shown = g.D.DecodedState.DecodedState.shown in
    let left = g.D.Decoder.left c.args.decoder.now (option_copied c.args.dict) (data_content c.args.page.now) in
    let before = c.loop-wanted.invariant in
    let turn : Turn c.loop-wanted.wanted c.loop-wanted.remaining c.in_ok-taken.taken (joined (map shown c.loop-wanted.items.items)) (joined (map shown c.add_rows.new.items.items)) (left c.loop-wanted.state) (left c.add_rows.new.state) =
    Turn-from c.loop-wanted.wanted c.loop-wanted.remaining c.in_ok-taken.taken (joined (map shown c.loop-wanted.items.items)) (joined (map shown c.add_rows.new.items.items)) (left c.loop-wanted.state) (left c.add_rows.new.state) before.wanted c.in_ok-taken.ensures.within c.in_ok-taken.ensures.rows c.in_ok-taken.ensures.left in
    record {
      state = c.in_ok-taken.ensures.state;
      wanted = turn.wanted_now;
      rows = turn.rows ∙ before.rows;
      remaining = turn.remaining_now ∙ before.remaining;
      fewer = omega (arith, before.fewer);
      cut = c.in_ok-taken.ensures.cut;
      own = c.in_ok-taken.ensures.own;
    }
