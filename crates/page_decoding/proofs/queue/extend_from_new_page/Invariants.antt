use Rattle.std.proofs.Common.{◌≡◌, ◌-◌, ◌≤◌, min, ◌++◌, length, take, map}
use Rattle.std.specs.Prelude.{All}
use Rattle.std.specs.Option.{option_copied}
use Rattle.parquet_page.specs.Content.{data_content}
use Rattle.page_decoding.specs.Outcome.{Given}
use Rattle.page_decoding.specs.Queue.{joined, IsCut}
use Rattle.page_decoding.proofs.queue.extend_from_new_page.Given as goal

abbrev pub invariant-loop-wanted : goal.invariant-loop-wanted
invariant-loop-wanted g l =
    let shown = g.D.DecodedState.DecodedState.shown in
    let left = g.D.Decoder.left l.decoder (option_copied l.dict) (data_content l.page) in
    record {
      state : g.D.Decoder.is_state l.decoder (option_copied l.dict) (data_content l.page) l.state;
      wanted : l.wanted ≡ min (length (left l.state)) l.remaining;
      rows : map Given (joined (map shown l.items.items)) ++ take l.remaining (left l.state) ≡ map Given (joined (map shown l.initial.items.items)) ++ take l.initial.remaining (left l.initial.state);
      remaining : l.remaining - length (left l.state) ≡ l.initial.remaining - length (left l.initial.state);
      fewer : l.remaining ≤ l.initial.remaining;
      cut : IsCut l.chunk_size (map shown l.items.items);
      own : All (g.D.Decoder.is_own l.decoder) l.items.items;
    }

abbrev pub decreases-loop-wanted : goal.decreases-loop-wanted
decreases-loop-wanted g l = l.wanted
