use Rattle.std.proofs.Common.{◌≡◌, ◌++◌, ◌≤◌, length, map}
use Rattle.std.specs.Option.{option_copied}
use Rattle.parquet_page.specs.Levels.{present_count}
use Rattle.parquet_page.specs.ValidityParts.{word_places}
use Rattle.page_decoding.specs.Outcome.{Given}
use Rattle.flat_values.specs.FlatLeft.{behind_word, word_outcomes}
use Rattle.flat_values.proofs.values.Values.take_word.Given as goal

abbrev pub invariant-loop-present : goal.invariant-loop-present
invariant-loop-present g l =
    let shown = g.Self.Decoded.DecodedState.shown in
    let left = g.Self.Values.left l.self (option_copied l.dict) l.bytes in
    let now = left l.place in
    let before = left l.initial.place in
    record {
      over : g.Self.Values.is_over l.self l.bytes l.place;
      own : g.Self.Values.is_own l.self l.decoded;
      enough : present_count (word_places l.rest) ≤ length now;
      cells : map Given (shown l.decoded) ++ word_outcomes l.rest now ≡ map Given (shown l.initial.decoded) ++ word_outcomes l.initial.rest before;
      left : behind_word l.rest now ≡ behind_word l.initial.rest before;
    }

abbrev pub decreases-loop-present : goal.decreases-loop-present
decreases-loop-present g l = length (word_places l.rest)
