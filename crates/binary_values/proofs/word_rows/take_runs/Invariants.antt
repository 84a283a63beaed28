use Rattle.std.proofs.Common.{◌≡◌, ◌++◌, ◌≤◌, length, map}
use Rattle.std.specs.Option.{option_copied}
use Rattle.parquet_page.specs.Levels.{present_count}
use Rattle.parquet_page.specs.ValidityParts.{word_places}
use Rattle.page_decoding.specs.Outcome.{Given}
use Rattle.flat_values.specs.Decoded.{marked_cells}
use Rattle.flat_values.specs.FlatLeft.{behind_word, word_outcomes}
use Rattle.binary_values.specs.ByteLeft.{IsAmongBytes, byte_left}
use Rattle.binary_values.specs.ByteStrings.{byte_cell, byte_entries}
use Rattle.binary_values.specs.OwnBytes.{AreOwnBytes}
use Rattle.binary_values.proofs.word_rows.take_runs.Given as goal

abbrev pub invariant-loop-present : goal.invariant-loop-present
invariant-loop-present g l =
    let is_text = l.values.is_text in
    let left = byte_left is_text (byte_entries is_text (option_copied l.dict)) l.bytes in
    let now = left l.place in
    let before = left l.initial.place in
    let shown = marked_cells (byte_cell l.decoded.is_text) l.decoded.strings l.decoded.validity in
    let held = marked_cells (byte_cell l.initial.decoded.is_text) l.initial.decoded.strings l.initial.decoded.validity in
    record {
      over : IsAmongBytes l.bytes l.place;
      own : AreOwnBytes g.O.Offset.greatest is_text l.decoded.is_text l.decoded.strings l.decoded.validity;
      enough : present_count (word_places l.rest) ≤ length now;
      cells : map Given shown ++ word_outcomes l.rest now ≡ map Given held ++ word_outcomes l.initial.rest before;
      left : behind_word l.rest now ≡ behind_word l.initial.rest before;
    }

abbrev pub decreases-loop-present : goal.decreases-loop-present
decreases-loop-present g l = length (word_places l.rest)
