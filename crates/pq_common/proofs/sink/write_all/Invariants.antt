use Rattle.std.proofs.Common.{◌≡◌, ◌≤◌, ◌-◌, length, take}
use Rattle.pq_common.specs.Written.{IsAppended}
use Rattle.pq_common.proofs.sink.write_all.Given as goal

-- the front of the text so far is written, and no call has failed
abbrev pub invariant-loop-at : goal.invariant-loop-at
invariant-loop-at g l =
    let sink = g.K.Sink in
    record {
      within : l.at ≤ length l.text;
      appended : IsAppended (sink.written l.initial.out) (sink.written l.out) (take l.at l.text);
      quiet : sink.faults l.out ≡ sink.faults l.initial.out;
    }

abbrev pub decreases-loop-at : goal.decreases-loop-at
decreases-loop-at g l = length l.text - l.at
