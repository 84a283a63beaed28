-- What a call promises that takes bytes which are on their way to a sink.
use Rattle.std.specs.Prelude.{◌≡◌, ℕ, List, Result, OnErr, OnOk}
use Rattle.parquet_base.specs.Failures.{CountsFailures}
use Rattle.pq_common.specs.Written.{IsAppendedBut, IsFrontAppended}
use Rattle.pq_common.specs.declared.sink.Sink.{Ghosts}

-- The bytes are written but for a rest that is held back, and behind a failure a front of them is written.
pub record TakesBytes {K T E : Type 0} (g : Ghosts K) (old new : K) (bytes rest : List ℕ) (result : Result T E) : Type 0 where
  pub ok : OnOk result (IsAppendedBut (g.written old) (g.written new) bytes rest)
  pub err : OnErr result (IsFrontAppended (g.written old) (g.written new) bytes)
  pub counted : CountsFailures (g.faults old) (g.faults new) result
  pub quiet : OnOk result (g.faults new ≡ g.faults old)
