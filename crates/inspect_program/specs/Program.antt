-- What a run of the program shows, and how it is refused.
use Rattle.std.specs.Prelude.{◌≡◌, ◌⊎◌, ◌≤◌, ℕ, List, [], Option, Some, IfSome, IsFalse}
use Rattle.columns_core.specs.declared.error.Error.{Error}
use Rattle.parquet_base.specs.Failures.{MayFail}
use Rattle.parquet_meta.specs.Source.{IsReadFailure}
use Rattle.parquet_meta.specs.declared.source.Source.{Ghosts as Sources}
use Rattle.pq_common.specs.Endings.{has_answer, status_of_error}
use Rattle.pq_common.specs.Written.{IsAppended, IsFrontAppended}
use Rattle.pq_common.specs.declared.sink.Sink.{Ghosts as Sinks}
use Rattle.pq_common.specs.declared.status.Status.{Status}
use Rattle.pq_common.specs.declared.status.Status.TheVariants.{Done, Memory, Writing}
use Rattle.inspect_program.specs.Calls.{IsOfInspection}
use Rattle.inspect_program.specs.Inspection.{inspection, inspection_causes}

-- This holds of a text, which is that of the bytes where they are told.
pub record Shows (told : Option (List ℕ)) (P : List ℕ → Type 0) : Type 0 where
  pub text : List ℕ
  pub of_bytes : IfSome told (λ bytes. inspection bytes ≡ Some text)
  pub holds : P text

-- What a run leaves in the sink: at its end the text, and behind a failed write a front of it, not all. Otherwise the sink is as it was.
pub record WritesInspection {K : Type 0} (g : Sinks K) (told : Option (List ℕ)) (old new : K) (status : Status) : Type 0 where
  pub done : status ≡ Done → Shows told (IsAppended (g.written old) (g.written new))
  pub front : status ≡ Writing → Shows told (IsFrontAppended (g.written old) (g.written new))
  pub nothing : IsFalse (has_answer status) → new ≡ old
  pub later : g.faults old ≤ g.faults new
  pub writing : status ≡ Writing → MayFail (g.faults old) (g.faults new)
  pub quiet : status ≡ Done → g.faults new ≡ g.faults old

-- The status is that of an error by which a read, or the bytes where they are told, refuse to be shown.
pub record IsStatusOfInspection (told : Option (List ℕ)) (before now : ℕ) (status : Status) : Type 0 where
  pub error : Error
  pub as_status : status ≡ status_of_error error
  pub carried : IsOfInspection error
  pub fails : IsReadFailure told before now inspection_causes error

-- Sound bytes are shown, where neither source nor sink may have failed and memory suffices.
abbrev pub ShowsSoundBytes : {S K : Type 0} → Sources S → Sinks K → S → S → K → K → Status → Type 0
ShowsSoundBytes source sink early late old new status =
    IfSome (source.told early) (λ bytes. inspection_causes bytes ≡ []
    → (MayFail (source.faults early) (source.faults late) → ⊥)
    → (MayFail (sink.faults old) (sink.faults new) → ⊥)
    → (status ≡ Done) ⊎ (status ≡ Memory))
