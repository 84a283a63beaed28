-- What a call promises that reads parts of a file.
use Rattle.std.specs.Prelude.{◌≡◌, ℕ, List, [], Result, OnOk, IfErr, IfSome}
use Rattle.columns_core.specs.Causes.{Cause}
use Rattle.columns_core.specs.declared.error.Error.{Error}
use Rattle.parquet_meta.specs.Keeps.{Keeps}
use Rattle.parquet_meta.specs.Source.{IsReadFailure}
use Rattle.parquet_meta.specs.declared.source.Source.{Ghosts}

-- The source keeps what it tells, and no fault of it is swallowed. Where it tells its bytes, the call succeeds only where they have none of
-- these causes, and refuses only for one of them, for a read that may have failed or for want of memory.
pub record ReadsFile {S T : Type 0} (g : Ghosts S) (old new : S) (causes : List ℕ → List Cause) (result : Result T Error) : Type 0 where
  pub keeps : Keeps g old new
  pub quiet : OnOk result (g.faults new ≡ g.faults old)
  pub ok : OnOk result (IfSome (g.told old) (λ bytes. causes bytes ≡ []))
  pub fails : IfErr result (IsReadFailure (g.told old) (g.faults old) (g.faults new) causes)
