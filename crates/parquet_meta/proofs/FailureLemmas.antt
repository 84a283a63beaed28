-- Failures of calls that read parts of a file.
use Rattle.std.proofs.Common.{ℕ, ◌≤◌, List, Option, Some, None, arith}
use Rattle.std.specs.Prelude.{IfSome}
use Rattle.columns_core.specs.Causes.{Cause, IsOneOf, cause_of}
use Rattle.columns_core.specs.declared.error.Error.{Error}
use Rattle.columns_core.specs.declared.error.Error.TheVariants as error
use Rattle.parquet_meta.specs.Source.{IsReadFailure}

-- A failure of a later call by some causes is one of the whole by more.
pub fails_more : (told : Option (List ℕ)) (before mid now : ℕ) (part whole : List ℕ → List Cause) (e : Error) → before ≤ mid
    → IfSome told (λ file. (o : Option Cause) → IsOneOf (part file) o → IsOneOf (whole file) o)
    → IsReadFailure told mid now part e → IsReadFailure told before now whole e
fails_more told before mid now part whole (error.InvalidArgumentError p) h f k = k
fails_more None before mid now part whole (error.NotYetImplemented p) h f k = k
fails_more (Some file) before mid now part whole (error.NotYetImplemented p) h f k = f (cause_of (error.NotYetImplemented p)) k
fails_more None before mid now part whole (error.ExternalFormat p) h f k = k
fails_more (Some file) before mid now part whole (error.ExternalFormat p) h f k = f (cause_of (error.ExternalFormat p)) k
fails_more None before mid now part whole (error.OutOfSpec p) h f k = k
fails_more (Some file) before mid now part whole (error.OutOfSpec p) h f k = f (cause_of (error.OutOfSpec p)) k
fails_more None before mid now part whole error.Overflow h f k = k
fails_more (Some file) before mid now part whole error.Overflow h f k = f (cause_of error.Overflow) k
fails_more told before mid now part whole error.Io h f k = omega (arith, h, k)
fails_more told before mid now part whole error.OutOfMemory h f k = tt
