-- What a source tells, how often it has failed, and how many bytes it has handed out.
use Rattle.std.specs.Prelude.{◌≡◌, ℕ, ◌+◌, ◌^◌, ◌-◌, ◌<◌, ◌==◌, Bool, min, List, Option, Some, None, IfSome, IsNone, Result, Ok, Err}
use Rattle.std.specs.List.{list_any}
use Rattle.columns_core.specs.Causes.{Cause, IsOneOf, cause_of}
use Rattle.columns_core.specs.declared.error.Error.{Error}
use Rattle.columns_core.specs.declared.error.Error.TheVariants as error
use Rattle.parquet_base.specs.Failures.{MayFail}

-- a count that stays at its last value
abbrev pub raised : ℕ → ℕ → ℕ
raised count more = min (count + more) (2 ^ 64 - 1)

-- the count of failures after a call: a failure raises it, and nothing else does
abbrev pub counted : {T E : Type 0} → ℕ → Result T E → ℕ
counted before (Ok x) = before
counted before (Err e) = raised before 1

-- Counts are numbers of 64 bits.
abbrev pub AreCounts : ℕ → ℕ → Type 0
AreCounts faults taken = (faults < 2 ^ 64) × (taken < 2 ^ 64)

-- ---- a source that fails at some of its calls

pub record Failing : Type 0 where
  pub bytes : List ℕ
  pub listed : List ℕ
  pub calls : ℕ
  pub faults : ℕ
  pub taken : ℕ

-- Calls are numbered from 1.
abbrev pub next_call : Failing → ℕ
next_call s = raised s.calls 1

-- the next call is listed as one that fails
abbrev pub is_failing : Failing → Bool
is_failing s = list_any (λ call. call == next_call s) s.listed

-- ---- what is read

-- A call gives what the bytes spell, seen by view, where the source tells them, and refuses where they spell nothing. A call
-- of the source may fail, and want of memory may come in place of any answer.
abbrev pub Finds : {X A : Type 0} → (X → A) → (List ℕ → Option A) → Option (List ℕ) → ℕ → ℕ → Result X Error → Type 0
Finds view spelled told before now (Ok x) = IfSome told (λ file. spelled file ≡ Some (view x))
Finds view spelled told before now (Err (error.ExternalFormat part)) = IfSome told (λ file. spelled file ≡ None)
Finds view spelled told before now (Err error.Io) = MayFail before now
Finds view spelled told before now (Err error.OutOfMemory) = Unit {0}
Finds view spelled told before now (Err _) = ⊥

-- Where the bytes are there, a call of the source may fail, and a source that does not tell its bytes may end early.
abbrev pub IsFailure : Error → Option (List ℕ) → ℕ → ℕ → Type 0
IsFailure error.Io told before now = MayFail before now
IsFailure (error.ExternalFormat part) told before now = IsNone told
IsFailure _ told before now = ⊥

-- An error of a call that reads parts of a file tells of a read that may fail or, where the source tells its bytes, of one of
-- these causes. Want of memory may come at any time.
abbrev pub IsReadFailure : Option (List ℕ) → ℕ → ℕ → (List ℕ → List Cause) → Error → Type 0
IsReadFailure told before now causes error.OutOfMemory = Unit {0}
IsReadFailure told before now causes error.Io = MayFail before now
IsReadFailure told before now causes (error.InvalidArgumentError part) = ⊥
IsReadFailure told before now causes (error.NotYetImplemented part) = IfSome told (λ file. IsOneOf (causes file) (cause_of (error.NotYetImplemented part)))
IsReadFailure told before now causes (error.ExternalFormat part) = IfSome told (λ file. IsOneOf (causes file) (cause_of (error.ExternalFormat part)))
IsReadFailure told before now causes (error.OutOfSpec part) = IfSome told (λ file. IsOneOf (causes file) (cause_of (error.OutOfSpec part)))
IsReadFailure told before now causes error.Overflow = IfSome told (λ file. IsOneOf (causes file) (cause_of error.Overflow))
