-- What an error tells of: the request, the file, the source or the memory.
use Rattle.std.specs.Prelude.{◌≡◌, ◌⊎◌, ℕ, Bool, true, false, List, [], ◌∷◌, if◌then◌else◌, Contains, Option, Some, None, Result, IfErr, IsTrue}
use Rattle.columns_core.specs.declared.error.Error.{Error}
use Rattle.columns_core.specs.declared.error.Error.TheVariants as error

-- the numbers of the kinds of errors
abbrev pub error_number : Error → ℕ
error_number (error.InvalidArgumentError part) = 1
error_number (error.NotYetImplemented part) = 2
error_number (error.ExternalFormat part) = 3
error_number (error.OutOfSpec part) = 4
error_number error.Overflow = 5
error_number error.Io = 6
error_number error.OutOfMemory = 7

-- what is wrong with a part of a file, named as the error that tells of it
pub data Cause : Type 0 where
  NotYetImplemented : Cause
  ExternalFormat : Cause
  OutOfSpec : Cause
  Overflow : Cause

-- the cause that an error tells of
abbrev pub cause_of : Error → Option Cause
cause_of (error.NotYetImplemented part) = Some NotYetImplemented
cause_of (error.ExternalFormat part) = Some ExternalFormat
cause_of (error.OutOfSpec part) = Some OutOfSpec
cause_of error.Overflow = Some Overflow
cause_of _ = None

abbrev pub IsWantOfMemory : Error → Type 0
IsWantOfMemory e = e ≡ error.OutOfMemory

-- the call's own arguments were refused
abbrev pub is_invalid_argument : Error → Bool
is_invalid_argument (error.InvalidArgumentError part) = true
is_invalid_argument _ = false

-- they were, and they do not fit
abbrev pub IsMisfit : Type 0 → Error → Type 0
IsMisfit Fits error = IsTrue (is_invalid_argument error) × (Fits → ⊥)

abbrev pub is_empty : List Cause → Bool
is_empty [] = true
is_empty (cause ∷ causes) = false

-- one cause where a test fails
abbrev pub unless : Bool → Cause → List Cause
unless passes cause = if passes then [] else cause ∷ []

-- the causes of a step and, where it has none, those of the next
abbrev pub and_then : List Cause → List Cause → List Cause
and_then first next = if is_empty first then next else first

-- a cause that is told of is one of these
abbrev pub IsOneOf : List Cause → Option Cause → Type 0
IsOneOf causes None = ⊥
IsOneOf causes (Some cause) = Contains causes cause

-- an error tells of one of these causes, and never of want of memory
abbrev pub TellsOf : {T : Type 0} → Result T Error → List Cause → Type 0
TellsOf result causes = IfErr result (λ e. IsOneOf causes (cause_of e))

-- an error is want of memory, or tells of one of these causes
abbrev pub ComesOf : {T : Type 0} → Result T Error → List Cause → Type 0
ComesOf result causes = IfErr result (λ e. IsWantOfMemory e ⊎ IsOneOf causes (cause_of e))
