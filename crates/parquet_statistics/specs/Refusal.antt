-- Why a call refuses: its arguments do not fit, or a cause that an error tells of.
use Rattle.std.specs.Prelude.{◌⊎◌, Bool, List, [], ◌∷◌, if◌then◌else◌, Contains, Option, Some, None}
use Rattle.columns_core.specs.Causes.{Cause, NotYetImplemented, ExternalFormat, OutOfSpec, Overflow, IsWantOfMemory}
use Rattle.columns_core.specs.declared.error.Error.{Error}
use Rattle.columns_core.specs.declared.error.Error.TheVariants as error

pub data Refusal : Type 0 where
  Argument : Refusal
  Caused : Cause → Refusal

-- what an error tells of
abbrev pub told_refusal : Error → Option Refusal
told_refusal (error.InvalidArgumentError part) = Some Argument
told_refusal (error.NotYetImplemented part) = Some (Caused NotYetImplemented)
told_refusal (error.ExternalFormat part) = Some (Caused ExternalFormat)
told_refusal (error.OutOfSpec part) = Some (Caused OutOfSpec)
told_refusal error.Overflow = Some (Caused Overflow)
told_refusal error.Io = None
told_refusal error.OutOfMemory = None

-- what is told of is one of these
abbrev pub IsOneRefusal : List Refusal → Option Refusal → Type 0
IsOneRefusal refusals None = ⊥
IsOneRefusal refusals (Some refusal) = Contains refusals refusal

-- an error is want of memory, or tells of one of these
abbrev pub IsRefusedBy : List Refusal → Error → Type 0
IsRefusedBy refusals error = IsWantOfMemory error ⊎ IsOneRefusal refusals (told_refusal error)

-- one refusal where a test fails
abbrev pub demand : Bool → Refusal → List Refusal
demand passes refusal = if passes then [] else refusal ∷ []
