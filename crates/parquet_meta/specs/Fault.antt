-- Calls that read a value, or refuse.
use Rattle.std.specs.Prelude.{◌≡◌, Bool, true, Option, Some, None, Result, Ok, Err}
use Rattle.columns_core.specs.declared.error.Error.{Error}
use Rattle.columns_core.specs.declared.error.Error.TheVariants as error
use Rattle.columns_core.specs.declared.error.Part.{Part}
use Rattle.parquet_base.specs.Reading.{Read}
use Rattle.parquet_thrift.specs.Cursor.{Cursor}
use Rattle.parquet_meta.specs.declared.fault.Fault.{Fault}
use Rattle.parquet_meta.specs.declared.fault.Fault.TheVariants as faults

-- want of memory may come at any time where memory is taken; nothing else comes but where nothing is spelled
abbrev pub IsFaultOf : {A : Type 0} → Bool → Fault → Option A → Type 0
IsFaultOf may_want faults.OutOfMemory spelled = may_want ≡ true
IsFaultOf may_want faults.Unspelled spelled = spelled ≡ None

-- a call gives what is spelled, seen by view, and moves past it
abbrev pub ReadsOr : {X A : Type 0} → Bool → (X → A) → Read A → Cursor → Result X Fault → Cursor → Type 0
ReadsOr may_want view read old (Ok x) new = (read old.rest ≡ Some (view x, new.rest)) × (new.whole ≡ old.whole)
ReadsOr may_want view read old (Err e) new = IsFaultOf may_want e (read old.rest)

-- a call gives what a value is made into
abbrev pub MakesOr : {A : Type 0} → Bool → Result A Fault → Option A → Type 0
MakesOr may_want (Ok x) made = made ≡ Some x
MakesOr may_want (Err e) made = IsFaultOf may_want e made

-- what a caller is told of a fault in a part of the file
abbrev pub error_of : Part → Fault → Error
error_of part faults.Unspelled = error.ExternalFormat part
error_of part faults.OutOfMemory = error.OutOfMemory
