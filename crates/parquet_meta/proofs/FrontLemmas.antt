-- What a struct at the front of bytes makes of them.
use Rattle.std.proofs.Common.{◌≡◌, ℕ, List, Bool, Result, Ok, Err, sym, ap, ◌∙◌, option_map}
use Rattle.parquet_base.specs.Reading.{Read}
use Rattle.parquet_thrift.specs.Cursor.{Cursor}
use Rattle.parquet_meta.specs.Fault.{ReadsOr, MakesOr}
use Rattle.parquet_meta.specs.declared.fault.Fault.{Fault}
use Rattle.parquet_meta.proofs.Steps.{refuses-on}

-- the place after what was read is lost
pub makes-first : {A : Type 0} (may_want : Bool) (read : Read A) (bytes : List ℕ) (old : Cursor) (r : Result A Fault) (new : Cursor) → old.rest ≡ bytes → ReadsOr may_want (λ x. x) read old r new →
    MakesOr may_want r (option_map (λ x. x.0) (read bytes))
makes-first {A = A} may_want read bytes old (Ok x) new same reads = ap (λ (bs : List ℕ). option_map {T = A × List ℕ} {U = A} (λ x. x.0) (read bs)) (sym same) ∙ ap (option_map {T = A × List ℕ} {U = A} (λ x. x.0)) reads.0
makes-first {A = A} may_want read bytes old (Err e) new same reads =
    refuses-on may_want e (read old.rest) _ (λ none. ap (λ (bs : List ℕ). option_map {T = A × List ℕ} {U = A} (λ x. x.0) (read bs)) (sym same) ∙ ap (option_map {T = A × List ℕ} {U = A} (λ x. x.0)) none) reads
