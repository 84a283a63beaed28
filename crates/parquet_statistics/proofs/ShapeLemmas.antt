-- What is made over what is inside a type, and what is refused of it.
use Rattle.std.proofs.Common.{◌≡◌, [], ap}
use Rattle.std.specs.Prelude.{IfOk, Ok, Err, OnOk, Option, Result, Some, is_some}
use Rattle.columns_core.specs.declared.data_type.DataType.{DataType}
use Rattle.columns_core.specs.declared.error.Error.{Error}
use Rattle.parquet_statistics.specs.BuiltTypes.{shape_refusals, type_refusals}
use Rattle.parquet_statistics.specs.Refusal.{Argument, IsRefusedBy, demand}
use Rattle.parquet_statistics.proofs.RefusalLemmas.{demand_met, none_of_both, refused_right}

-- what holds of each result holds of this one
pub so_ok : {X E : Type 0} (r : Result X E) (P Q : X → Type 0) → ((x : X) → P x → Q x) → IfOk r P → IfOk r Q
so_ok (Ok x) P Q f p = f x p
so_ok (Err e) P Q f p = tt

pub on_ok : {X E : Type 0} (r : Result X E) (Q : Type 0) → Q → OnOk r Q
on_ok (Ok x) Q q = q
on_ok (Err e) Q q = tt

module _ {X : Type 0} (shape : Option X) (data_type : DataType) where
  pub shaped : (x : X) → shape ≡ Some x → type_refusals data_type ≡ [] → shape_refusals (is_some shape) data_type ≡ []
  shaped x is free = none_of_both _ _ (demand_met (is_some shape) Argument (ap is_some is)) free

  pub inside_refused : (e : Error) → IsRefusedBy (type_refusals data_type) e → IsRefusedBy (shape_refusals (is_some shape) data_type) e
  inside_refused e refused = refused_right e (demand (is_some shape) Argument) _ refused
