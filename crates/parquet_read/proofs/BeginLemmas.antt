-- Arrays of pages, where the pair of types is carried.
use Rattle.std.proofs.Common.{◌≡◌, true, ap}
use Rattle.std.specs.Prelude.{IfErr, IfOk, IfSome, Option, Some, None, Result, Ok, Err, is_some, option_map}
use Rattle.columns_core.specs.Causes.{IsWantOfMemory}
use Rattle.columns_core.specs.declared.error.Error.{Error}
use Rattle.flat_binary.specs.Begun.{BeginsColumn}
use Rattle.flat_values.specs.ColumnLeft.{ColumnLeft}
use Rattle.flat_values.specs.Conversion.{Conversion}

pub pages_begin : {X : Type 0} (left_of : X → ColumnLeft) (made : Conversion → ColumnLeft) (rule : Option Conversion) (result : Result X Error) → is_some rule ≡ true
    → IfSome rule (λ r. BeginsColumn left_of (made r) result) → IfOk result (λ arrays. Some (left_of arrays) ≡ option_map made rule)
pages_begin left_of made None (Ok arrays) carried begins = absurd cc
pages_begin left_of made (Some r) (Ok arrays) carried begins = ap (λ (left : ColumnLeft). Some left) begins.begun
pages_begin left_of made rule (Err e) carried begins = tt

pub pages_memory : {X : Type 0} (left_of : X → ColumnLeft) (made : Conversion → ColumnLeft) (rule : Option Conversion) (result : Result X Error) → is_some rule ≡ true
    → IfSome rule (λ r. BeginsColumn left_of (made r) result) → IfErr result IsWantOfMemory
pages_memory left_of made None result carried begins = absurd cc
pages_memory left_of made (Some r) (Ok arrays) carried begins = tt
pages_memory left_of made (Some r) (Err e) carried begins = begins.memory
