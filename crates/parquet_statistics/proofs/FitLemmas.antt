-- Why what is inside an array is refused: its type, or how many cells it has.
use Rattle.std.proofs.Common.{◌≡◌, refl, ◌∙◌, ap, Bool, true, false, List, [], ◌++◌, inr, arith}
use Rattle.std.specs.Prelude.{Contains, IsTrue, Option, Some, None}
use Rattle.std.proofs.lemmas.List.Elements.{Contains-append_left, Contains-append_right}
use Rattle.columns_core.specs.Causes.{Overflow, is_invalid_argument}
use Rattle.columns_core.specs.Same.{same_from, same_itself}
use Rattle.columns_core.specs.contracts.data_type.DataType.{the_row as data_type_row}
use Rattle.columns_core.specs.declared.data_type.DataType.{DataType}
use Rattle.columns_core.specs.declared.error.Error.{Error}
use Rattle.columns_core.specs.declared.error.Error.TheVariants as error
use Rattle.parquet_statistics.specs.Made.{is_type_named}
use Rattle.parquet_statistics.specs.Refusal.{Refusal, Argument, Caused, IsRefusedBy, demand, told_refusal}
use Rattle.parquet_statistics.proofs.RefusalLemmas.{demand_met, none_of_both}

-- ---- errors

argument_told : (e : Error) → IsTrue (is_invalid_argument e) → told_refusal e ≡ Some Argument
argument_told (error.InvalidArgumentError part) h = refl
argument_told (error.NotYetImplemented part) h = absurd cc
argument_told (error.ExternalFormat part) h = absurd cc
argument_told (error.OutOfSpec part) h = absurd cc
argument_told error.Overflow h = absurd cc
argument_told error.Io h = absurd cc
argument_told error.OutOfMemory h = absurd cc

told_by : (refusals : List Refusal) (e : Error) (refusal : Refusal) → told_refusal e ≡ Some refusal → Contains refusals refusal → IsRefusedBy refusals e
told_by refusals e refusal is told = inr (rw is told)

pub refused_argument : (refusals : List Refusal) (e : Error) → IsTrue (is_invalid_argument e) → Contains refusals Argument → IsRefusedBy refusals e
refused_argument refusals e h told = told_by refusals e Argument (argument_told e h) told

refused_overflow : (refusals : List Refusal) (e : Error) → e ≡ error.Overflow → Contains refusals (Caused Overflow) → IsRefusedBy refusals e
refused_overflow refusals e is told = told_by refusals e (Caused Overflow) (ap told_refusal is) told

-- ---- tests

pub failed : (passes : Bool) (refusal : Refusal) → (passes ≡ true → ⊥) → Contains (demand passes refusal) refusal
failed true refusal h = absurd (h refl)
failed false refusal h = (0, omega arith, refl)

pub named_so : (named : Option DataType) (own : DataType) → named ≡ Some own → is_type_named named own ≡ true
named_so named own is = ap (λ found. is_type_named found own) is ∙ same_itself data_type_row.coded own own refl

pub named_from : (named : Option DataType) (own : DataType) → is_type_named named own ≡ true → named ≡ Some own
named_from None own h = absurd cc
named_from (Some found) own h = ap Some (same_from data_type_row.coded found own h)

-- ---- a type that is named, and a number that fits

module _ (named : Option DataType) (own : DataType) (fits : Bool) where
  abbrev pub refusals : List Refusal
  refusals = demand (is_type_named named own) Argument ++ demand fits (Caused Overflow)

  pub both_fit : named ≡ Some own → fits ≡ true → refusals ≡ []
  both_fit is h = none_of_both (demand (is_type_named named own) Argument) (demand fits (Caused Overflow)) (demand_met (is_type_named named own) Argument (named_so named own is)) (demand_met fits (Caused Overflow) h)

  pub unnamed : (e : Error) → IsTrue (is_invalid_argument e) → (named ≡ Some own → ⊥) → IsRefusedBy refusals e
  unnamed e h not = refused_argument refusals e h (Contains-append_left (demand (is_type_named named own) Argument) (demand fits (Caused Overflow)) Argument (failed (is_type_named named own) Argument (λ is. not (named_from named own is))))

  pub too_many : (e : Error) → e ≡ error.Overflow → (fits ≡ true → ⊥) → IsRefusedBy refusals e
  too_many e is h = refused_overflow refusals e is (Contains-append_right (demand (is_type_named named own) Argument) (demand fits (Caused Overflow)) (Caused Overflow) (failed fits (Caused Overflow) h))
