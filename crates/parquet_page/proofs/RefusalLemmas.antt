-- Refusals that are passed on.
use Rattle.std.proofs.Common.{◌≡◌, Bool, true, false, Option, None, inl, inr, sym, subst}
use Rattle.std.specs.Prelude.{Result, Ok, Err, IfErr, IfOk}
use Rattle.std.specs.Result.{IsErrAnd}
use Rattle.columns_core.specs.declared.error.Error.{Error}
use Rattle.columns_core.specs.Refusals.{IsDamaged, Refuses}

-- what is said of a refusal is said of the same refusal passed on
pub passed_on : {T : Type 0} (result : Result T Error) (error : Error) (Q : Error → Type 0) → IsErrAnd result (λ e. e ≡ error) → Q error → IfErr result Q
passed_on (Ok x) error Q told said = tt
passed_on (Err e) error Q told said = subst Q (sym told) said

-- a part that is not defined leaves the whole undefined
pub damaged_whole : {A B : Type 0} (own : Option A) (whole : Option B) (error : Error) → (own ≡ None → whole ≡ None) → IsDamaged own error → IsDamaged whole error
damaged_whole own whole error none (inl memory) = inl memory
damaged_whole own whole error none (inr damaged) = inr (damaged.0, none damaged.1)

pub refuses_damaged : {A : Type 0} (shaped : Bool) (whole : Option A) (error : Error) → shaped ≡ true → IsDamaged whole error → Refuses shaped whole error
refuses_damaged true whole error e damaged = damaged
refuses_damaged false whole error e damaged = absurd cc

pub when_ok : {T : Type 0} (result : Result T Error) (P Q : T → Type 0) → IfOk result P → ((x : T) → P x → Q x) → IfOk result Q
when_ok (Ok x) P Q held said = said x held
when_ok (Err e) P Q held said = tt

pub when_refused : {T : Type 0} (result : Result T Error) (P Q : Error → Type 0) → IfErr result P → ((e : Error) → P e → Q e) → IfErr result Q
when_refused (Ok x) P Q held said = tt
when_refused (Err e) P Q held said = said e held
