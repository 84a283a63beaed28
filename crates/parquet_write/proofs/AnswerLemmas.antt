-- Answers that come only where a test holds.
use Rattle.std.proofs.Common.{◌≡◌, ◌⊎◌, inl, inr, ℕ, Bool, false, List, sym, subst}
use Rattle.std.specs.Prelude.{Result, Ok, Err, Vec}
use Rattle.std.specs.Result.{IsErrAnd}
use Rattle.columns_core.specs.Causes.{IsWantOfMemory}
use Rattle.columns_core.specs.declared.error.Error.{Error}
use Rattle.columns_core.specs.declared.error.Error.TheVariants.{Overflow}
use Rattle.parquet_write.specs.Parts.{OverflowsUnless, WritesShort}

-- why there is no answer
abbrev pub IsTooLarge : Bool → Error → Type 0
IsTooLarge is_short e = IsWantOfMemory e ⊎ ((e ≡ Overflow) × (is_short ≡ false))

-- a part that is too large makes the whole too large
pub too_large_whole : (part whole : Bool) (e : Error) → (part ≡ false → whole ≡ false) → IsTooLarge part e → IsTooLarge whole e
too_large_whole part whole e more (inl memory) = inl memory
too_large_whole part whole e more (inr past) = inr (past.0, more past.1)

pub overflows : {T : Type 0} (is_short : Bool) (result : Result T Error) (e : Error) → IsErrAnd result (λ own. own ≡ e) → IsTooLarge is_short e → OverflowsUnless is_short result
overflows is_short (Ok x) e told said = absurd told
overflows is_short (Err own) e told said = record { fits = tt; cause = subst (IsTooLarge is_short) (sym told) said }

pub writes_nothing : {Z T : Type 0} (bytes : List ℕ) (is_short : Bool) (old : Vec ℕ Z) (result : Result T Error) (new : Vec ℕ Z) (e : Error) → IsErrAnd result (λ own. own ≡ e) → IsTooLarge is_short e →
    WritesShort bytes is_short old result new
writes_nothing bytes is_short old (Ok x) new e told said = absurd told
writes_nothing bytes is_short old (Err own) new e told said = record { written = tt; short = overflows is_short (Err own) e told said }
