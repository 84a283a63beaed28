-- Bytes that are texts, and others.
use Rattle.std.proofs.Common.{◌≡◌, ℕ, List, Bool, true, false, refl}
use Rattle.std.specs.Prelude.{IsUtf8}
use Rattle.std.specs.Str.{is_utf8}
use Rattle.std.proofs.lemmas.Str.{IsUtf8-from_is_utf8, is_utf8-from_IsUtf8}
use Rattle.columns_core.specs.declared.cell.Cell.{Text}
use Rattle.flat_values.specs.Conversion.{Value, NotText, text}

pub text-is : (bytes : List ℕ) → IsUtf8 bytes → text bytes ≡ Value (Text bytes)
text-is bytes h = rw (is_utf8-from_IsUtf8 bytes h) refl

pub text-not : (bytes : List ℕ) → ¬ (IsUtf8 bytes) → text bytes ≡ NotText
text-not bytes h = by_test (is_utf8 bytes) refl
  where
    by_test : (b : Bool) → is_utf8 bytes ≡ b → text bytes ≡ NotText
    by_test true e = absurd (h (IsUtf8-from_is_utf8 bytes e))
    by_test false e = rw e refl

pub ruleset text_rules = (text-is, text-not)
