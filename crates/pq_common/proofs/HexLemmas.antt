-- Bytes read from hexadecimal digits, two at a time.
use Rattle.std.proofs.Common.{◌≡◌, ℕ, ◌-◌, ◌≤◌, List, [], ◌∷◌, ◌++◌, length, take, drop, get_or, refl, sym, ◌∙◌, ap, arith, append_assoc}
use Rattle.std.specs.Prelude.{Option, Some, None, option_map}
use Rattle.std.specs.Option.{option_zip}
use Rattle.std.proofs.lemmas.List.{take_all}
use Rattle.pq_common.specs.Spelled.{hex_byte, hex_bytes}

abbrev pub behind : List ℕ → Option (List ℕ) → Option (List ℕ)
behind bytes more = option_map (λ more. bytes ++ more) more

one_behind : (bytes : List ℕ) (byte : ℕ) (o : Option (List ℕ))
    → behind (bytes ++ byte ∷ []) o ≡ behind bytes (option_map (λ (found : ℕ × List ℕ). found.0 ∷ found.1) (option_zip (Some byte) o))
one_behind bytes byte None = refl
one_behind bytes byte (Some more) = ap Some (append_assoc bytes (byte ∷ []) more)

-- one byte more, of the first two digits
pub one_more : (whole : Option (List ℕ)) (old new digits : List ℕ) (byte : ℕ) → 2 ≤ length digits
    → hex_byte (get_or digits 0 0) (get_or digits 1 0) ≡ Some byte → new ≡ old ++ byte ∷ []
    → behind old (hex_bytes digits) ≡ whole → behind new (hex_bytes (take (length digits - 2) (drop 2 digits))) ≡ whole
one_more whole old new [] byte two is pushed before = absurd (omega arith)
one_more whole old new (digit ∷ []) byte two is pushed before = absurd (omega arith)
one_more whole old new (high ∷ low ∷ digits) byte two is pushed before =
    ap (λ rest. behind new (hex_bytes rest)) (take_all (length (high ∷ low ∷ digits) - 2) digits (omega arith))
    ∙ ap (λ front. behind front (hex_bytes digits)) pushed ∙ one_behind old byte (hex_bytes digits)
    ∙ ap (λ first. behind old (option_map (λ (found : ℕ × List ℕ). found.0 ∷ found.1) (option_zip first (hex_bytes digits)))) (sym is)
    ∙ before
