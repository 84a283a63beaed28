-- Bytes that are written a part at a time.
use Rattle.std.proofs.Common.{◌≡◌, ◌∙◌, ℕ, List, ◌++◌, Ok, Err, append_assoc, cond}
use Rattle.std.specs.Prelude.{OnOk, Result, is_ok}

pub three_parts : (old a b body : List ℕ) → ((old ++ a) ++ b) ++ body ≡ old ++ (a ++ (b ++ body))
three_parts old a b body = append_assoc (old ++ a) b body ∙ append_assoc old a (b ++ body)

pub four_parts : (old a b c body : List ℕ) → (((old ++ a) ++ b) ++ c) ++ body ≡ old ++ (a ++ (b ++ (c ++ body)))
four_parts old a b c body = append_assoc ((old ++ a) ++ b) c body ∙ three_parts old a b (c ++ body)

pub five_parts : (old a b c d body : List ℕ) → ((((old ++ a) ++ b) ++ c) ++ d) ++ body ≡ old ++ (a ++ (b ++ (c ++ (d ++ body))))
five_parts old a b c d body = append_assoc (((old ++ a) ++ b) ++ c) d body ∙ four_parts old a b c (d ++ body)

-- the last part may be refused
pub last_part : {T E : Type 0} (r : Result T E) (new whole other : List ℕ) → OnOk r (new ≡ whole) → whole ≡ other → OnOk r (new ≡ other)
last_part (Ok t) new whole other is same = is ∙ same
last_part (Err e) new whole other is same = tt

pub last_if : {T E : Type 0} (r : Result T E) (new whole less other : List ℕ) → new ≡ cond (is_ok r) whole less → whole ≡ other → OnOk r (new ≡ other)
last_if (Ok t) new whole less other is same = is ∙ same
last_if (Err e) new whole less other is same = tt
