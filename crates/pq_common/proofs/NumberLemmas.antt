-- Digits read from the left, in 128 bits.
use Rattle.std.proofs.Common.{◌≡◌, ℕ, suc, ◌+◌, ◌^◌, ◌<◌, ◌≤◌, Bool, true, false, List, [], ◌∷◌, length, drop, get_or, refl, sym, ◌∙◌, ap, arith, drop-cons}
use Rattle.std.specs.Prelude.{Option, Some, None, option_and_then, ◌&&◌, nat_lt, nat_le, if◌then◌else◌, fold}
use Rattle.std.specs.List.{list_all}
use Rattle.std.proofs.lemmas.Bool.{ltb-true, ltb-false, lt-ltb, le-ltb, le-leb}
use Rattle.pq_common.specs.Spelled.{is_digit, add_digit, digits_value, digits_at_most, fits as fits_in}

abbrev pub value_from : ℕ → List ℕ → ℕ
value_from number digits = fold add_digit number digits

abbrev pub fits : ℕ → Option ℕ
fits n = fits_in 128 n

abbrev pub with_digit : ℕ → ℕ → Option ℕ
with_digit number digit = if is_digit digit then fits (add_digit number digit) else None

-- the digits behind a number, one after another
abbrev pub read_from : ℕ → List ℕ → Option ℕ
read_from number [] = Some number
read_from number (digit ∷ digits) = option_and_then (λ next. read_from next digits) (with_digit number digit)

-- the number that they spell, if it fits
abbrev pub fitting_from : ℕ → List ℕ → Option ℕ
fitting_from number digits = if list_all is_digit digits then fits (value_from number digits) else None

grows : (number : ℕ) (digits : List ℕ) → number ≤ value_from number digits
grows number [] = omega arith
grows number (digit ∷ digits) =
    let more : add_digit number digit ≤ value_from (add_digit number digit) digits = grows (add_digit number digit) digits in
    omega (arith, more)

abbrev no_number : Option ℕ
no_number = None

neither : (b : Bool) → (if b then no_number else None) ≡ None
neither true = refl
neither false = refl

by_size : (next : ℕ) (digits : List ℕ) (b : Bool) → nat_lt next (2 ^ 128) ≡ b
    → (next < 2 ^ 128 → read_from next digits ≡ fitting_from next digits)
    → option_and_then (λ n. read_from n digits) (fits next) ≡ fitting_from next digits
by_size next digits true e further =
    ap (λ b. option_and_then (λ n. read_from n digits) (if b then Some next else None)) e ∙ further (ltb-true next (2 ^ 128) e)
by_size next digits false e further =
    let least : 2 ^ 128 ≤ next = ltb-false next (2 ^ 128) e in
    let more : next ≤ value_from next digits = grows next digits in
    ap (λ b. option_and_then (λ n. read_from n digits) (if b then Some next else None)) e
    ∙ sym (neither (list_all is_digit digits))
    ∙ sym (ap (λ b. if list_all is_digit digits then (if b then Some (value_from next digits) else None) else None)
    (le-ltb (value_from next digits) (2 ^ 128) (omega (arith, least, more))))

by_digit : (number digit : ℕ) (digits : List ℕ) (b : Bool) → is_digit digit ≡ b
    → (add_digit number digit < 2 ^ 128 → read_from (add_digit number digit) digits ≡ fitting_from (add_digit number digit) digits)
    → read_from number (digit ∷ digits) ≡ fitting_from number (digit ∷ digits)
by_digit number digit digits true e further =
    let next = add_digit number digit in
    ap (λ b. option_and_then (λ n. read_from n digits) (if b then fits next else None)) e
    ∙ by_size next digits (nat_lt next (2 ^ 128)) refl further
    ∙ sym (ap (λ b. if b && list_all is_digit digits then fits (value_from next digits) else None) e)
by_digit number digit digits false e further =
    let next = add_digit number digit in
    ap (λ b. option_and_then (λ n. read_from n digits) (if b then fits next else None)) e
    ∙ sym (ap (λ b. if b && list_all is_digit digits then fits (value_from next digits) else None) e)

read_is : (number : ℕ) (digits : List ℕ) → number < 2 ^ 128 → read_from number digits ≡ fitting_from number digits
read_is number [] h = sym (ap (λ b. if b then Some number else None) (lt-ltb number (2 ^ 128) h))
read_is number (digit ∷ digits) h = by_digit number digit digits (is_digit digit) refl (read_is (add_digit number digit) digits)

-- Digits are read one after another as they are spelled, so many at most.
pub read_all : (most : ℕ) (digits : List ℕ) → 0 < length digits → length digits ≤ most
    → read_from 0 digits ≡ option_and_then fits (digits_at_most most digits)
read_all most digits some few =
    let given = λ (b : Bool). option_and_then fits (if b then Some (digits_value digits) else None) in
    read_is 0 digits (omega arith) ∙ if_then (list_all is_digit digits)
    ∙ sym (ap (λ b. given (b && nat_le (length digits) most && list_all is_digit digits)) (lt-ltb 0 (length digits) some)
    ∙ ap (λ b. given (b && list_all is_digit digits)) (le-leb (length digits) most few)) where
      if_then : (b : Bool) → (if b then fits (value_from 0 digits) else None) ≡ option_and_then fits (if b then Some (digits_value digits) else None)
      if_then true = refl
      if_then false = refl

-- one digit fewer is left
pub read_next : (digits : List ℕ) (at number : ℕ) → at < length digits
    → read_from number (drop at digits) ≡ option_and_then (λ next. read_from next (drop (at + 1) digits)) (with_digit number (get_or digits at 0))
read_next digits at number h =
    let one : suc at ≡ at + 1 = omega arith in
    ap (read_from number) (drop-cons digits at 0 h)
    ∙ ap (λ n. option_and_then (λ next. read_from next (drop n digits)) (with_digit number (get_or digits at 0))) one
