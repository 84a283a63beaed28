-- Names of numbers that have equally many digits come in the order of the numbers.
use Rattle.std.proofs.Common.{◌-◌, not, Some, None, map, ◌≡◌, ℕ, zero, suc, ◌+◌, ◌*◌, ◌/◌, ◌%◌, ◌^◌, ◌<◌, ◌≤◌, ◌==◌, inl, inr, Bool, true, false, List, [], ◌∷◌, refl, sym, ap, ◌∙◌, arith, if◌then◌else◌, decimal}
use Rattle.std.specs.Cmp.Lexicographic.{slice_cmp}
use Rattle.std.specs.declared.cmp.Ordering.{Ordering}
use Rattle.std.specs.declared.cmp.Ordering.TheVariants.{Less, Equal, Greater}
use Rattle.std.specs.Ordering.{is_gt, nat_cmp, ordering_then}
use Rattle.std.specs.List.{range_with_len}
use Rattle.std.specs.Fmt.{digits, digits_onto, digit_glyph}
use Rattle.std.proofs.lemmas.Bool.{cases_lt, lt-ltb, le-ltb, eq-eqb, ne_eqb}
use Rattle.std.proofs.Math.Nat.{pow-suc, pow-zero}
use Rattle.parquet_page.specs.Stored.{Stored, Octets}
use Rattle.parquet_plain.specs.Bodies.{present}
use Rattle.parquet_plain.specs.Columns.{first_of}
use Rattle.parquet_plain.specs.Bounds.{Bounds, bounds_after}
use Rattle.parquet_sample.specs.Sample.{name_item, name_text, texts_at_most}
use Rattle.parquet_sample.proofs.BoundLemmas.{AreBounds, bounds_begin, bounds_end, bounds_go_on}

-- these bytes do not come behind those
abbrev pub ComeInTime : List ℕ → List ℕ → Type 0
ComeInTime xs ys = is_gt (slice_cmp nat_cmp xs ys) ≡ false

cmp_less : (x y : ℕ) → x < y → nat_cmp x y ≡ Less
cmp_less x y lt = ap (λ (b : Bool). if b then Less else (if x == y then Equal else Greater)) (lt-ltb x y lt)

cmp_equal : (x y : ℕ) → x ≡ y → nat_cmp x y ≡ Equal
cmp_equal x y e =
    let le : y ≤ x = omega (arith, e) in
    ap (λ (b : Bool). if b then Less else (if x == y then Equal else Greater)) (le-ltb x y le)
    ∙ ap (λ (b : Bool). if b then Equal else Greater) (eq-eqb x y e)

one_more : (x y : ℕ) (xs ys : List ℕ) → x ≤ y → (x ≡ y → ComeInTime xs ys) → ComeInTime (x ∷ xs) (y ∷ ys)
one_more x y xs ys le rest = elim (cases_lt x y) [
  | inl lt ↦ ap (λ (o : Ordering). is_gt (ordering_then o (slice_cmp nat_cmp xs ys))) (cmp_less x y lt)
  | inr ge ↦ let e : x ≡ y = omega arith in ap (λ (o : Ordering). is_gt (ordering_then o (slice_cmp nat_cmp xs ys))) (cmp_equal x y e) ∙ rest e
]

glyph : (d : ℕ) → d < 10 → digit_glyph false d ≡ 48 + d
glyph d lt = ap (λ (b : Bool). if b then 48 + d else 87 + d) (lt-ltb d 10 lt)

-- the last digit, if it is the only one, and if it is not
last_alone : (k n : ℕ) (xs : List ℕ) → n < 10 → digits_onto (suc k) 10 false n xs ≡ (48 + n % 10) ∷ xs
last_alone k n xs lt =
    let none : n / 10 ≡ 0 = omega arith in
    let small : n % 10 < 10 = omega arith in
    ap (λ (b : Bool). if b then digit_glyph false (n % 10) ∷ xs else digits_onto k 10 false (n / 10) (digit_glyph false (n % 10) ∷ xs)) (eq-eqb (n / 10) 0 none)
    ∙ ap (λ (d : ℕ). d ∷ xs) (glyph (n % 10) small)

last_of_more : (k n : ℕ) (xs : List ℕ) → 10 ≤ n → digits_onto (suc k) 10 false n xs ≡ digits_onto k 10 false (n / 10) ((48 + n % 10) ∷ xs)
last_of_more k n xs ge =
    let small : n % 10 < 10 = omega arith in
    ap (λ (b : Bool). if b then digit_glyph false (n % 10) ∷ xs else digits_onto k 10 false (n / 10) (digit_glyph false (n % 10) ∷ xs)) (ne_eqb (n / 10) 0 (λ e. omega (arith, e)))
    ∙ ap (λ (d : ℕ). digits_onto k 10 false (n / 10) (d ∷ xs)) (glyph (n % 10) small)

last_in_time : (a b : ℕ) (xs ys : List ℕ) → a ≤ b → a / 10 ≡ b / 10 → (a ≡ b → ComeInTime xs ys) → ComeInTime ((48 + a % 10) ∷ xs) ((48 + b % 10) ∷ ys)
last_in_time a b xs ys le same rest = one_more (48 + a % 10) (48 + b % 10) xs ys (omega (arith, same)) (λ e. rest (omega (arith, same, e)))

pow_some : (k : ℕ) → 0 < 10 ^ k
pow_some zero = omega (arith, pow-zero 10)
pow_some (suc k) = omega (arith, pow-suc 10 k, pow_some k)

pub power_of_some : (k : ℕ) → 0 < k → 10 ≤ 10 ^ k
power_of_some zero some = absurd (omega arith)
power_of_some (suc k) some = omega (arith, pow-suc 10 k, pow_some k)

-- Both have `more` digits and one.
digits_in_time : (k more a b : ℕ) (xs ys : List ℕ) → more < k → a ≤ b → (0 < more → 10 ^ more ≤ a) → b < 10 * 10 ^ more → (a ≡ b → ComeInTime xs ys)
    → ComeInTime (digits_onto k 10 false a xs) (digits_onto k 10 false b ys)
digits_in_time zero more a b xs ys room le low high rest = absurd (omega arith)
digits_in_time (suc k) zero a b xs ys room le low high rest =
    let few : b < 10 = omega (arith, pow-zero 10) in
    let same : a / 10 ≡ b / 10 = omega arith in
    rw (last_alone k a xs (omega arith), last_alone k b ys few) (last_in_time a b xs ys le same rest)
digits_in_time (suc k) (suc more) a b xs ys room le low high rest =
    let step = pow-suc 10 more in
    let some = pow_some more in
    let least : 10 ^ suc more ≤ a = low (omega arith) in
    let low_now : 0 < more → 10 ^ more ≤ a / 10 = λ _. omega (arith, step, least) in
    let high_now : b / 10 < 10 * 10 ^ more = omega (arith, step) in
    let next = digits_in_time k more (a / 10) (b / 10) ((48 + a % 10) ∷ xs) ((48 + b % 10) ∷ ys) (omega arith) (omega arith) low_now high_now (λ e. last_in_time a b xs ys le e rest) in
    rw (last_of_more k a xs (omega (arith, step, least, some)), last_of_more k b ys (omega (arith, step, least, some))) next

pub decimals_in_time : (more a b : ℕ) → more < 64 → a ≤ b → (0 < more → 10 ^ more ≤ a) → b < 10 * 10 ^ more → ComeInTime (decimal a) (decimal b)
unfolding digits
decimals_in_time more a b room le low high = digits_in_time 64 more a b [] [] room le low high (λ e. refl)

-- ---- names

abbrev name : ℕ → Stored
name n = Octets (name_text n)

names_in_time : (more a b : ℕ) → more < 64 → a ≤ b → (0 < more → 10 ^ more ≤ a) → b < 10 * 10 ^ more → texts_at_most (name a) (name b) ≡ true
names_in_time more a b room le low high = ap not (decimals_in_time more a b room le low high)

-- the first name, and the last so far
abbrev first_and_last : ℕ → ℕ → Bounds
first_and_last first last = Some (name first, name last)

one_name_more : (first last next : ℕ) → texts_at_most (name first) (name next) ≡ true → texts_at_most (name last) (name next) ≡ true
    → first_and_last first next ≡ bounds_after texts_at_most (first_and_last first last) (present (name_item next ∷ []))
one_name_more first last next behind_first behind_last =
    ap (λ (b : Bool). Some (if b then name first else name next, name next)) (sym behind_first)
    ∙ ap (λ (b : Bool). Some (first_of texts_at_most (name first) (name next), if b then name next else name last)) (sym behind_last)

names_are : (more first count : ℕ) → more < 64 → (0 < more → 10 ^ more ≤ first) → first + count < 10 * 10 ^ more
    → AreBounds texts_at_most name_item first (first_and_last first (first + count)) (first + count + 1)
names_are more first zero room low high =
    let here : first ≡ first + 0 = omega arith in
    rw (← here) (bounds_go_on texts_at_most name_item first None (first_and_last first first) first (omega arith) (bounds_begin texts_at_most name_item first) refl)
names_are more first (suc count) room low high =
    let there : first + count + 1 ≡ first + suc count = omega arith in
    let least = names_in_time more first (first + count + 1) room (omega arith) low (omega (arith, high)) in
    let greatest = names_in_time more (first + count) (first + count + 1) room (omega arith) (λ some. omega (arith, low some)) (omega (arith, high)) in
    let so_far = names_are more first count room low (omega (arith, high)) in
    rw (← there) (bounds_go_on texts_at_most name_item first (first_and_last first (first + count)) (first_and_last first (first + count + 1)) (first + count + 1) (omega arith) so_far
    (one_name_more first (first + count) (first + count + 1) least greatest))

-- The names of a range of numbers that have equally many digits.
pub first_and_last_name : (more first rows last : ℕ) → 0 < rows → last ≡ first + rows - 1 → more < 64 → (0 < more → 10 ^ more ≤ first) → last < 10 * 10 ^ more
    → first_and_last first last ≡ bounds_after texts_at_most None (present (map name_item (range_with_len first rows)))
first_and_last_name more first rows last some end room low high =
    let here : first + (rows - 1) ≡ last = omega (arith, end, some) in
    let are = names_are more first (rows - 1) room low (omega (arith, here, high)) in
    ap (first_and_last first) (sym here) ∙ bounds_end texts_at_most name_item first rows (first_and_last first (first + (rows - 1))) (first + (rows - 1) + 1) (omega (arith, some)) are
