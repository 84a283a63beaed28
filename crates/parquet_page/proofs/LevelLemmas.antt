-- Levels that are the same, one behind the other.
use Rattle.std.proofs.Common.{◌≡◌, ℕ, zero, suc, ◌+◌, ◌-◌, ◌/◌, ◌%◌, ◌^◌, ◌<◌, ◌≤◌, leb, cond, Bool, true, false, List, [], ◌∷◌, ◌++◌, length, take, drop, map, get_or, Option, Some, None, refl, sym, ap, subst, ◌∙◌, inl, inr, arith, take-append-drop}
use Rattle.std.specs.Int.{w64, trailing_ones, trailing_zeros}
use Rattle.std.specs.Int.Count.{ones, trailing_of_zero}
use Rattle.std.specs.Prelude.{min, count_by, ◌&&◌, ◌==◌, ◌⊎◌, replicate, unwrap_or, IsSome, nat_le, slice_get, is_some}
use Rattle.std.specs.List.{list_all}
use Rattle.std.proofs.Math.Pow.{mod-mod-pow, pow_pos}
use Rattle.std.proofs.lemmas.Bool.{and_parts, leb-true, le-leb}
use Rattle.std.proofs.lemmas.List.{length-drop, length-take, map-append}
use Rattle.std.proofs.lemmas.List.Folds.{list_all-append}
use Rattle.std.proofs.lemmas.List.Sums.{count_by-le-length, sum_by-cons}
use Rattle.std.proofs.lemmas.Nat.{field_of, shr-shr}
use Rattle.std.proofs.lemmas.Nat.Bits.{bit_at-trailing_ones, bit_at-trailing_zeros, bit_at-zero, bit_at_lowest}
use Rattle.parquet_base.specs.Bytes.{little_endian}
use Rattle.parquet_base.specs.Reading.{given}
use Rattle.parquet_encoding.proofs.StepLemmas.{is_something}
use Rattle.parquet_encoding.specs.Bits.{bits_at, packed}
use Rattle.parquet_encoding.specs.Hybrid.{hybrid}
use Rattle.parquet_encoding.proofs.BitsLemmas.{length-packed}
use Rattle.parquet_encoding.proofs.HybridLemmas.{no_bits}
use Rattle.parquet_meta.specs.declared.metadata.Repetition.{Repetition}
use Rattle.parquet_meta.specs.declared.metadata.Repetition.TheVariants.{Required, Optional, Repeated}
use Rattle.parquet_page.specs.Levels.{presence, present_count, top_level}
use Rattle.parquet_page.specs.LevelsLeft.{level_places}
use Rattle.parquet_page.specs.Stretches.{BeginsOtherwise, BeginsWith}
use Rattle.parquet_page.proofs.WordLemmas.{bits_of_levels, ones_present}

-- ---- the same number again and again

pub all_same : (n : ℕ) (xs : List ℕ) (x : ℕ) → n ≤ length xs → ((k : ℕ) → k < n → get_or xs k 0 ≡ x) → take n xs ≡ replicate n x
all_same zero xs x h same = refl
all_same (suc n) [] x h same = absurd (omega arith)
all_same (suc n) (y ∷ xs) x h same =
    let first : y ≡ x = same 0 (omega arith) in
    let others : take n xs ≡ replicate n x = all_same n xs x (omega arith) (λ k below. same (suc k) (omega arith)) in
    ap (λ z. z ∷ take n xs) first ∙ ap (λ zs. x ∷ zs) others

take-take : {A : Type 0} (n m : ℕ) (xs : List A) → n ≤ m → take n (take m xs) ≡ take n xs
take-take zero m xs h = refl
take-take (suc n) zero xs h = absurd (omega arith)
take-take (suc n) (suc m) [] h = refl
take-take (suc n) (suc m) (x ∷ xs) h = ap (λ ys. x ∷ ys) (take-take n m xs (omega arith))

otherwise-taken : (x many count : ℕ) (xs : List ℕ) → count < length (take many xs) → BeginsOtherwise x (drop count (take many xs)) → BeginsOtherwise x (drop count xs)
otherwise-taken x zero count xs inside other = absurd (omega arith)
otherwise-taken x (suc many) count [] inside other = absurd (omega arith)
otherwise-taken x (suc many) zero (y ∷ xs) inside other = other
otherwise-taken x (suc many) (suc count) (y ∷ xs) inside other = otherwise-taken x many count xs (omega arith) other

-- another one stands in the run
pub otherwise_front : (numbers run : List ℕ) (count many x : ℕ) → run ≡ take many numbers → count < length run → BeginsOtherwise x (drop count run) → BeginsOtherwise x (drop count numbers)
otherwise_front numbers run count many x front inside other =
    let P : List ℕ → Type 0 = λ ys. (count < length ys) × BeginsOtherwise x (drop count ys) in
    let own : P (take many numbers) = subst P front (inside, other) in
    otherwise-taken x many count numbers own.0 own.1

pub otherwise_at : (x count : ℕ) (xs : List ℕ) → (get_or xs count 0 ≡ x → ⊥) → BeginsOtherwise x (drop count xs)
otherwise_at x zero [] other = tt
otherwise_at x (suc count) [] other = tt
otherwise_at x zero (y ∷ xs) other = other
otherwise_at x (suc count) (y ∷ xs) other = otherwise_at x count xs other

pub copies-join : {A : Type 0} (n m : ℕ) (x : A) (xs : List A) → replicate n x ++ (replicate m x ++ xs) ≡ replicate (n + m) x ++ xs
copies-join zero m x xs = let e : zero + m ≡ m = omega arith in rw e refl
copies-join (suc n) m x xs = let e : suc n + m ≡ suc (n + m) = omega arith in rw e (ap (λ ys. x ∷ ys) (copies-join n m x xs))

-- ---- none above the top one

all-copies : (p : ℕ → Bool) (n x : ℕ) (xs : List ℕ) → 0 < n → list_all p (replicate n x ++ xs) ≡ (p x && list_all p xs)
all-copies p zero x xs some = absurd (omega arith)
all-copies p (suc zero) x xs some = refl
all-copies p (suc (suc n)) x xs some = ap (λ b. p x && b) (all-copies p (suc n) x xs (omega arith)) ∙ twice (p x) (list_all p xs) where
  twice : (a b : Bool) → (a && (a && b)) ≡ (a && b)
  twice true b = refl
  twice false b = refl

-- those behind some at the front that are low
pub low_behind : (p : ℕ → Bool) (count many : ℕ) (numbers run : List ℕ) → run ≡ take many numbers → count ≤ many → list_all p (take count run) ≡ true → list_all p numbers ≡ list_all p (drop count numbers)
low_behind p count many numbers run front less low =
    let own : list_all p (take count numbers) ≡ true = ap (list_all p) (sym (take-take count many numbers less) ∙ ap (take count) (sym front)) ∙ low in
    sym (ap (list_all p) (take-append-drop count numbers)) ∙ list_all-append p (take count numbers) (drop count numbers) ∙ ap (λ b. b && list_all p (drop count numbers)) own

pub high_front : (p : ℕ → Bool) (many : ℕ) (numbers run : List ℕ) → run ≡ take many numbers → list_all p run ≡ false → list_all p numbers ≡ false
high_front p many numbers run front high =
    sym (ap (list_all p) (take-append-drop many numbers)) ∙ list_all-append p (take many numbers) (drop many numbers) ∙ ap (λ b. b && list_all p (drop many numbers)) (ap (list_all p) (sym front) ∙ high)

pub low_copies : (p : ℕ → Bool) (n x : ℕ) → p x ≡ true → list_all p (take n (replicate n x)) ≡ true
low_copies p zero x low = refl
low_copies p (suc n) x low = ap (λ b. b && list_all p (take n (replicate n x))) low ∙ low_copies p n x low

-- ---- levels of one bit

get_or-bits : (bytes : List ℕ) (place count k : ℕ) → k < count → get_or (packed bytes 1 place count) k 0 ≡ bits_at bytes (place + k) 1
unfolding packed
get_or-bits bytes place zero k inside = absurd (omega arith)
get_or-bits bytes place (suc count) zero inside = let e : place + 0 ≡ place = omega arith in rw e refl
get_or-bits bytes place (suc count) (suc k) inside = let e : place + suc k ≡ place + 1 + k = omega arith in rw e (get_or-bits bytes (place + 1) count k (omega arith))

bit-of : (bytes : List ℕ) (place n k : ℕ) → k < n → bits_at bytes place n / 2 ^ k % 2 ≡ bits_at bytes (place + k) 1
bit-of bytes place n k below =
    let m = little_endian bytes / 2 ^ place in
    let e : n ≡ n - k + k = omega arith in
    let f : n - k ≡ n - k - 1 + 1 = omega arith in
    ap (λ t. m % 2 ^ t / 2 ^ k % 2) e ∙ ap (λ t. t % 2) (field_of m (n - k) k) ∙ ap (λ t. m / 2 ^ k % 2 ^ t % 2) f
    ∙ mod-mod-pow (m / 2 ^ k) (n - k - 1) 1 ∙ ap (λ t. t % 2 ^ 1) (shr-shr (little_endian bytes) place k)

-- level k is bit k of the number that they all make
pub level_is : (bytes : List ℕ) (place count n k : ℕ) → k < n → n ≤ count → get_or (packed bytes 1 place count) k 0 ≡ bits_at bytes place n / 2 ^ k % 2
level_is bytes place count n k below few = get_or-bits bytes place count k (omega arith) ∙ sym (bit-of bytes place n k below)

-- how many of the lowest bits are the same as the lowest
pub record AreEqual (bits count same : ℕ) : Type 0 where
  pub some : 0 < same
  pub equal : (k : ℕ) → k < same → bits / 2 ^ k % 2 ≡ bits % 2
  pub ends : same < count → bits / 2 ^ same % 2 ≡ bits % 2 → ⊥

ones-equal : (bits count : ℕ) → 0 < count → count ≤ 32 → bits < 2 ^ 32 → bits % 2 ≡ 1 → AreEqual bits count (min (trailing_ones w64 bits) count)
ones-equal bits count some few low odd =
    let own = bit_at-trailing_ones w64 bits (omega arith) in
    let positive = not-zero (trailing_ones w64 bits) own.1 in
    record {
      some = omega arith;
      equal = λ k below. own.2 k (omega arith) ∙ sym odd;
      ends = λ below e. stops (min (trailing_ones w64 bits) count) (omega arith) own.1 e;
    } where
      not-zero : (n : ℕ) → bits / 2 ^ n % 2 ≡ 0 → 0 < n
      not-zero zero e = absurd (omega (arith, e, odd, bit_at_lowest bits))
      not-zero (suc n) e = omega arith

      stops : (n : ℕ) → n ≡ trailing_ones w64 bits → bits / 2 ^ trailing_ones w64 bits % 2 ≡ 0 → bits / 2 ^ n % 2 ≡ bits % 2 → ⊥
      stops n is zero_there e = let there = ap (λ k. bits / 2 ^ k % 2) is in omega (arith, there, zero_there, e, odd)

pub ones_equal : (bits count ones same : ℕ) → 0 < count → count ≤ 32 → bits < 2 ^ 32 → bits % 2 ≡ 1 → ones ≡ trailing_ones w64 bits → same ≡ min ones count → AreEqual bits count same
ones_equal bits count ones same some few low odd is fewest = subst (AreEqual bits count) (sym (fewest ∙ ap (λ n. min n count) is)) (ones-equal bits count some few low odd)

zeros-equal : (bits count : ℕ) → 0 < count → count ≤ 32 → bits < 2 ^ 32 → (bits % 2 ≡ 1 → ⊥) → AreEqual bits count (min (trailing_zeros w64 bits) count)
zeros-equal zero count some few low even =
    let all : trailing_zeros w64 0 ≡ 64 = trailing_of_zero 64 in
    record { some = omega arith; equal = λ k below. bit_at-zero k; ends = λ below. absurd (omega arith) }
zeros-equal (suc b) count some few low even =
    let bits = suc b in
    let own = bit_at-trailing_zeros w64 bits (omega arith) (omega arith) in
    let positive = not-zero (trailing_zeros w64 bits) own.1 in
    record {
      some = omega arith;
      equal = λ k below. own.2 k (omega arith) ∙ omega (arith, even);
      ends = λ below e. stops (min (trailing_zeros w64 bits) count) (omega arith) own.1 e;
    } where
      not-zero : (n : ℕ) → suc b / 2 ^ n % 2 ≡ 1 → 0 < n
      not-zero zero e = absurd (even (sym (bit_at_lowest (suc b)) ∙ e))
      not-zero (suc n) e = omega arith

      stops : (n : ℕ) → n ≡ trailing_zeros w64 (suc b) → suc b / 2 ^ trailing_zeros w64 (suc b) % 2 ≡ 1 → suc b / 2 ^ n % 2 ≡ suc b % 2 → ⊥
      stops n is one_there e = even (sym e ∙ ap (λ k. suc b / 2 ^ k % 2) is ∙ one_there)

pub zeros_equal : (bits count same : ℕ) → 0 < count → count ≤ 32 → bits < 2 ^ 32 → (bits % 2 ≡ 1 → ⊥) → same ≡ min (trailing_zeros w64 bits) count → AreEqual bits count same
zeros_equal bits count same some few low even fewest = subst (AreEqual bits count) (sym fewest) (zeros-equal bits count some few low even)

-- equal bits are equal levels
pub bits_front : (bytes : List ℕ) (width place count seen same bits wide : ℕ) → width ≡ 1 → bits ≡ bits_at bytes place seen → wide ≡ bits → seen ≤ count → same ≤ seen
    → ((k : ℕ) → k < same → wide / 2 ^ k % 2 ≡ wide % 2) → take same (packed bytes width place count) ≡ replicate same (bits % 2)
bits_front bytes width place count seen same bits wide one is widened few within equal =
    rw one (all_same same (packed bytes 1 place count) (bits % 2) (omega (arith, length-packed bytes 1 place count, few, within))
    (λ k below. level_is bytes place count seen k (omega arith) few ∙ ap (λ n. n / 2 ^ k % 2) (sym (widened ∙ is)) ∙ equal k below ∙ ap (λ n. n % 2) widened))

pub bits_end : (bytes : List ℕ) (width place count seen same bits wide : ℕ) → width ≡ 1 → bits ≡ bits_at bytes place seen → wide ≡ bits → seen ≤ count → same < seen
    → (wide / 2 ^ same % 2 ≡ wide % 2 → ⊥) → BeginsOtherwise (bits % 2) (drop same (packed bytes width place count))
bits_end bytes width place count seen same bits wide one is widened few below other =
    rw one (otherwise_at (bits % 2) same (packed bytes 1 place count)
    (λ e. other (ap (λ n. n / 2 ^ same % 2) (widened ∙ is) ∙ sym (level_is bytes place count seen same below few) ∙ e ∙ ap (λ n. n % 2) (sym widened))))

present-map : (p : ℕ → Bool) (xs : List ℕ) → present_count (map p xs) ≡ count_by p xs
present-map p [] = refl
present-map p (x ∷ xs) =
    sum_by-cons (λ (present : Bool). cond present 1 0) (p x) (map p xs) ∙ ap (λ n. cond (p x) 1 0 + n) (present-map p xs) ∙ sym (sum_by-cons (λ (level : ℕ). cond (p level) 1 0) x xs)

-- as many of them are 1 as it has bits that are
pub ones_of_levels : (bytes : List ℕ) (width top place seen count bits : ℕ) → width ≡ 1 → top ≡ 1 → bits ≡ bits_at bytes place seen → seen ≤ count
    → ones bits ≡ count_by (λ level. level == top) (take seen (packed bytes width place count))
ones_of_levels bytes width top place seen count bits one is_one is few =
    let below : bits < 2 ^ seen = omega (arith, is, pow_pos seen) in
    rw is_one (ones_present bits seen below ∙ ap present_count (bits_of_levels bytes width place seen count bits one is few) ∙ present-map (λ level. level == 1) (take seen (packed bytes width place count)))

-- one bit is not above 1
pub bits_low : (bytes : List ℕ) (width top place count : ℕ) → width ≡ 1 → 0 < top → list_all (λ level. nat_le level top) (take count (packed bytes width place count)) ≡ true
unfolding packed
bits_low bytes width top place zero one some = refl
bits_low bytes width top place (suc count) one some =
    let bit : bits_at bytes place width ≤ top = rw one (omega arith) in
    ap (λ b. b && list_all (λ level. nat_le level top) (take count (packed bytes width (place + width) count))) (le-leb (bits_at bytes place width) top bit) ∙ bits_low bytes width top (place + width) count one some

pub high_first : (p : ℕ → Bool) (x : ℕ) (xs : List ℕ) → slice_get xs 0 ≡ Some x → p x ≡ false → list_all p xs ≡ false
high_first p x [] e high = absurd cc
high_first p x (y ∷ xs) e high = let same : y ≡ x = cc in ap (λ b. b && list_all p xs) (ap p same ∙ high)

pub fewer_behind : (n : ℕ) (xs : List ℕ) (left : Option (List ℕ)) → left ≡ Some (drop n xs) → (n ≡ 0 → ⊥) → 0 < length xs → length (unwrap_or left []) < length xs
fewer_behind n xs left e some positive =
    let fewer : length (drop n xs) < length xs = nonzero n some in
    rw e fewer where
      nonzero : (n : ℕ) → (n ≡ 0 → ⊥) → length (drop n xs) < length xs
      nonzero zero some = absurd (some refl)
      nonzero (suc n) some = omega (arith, length-drop (suc n) xs)

-- ---- levels as places

-- levels that tell of places
pub record TellOf (top : ℕ) (left : Option (List ℕ)) (places : List Bool) : Type 0 where
  pub levels : List ℕ
  pub are : left ≡ Some levels
  pub low : list_all (λ level. nat_le level top) levels ≡ true
  pub tell : places ≡ map (λ level. level == top) levels

pub tells : (top : ℕ) (left : Option (List ℕ)) → IsSome (level_places top left) → TellOf top left (unwrap_or (level_places top left) [])
tells top None h = absurd cc
tells top (Some levels) h = go (list_all (λ level. nat_le level top) levels) refl h where
  go : (b : Bool) → list_all (λ level. nat_le level top) levels ≡ b → is_some (given b (map (λ level. level == top) levels)) ≡ true → TellOf top (Some levels) (unwrap_or (given (list_all (λ level. nat_le level top) levels) (map (λ level. level == top) levels)) [])
  go false e h = absurd cc
  go true e h = record { levels = levels; are = refl; low = e; tell = rw e refl }

pub told : (top : ℕ) (left : Option (List ℕ)) (levels : List ℕ) → left ≡ Some levels → list_all (λ level. nat_le level top) levels ≡ true → level_places top left ≡ Some (map (λ level. level == top) levels)
told top left levels e low = rw (e, low) refl

-- ---- the levels of a page

pub no_levels : (repetition : Repetition) (levels : List ℕ) (count : ℕ) → top_level repetition ≡ None → presence repetition levels count ≡ None
unfolding presence
no_levels Required levels count e = absurd cc
no_levels Optional levels count e = absurd cc
no_levels Repeated levels count e = refl

zeros-low : (n : ℕ) → list_all (λ level. nat_le level 0) (replicate n 0) ≡ true
zeros-low zero = refl
zeros-low (suc n) = zeros-low n

zeros-tell : (n : ℕ) → map (λ level. level == 0) (replicate n 0) ≡ replicate n true
zeros-tell zero = refl
zeros-tell (suc n) = ap (λ xs. true ∷ xs) (zeros-tell n)

pub presence_is : (repetition : Repetition) (levels : List ℕ) (count top : ℕ) → Some top ≡ top_level repetition → presence repetition levels count ≡ level_places top (hybrid top levels count)
unfolding presence
presence_is Required levels count top e =
    let zero_top : top ≡ 0 = cc in
    let all : level_places 0 (Some (replicate count 0)) ≡ Some (replicate count true) = told 0 (Some (replicate count 0)) (replicate count 0) refl (zeros-low count) ∙ ap (λ xs. Some xs) (zeros-tell count) in
    sym (ap (λ n. level_places n (hybrid n levels count)) zero_top ∙ ap (level_places 0) (no_bits levels 0 count refl) ∙ all)
presence_is Optional levels count top e =
    let one : 1 ≡ top = cc in
    ap (λ n. level_places n (hybrid n levels count)) one
presence_is Repeated levels count top e = absurd cc

pub none-spelled : (top : ℕ) (left : Option (List ℕ)) → false ≡ is_some left → level_places top left ≡ None
none-spelled top None e = refl
none-spelled top (Some levels) e = absurd cc

pub refused-above : (top : ℕ) (left : Option (List ℕ)) → list_all (λ level. nat_le level top) (unwrap_or left []) ≡ false → level_places top left ≡ None
refused-above top None e = refl
refused-above top (Some levels) e = rw e refl

pub all-told : (top : ℕ) (left : Option (List ℕ)) → IsSome left → list_all (λ level. nat_le level top) (unwrap_or left []) ≡ true → IsSome (level_places top left)
all-told top None some low = absurd cc
all-told top (Some levels) some low = ap is_some (told top (Some levels) levels refl low)

-- ---- a run of places

map-copies : (top n x : ℕ) (ys : List ℕ) → map (λ level. level == top) (replicate n x ++ ys) ≡ replicate n (x == top) ++ map (λ level. level == top) ys
map-copies top zero x ys = refl
map-copies top (suc n) x ys = ap (λ zs. (x == top) ∷ zs) (map-copies top n x ys)

-- of two levels up to a top one of 0 or 1, another one is the other kind
other-kind : (top x y : ℕ) → top ≤ 1 → x ≤ top → y ≤ top → (y ≡ x → ⊥) → (y == top) ≡ (x == top) → ⊥
other-kind zero x y t hx hy other e = other (omega (arith, hx, hy))
other-kind (suc zero) zero zero t hx hy other e = other refl
other-kind (suc zero) zero (suc zero) t hx hy other e = absurd cc
other-kind (suc zero) (suc zero) zero t hx hy other e = absurd cc
other-kind (suc zero) (suc zero) (suc zero) t hx hy other e = other refl
other-kind (suc zero) (suc (suc x)) y t hx hy other e = absurd (omega arith)
other-kind (suc zero) x (suc (suc y)) t hx hy other e = absurd (omega arith)
other-kind (suc (suc top)) x y t hx hy other e = absurd (omega arith)

otherwise-kind : (top x : ℕ) (ys : List ℕ) → top ≤ 1 → x ≤ top → list_all (λ level. nat_le level top) ys ≡ true → BeginsOtherwise x ys → BeginsOtherwise (x == top) (map (λ level. level == top) ys)
otherwise-kind top x [] t hx low other = tt
otherwise-kind top x (y ∷ ys) t hx low other = other-kind top x y t hx (leb-true y top (and_parts (leb y top) (list_all (λ level. nat_le level top) ys) low).0) other

-- the next places of one kind, from the next levels of one number
pub record IsRunOf (top limit level count : ℕ) (old new : List Bool) (left_new : Option (List ℕ)) : Type 0 where
  pub begins : BeginsWith limit (level == top) count old new
  pub spelled : IsSome (level_places top left_new)

pub run_of_places : (top limit level count : ℕ) (left_old left_new : Option (List ℕ)) → top ≤ 1 → IsSome (level_places top left_old) → IsSome left_new
    → 0 < count → BeginsWith limit level count (unwrap_or left_old []) (unwrap_or left_new [])
    → IsRunOf top limit level count (unwrap_or (level_places top left_old) []) (unwrap_or (level_places top left_new) []) left_new
run_of_places top limit level count left_old left_new t spelled some positive begins =
    let old = tells top left_old spelled in
    let new = is_something left_new some in
    let levels : old.levels ≡ replicate count level ++ new.0 =
    ap (λ (o : Option (List ℕ)). unwrap_or o []) (sym old.are) ∙ begins.split ∙ ap (λ (o : Option (List ℕ)). replicate count level ++ unwrap_or o []) new.1 in
    let both : (leb level top && list_all (λ level. nat_le level top) new.0) ≡ true = sym (ap (list_all (λ level. nat_le level top)) levels ∙ all-copies (λ level. nat_le level top) count level new.0 positive) ∙ old.low in
    let parts = and_parts (leb level top) (list_all (λ level. nat_le level top) new.0) both in
    let is = told top left_new new.0 new.1 parts.1 in
    let behind : unwrap_or (level_places top left_new) [] ≡ map (λ level. level == top) new.0 = ap (λ (o : Option (List Bool)). unwrap_or o []) is in
    let O : List ℕ → Type 0 = λ ys. BeginsOtherwise level ys in
    let B : List Bool → Type 0 = λ ys. BeginsOtherwise (level == top) ys in
    record {
      begins = record {
        split = old.tell ∙ ap (map (λ level. level == top)) levels ∙ map-copies top count level new.0 ∙ ap (λ rest. replicate count (level == top) ++ rest) (sym behind);
        most = begins.most;
        longest = elim begins.longest as (λ _. (count ≡ limit) ⊎ BeginsOtherwise (level == top) (unwrap_or (level_places top left_new) [])) [
          | inl all ↦ inl all
          | inr other ↦ inr (subst B (sym behind) (otherwise-kind top level new.0 t (leb-true level top parts.0) parts.1 (subst O (ap (λ (o : Option (List ℕ)). unwrap_or o []) new.1) other)))
        ];
      };
      spelled = ap is_some is;
    }

-- ---- places behind others

-- the levels behind some tell of the places behind those
record TellBehind (top n : ℕ) (left_old left_new : Option (List ℕ)) : Type 0 where
  pub levels : List ℕ
  pub are : unwrap_or left_old [] ≡ levels
  pub old : unwrap_or (level_places top left_old) [] ≡ map (λ level. level == top) levels
  pub new : unwrap_or (level_places top left_new) [] ≡ map (λ level. level == top) (drop n levels)
  pub spelled : IsSome (level_places top left_new)

tells-behind : (top n : ℕ) (left_old left_new : Option (List ℕ)) → IsSome (level_places top left_old) → left_new ≡ Some (drop n (unwrap_or left_old [])) → TellBehind top n left_old left_new
tells-behind top n left_old left_new spelled behind =
    let old = tells top left_old spelled in
    let own : unwrap_or left_old [] ≡ old.levels = ap (λ (o : Option (List ℕ)). unwrap_or o []) old.are in
    let both : (list_all (λ level. nat_le level top) (take n old.levels) && list_all (λ level. nat_le level top) (drop n old.levels)) ≡ true =
    sym (list_all-append (λ level. nat_le level top) (take n old.levels) (drop n old.levels)) ∙ ap (list_all (λ level. nat_le level top)) (take-append-drop n old.levels) ∙ old.low in
    let low = (and_parts (list_all (λ level. nat_le level top) (take n old.levels)) (list_all (λ level. nat_le level top) (drop n old.levels)) both).1 in
    let is = told top left_new (drop n old.levels) (behind ∙ ap (λ xs. Some (drop n xs)) own) low in
    record { levels = old.levels; are = own; old = old.tell; new = ap (λ (o : Option (List Bool)). unwrap_or o []) is; spelled = ap is_some is }

-- the next places are those of a word
pub record IsWordOf (top : ℕ) (word old new : List Bool) (left_new : Option (List ℕ)) : Type 0 where
  pub split : old ≡ word ++ new
  pub spelled : IsSome (level_places top left_new)

pub word_of_places : (top rows many : ℕ) (left_old left_new : Option (List ℕ)) (run : List ℕ) (word : List Bool) → top ≡ 1 → IsSome (level_places top left_old) → left_new ≡ Some (drop rows (unwrap_or left_old []))
    → run ≡ take many (unwrap_or left_old []) → rows ≤ many → word ≡ map (λ level. level == 1) (take rows run) → IsWordOf top word (unwrap_or (level_places top left_old) []) (unwrap_or (level_places top left_new) []) left_new
word_of_places top rows many left_old left_new run word one spelled behind front less told =
    let p : ℕ → Bool = λ level. level == top in
    let left = tells-behind top rows left_old left_new spelled behind in
    let own : take rows run ≡ take rows left.levels = ap (take rows) (front ∙ ap (take many) left.are) ∙ take-take rows many left.levels less in
    let word_is : word ≡ map p (take rows left.levels) = told ∙ ap (λ n. map (λ level. level == n) (take rows run)) (sym one) ∙ ap (map p) own in
    record {
      split =
          left.old
          ∙ ap (map p) (sym (take-append-drop rows left.levels))
          ∙ map-append p (take rows left.levels) (drop rows left.levels)
          ∙ ap (λ places. places ++ map p (drop rows left.levels)) (sym word_is)
          ∙ ap (λ places. word ++ places) (sym left.new);
      spelled = left.spelled;
    }

-- ---- passing over places

present-taken : (p : ℕ → Bool) (n left : ℕ) (xs : List ℕ) → n ≤ left → present_count (take left (map p xs)) ≡ count_by p (take n xs) + present_count (take (left - n) (map p (drop n xs)))
present-taken p zero left xs h = let e : left - 0 ≡ left = omega arith in rw e (omega arith)
present-taken p (suc n) zero xs h = absurd (omega arith)
present-taken p (suc n) (suc left) [] h = let none : take (suc left - suc n) (map p []) ≡ [] = nothing (suc left - suc n) in rw none refl where
  nothing : (k : ℕ) → take k (map p []) ≡ []
  nothing zero = refl
  nothing (suc k) = refl
present-taken p (suc n) (suc left) (x ∷ xs) h =
    let e : suc left - suc n ≡ left - n = omega arith in
    let others = present-taken p n left xs (omega arith) in
    rw e (sum_by-cons (λ (present : Bool). cond present 1 0) (p x) (take left (map p xs)) ∙ ap (λ k. cond (p x) 1 0 + k) others ∙ add_assoc' (cond (p x) 1 0) (count_by p (take n xs)) (present_count (take (left - n) (map p (drop n xs))))
    ∙ ap (λ k. k + present_count (take (left - n) (map p (drop n xs)))) (sym (sum_by-cons (λ (level : ℕ). cond (p level) 1 0) x (take n xs)))) where
      add_assoc' : (a b c : ℕ) → a + (b + c) ≡ a + b + c
      add_assoc' a b c = omega arith

drop-taken : (p : ℕ → Bool) (n left : ℕ) (xs : List ℕ) → n ≤ left → drop left (map p xs) ≡ drop (left - n) (map p (drop n xs))
drop-taken p zero left xs h = let e : left - 0 ≡ left = omega arith in rw e refl
drop-taken p (suc n) zero xs h = absurd (omega arith)
drop-taken p (suc n) (suc left) [] h = sym (nothing (suc left - suc n)) where
  nothing : (k : ℕ) → drop k (map p []) ≡ []
  nothing zero = refl
  nothing (suc k) = refl
drop-taken p (suc n) (suc left) (x ∷ xs) h = let e : suc left - suc n ≡ left - n = omega arith in rw e (drop-taken p n left xs (omega arith))

-- one turn: some of the places are passed over
pub record ArePassed (top n count left : ℕ) (old new : List Bool) (left_new : Option (List ℕ)) : Type 0 where
  pub counted : present_count (take left old) ≡ count + present_count (take (left - n) new)
  pub behind : drop left old ≡ drop (left - n) new
  pub few : count ≤ n
  pub spelled : IsSome (level_places top left_new)

pub passes : (top n count left : ℕ) (left_old left_new : Option (List ℕ)) → IsSome (level_places top left_old) → left_new ≡ Some (drop n (unwrap_or left_old [])) → n ≤ left
    → count ≡ count_by (λ level. level == top) (take n (unwrap_or left_old [])) → ArePassed top n count left (unwrap_or (level_places top left_old) []) (unwrap_or (level_places top left_new) []) left_new
passes top n count left left_old left_new spelled behind most counted =
    let p : ℕ → Bool = λ level. level == top in
    let all = tells-behind top n left_old left_new spelled behind in
    let rest = λ (xs : List Bool). present_count (take (left - n) xs) in
    record {
      counted = ap (λ xs. present_count (take left xs)) all.old ∙ present-taken p n left all.levels most ∙ ap (λ k. k + rest (map p (drop n all.levels))) (sym (counted ∙ ap (λ xs. count_by p (take n xs)) all.are)) ∙ ap (λ xs. count + rest xs) (sym all.new);
      behind = ap (drop left) all.old ∙ drop-taken p n left all.levels most ∙ ap (drop (left - n)) (sym all.new);
      few = omega (arith, counted, count_by-le-length p (take n (unwrap_or left_old [])), length-take n (unwrap_or left_old []));
      spelled = all.spelled;
    }
