-- Numbers that change by deltas.
use Rattle.std.proofs.Common.{◌≡◌, ℕ, suc, ◌+◌, ◌%◌, ◌^◌, ◌<◌, ◌≤◌, List, [], ◌∷◌, ◌++◌, length, take, drop, set, get_or, replicate, refl, sym, ap, ◌∙◌, arith, ℤ, pos, ◌+ℤ◌, FitsSigned}
use Rattle.std.specs.Int.{w64, int_wrap, cast_signed, cast_unsigned}
use Rattle.std.proofs.lemmas.Int.{ints, to_z-of_z, of_z-to_z, wrapping_add-bits, wrapping_add_is, int_wrap-add_left, int_wrap-add_right}
use Rattle.std.proofs.Math.Seq.{take-add}
use Rattle.std.proofs.lemmas.List.{take_more, take_more_set, map-append, get_or-replicate}
use Rattle.std.proofs.lemmas.Slice.{take-put_mid}
use borrow.Rule.Slice.PartMut.{put_mid}
use Rattle.parquet_encoding.specs.DeltaBinary.{deltas_of}
use Rattle.parquet_encoding.specs.Sums.{number_behind, numbers_before}

-- a number of 64 bits, as a signed one
wrap_pos : (n : ℕ) → n < 2 ^ 64 → int_wrap w64 (pos n) ≡ cast_signed w64 n
unfolding int_wrap
wrap_pos n fits = let small : n % 2 ^ 64 ≡ n = omega arith in ap (cast_signed w64) small

-- the two sums of one step
pub added_is : (value least : ℤ) (number : ℕ) (signed : ℤ) → FitsSigned w64 value → FitsSigned w64 least → number < 2 ^ 64 → signed ≡ cast_signed w64 number
    → cast_signed w64 (((cast_unsigned w64 value + cast_unsigned w64 least) % 2 ^ 64 + cast_unsigned w64 signed) % 2 ^ 64) ≡ int_wrap w64 (value +ℤ (least +ℤ pos number))
added_is value least number signed fits-value fits-least small is =
    let m = (cast_unsigned w64 value + cast_unsigned w64 least) % 2 ^ 64 in
    let below : m < 2 ^ 64 = omega arith in
    let back : cast_unsigned w64 signed ≡ number = ap (cast_unsigned w64) is ∙ of_z-to_z w64 number small in
    let whole : value +ℤ least +ℤ pos number ≡ value +ℤ (least +ℤ pos number) = omega (arith, ints) in
    ap (λ n. cast_signed w64 ((m + n) % 2 ^ 64)) back
    ∙ wrapping_add-bits w64 m number below small
    ∙ ap (λ a. int_wrap w64 (a +ℤ cast_signed w64 number)) (wrapping_add_is w64 value least fits-value fits-least)
    ∙ int_wrap-add_left w64 (value +ℤ least) (cast_signed w64 number)
    ∙ ap (λ b. int_wrap w64 (value +ℤ least +ℤ b)) (sym (wrap_pos number small))
    ∙ int_wrap-add_right w64 (value +ℤ least) (pos number)
    ∙ ap (int_wrap w64) whole

-- ---- one delta behind another

pub behind-append : (value : ℤ) (first others : List ℤ) → number_behind value (first ++ others) ≡ number_behind (number_behind value first) others
unfolding number_behind
behind-append value [] others = refl
behind-append value (delta ∷ first) others = behind-append (int_wrap w64 (value +ℤ delta)) first others

pub before-append : (value : ℤ) (first others : List ℤ) → numbers_before value (first ++ others) ≡ numbers_before value first ++ numbers_before (number_behind value first) others
unfolding number_behind numbers_before
before-append value [] others = refl
before-append value (delta ∷ first) others = ap (λ rest. value ∷ rest) (before-append (int_wrap w64 (value +ℤ delta)) first others)

pub length-before : (value : ℤ) (deltas : List ℤ) → length (numbers_before value deltas) ≡ length deltas
unfolding numbers_before
length-before value [] = refl
length-before value (delta ∷ deltas) = ap suc (length-before (int_wrap w64 (value +ℤ delta)) deltas)

-- ---- numbers, one behind another

deltas_more : (least : ℤ) (numbers : List ℕ) (i : ℕ) → i < length numbers → deltas_of least (take (i + 1) numbers) ≡ deltas_of least (take i numbers) ++ (least +ℤ pos (get_or numbers i 0)) ∷ []
deltas_more least numbers i inside =
    ap (deltas_of least) (take_more numbers i 0 inside) ∙ map-append (λ number. least +ℤ pos number) (take i numbers) (get_or numbers i 0 ∷ [])

-- the number behind one more
pub behind_more : (value least now result : ℤ) (numbers : List ℕ) (i : ℕ) → i < length numbers → now ≡ number_behind value (deltas_of least (take i numbers))
    → result ≡ int_wrap w64 (now +ℤ (least +ℤ pos (get_or numbers i 0))) → result ≡ number_behind value (deltas_of least (take (i + 1) numbers))
unfolding number_behind
behind_more value least now result numbers i inside is step =
    let delta = least +ℤ pos (get_or numbers i 0) in
    step ∙ ap (λ v. int_wrap w64 (v +ℤ delta)) is
    ∙ sym (ap (number_behind value) (deltas_more least numbers i inside) ∙ behind-append value (deltas_of least (take i numbers)) (delta ∷ []))

-- one more of deltas that are all the least
pub step_more : (now result least : ℤ) (n i : ℕ) → i < n → result ≡ int_wrap w64 (now +ℤ (least +ℤ pos 0)) → result ≡ int_wrap w64 (now +ℤ (least +ℤ pos (get_or (replicate n 0) i 0)))
step_more now result least n i inside step = step ∙ ap (λ number. int_wrap w64 (now +ℤ (least +ℤ pos number))) (sym (get_or-replicate n i 0 0 inside))

-- the numbers before one more
pub before_more : (value least now : ℤ) (numbers : List ℕ) (out : List ℤ) (i : ℕ) → i < length numbers → length out ≡ length numbers → now ≡ number_behind value (deltas_of least (take i numbers))
    → take i out ≡ numbers_before value (deltas_of least (take i numbers)) → take (i + 1) (set out i now) ≡ numbers_before value (deltas_of least (take (i + 1) numbers))
unfolding numbers_before
before_more value least now numbers out i inside long is done =
    let delta = least +ℤ pos (get_or numbers i 0) in
    let first = deltas_of least (take i numbers) in
    take_more_set out i now (omega arith)
    ∙ ap (λ front. front ++ now ∷ []) done ∙ ap (λ v. numbers_before value first ++ v ∷ []) is
    ∙ sym (ap (numbers_before value) (deltas_more least numbers i inside) ∙ before-append value first (delta ∷ []))

-- a number of 64 bits, handed on
pub same_number : (z : ℤ) → FitsSigned w64 z → cast_signed w64 (cast_unsigned w64 z) ≡ z
same_number z fits = to_z-of_z w64 z fits

pub none_behind : (value : ℤ) → value ≡ number_behind value []
unfolding number_behind
none_behind value = refl

pub none_before : (value : ℤ) → [] ≡ numbers_before value []
unfolding numbers_before
none_before value = refl

-- a step by the same least delta
pub by_least : (now result least same : ℤ) (number : ℕ) → result ≡ int_wrap w64 (now +ℤ (least +ℤ pos number)) → least ≡ same → result ≡ int_wrap w64 (now +ℤ (same +ℤ pos number))
by_least now result least same number step e = step ∙ ap (λ n. int_wrap w64 (now +ℤ (n +ℤ pos number))) e

pub behind_by_least : (now result least same : ℤ) (numbers : List ℕ) → result ≡ number_behind now (deltas_of least numbers) → least ≡ same → result ≡ number_behind now (deltas_of same numbers)
behind_by_least now result least same numbers step e = step ∙ ap (λ n. number_behind now (deltas_of n numbers)) e

-- ---- deltas, some at a time

-- the number behind some more
pub passes_run : (value now result : ℤ) (deltas own : List ℤ) (done count : ℕ) → now ≡ number_behind value (take done deltas) → own ≡ take count (drop done deltas) → result ≡ number_behind now own
    → result ≡ number_behind value (take (done + count) deltas)
passes_run value now result deltas own done count is is-own step =
    step ∙ ap (number_behind now) is-own ∙ ap (λ v. number_behind v (take count (drop done deltas))) is
    ∙ sym (ap (number_behind value) (take-add done count deltas) ∙ behind-append value (take done deltas) (take count (drop done deltas)))

-- the numbers before some more
pub writes_run : (value now : ℤ) (deltas own out part : List ℤ) (done count k : ℕ) → now ≡ number_behind value (take done deltas) → own ≡ take count (drop done deltas) → length own ≡ count → part ≡ numbers_before now own
    → done ≤ length out → take done out ≡ numbers_before value (take done deltas) → take (done + count) (put_mid done k out part) ≡ numbers_before value (take (done + count) deltas)
writes_run value now deltas own out part done count k is is-own long is-part room written =
    let size : length part ≡ count = ap length is-part ∙ length-before now own ∙ long in
    take-put_mid done k out part (done + count) (omega arith) room
    ∙ ap (λ front. front ++ part) written
    ∙ ap (λ others. numbers_before value (take done deltas) ++ others) (is-part ∙ ap (numbers_before now) is-own ∙ ap (λ v. numbers_before v (take count (drop done deltas))) is)
    ∙ sym (ap (numbers_before value) (take-add done count deltas) ∙ before-append value (take done deltas) (take count (drop done deltas)))
