-- Numbers that change by deltas which lie side by side in bytes.
use Rattle.std.proofs.Common.{◌≡◌, ℕ, zero, suc, ◌+◌, ◌-◌, ◌*◌, ◌<◌, ◌≤◌, List, [], ◌∷◌, ◌++◌, length, take, drop, replicate, set, refl, sym, ap, ◌∙◌, arith, ℤ, pos, ◌+ℤ◌}
use Rattle.std.specs.Int.{w64, int_wrap}
use Rattle.std.proofs.lemmas.List.{take-map, drop-map, map-append, length-map, take_more_set, take_all}
use Rattle.std.proofs.lemmas.Slice.{take-put_mid}
use borrow.Rule.Slice.PartMut.{put_mid}
use Rattle.parquet_encoding.specs.Bits.{bits_at, packed}
use Rattle.parquet_encoding.specs.DeltaBinary.{deltas_of}
use Rattle.parquet_encoding.specs.Sums.{number_behind, numbers_before}
use Rattle.parquet_encoding.proofs.BitsLemmas.{packed-add, take-packed, drop-packed, length-packed}
use Rattle.parquet_encoding.proofs.SumLemmas.{behind-append, before-append, length-before}

-- the deltas of numbers that lie side by side
abbrev pub packed_deltas : ℤ → List ℕ → ℕ → ℕ → ℕ → List ℤ
packed_deltas least bytes width start count = deltas_of least (packed bytes width start count)

pub take-deltas : (least : ℤ) (bytes : List ℕ) (width start n count : ℕ) → n ≤ count → packed_deltas least bytes width start n ≡ take n (packed_deltas least bytes width start count)
take-deltas least bytes width start n count few =
    sym (take-map (λ number. least +ℤ pos number) n (packed bytes width start count) ∙ ap (deltas_of least) (take-packed n bytes width start count few))

pub drop-deltas : (least : ℤ) (bytes : List ℕ) (width start n count place : ℕ) → place ≡ start + n * width → packed_deltas least bytes width place (count - n) ≡ drop n (packed_deltas least bytes width start count)
drop-deltas least bytes width start n count place there =
    ap (λ p. packed_deltas least bytes width p (count - n)) there
    ∙ sym (drop-map (λ number. least +ℤ pos number) n (packed bytes width start count) ∙ ap (deltas_of least) (drop-packed n bytes width start count))

deltas-add : (least : ℤ) (bytes : List ℕ) (width start m n place : ℕ) → place ≡ start + m * width
    → packed_deltas least bytes width start (m + n) ≡ packed_deltas least bytes width start m ++ packed_deltas least bytes width place n
deltas-add least bytes width start m n place there =
    ap (deltas_of least) (packed-add bytes width start m n) ∙ map-append (λ number. least +ℤ pos number) (packed bytes width start m) (packed bytes width (start + m * width) n)
    ∙ ap (λ p. packed_deltas least bytes width start m ++ packed_deltas least bytes width p n) (sym there)

pub length-deltas : (least : ℤ) (bytes : List ℕ) (width start count : ℕ) → length (packed_deltas least bytes width start count) ≡ count
length-deltas least bytes width start count = length-map (packed bytes width start count) (λ number. least +ℤ pos number) ∙ length-packed bytes width start count

-- numbers of no bits
pub packed_zeros : (bytes : List ℕ) (start count : ℕ) → packed bytes 0 start count ≡ replicate count 0
unfolding packed
packed_zeros bytes start zero = refl
packed_zeros bytes start (suc count) = let none : bits_at bytes start 0 ≡ 0 = omega arith in ap (λ n. n ∷ packed bytes 0 (start + 0) count) none ∙ ap (λ others. 0 ∷ others) (packed_zeros bytes (start + 0) count)

-- ---- the number behind

pub none_passed : (value least : ℤ) (bytes : List ℕ) (width start n : ℕ) → n ≡ 0 → value ≡ number_behind value (packed_deltas least bytes width start n)
unfolding number_behind packed
none_passed value least bytes width start n none = rw none refl

pub one_passed : (value least now result : ℤ) (bytes : List ℕ) (width start m n number place : ℕ) → now ≡ number_behind value (packed_deltas least bytes width start m) → place ≡ start + m * width
    → n ≡ m + 1 → number ≡ bits_at bytes place width → result ≡ int_wrap w64 (now +ℤ (least +ℤ pos number)) → result ≡ number_behind value (packed_deltas least bytes width start n)
unfolding number_behind packed
one_passed value least now result bytes width start m n number place is there many read step =
    step ∙ ap (λ n. int_wrap w64 (now +ℤ (least +ℤ pos n))) read ∙ ap (λ v. int_wrap w64 (v +ℤ (least +ℤ pos (bits_at bytes place width)))) is
    ∙ sym (ap (λ k. number_behind value (packed_deltas least bytes width start k)) many
    ∙ ap (number_behind value) (deltas-add least bytes width start m 1 place there) ∙ behind-append value (packed_deltas least bytes width start m) (packed_deltas least bytes width place 1))

pub eight_passed : (value least now result : ℤ) (bytes eight : List ℕ) (width start m n place : ℕ) → now ≡ number_behind value (packed_deltas least bytes width start m) → place ≡ start + m * width
    → n ≡ m + 8 → eight ≡ packed bytes width place 8 → result ≡ number_behind now (deltas_of least eight) → result ≡ number_behind value (packed_deltas least bytes width start n)
eight_passed value least now result bytes eight width start m n place is there many read step =
    step ∙ ap (λ numbers. number_behind now (deltas_of least numbers)) read ∙ ap (λ v. number_behind v (packed_deltas least bytes width place 8)) is
    ∙ sym (ap (λ k. number_behind value (packed_deltas least bytes width start k)) many
    ∙ ap (number_behind value) (deltas-add least bytes width start m 8 place there) ∙ behind-append value (packed_deltas least bytes width start m) (packed_deltas least bytes width place 8))

-- ---- the numbers before

pub none_written : (value least : ℤ) (bytes : List ℕ) (out : List ℤ) (width start n : ℕ) → n ≡ 0 → take n out ≡ numbers_before value (packed_deltas least bytes width start n)
unfolding numbers_before packed
none_written value least bytes out width start n none = rw none refl

pub one_written : (value least now : ℤ) (bytes : List ℕ) (out : List ℤ) (width start m place : ℕ) → now ≡ number_behind value (packed_deltas least bytes width start m) → place ≡ start + m * width → m < length out
    → take m out ≡ numbers_before value (packed_deltas least bytes width start m) → take (m + 1) (set out m now) ≡ numbers_before value (packed_deltas least bytes width start (m + 1))
unfolding numbers_before packed
one_written value least now bytes out width start m place is there room done =
    let first = packed_deltas least bytes width start m in
    take_more_set out m now room ∙ ap (λ front. front ++ now ∷ []) done ∙ ap (λ v. numbers_before value first ++ v ∷ []) is
    ∙ sym (ap (numbers_before value) (deltas-add least bytes width start m 1 place there) ∙ before-append value first (packed_deltas least bytes width place 1))

pub eight_written : (value least now : ℤ) (bytes eight : List ℕ) (out part : List ℤ) (width start m n place k : ℕ) → now ≡ number_behind value (packed_deltas least bytes width start m) → place ≡ start + m * width → m ≤ length out
    → n ≡ m + 8 → eight ≡ packed bytes width place 8 → part ≡ numbers_before now (deltas_of least eight)
    → take m out ≡ numbers_before value (packed_deltas least bytes width start m) → take n (put_mid m k out part) ≡ numbers_before value (packed_deltas least bytes width start n)
eight_written value least now bytes eight out part width start m n place k is there room many read written done =
    let first = packed_deltas least bytes width start m in
    let own : part ≡ numbers_before (number_behind value first) (packed_deltas least bytes width place 8) =
    written ∙ ap (λ numbers. numbers_before now (deltas_of least numbers)) read ∙ ap (λ v. numbers_before v (packed_deltas least bytes width place 8)) is in
    let long : length part ≡ 8 = ap length own ∙ length-before (number_behind value first) (packed_deltas least bytes width place 8) ∙ length-deltas least bytes width place 8 in
    take-put_mid m k out part n (omega arith) room
    ∙ ap (λ front. front ++ part) done ∙ ap (λ others. numbers_before value first ++ others) own
    ∙ sym (ap (λ j. numbers_before value (packed_deltas least bytes width start j)) many
    ∙ ap (numbers_before value) (deltas-add least bytes width start m 8 place there) ∙ before-append value first (packed_deltas least bytes width place 8))

pub all_written : (value least : ℤ) (bytes : List ℕ) (out : List ℤ) (width start i count : ℕ) → i ≡ count → length out ≡ count → take i out ≡ numbers_before value (packed_deltas least bytes width start i)
    → out ≡ numbers_before value (packed_deltas least bytes width start count)
all_written value least bytes out width start i count end long done =
    sym (take_all count out (omega arith)) ∙ ap (λ k. take k out) (sym end) ∙ done ∙ ap (λ k. numbers_before value (packed_deltas least bytes width start k)) end
