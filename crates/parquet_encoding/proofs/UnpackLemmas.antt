-- Numbers side by side, unpacked into a list from its front on.
use Rattle.std.proofs.Common.{◌≡◌, ℕ, ◌+◌, ◌*◌, ◌<◌, ◌≤◌, List, [], ◌∷◌, ◌++◌, length, take, set, refl, sym, ap, ◌∙◌, arith}
use Rattle.std.proofs.lemmas.List.{take_more_set, take_all}
use Rattle.std.proofs.lemmas.Slice.{take-put_mid}
use borrow.Rule.Slice.PartMut.{put_mid}
use Rattle.parquet_encoding.specs.Bits.{bits_at, packed}
use Rattle.parquet_encoding.proofs.BitsLemmas.{packed-add, length-packed}

-- one more number
packed_more : (bytes : List ℕ) (width place count : ℕ) → packed bytes width place (count + 1) ≡ packed bytes width place count ++ bits_at bytes (place + count * width) width ∷ []
unfolding packed
packed_more bytes width place count = packed-add bytes width place count 1

-- none yet
pub none_unpacked : (bytes out : List ℕ) (width place n : ℕ) → n ≡ 0 → take n out ≡ packed bytes width place n
unfolding packed
none_unpacked bytes out width place n none = rw none refl

pub one_unpacked : (bytes out : List ℕ) (width start at i value : ℕ) → i < length out → take i out ≡ packed bytes width start i → at ≡ start + i * width → value ≡ bits_at bytes at width
    → take (i + 1) (set out i value) ≡ packed bytes width start (i + 1)
one_unpacked bytes out width start at i value inside done there is =
    take_more_set out i value inside
    ∙ ap (λ front. front ++ value ∷ []) done
    ∙ ap (λ last. packed bytes width start i ++ last ∷ []) (is ∙ ap (λ p. bits_at bytes p width) there)
    ∙ sym (packed_more bytes width start i)

pub eight_unpacked : (bytes out eight : List ℕ) (width start at group k : ℕ) → 8 * group ≤ length out → take (8 * group) out ≡ packed bytes width start (8 * group)
    → at ≡ start + 8 * group * width → eight ≡ packed bytes width at 8 → take (8 * (group + 1)) (put_mid (8 * group) k out eight) ≡ packed bytes width start (8 * (group + 1))
eight_unpacked bytes out eight width start at group k inside done there is =
    let long : length eight ≡ 8 = ap length is ∙ length-packed bytes width at 8 in
    let whole : 8 * (group + 1) ≡ 8 * group + 8 = omega arith in
    take-put_mid (8 * group) k out eight (8 * (group + 1)) (omega arith) inside
    ∙ ap (λ front. front ++ eight) done
    ∙ ap (λ last. packed bytes width start (8 * group) ++ last) (is ∙ ap (λ p. packed bytes width p 8) there)
    ∙ sym (packed-add bytes width start (8 * group) 8)
    ∙ ap (packed bytes width start) (sym whole)

pub all_unpacked : (bytes out : List ℕ) (width start i n : ℕ) → take i out ≡ packed bytes width start i → length out ≡ n → i ≡ n → out ≡ packed bytes width start n
all_unpacked bytes out width start i n done long end =
    sym (take_all n out (omega arith)) ∙ ap (λ k. take k out) (sym end) ∙ done ∙ ap (packed bytes width start) end
