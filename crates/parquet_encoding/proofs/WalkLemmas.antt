-- Lists that are given a part at a time.
use Rattle.std.proofs.Common.{◌≡◌, ℕ, ◌+◌, ◌-◌, ◌≤◌, min, List, [], ◌++◌, length, take, drop, Option, Some, None, refl, sym, ap, ◌∙◌, arith, length-append}
use Rattle.std.proofs.Math.Seq.{take-add, take-append_seam, drop-append_seam}
use Rattle.std.proofs.lemmas.List.{length-drop, length-take, drop-drop, drop_min, take_all, append_assoc}
use Rattle.std.specs.Prelude.{IsSome, IfSome, unwrap_or}
use Rattle.std.proofs.lemmas.Slice.{take-put_mid}
use borrow.Rule.Slice.PartMut.{put_mid}

-- ---- a list is filled from its front on

pub length-put_mid : {A : Type 0} (a k : ℕ) (xs ys : List A) → length (put_mid a k xs ys) ≡ min a (length xs) + (length ys + (length xs - a - k))
length-put_mid a k xs ys = simp (length-append, length-take, length-drop) refl

-- a list that is filled up to a place is filled further by a part
pub fills_more : {A : Type 0} (values first now left part before : List A) (done count k : ℕ) → now ≡ take done values ++ drop done first → done ≤ length values → done ≤ length first → left ≡ drop done values
    → before ≡ drop done now → part ≡ take count left ++ drop count before → count ≤ length left → count ≤ length before → k ≡ length now - done
    → put_mid done k now part ≡ take (done + count) values ++ drop (done + count) first
fills_more values first now left part before done count k is few room is-left is-before is-part enough fits size =
    let head = take done values in
    let tail = drop done first in
    let long : length head ≡ done = length-take done values ∙ omega arith in
    let front : take done now ≡ head = ap (take done) is ∙ ap (λ n. take n (head ++ tail)) (sym long) ∙ take-append_seam head tail in
    let back : drop done now ≡ tail = ap (drop done) is ∙ ap (λ n. drop n (head ++ tail)) (sym long) ∙ drop-append_seam head tail in
    let rest : drop count before ≡ drop (done + count) first = ap (drop count) (is-before ∙ back) ∙ drop-drop count done first in
    let whole : part ≡ take count (drop done values) ++ drop (done + count) first =
    is-part ∙ ap (λ xs. take count xs ++ drop count before) is-left ∙ ap (λ ys. take count (drop done values) ++ ys) rest in
    let wide : done ≤ length now = omega (arith, ap length is, length-append head tail) in
    let same : length part ≡ length now - done =
    omega (arith, ap length is-part, length-append (take count left) (drop count before), length-take count left, length-drop count before, ap length is-before, length-drop done now) in
    let n = done + length part in
    let all : length (put_mid done k now part) ≤ n = omega (arith, length-put_mid done k now part) in
    sym (take_all n (put_mid done k now part) all)
    ∙ take-put_mid done k now part n refl wide
    ∙ ap (λ xs. xs ++ part) front ∙ ap (λ ys. head ++ ys) whole
    ∙ sym (append_assoc head (take count (drop done values)) (drop (done + count) first))
    ∙ ap (λ xs. xs ++ drop (done + count) first) (sym (take-add done count values))

-- ---- a list is passed over

-- one more is passed over
pub passes_one : {A : Type 0} (before after : Option (List A)) (values : List A) (i : ℕ) → before ≡ Some (drop i values) → after ≡ Some (drop 1 (unwrap_or before [])) → after ≡ Some (drop (i + 1) values)
passes_one before after values i e step = step ∙ ap (λ o. Some (drop 1 (unwrap_or o []))) e ∙ ap Some (drop-drop 1 i values)

-- more than there are is all that there are
pub passes_most : {A : Type 0} (left : Option (List A)) (values : List A) (i n count : ℕ) → left ≡ Some (drop i values) → i ≡ min n count → count ≡ length values → left ≡ Some (drop n values)
passes_most left values i n count e is long = e ∙ ap Some (ap (λ k. drop k values) (is ∙ ap (min n) long) ∙ drop_min n values)

pub of_some : {A : Type 0} (o : Option (List A)) (P : List A → Type 0) → IsSome o → IfSome o P → P (unwrap_or o [])
of_some None P h p = absurd cc
of_some (Some values) P h p = p

-- nothing is passed over yet
pub passes_none : {A : Type 0} (o : Option (List A)) → IsSome o → o ≡ Some (unwrap_or o [])
passes_none None h = absurd cc
passes_none (Some values) h = refl

-- some more are passed over
pub passes_more : {A : Type 0} (before after : Option (List A)) (values : List A) (done count : ℕ) → before ≡ Some (drop done values) → after ≡ Some (drop count (unwrap_or before [])) → after ≡ Some (drop (done + count) values)
passes_more before after values done count e step = step ∙ ap (λ o. Some (drop count (unwrap_or o []))) e ∙ ap Some (drop-drop count done values)
