-- Rows that are given, still to come, or refused.
use Rattle.std.proofs.Common.{◌≡◌, ℕ, ◌+◌, ◌-◌, ◌<◌, ◌≤◌, suc, zero, List, [], ◌∷◌, ◌++◌, length, take, drop, map, Option, Some, None, refl, sym, ap, ◌∙◌, subst, inl, inr, arith, append_assoc}
use Rattle.std.specs.Prelude.{min}
use Rattle.std.proofs.lemmas.List.{map-append, length-map, length-append, length-take, length-drop}
use Rattle.std.proofs.lemmas.List.Elements.{Contains-append_left, Contains-append_right}
use Rattle.std.proofs.lemmas.Grind.{common_steps}
use Rattle.columns_core.specs.Causes.{Cause, IsOneOf, cause_of}
use Rattle.columns_core.specs.declared.cell.Cell.{Cell}
use Rattle.columns_core.specs.declared.error.Error.{Error}
use Rattle.page_decoding.specs.Outcome.{Outcome, Given, Refused, IsCausedBy, causes_in}
use Rattle.page_decoding.specs.Queue.{IsCut, AreFull, FitsChunk}
use Rattle.page_decoding.proofs.QueueLemmas.{pushed-IsCut, map-push}

-- ---- causes

pub one_of-left : (first rest : List Cause) (o : Option Cause) → IsOneOf first o → IsOneOf (first ++ rest) o
one_of-left first rest None h = absurd h
one_of-left first rest (Some cause) h = Contains-append_left first rest cause h

pub one_of-right : (first rest : List Cause) (o : Option Cause) → IsOneOf rest o → IsOneOf (first ++ rest) o
one_of-right first rest None h = absurd h
one_of-right first rest (Some cause) h = Contains-append_right first rest cause h

pub causes_in-append : (xs ys : List Outcome) → causes_in (xs ++ ys) ≡ causes_in xs ++ causes_in ys
causes_in-append [] ys = refl
causes_in-append (Given cell ∷ xs) ys = causes_in-append xs ys
causes_in-append (Refused causes ∷ xs) ys = ap (λ rest. causes ++ rest) (causes_in-append xs ys) ∙ sym (append_assoc causes (causes_in xs) (causes_in ys))

pub caused-left : (xs ys : List Outcome) (error : Error) → IsCausedBy xs error → IsCausedBy (xs ++ ys) error
caused-left xs ys error (inl memory) = inl memory
caused-left xs ys error (inr wrong) = let P : List Cause → Type 0 = λ causes. IsOneOf causes (cause_of error) in inr (subst P (sym (causes_in-append xs ys)) (one_of-left (causes_in xs) (causes_in ys) (cause_of error) wrong))

pub caused-right : (xs ys : List Outcome) (error : Error) → IsCausedBy ys error → IsCausedBy (xs ++ ys) error
caused-right xs ys error (inl memory) = inl memory
caused-right xs ys error (inr wrong) = let P : List Cause → Type 0 = λ causes. IsOneOf causes (cause_of error) in inr (subst P (sym (causes_in-append xs ys)) (one_of-right (causes_in xs) (causes_in ys) (cause_of error) wrong))

-- ---- some of the rows

pub take-split : {A : Type 0} (k n : ℕ) (xs : List A) → k ≤ n → take n xs ≡ take k xs ++ take (n - k) (drop k xs)
take-split zero n xs h = let e : n - 0 ≡ n = omega arith in rw e refl
take-split (suc k) zero xs h = absurd (omega arith)
take-split {A = A} (suc k) (suc n) [] h = grind (arith, common_steps)
take-split (suc k) (suc n) (x ∷ xs) h =
    let e : suc n - suc k ≡ n - k = omega arith in
    let le : k ≤ n = omega arith in
    rw e (ap (λ ys. x ∷ ys) (take-split k n xs le))

pub caused-take : (k n : ℕ) (xs : List Outcome) (error : Error) → k ≤ n → IsCausedBy (take k xs) error → IsCausedBy (take n xs) error
caused-take k n xs error h cause = let P : List Outcome → Type 0 = λ rows. IsCausedBy rows error in subst P (sym (take-split k n xs h)) (caused-left (take k xs) (take (n - k) (drop k xs)) error cause)

-- An item that has more rows stands again in its queue.
pub added-rows : (old items item more : List Cell) (taken : List Outcome) → old ≡ items ++ item → map Given more ≡ map Given item ++ taken → map Given (items ++ more) ≡ map Given old ++ taken
added-rows old items item more taken split e =
    let a : map Given (items ++ more) ≡ map Given items ++ (map Given item ++ taken) = map-append Given items more ∙ ap (λ ys. map Given items ++ ys) e in
    let b : map Given old ++ taken ≡ (map Given items ++ map Given item) ++ taken = ap (λ ys. ys ++ taken) (ap (map Given) split ∙ map-append Given items item) in
    a ∙ sym (append_assoc (map Given items) (map Given item) taken) ∙ sym b

pub length-given : (item more : List Cell) (taken : List Outcome) → map Given more ≡ map Given item ++ taken → length more ≡ length item + length taken
length-given item more taken e = omega (arith, simp (length-map, length-append, length-map) at (ap length e))

pub added-IsCut : {X : Type 0} (shown : X → List Cell) (size : Option ℕ) (items new : List X) (more : X) (item : List Cell) (k : ℕ) (xs : List Outcome) → new ≡ items ++ more ∷ [] → AreFull size (map shown items) → map Given (shown more) ≡ map Given item ++ take k xs → k ≤ length xs → 0 < k → FitsChunk size (length item + k) → IsCut size (map shown new)
added-IsCut shown size items new more item k xs is full e within some fits =
    let long : length (shown more) ≡ length item + k = length-given item (shown more) (take k xs) e ∙ ap (λ n. length item + n) (length-take k xs ∙ omega arith) in
    let F : ℕ → Type 0 = λ n. FitsChunk size n in
    let C : List (List Cell) → Type 0 = λ items. IsCut size items in
    subst C (sym (ap (map shown) is ∙ map-push shown items more)) (pushed-IsCut size (map shown items) (shown more) full (omega (arith, long)) (subst F (sym long) fits))

-- one turn of the loop that appends a page's rows
pub record Turn (wanted remaining k : ℕ) (decoded decoded' : List Cell) (xs left : List Outcome) : Type 0 where
  pub wanted_now : wanted - k ≡ min (length left) (remaining - k)
  pub rows : map Given decoded' ++ take (remaining - k) left ≡ map Given decoded ++ take remaining xs
  pub remaining_now : (remaining - k) - length left ≡ remaining - length xs

pub Turn-from : (wanted remaining k : ℕ) (decoded decoded' : List Cell) (xs left : List Outcome) → wanted ≡ min (length xs) remaining → k ≤ wanted → map Given decoded' ≡ map Given decoded ++ take k xs → left ≡ drop k xs → Turn wanted remaining k decoded decoded' xs left
Turn-from wanted remaining k decoded decoded' xs left w le e is =
    let P : List Outcome → Type 0 = λ rest. Turn wanted remaining k decoded decoded' xs rest in
    let within : k ≤ remaining = omega arith in
    let long : length (drop k xs) ≡ length xs - k = length-drop k xs in
    subst P (sym is) (record {
      wanted_now = omega (arith, long);
      rows = ap (λ ys. ys ++ take (remaining - k) (drop k xs)) e ∙ append_assoc (map Given decoded) (take k xs) (take (remaining - k) (drop k xs)) ∙ ap (λ ys. map Given decoded ++ ys) (sym (take-split k remaining xs within));
      remaining_now = omega (arith, long);
    })
