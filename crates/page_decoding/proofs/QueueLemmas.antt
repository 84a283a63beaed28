-- Queues of items, with one more at the end or one less at the front.
use Rattle.std.proofs.Common.{◌≡◌, ℕ, ◌-◌, ◌<◌, Bool, true, false, suc, List, [], ◌∷◌, ◌++◌, length, map, get_or, Option, Some, None, sym, ap, ◌∙◌, subst, arith, append_assoc, append-nil, zero, rules}
use Rattle.std.specs.Prelude.{not, IsTrue}
use Rattle.std.proofs.lemmas.List.{map-append}
use Rattle.std.specs.Prelude.{IfSome, IsSome}
use Rattle.std.specs.Option.{option_to_list}
use Rattle.page_decoding.specs.Queue.{joined, IsFull, FitsChunk, IsCut, AreFull, EndsOpen}

pub pushed-IsCut : {A : Type 0} (size : Option ℕ) (items : List (List A)) (item : List A) → AreFull size items → 0 < length item → FitsChunk size (length item) → IsCut size (items ++ item ∷ [])
pushed-IsCut size [] item full some fits = (some, fits)
pushed-IsCut size (first ∷ []) item full some fits = (full.0, full.1, (some, fits))
pushed-IsCut size (first ∷ next ∷ items) item full some fits = (full.0, full.1, pushed-IsCut size (next ∷ items) item full.2 some fits)

pub popped-AreFull : {A : Type 0} (size : Option ℕ) (items : List (List A)) (item : List A) → IsCut size (items ++ item ∷ []) → AreFull size items
popped-AreFull size [] item cut = tt
popped-AreFull size (first ∷ []) item cut = (cut.0, cut.1, tt)
popped-AreFull size (first ∷ next ∷ items) item cut = (cut.0, cut.1, popped-AreFull size (next ∷ items) item cut.2)

pub popped-fits : {A : Type 0} (size : Option ℕ) (items : List (List A)) (item : List A) → IsCut size (items ++ item ∷ []) → FitsChunk size (length item)
popped-fits size [] item cut = cut.1
popped-fits size (first ∷ []) item cut = cut.2.1
popped-fits size (first ∷ next ∷ items) item cut = popped-fits size (next ∷ items) item cut.2

pub popped-not_full : {A : Type 0} (size : Option ℕ) (items : List (List A)) (item : List A) → EndsOpen size (items ++ item ∷ []) → IsFull size (length item) → ⊥
popped-not_full size [] item ends full = ends full
popped-not_full size (first ∷ []) item ends full = ends full
popped-not_full size (first ∷ next ∷ items) item ends full = popped-not_full size (next ∷ items) item ends full

pub EndsOpen-last : {X A : Type 0} (shown : X → List A) (size : Option ℕ) (items : List X) (n : ℕ) (d : X) → length items ≡ suc n → (IsFull size (length (shown (get_or items n d))) → ⊥) → EndsOpen size (map shown items)
EndsOpen-last shown size [] n d long ends = cc
EndsOpen-last shown size (x ∷ []) zero d long ends = ends
EndsOpen-last shown size (x ∷ []) (suc n) d long ends = cc
EndsOpen-last shown size (x ∷ y ∷ items) zero d long ends = cc
EndsOpen-last shown size (x ∷ y ∷ items) (suc n) d long ends = let e : length (y ∷ items) ≡ suc n = cc in EndsOpen-last shown size (y ∷ items) n d e ends

pub AreFull-last : {X A : Type 0} (shown : X → List A) (size : Option ℕ) (items : List X) (n : ℕ) (d : X) → length items ≡ suc n → IsCut size (map shown items) → IsFull size (length (shown (get_or items n d))) → AreFull size (map shown items)
AreFull-last shown size [] n d long cut full = cc
AreFull-last shown size (x ∷ []) zero d long cut full = (cut.0, full, tt)
AreFull-last shown size (x ∷ []) (suc n) d long cut full = cc
AreFull-last shown size (x ∷ y ∷ items) zero d long cut full = cc
AreFull-last shown size (x ∷ y ∷ items) (suc n) d long cut full = let e : length (y ∷ items) ≡ suc n = cc in (cut.0, cut.1, AreFull-last shown size (y ∷ items) n d e cut.2 full)

pub joined-push : {A : Type 0} (items : List (List A)) (item : List A) → joined (items ++ item ∷ []) ≡ joined items ++ item
joined-push [] item = append-nil item
joined-push (first ∷ items) item = ap (λ rest. first ++ rest) (joined-push items item) ∙ sym (append_assoc first (joined items) item)

pub map-push : {X A : Type 0} (shown : X → List A) (items : List X) (x : X) → map shown (items ++ x ∷ []) ≡ map shown items ++ shown x ∷ []
map-push shown items x = map-append shown items (x ∷ [])

-- the last item of a queue is not full
pub EndsOpen-at : {X A : Type 0} (shown : X → List A) (size : Option ℕ) (items : List X) (at : ℕ) (x : X) → 0 < length items → at ≡ length items - 1 → x ≡ get_or items at x → (IsFull size (length (shown x)) → ⊥) → EndsOpen size (map shown items)
EndsOpen-at shown size items at x some last is ends =
    let e : length items ≡ suc at = omega arith in
    let P : _ → Type 0 = λ y. IsFull size (length (shown y)) → ⊥ in
    EndsOpen-last shown size items at x e (subst P is ends)

-- the last item of a queue is full
pub AreFull-at : {X A : Type 0} (shown : X → List A) (size : Option ℕ) (items : List X) (at : ℕ) (x : X) → 0 < length items → at ≡ length items - 1 → x ≡ get_or items at x → IsCut size (map shown items) → IsFull size (length (shown x)) → AreFull size (map shown items)
AreFull-at shown size items at x some last is cut full =
    let e : length items ≡ suc at = omega arith in
    let P : _ → Type 0 = λ y. IsFull size (length (shown y)) in
    AreFull-last shown size items at x e cut (subst P is full)

pub EndsOpen-some : {X A : Type 0} (shown : X → List A) (size : Option ℕ) (items : List X) → EndsOpen size (map shown items) → 0 < length items
EndsOpen-some shown size [] ends = absurd ends
EndsOpen-some shown size (x ∷ items) ends = omega arith

-- what is left once the last item, which is not full, is taken out
pub record Popped {X A : Type 0} (shown : X → List A) (size : Option ℕ) (items : List X) (item : Option X) : Type 0 where
  pub full : AreFull size (map shown items)
  pub fits : IfSome item (λ x. FitsChunk size (length (shown x)))
  pub not_full : IfSome item (λ x. IsFull size (length (shown x)) → ⊥)

pub Popped-from : {X A : Type 0} (shown : X → List A) (size : Option ℕ) (old new : List X) (item : Option X) → old ≡ new ++ option_to_list item → IsSome item → IsCut size (map shown old) → EndsOpen size (map shown old) → Popped shown size new item
Popped-from shown size old new None e some cut ends = cc
Popped-from {A = A} shown size old new (Some x) e some cut ends =
    let split : map shown old ≡ map shown new ++ shown x ∷ [] = ap (map shown) e ∙ map-push shown new x in
    let C : List (List A) → Type 0 = λ items. IsCut size items in
    let O : List (List A) → Type 0 = λ items. EndsOpen size items in
    let cut' : IsCut size (map shown new ++ shown x ∷ []) = subst C split cut in
    let ends' : EndsOpen size (map shown new ++ shown x ∷ []) = subst O split ends in
    record {
      full = popped-AreFull size (map shown new) (shown x) cut';
      fits = popped-fits size (map shown new) (shown x) cut';
      not_full = popped-not_full size (map shown new) (shown x) ends';
    }

pub joined-popped : {X A : Type 0} (shown : X → List A) (old new : List X) (x : X) → old ≡ new ++ x ∷ [] → joined (map shown old) ≡ joined (map shown new) ++ shown x
joined-popped shown old new x e = ap (λ items. joined (map shown items)) e ∙ ap joined (map-push shown new x) ∙ joined-push (map shown new) (shown x)

pub full-from : (size : Option ℕ) (is_full : Bool) (rows n : ℕ) → not is_full ≡ false → (IsTrue is_full → IsFull size rows) → rows ≡ n → IsFull size n
full-from size true rows n negated full e = let P : ℕ → Type 0 = λ k. IsFull size k in subst P e (full (search rules))
full-from size false rows n negated full e = cc

pub not_full-from : (size : Option ℕ) (is_full : Bool) (rows n : ℕ) → not is_full ≡ true → (IsFull size rows → IsTrue is_full) → rows ≡ n → IsFull size n → ⊥
not_full-from size true rows n negated full e is = cc
not_full-from size false rows n negated full e is = let P : ℕ → Type 0 = λ k. IsFull size k in let t : false ≡ true = full (subst P (sym e) is) in cc
