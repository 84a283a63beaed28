-- Lists that are made an item at a time.
use Rattle.std.proofs.Common.{◌≡◌, ℕ, suc, ◌+◌, ◌-◌, ◌≤◌, ◌<◌, List, [], ◌∷◌, ◌++◌, Option, Some, None, refl, sym, ap, ◌∙◌, arith, length, take, drop, get_or, append_assoc, option_map}
use Rattle.std.proofs.lemmas.List.{append-nil, drop_more, take_all}
use Rattle.parquet_base.specs.Reading.{◌>>=◌}
use Rattle.parquet_meta.specs.Lists.{all_of}

-- what is there, and then the others
abbrev pub before : {B : Type 0} → List B → Option (List B) → Option (List B)
before {B = B} front others = option_map {T = List B} {U = List B} (λ behind. front ++ behind) others

-- one, and then the others
abbrev pub one_and : {B : Type 0} → Option B → Option (List B) → Option (List B)
one_and one others = one >>= λ first. others >>= λ behind. Some (first ∷ behind)

pub before_none : {B : Type 0} (others : Option (List B)) → before [] others ≡ others
before_none None = refl
before_none (Some behind) = refl

pub pushed : {B : Type 0} (items : List B) (y : B) (others : Option (List B)) → before items (one_and (Some y) others) ≡ before (items ++ y ∷ []) others
pushed items y None = refl
pushed {B = B} items y (Some behind) = ap (λ (l : List B). Some l) (sym (append_assoc items (y ∷ []) behind))

-- ---- what is made of each

all_of-next : {A B : Type 0} (value : A → Option B) (x : A) (rest : List A) → all_of value (x ∷ rest) ≡ one_and (value x) (all_of value rest)
unfolding all_of
all_of-next value x rest = refl

-- what is made so far, and what the rest makes, are made of all
pub record IsMaking {A B : Type 0} (value : A → Option B) (all rest : List A) (items : List B) : Type 0 where
  pub same : before items (all_of value rest) ≡ all_of value all

pub making-goes_on : {A B : Type 0} (value : A → Option B) (all rest others : List A) (x : A) (items : List B) (y : B) →
    IsMaking value all rest items → rest ≡ x ∷ others → value x ≡ Some y → IsMaking value all others (items ++ y ∷ [])
making-goes_on {B = B} value all rest others x items y making is one = record {
  same = sym (pushed items y (all_of value others)) ∙ ap (λ (o : Option B). before items (one_and o (all_of value others))) (sym one)
      ∙ ap (before items) (sym (ap (all_of value) is ∙ all_of-next value x others)) ∙ making.same;
}

pub making-fails : {A B : Type 0} (value : A → Option B) (all rest others : List A) (x : A) (items : List B) →
    IsMaking value all rest items → rest ≡ x ∷ others → value x ≡ None → all_of value all ≡ None
making-fails {B = B} value all rest others x items making is none =
    sym making.same ∙ ap (before items) (ap (all_of value) is ∙ all_of-next value x others) ∙ ap (λ (o : Option B). before items (one_and o (all_of value others))) none

pub making-ends : {A B : Type 0} (value : A → Option B) (all rest : List A) (items : List B) → IsMaking value all rest items → length rest ≡ 0 → all_of value all ≡ Some items
unfolding all_of
making-ends {B = B} value all [] items making none = sym making.same ∙ ap (λ (l : List B). Some l) (append-nil items)
making-ends value all (x ∷ others) items making none = absurd (omega (arith, none))

-- ---- an item, and those behind it

pub item_and_others : {A : Type 0} (xs : List A) (i : ℕ) (x : A) → i < length xs → x ≡ get_or xs i x → drop i xs ≡ x ∷ drop (i + 1) xs
item_and_others {A = A} xs i x lt e = drop_more xs i x lt ∙ ap (λ (y : A). y ∷ drop (i + 1) xs) (sym e)

-- the first of a slice, and the slice behind it
pub first-is : {A : Type 0} (xs : List A) (x : A) → 1 ≤ length xs → x ≡ get_or xs 0 x → xs ≡ x ∷ take (length xs - 1) (drop 1 xs)
first-is [] x le is = absurd (omega arith)
first-is {A = A} (first ∷ xs) x le is =
    let n : suc (length xs) - 1 ≡ length xs = omega arith in
    ap (λ (y : A). y ∷ xs) (sym is) ∙ ap (λ (ys : List A). x ∷ ys) (sym (ap (λ (k : ℕ). take k xs) n ∙ take_all (length xs) xs (omega arith)))

pub none-there : {A : Type 0} (xs : List A) → length xs < 1 → xs ≡ []
none-there [] lt = refl
none-there (x ∷ xs) lt = absurd (omega arith)
