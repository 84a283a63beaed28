-- Lists of values, an element at a time.
use Rattle.std.proofs.Common.{◌≡◌, ℕ, ◌+◌, ◌<◌, ◌≤◌, List, [], ◌∷◌, ◌++◌, refl, sym, ap, ◌∙◌, length, take, get_or, append_assoc, append-nil, map, subst}
use Rattle.std.specs.Prelude.{All}
use Rattle.std.proofs.lemmas.List.{take_all, take_more}
use Rattle.std.proofs.lemmas.List.Elements.{All-more}
use Rattle.parquet_thrift.specs.Values.{Value}
use Rattle.compact_write.specs.Fields.{values_of}
use Rattle.compact_write.specs.Written.{element_bytes, elements_bytes}
use Rattle.parquet_plain.proofs.SchemaLemmas.{values_of-map}

-- so many elements are written behind what was there
pub record AreWritten {A : Type 0} (value : A → Value) (start out : List ℕ) (xs : List A) (count : ℕ) : Type 0 where
  pub same : out ≡ start ++ elements_bytes (values_of value (take count xs))

elements-append : {A : Type 0} (value : A → Value) (xs ys : List A) → elements_bytes (values_of value (xs ++ ys)) ≡ elements_bytes (values_of value xs) ++ elements_bytes (values_of value ys)
unfolding values_of elements_bytes
elements-append value [] ys = refl
elements-append value (x ∷ xs) ys = ap (λ (bs : List ℕ). element_bytes (value x) ++ bs) (elements-append value xs ys) ∙ sym (append_assoc (element_bytes (value x)) (elements_bytes (values_of value xs)) (elements_bytes (values_of value ys)))

one_element : {A : Type 0} (value : A → Value) (x : A) → elements_bytes (values_of value (x ∷ [])) ≡ element_bytes (value x)
unfolding values_of elements_bytes
one_element value x = append-nil (element_bytes (value x))

-- nothing is written yet
pub none_written : {A : Type 0} (value : A → Value) (out : List ℕ) (xs : List A) → AreWritten value out out xs 0
unfolding values_of elements_bytes
none_written value out xs = record { same = sym (append-nil out) }

-- one more element is
pub one_written : {A : Type 0} (value : A → Value) (start out then : List ℕ) (xs : List A) (i : ℕ) (x : A) → i < length xs → x ≡ get_or xs i x → AreWritten value start out xs i →
    then ≡ out ++ element_bytes (value x) → AreWritten value start then xs (i + 1)
one_written {A = A} value start out then xs i x lt is before one =
    let grown : take (i + 1) xs ≡ take i xs ++ x ∷ [] = take_more xs i x lt ∙ ap (λ (y : A). take i xs ++ y ∷ []) (sym is) in
    record {
      same = one ∙ ap (λ (bs : List ℕ). bs ++ element_bytes (value x)) before.same ∙ append_assoc start (elements_bytes (values_of value (take i xs))) (element_bytes (value x))
          ∙ ap (λ (bs : List ℕ). start ++ bs) (ap (λ (bs : List ℕ). elements_bytes (values_of value (take i xs)) ++ bs) (sym (one_element value x)) ∙ sym (elements-append value (take i xs) (x ∷ []))
          ∙ ap (λ (ys : List A). elements_bytes (values_of value ys)) (sym grown));
    }

-- all are
pub all_written : {A : Type 0} (value : A → Value) (start out : List ℕ) (xs : List A) (i : ℕ) → length xs ≤ i → AreWritten value start out xs i → out ≡ start ++ elements_bytes (values_of value xs)
all_written {A = A} value start out xs i done is = is.same ∙ ap (λ (ys : List A). start ++ elements_bytes (values_of value ys)) (take_all i xs done)

pub all_written_of : {A B : Type 0} (value : B → Value) (f : A → B) (start out : List ℕ) (xs : List A) (i : ℕ) → length xs ≤ i → AreWritten (λ x. value (f x)) start out xs i → out ≡ start ++ elements_bytes (values_of value (map f xs))
all_written_of {A = A} value f start out xs i done is = all_written (λ (x : A). value (f x)) start out xs i done is ∙ ap (λ vs. start ++ elements_bytes vs) (sym (values_of-map value f xs))

-- ---- what each element has

-- one more has it
pub one_has : {A : Type 0} (Has : A → Type 0) (xs : List A) (i : ℕ) (x : A) → i < length xs → x ≡ get_or xs i x → All Has (take i xs) → Has x → All Has (take (i + 1) xs)
one_has Has xs i x lt is before own = All-more Has xs i x lt before (subst Has is own)

-- all have
pub all_have : {A : Type 0} (Has : A → Type 0) (xs : List A) (i : ℕ) → length xs ≤ i → All Has (take i xs) → All Has xs
all_have Has xs i done is = subst (All Has) (take_all i xs done) is
