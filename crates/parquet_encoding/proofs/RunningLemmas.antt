-- Running sums, and what is left of them.
use Rattle.std.proofs.Common.{◌≡◌, ℕ, zero, suc, ◌+◌, ◌<◌, ◌≤◌, List, [], ◌∷◌, ◌++◌, length, take, drop, set, Option, Some, None, refl, sym, ap, ◌∙◌, arith, append_assoc, get_or, ℤ, pos, ◌+ℤ◌}
use Rattle.std.specs.Prelude.{IsSome, IfSome, unwrap_or, slice_get, option_map}
use Rattle.std.specs.Int.{w64, int_wrap}
use Rattle.std.proofs.lemmas.List.{drop_all, drop_more, take_all, append-nil, set_at}
use Rattle.parquet_encoding.specs.DeltaBinary.{running_sums}
use Rattle.parquet_encoding.specs.Sums.{number_behind, numbers_before}
use Rattle.parquet_encoding.specs.DeltaLeft.{numbers_left}
use Rattle.parquet_encoding.proofs.SumLemmas.{length-before}

running_is : (value : ℤ) (deltas : List ℤ) → running_sums value deltas ≡ numbers_before value deltas ++ number_behind value deltas ∷ []
unfolding number_behind numbers_before
running_is value [] = refl
running_is value (delta ∷ deltas) = ap (λ rest. value ∷ rest) (running_is (int_wrap w64 (value +ℤ delta)) deltas)

pub length-running : (value : ℤ) (deltas : List ℤ) → length (running_sums value deltas) ≡ length deltas + 1
length-running value [] = refl
length-running value (delta ∷ deltas) = ap suc (length-running (int_wrap w64 (value +ℤ delta)) deltas) ∙ omega arith

-- behind some deltas
drop-running : (n : ℕ) (value : ℤ) (deltas : List ℤ) → n ≤ length deltas → drop n (running_sums value deltas) ≡ running_sums (number_behind value (take n deltas)) (drop n deltas)
unfolding number_behind
drop-running zero value deltas few = refl
drop-running (suc n) value [] few = absurd (omega arith)
drop-running (suc n) value (delta ∷ deltas) few = drop-running n (int_wrap w64 (value +ℤ delta)) deltas (omega arith)

-- up to some deltas
take-running : (n : ℕ) (value : ℤ) (deltas : List ℤ) → n ≤ length deltas → take n (running_sums value deltas) ≡ numbers_before value (take n deltas)
unfolding numbers_before
take-running zero value deltas few = refl
take-running (suc n) value [] few = absurd (omega arith)
take-running (suc n) value (delta ∷ deltas) few = ap (λ rest. value ∷ rest) (take-running n (int_wrap w64 (value +ℤ delta)) deltas (omega arith))

-- ---- what is left

-- the number behind some deltas, and what the others make of it
pub behind_left : (value behind : ℤ) (deltas : List ℤ) (left : Option (List ℤ)) (n : ℕ) → n ≤ length deltas → behind ≡ number_behind value (take n deltas) → left ≡ Some (drop n deltas)
    → option_map (running_sums behind) left ≡ Some (drop n (running_sums value deltas))
behind_left value behind deltas left n few is e =
    ap (option_map (running_sums behind)) e ∙ ap (λ v. Some (running_sums v (drop n deltas))) is ∙ ap Some (sym (drop-running n value deltas few))

-- all are passed over
pub none_left : (value : ℤ) (deltas : List ℤ) (n : ℕ) → length deltas < n → [] ≡ drop n (running_sums value deltas)
none_left value deltas n many = sym (drop_all n (running_sums value deltas) (omega (arith, length-running value deltas)))

-- ---- what is written

-- where there is room for fewer than all
pub fewer_written : (value : ℤ) (deltas out new : List ℤ) → length out ≤ length deltas → new ≡ numbers_before value (take (length out) deltas)
    → new ≡ take (length out) (running_sums value deltas) ++ drop (length out) out
fewer_written value deltas out new few is =
    let rest : drop (length out) out ≡ [] = drop_all (length out) out (omega arith) in
    is ∙ sym (take-running (length out) value deltas few) ∙ sym (append-nil (take (length out) (running_sums value deltas)))
    ∙ ap (λ (more : List ℤ). take (length out) (running_sums value deltas) ++ more) (sym rest)

-- where there is room for all
pub all_written : (value last : ℤ) (deltas out part : List ℤ) (n many : ℕ) → n ≡ length deltas → n < length out → many ≡ n → part ≡ numbers_before value (take many deltas) → last ≡ number_behind value (take many deltas)
    → set (part ++ drop n out) n last ≡ take (n + 1) (running_sums value deltas) ++ drop (n + 1) out
all_written value last deltas out part n many is room same is-part is-last =
    let all : take many deltas ≡ deltas = take_all many deltas (omega arith) in
    let own : part ≡ numbers_before value deltas = is-part ∙ ap (numbers_before value) all in
    let behind : last ≡ number_behind value deltas = is-last ∙ ap (number_behind value) all in
    let long : length part ≡ n = ap length own ∙ length-before value deltas ∙ sym is in
    let here = get_or out n (pos 0) in
    let split : drop n out ≡ here ∷ drop (n + 1) out = drop_more out n (pos 0) room in
    let whole : take (n + 1) (running_sums value deltas) ≡ part ++ last ∷ [] =
    take_all (n + 1) (running_sums value deltas) (omega (arith, length-running value deltas)) ∙ running_is value deltas
    ∙ ap (λ front. front ++ number_behind value deltas ∷ []) (sym own) ∙ ap (λ v. part ++ v ∷ []) (sym behind) in
    ap (λ rest. set (part ++ rest) n last) split ∙ set_at part here (drop (n + 1) out) last n long
    ∙ sym (append_assoc part (last ∷ []) (drop (n + 1) out)) ∙ ap (λ front. front ++ drop (n + 1) out) (sym whole)

-- ---- at a decoder

-- the number at the front
pub front_is : (stored : Option ℤ) (value same : ℤ) (left : Option (List ℤ)) → stored ≡ Some value → same ≡ value → IsSome (numbers_left stored left) → Some same ≡ slice_get (unwrap_or (numbers_left stored left) []) 0
front_is stored value same left e is h = ap Some is ∙ front left (rw e at h) ∙ ap (λ s. slice_get (unwrap_or (numbers_left s left) []) 0) (sym e)
  where
    front : (o : Option (List ℤ)) → IsSome (option_map (running_sums value) o) → Some value ≡ slice_get (unwrap_or (option_map (running_sums value) o) []) 0
    front None h = absurd cc
    front (Some []) h = refl
    front (Some (delta ∷ deltas)) h = refl

-- the deltas are there where a number is
pub has_deltas : (stored : Option ℤ) (value : ℤ) (left : Option (List ℤ)) → stored ≡ Some value → IsSome (numbers_left stored left) → IsSome left
has_deltas stored value left e h = there left (rw e at h) where
  there : (o : Option (List ℤ)) → IsSome (option_map (running_sums value) o) → IsSome o
  there None h = absurd cc
  there (Some deltas) h = refl

-- what is left, by the number at the front and the deltas
pub numbers_are : (stored : Option ℤ) (value : ℤ) (left : Option (List ℤ)) → stored ≡ Some value → IsSome (numbers_left stored left) → running_sums value (unwrap_or left []) ≡ unwrap_or (numbers_left stored left) []
numbers_are stored value left e h = there left (rw e at h) ∙ ap (λ s. unwrap_or (numbers_left s left) []) (sym e) where
  there : (o : Option (List ℤ)) → IsSome (option_map (running_sums value) o) → running_sums value (unwrap_or o []) ≡ unwrap_or (option_map (running_sums value) o) []
  there None h = absurd cc
  there (Some deltas) h = refl

-- nothing is left
pub numbers_none : (stored : Option ℤ) (left : Option (List ℤ)) → stored ≡ None → numbers_left stored left ≡ Some []
numbers_none stored left e = ap (λ s. numbers_left s left) e

pub length-numbers : (stored : Option ℤ) (value : ℤ) (left : Option (List ℤ)) (count : ℕ) → stored ≡ Some value → IfSome left (λ deltas. count ≡ length deltas) → IfSome (numbers_left stored left) (λ values. count + 1 ≡ length values)
length-numbers stored value left count e long = rw e (counted left long) where
  counted : (o : Option (List ℤ)) → IfSome o (λ deltas. count ≡ length deltas) → IfSome (option_map (running_sums value) o) (λ values. count + 1 ≡ length values)
  counted None long = tt
  counted (Some deltas) long = omega (arith, length-running value deltas)

pub none_counted : (stored : Option ℤ) (left : Option (List ℤ)) → stored ≡ None → IfSome (numbers_left stored left) (λ values. 0 ≡ length values)
none_counted stored left e = rw e refl

pub none_dropped : (stored : Option ℤ) (left : Option (List ℤ)) (n : ℕ) → stored ≡ None → numbers_left stored left ≡ Some (drop n (unwrap_or (numbers_left stored left) []))
none_dropped stored left n e = rw e (ap Some (sym (drop_all n [] (omega arith))))
