-- Passing over elements that hold no other values.
use Rattle.std.proofs.Common.{◌≡◌, ℕ, suc, ◌+◌, ◌≤◌, ◌<◌, ◌-◌, List, Option, Some, None, refl, sym, ap, ◌∙◌, arith}
use Rattle.parquet_base.specs.Reading.{◌>>=◌, IsEnd, after}
use Rattle.parquet_thrift.specs.Values.{Value, Values, in_list, elements, value_within}
use Rattle.parquet_thrift.specs.Skipping.{after_part}
use Rattle.parquet_thrift.specs.declared.skip.Part.TheVariants as parts
use Rattle.parquet_base.proofs.EndLemmas.{IsEnd_all, IsEnd_through}

-- what is passed over, and what is left, are all elements
pub record IsPassing (kind count : ℕ) (bytes : List ℕ) (passed : ℕ) (rest : List ℕ) : Type 0 where
  pub few : passed ≤ count
  pub same : after_part 31 (parts.Elements kind (count - passed)) rest ≡ after_part 31 (parts.Elements kind count) bytes
  pub ends : IsEnd bytes rest

pub begins : (kind count : ℕ) (bytes : List ℕ) → IsPassing kind count bytes 0 bytes
begins kind count bytes =
    let k : count - 0 ≡ count = omega arith in
    record { few = omega arith; same = ap (λ (n : ℕ). after_part 31 (parts.Elements kind n) bytes) k; ends = IsEnd_all bytes }

-- the bytes after the first element, and then those after the others
first : (kind count : ℕ) (bytes : List ℕ) → after_part 31 (parts.Elements kind (suc count)) bytes ≡ (after (value_within 31 in_list kind bytes) >>= after_part 31 (parts.Elements kind count))
unfolding elements
first kind count bytes = through (value_within 31 in_list kind bytes)
  where
    others : (v : Value) (o : Option (Values × List ℕ)) → after (o >>= λ vs. Some (Values.values v vs.0, vs.1)) ≡ after o
    others v None = refl
    others v (Some vs) = refl

    through : (o : Option (Value × List ℕ)) →
        after (o >>= λ v. elements (value_within 31 in_list kind) count v.1 >>= λ vs. Some (Values.values v.0 vs.0, vs.1))
        ≡ (after o >>= after_part 31 (parts.Elements kind count))
    through None = refl
    through (Some v) = others v.0 (elements (value_within 31 in_list kind) count v.1)

next : (kind count : ℕ) (bytes : List ℕ) (passed : ℕ) (rest : List ℕ) → IsPassing kind count bytes passed rest → passed < count →
    (after (value_within 31 in_list kind rest) >>= after_part 31 (parts.Elements kind (count - (passed + 1)))) ≡ after_part 31 (parts.Elements kind count) bytes
next kind count bytes passed rest h lt =
    let k : count - passed ≡ suc (count - (passed + 1)) = omega arith in
    sym (ap (λ (n : ℕ). after_part 31 (parts.Elements kind n) rest) k ∙ first kind (count - (passed + 1)) rest) ∙ h.same

pub goes_on : (kind count : ℕ) (bytes : List ℕ) (passed : ℕ) (rest further : List ℕ) → IsPassing kind count bytes passed rest → passed < count →
    after (value_within 31 in_list kind rest) ≡ Some further → IsEnd rest further → IsPassing kind count bytes (passed + 1) further
goes_on kind count bytes passed rest further h lt one ends = record {
  few = omega arith;
  same = sym (ap (λ (o : Option (List ℕ)). o >>= after_part 31 (parts.Elements kind (count - (passed + 1)))) one) ∙ next kind count bytes passed rest h lt;
  ends = IsEnd_through bytes rest further h.ends ends;
}

pub fails : (kind count : ℕ) (bytes : List ℕ) (passed : ℕ) (rest : List ℕ) → IsPassing kind count bytes passed rest → passed < count →
    after (value_within 31 in_list kind rest) ≡ None → after_part 31 (parts.Elements kind count) bytes ≡ None
fails kind count bytes passed rest h lt none =
    sym (next kind count bytes passed rest h lt) ∙ ap (λ (o : Option (List ℕ)). o >>= after_part 31 (parts.Elements kind (count - (passed + 1)))) none

pub ended : (kind count : ℕ) (bytes : List ℕ) (passed : ℕ) (rest : List ℕ) → IsPassing kind count bytes passed rest → count ≤ passed → after_part 31 (parts.Elements kind count) bytes ≡ Some rest
unfolding elements
ended kind count bytes passed rest h le =
    let k : count - passed ≡ 0 = omega arith in
    sym h.same ∙ ap (λ (n : ℕ). after_part 31 (parts.Elements kind n) rest) k
