-- Filling a buffer from a source.
use Rattle.std.proofs.Common.{◌≡◌, ℕ, ◌+◌, ◌≤◌, List, ◌++◌, length, take, drop, Option, Some, None, sym, ap, subst, ◌∙◌, arith, take-add}
use Rattle.std.specs.Prelude.{IfSome}
use Rattle.std.proofs.lemmas.List.{drop-drop}

-- no call of the source failed, it tells the same, and the buffer begins with the first bytes of the part
pub record IsFilling {S K : Type 0} (told : S → Option (List ℕ)) (faults taken : S → ℕ) (kept : S → K) (first : S) (place : ℕ) (start : List ℕ) (now : S) (filled : ℕ) (out : List ℕ) : Type 0 where
  pub same : told now ≡ told first
  pub kept_so : kept now ≡ kept first
  pub quiet : faults now ≡ faults first
  pub taken_so : taken now ≤ taken first + filled
  pub len : length out ≡ length start
  pub within : filled ≤ length out
  pub front : IfSome (told first) (λ file. take filled out ≡ take filled (drop place file))

pub front_grows : (told : Option (List ℕ)) (place filled n : ℕ) (old new : List ℕ) → IfSome told (λ file. take filled old ≡ take filled (drop place file)) → take filled new ≡ take filled old →
    IfSome told (λ file. take n (drop filled new) ≡ take n (drop (place + filled) file)) → IfSome told (λ file. take (filled + n) new ≡ take (filled + n) (drop place file))
front_grows None place filled n old new h before behind = tt
front_grows (Some file) place filled n old new h before behind =
    take-add filled n new ∙ ap (λ (xs : List ℕ). xs ++ take n (drop filled new)) (before ∙ h)
    ∙ ap (λ (xs : List ℕ). take filled (drop place file) ++ xs) (behind ∙ ap (λ (xs : List ℕ). take n xs) (sym (drop-drop filled place file)))
    ∙ sym (take-add filled n (drop place file))

pub goes_on : {S K : Type 0} (told : S → Option (List ℕ)) (faults taken : S → ℕ) (kept : S → K) (first : S) (place : ℕ) (start : List ℕ) (now : S) (filled : ℕ) (out : List ℕ) (next : S) (n : ℕ) (new : List ℕ) →
    IsFilling told faults taken kept first place start now filled out → told next ≡ told now → kept next ≡ kept now → faults next ≡ faults now → taken next ≤ taken now + n → length new ≡ length out → filled + n ≤ length out →
    take filled new ≡ take filled out → IfSome (told now) (λ file. take n (drop filled new) ≡ take n (drop (place + filled) file)) →
    IsFilling told faults taken kept first place start next (filled + n) new
goes_on told faults taken kept first place start now filled out next n new f same keeps quiet t len room before behind =
    let so_far = f.taken_so in
    record {
      same = same ∙ f.same;
      kept_so = keeps ∙ f.kept_so;
      quiet = quiet ∙ f.quiet;
      taken_so = omega arith;
      len = len ∙ f.len;
      within = omega (arith, len);
      front = front_grows (told first) place filled n out new f.front before
          (subst (λ t. IfSome t (λ file. take n (drop filled new) ≡ take n (drop (place + filled) file))) f.same behind);
    }
