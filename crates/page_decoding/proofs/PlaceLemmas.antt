-- Runs of all rows of a page, as places that are of one kind.
use Rattle.std.proofs.Common.{◌≡◌, ℕ, zero, suc, ◌<◌, ◌≤◌, Bool, true, false, List, [], ◌∷◌, ◌++◌, length, map, Some, None, refl, sym, ap, ◌∙◌, inl, inr, arith}
use Rattle.std.specs.Prelude.{◌⊎◌, replicate}
use Rattle.std.proofs.lemmas.List.{length-replicate}
use Rattle.columns_core.proofs.BitLemmas.{length-low_bits}
use Rattle.parquet_page.specs.Plan.{Keep, KeepNull, Pass, Step, plan}
use Rattle.parquet_page.specs.Runs.{GivesRun}
use Rattle.parquet_page.specs.Stretches.{BeginsOtherwise, BeginsWith}
use Rattle.parquet_page.specs.ValidityLeft.{IsLongest, IsLongestPart, optional_steps}
use Rattle.parquet_page.specs.ValidityParts.{GivesPart, part_rows, part_steps, word_places}
use Rattle.parquet_page.specs.declared.run.Run.{Run}
use Rattle.parquet_page.specs.Content.{DataContent}
use Rattle.parquet_page.specs.declared.validity.OptionalPageValidity.{OptionalPageValidity}
use Rattle.parquet_page.specs.declared.run.Run.TheVariants.{Present, Null, Passed}
use Rattle.parquet_page.specs.declared.validity_part.ValidityPart.{ValidityPart}
use Rattle.parquet_page.specs.declared.validity_part.ValidityPart.TheVariants.{Run as OfRun, Word as OfWord}
use Rattle.parquet_page.proofs.PlanLemmas.{kept_as}
use Rattle.parquet_page.proofs.ValidityLemmas.{length-all, plan-all}
use Rattle.page_decoding.specs.FilteredLeft.{IsPartOf, IsRunOf, IsWholePart, optional_places}

same-kept : (x y : Bool) → kept_as x ≡ kept_as y → x ≡ y
same-kept true true e = refl
same-kept false false e = refl
same-kept true false e = absurd cc
same-kept false true e = absurd cc

first-is : (x y : Step) (xs ys : List Step) → x ∷ xs ≡ y ∷ ys → x ≡ y
first-is x y xs ys e = cc

rest-is : (x y : Step) (xs ys : List Step) → x ∷ xs ≡ y ∷ ys → xs ≡ ys
rest-is x y xs ys e = cc

not-empty : (x : Step) (xs : List Step) → [] ≡ x ∷ xs → ⊥
not-empty x xs e = absurd cc

same-places : (xs ys : List Bool) → map kept_as xs ≡ map kept_as ys → xs ≡ ys
same-places [] [] e = refl
same-places [] (y ∷ ys) e = absurd (not-empty (kept_as y) (map kept_as ys) e)
same-places (x ∷ xs) [] e = absurd (not-empty (kept_as x) (map kept_as xs) (sym e))
same-places (x ∷ xs) (y ∷ ys) e =
    ap (λ z. z ∷ xs) (same-kept x y (first-is (kept_as x) (kept_as y) (map kept_as xs) (map kept_as ys) e)) ∙ ap (λ zs. y ∷ zs) (same-places xs ys (rest-is (kept_as x) (kept_as y) (map kept_as xs) (map kept_as ys) e))

copies : (kind : Bool) (n : ℕ) (new : List Bool) → map kept_as (replicate n kind ++ new) ≡ replicate n (kept_as kind) ++ map kept_as new
copies kind zero new = refl
copies kind (suc n) new = ap (λ steps. kept_as kind ∷ steps) (copies kind n new)

split-places : (kind : Bool) (n : ℕ) (old new : List Bool) → plan None old ≡ replicate n (kept_as kind) ++ plan None new → old ≡ replicate n kind ++ new
split-places kind n old new e =
    same-places old (replicate n kind ++ new) (sym (plan-all 0 old) ∙ e ∙ ap (λ steps. replicate n (kept_as kind) ++ steps) (plan-all 0 new) ∙ sym (copies kind n new))

other-places : (kind : Bool) (places : List Bool) → BeginsOtherwise (kept_as kind) (plan None places) → BeginsOtherwise kind places
other-places kind [] other = tt
other-places kind (true ∷ places) other = λ e. other (ap kept_as e)
other-places kind (false ∷ places) other = λ e. other (ap kept_as e)

kept-begins : (limit n : ℕ) (kind : Bool) (old new : List Bool) → plan None old ≡ replicate n (kept_as kind) ++ plan None new → n ≤ limit → (n ≡ limit) ⊎ BeginsOtherwise (kept_as kind) (plan None new) → BeginsWith limit kind n old new
kept-begins limit n kind old new e most longest = record {
  split = split-places kind n old new e;
  most = most;
  longest = elim longest as (λ _. (n ≡ limit) ⊎ BeginsOtherwise kind new) [ inl all ↦ inl all | inr other ↦ inr (other-places kind new other) ];
}

-- nothing is passed over in a walk over all rows
none-passed : (n : ℕ) (old : List Bool) (rest : List Step) → 0 < n → map kept_as old ≡ replicate n Pass ++ rest → ⊥
none-passed zero old rest some e = absurd (omega arith)
none-passed (suc n) [] rest some e = not-empty Pass (replicate n Pass ++ rest) e
none-passed (suc n) (true ∷ old) rest some e = kept_or_passed (first-is Keep Pass (map kept_as old) (replicate n Pass ++ rest) e) where
  kept_or_passed : Keep ≡ Pass → ⊥
  kept_or_passed e = absurd cc
none-passed (suc n) (false ∷ old) rest some e = kept_or_passed (first-is KeepNull Pass (map kept_as old) (replicate n Pass ++ rest) e) where
  kept_or_passed : KeepNull ≡ Pass → ⊥
  kept_or_passed e = absurd cc

pub run-of : (limit : ℕ) (old new : List Bool) (run : Run) → GivesRun limit (plan None old) (plan None new) (Some run) → IsLongest limit (Some run) (plan None new) → IsRunOf limit old new run
run-of limit old new (Present n) gives longest = record { kind = true; is = refl; some = gives.1; begins = kept-begins limit n true old new gives.0 gives.2 longest }
run-of limit old new (Null n) gives longest = record { kind = false; is = refl; some = gives.1; begins = kept-begins limit n false old new gives.0 gives.2 longest }
run-of limit old new (Passed n) gives longest = absurd (none-passed n old (plan None new) gives.1 (sym (plan-all 0 old) ∙ gives.0))

-- ---- parts

split-steps : (steps : List Step) (old new : List Bool) → map kept_as old ≡ steps ++ map kept_as new → (places : List Bool) × (old ≡ places ++ new) × (map kept_as places ≡ steps)
split-steps [] old new e = ([], same-places old new e, refl)
split-steps (step ∷ steps) [] new e = absurd (not-empty step (steps ++ map kept_as new) e)
split-steps (step ∷ steps) (place ∷ old) new e =
    let others = split-steps steps old new (rest-is (kept_as place) step (map kept_as old) (steps ++ map kept_as new) e) in
    let own = first-is (kept_as place) step (map kept_as old) (steps ++ map kept_as new) e in
    (place ∷ others.0, ap (λ places. place ∷ places) others.1, ap (λ first. first ∷ map kept_as others.0) own ∙ ap (λ rest. step ∷ rest) others.2)

with-places : (limit : ℕ) (old new : List Bool) (part : ValidityPart) → GivesPart limit (plan None old) (plan None new) (Some part) → length (part_steps part) ≡ part_rows part → 0 < part_rows part → IsPartOf limit old new part
with-places limit old new part gives long some =
    let split = split-steps (part_steps part) old new (sym (plan-all 0 old) ∙ gives.0 ∙ ap (λ steps. part_steps part ++ steps) (plan-all 0 new)) in
    let steps : plan None split.0 ≡ part_steps part = plan-all 0 split.0 ∙ split.2 in
    record { places = split.0; split = split.1; steps = steps; count = sym (length-all split.0) ∙ ap length steps ∙ long; some = some; most = gives.2 }

pub part-of : (limit : ℕ) (old new : List Bool) (part : ValidityPart) → GivesPart limit (plan None old) (plan None new) (Some part) → IsPartOf limit old new part
part-of limit old new (OfRun (Present n)) gives = with-places limit old new (OfRun (Present n)) gives (length-replicate n Keep) gives.1
part-of limit old new (OfRun (Null n)) gives = with-places limit old new (OfRun (Null n)) gives (length-replicate n KeepNull) gives.1
part-of limit old new (OfRun (Passed n)) gives = absurd (none-passed n old (plan None new) gives.1 (sym (plan-all 0 old) ∙ gives.0))
part-of limit old new (OfWord word) gives = with-places limit old new (OfWord word) gives (length-all (word_places word) ∙ length-low_bits word.bits word.rows) gives.1

pub whole-of : (limit : ℕ) (page : DataContent) (old new : OptionalPageValidity) (part : ValidityPart) → GivesPart limit (optional_steps old page) (optional_steps new page) (Some part) → IsLongestPart limit (Some part) (optional_steps new page)
    → IsWholePart limit page old new part
whole-of limit page old new (OfRun run) gives longest = run-of limit (optional_places old page) (optional_places new page) run gives longest
whole-of limit page old new (OfWord word) gives longest = longest

pub none-left : (places : List Bool) → plan None places ≡ [] → places ≡ []
none-left places e = go places (sym (plan-all 0 places) ∙ e) where
  go : (places : List Bool) → map kept_as places ≡ [] → places ≡ []
  go [] e = refl
  go (place ∷ places) e = absurd (not-empty (kept_as place) (map kept_as places) (sym e))
