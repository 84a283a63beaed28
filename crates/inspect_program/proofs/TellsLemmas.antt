-- Calls that add to a text what they read in a file, one behind another.
use Rattle.std.proofs.Common.{◌≡◌, ℕ, ◌+◌, ◌≤◌, List, [], ◌++◌, ◌∙◌, ap, append_assoc, arith, refl, subst, sym}
use Rattle.std.specs.Prelude.{Option, Some, None, IfSome, Result, Ok, Err}
use Rattle.std.proofs.lemmas.List.{append-nil}
use Rattle.columns_core.specs.Causes.{Cause, IsOneOf}
use Rattle.columns_core.specs.declared.error.Error.{Error}
use Rattle.parquet_meta.specs.Keeps.{Keeps}
use Rattle.parquet_meta.specs.Source.{IsReadFailure}
use Rattle.parquet_meta.specs.declared.source.Source.{Ghosts}
use Rattle.parquet_meta.proofs.FailureLemmas.{fails_more}
use Rattle.page_decoding.proofs.RowLemmas.{one_of-right}
use Rattle.pq_common.specs.Texts.{AddsText}
use Rattle.inspect_program.specs.Calls.{Section, Tells}

-- ---- sources

pub keeps_itself : {S : Type 0} {g : Ghosts S} {s : S} → Keeps g s s
keeps_itself = record { same = refl; kept = refl; later = omega arith }

pub keeps_on : {S : Type 0} {g : Ghosts S} {old mid new : S} → Keeps g old mid → Keeps g mid new → Keeps g old new
keeps_on first next = record { same = next.same ∙ first.same; kept = next.kept ∙ first.kept; later = omega (arith, first.later, next.later) }

-- ---- sections

-- one behind another
abbrev pub beside : Section → Section → Section
beside first second = record {
  causes = λ bytes. first.causes bytes ++ second.causes bytes;
  text = λ bytes. first.text bytes ++ second.text bytes;
  length = first.length + second.length;
}

-- The same may be wrong, the same is told, and no more is read.
pub record IsSame (part whole : Section) : Type 0 where
  pub causes : (bytes : List ℕ) → whole.causes bytes ≡ part.causes bytes
  pub text : (bytes : List ℕ) → whole.text bytes ≡ part.text bytes
  pub length : part.length ≤ whole.length

-- What may be wrong with a part may be wrong with the whole, of which no less is read.
pub record IsWithin (part whole : Section) : Type 0 where
  pub causes : (bytes : List ℕ) (o : Option Cause) → IsOneOf (part.causes bytes) o → IsOneOf (whole.causes bytes) o
  pub length : part.length ≤ whole.length

-- ---- causes

none_of_both : (told : Option (List ℕ)) (first second : List ℕ → List Cause) → IfSome told (λ bytes. first bytes ≡ []) → IfSome told (λ bytes. second bytes ≡ [])
    → IfSome told (λ bytes. first bytes ++ second bytes ≡ [])
none_of_both None first second none nothing = tt
none_of_both (Some bytes) first second none nothing = λ i. none i ++ nothing i

none_as : (told : Option (List ℕ)) (part whole : List ℕ → List Cause) → ((bytes : List ℕ) → whole bytes ≡ part bytes) → IfSome told (λ bytes. part bytes ≡ []) → IfSome told (λ bytes. whole bytes ≡ [])
none_as None part whole same none = tt
none_as (Some bytes) part whole same none = same bytes ∙ none

pub within_told : (told : Option (List ℕ)) (part whole : List ℕ → List Cause) → ((bytes : List ℕ) (o : Option Cause) → IsOneOf (part bytes) o → IsOneOf (whole bytes) o)
    → IfSome told (λ bytes. (o : Option Cause) → IsOneOf (part bytes) o → IsOneOf (whole bytes) o)
within_told None part whole within = tt
within_told (Some bytes) part whole within = within bytes

-- ---- texts

no_text : (told : Option (List ℕ)) (t : List ℕ) → IfSome told (λ bytes. t ≡ t ++ [])
no_text None t = tt
no_text (Some bytes) t = sym (append-nil t)

both_texts : (told : Option (List ℕ)) (first second : List ℕ → List ℕ) (s t u : List ℕ) → IfSome told (λ bytes. t ≡ s ++ first bytes) → IfSome told (λ bytes. u ≡ t ++ second bytes)
    → IfSome told (λ bytes. u ≡ s ++ (first bytes ++ second bytes))
both_texts None first second s t u one other = tt
both_texts (Some bytes) first second s t u one other =
    other ∙ ap (λ front. front ++ second bytes) one ∙ append_assoc s (first bytes) (second bytes)

text_as : {T E : Type 0} (told : Option (List ℕ)) (part whole : List ℕ → List ℕ) (s t : List ℕ) (r : Result T E) → ((bytes : List ℕ) → whole bytes ≡ part bytes)
    → IfSome told (λ bytes. AddsText (part bytes) s r t) → IfSome told (λ bytes. AddsText (whole bytes) s r t)
text_as None part whole s t r same adds = tt
text_as (Some bytes) part whole s t (Ok x) same adds = adds ∙ ap (λ text. s ++ text) (sym (same bytes))
text_as (Some bytes) part whole s t (Err e) same adds = tt

pub no_text_told : (T : Type 0) (told : Option (List ℕ)) (text : List ℕ → List ℕ) (s t : List ℕ) (e : Error) → IfSome told (λ bytes. AddsText {T = T} {E = Error} (text bytes) s (Err e) t)
no_text_told T None text s t e = tt
no_text_told T (Some bytes) text s t e = tt

-- ---- calls

abbrev pub no_causes : List ℕ → List Cause
no_causes bytes = []

-- without a cause
pub clean : (told : Option (List ℕ)) → IfSome told (λ bytes. no_causes bytes ≡ [])
clean None = tt
clean (Some bytes) = refl

-- nothing is read or added
pub tells_nothing : {S T : Type 0} {g : Ghosts S} (old : S) (section : Section) (t : List ℕ) (x : T) → ((bytes : List ℕ) → section.causes bytes ≡ []) → ((bytes : List ℕ) → section.text bytes ≡ [])
    → Tells g old old section t t (Ok x)
tells_nothing {S} {T} {g} old section t x none nothing = record {
  reads = record { keeps = keeps_itself; quiet = refl; ok = none_as (g.told old) no_causes section.causes none (clean (g.told old)); fails = tt };
  adds = text_as {T = T} {E = Error} (g.told old) (λ _. []) section.text t t (Ok x) nothing (no_text (g.told old) t);
  carried = tt;
  taken = omega arith;
}

-- two calls in turn
pub tells_both : {S T U V : Type 0} {g : Ghosts S} {old mid new : S} {first second : Section} {s t u : List ℕ} {x : T} {y : U} (z : V)
    → Tells g old mid first s t (Ok x) → Tells g mid new second t u (Ok y) → Tells g old new (beside first second) s u (Ok z)
tells_both {g = g} {old} {mid} {new} {first} {second} {s} {t} {u} z one other = record {
  reads = record {
    keeps = keeps_on one.reads.keeps other.reads.keeps;
    quiet = other.reads.quiet ∙ one.reads.quiet;
    ok = none_of_both (g.told old) first.causes second.causes one.reads.ok (subst (λ (told : Option (List ℕ)). IfSome told (λ bytes. second.causes bytes ≡ [])) one.reads.keeps.same other.reads.ok);
    fails = tt;
  };
  adds = both_texts (g.told old) first.text second.text s t u one.adds (subst (λ (told : Option (List ℕ)). IfSome told (λ bytes. u ≡ t ++ second.text bytes)) one.reads.keeps.same other.adds);
  carried = tt;
  taken = omega (arith, one.taken, other.taken);
}

-- a call that fails, in a whole of which it reads a part
pub tells_failed : {S T U : Type 0} {g : Ghosts S} {old new : S} {part whole : Section} {s t : List ℕ} (u v : List ℕ) {e : Error} → IsWithin part whole
    → Tells {T = T} g old new part s t (Err e) → Tells {T = U} g old new whole u v (Err e)
tells_failed {S} {T} {U} {g} {old} {new} {part} {whole} {s} {t} u v {e} within one = record {
  reads = record {
    keeps = one.reads.keeps;
    quiet = tt;
    ok = tt;
    fails = fails_more (g.told old) (g.faults old) (g.faults old) (g.faults new) part.causes whole.causes e (omega arith) (within_told (g.told old) part.causes whole.causes within.causes) one.reads.fails;
  };
  adds = no_text_told U (g.told old) whole.text u v e;
  carried = one.carried;
  taken = omega (arith, one.taken, within.length);
}

-- the second of two calls fails
pub tells_then_failed : {S T U V : Type 0} {g : Ghosts S} {old mid new : S} {first second : Section} {s t u : List ℕ} (v : List ℕ) {x : T} {e : Error}
    → Tells g old mid first s t (Ok x) → Tells {T = U} g mid new second t u (Err e) → Tells {T = V} g old new (beside first second) s v (Err e)
tells_then_failed {S} {T} {U} {V} {g} {old} {mid} {new} {first} {second} {s} {t} {u} v {x} {e} one other = record {
  reads = record {
    keeps = keeps_on one.reads.keeps other.reads.keeps;
    quiet = tt;
    ok = tt;
    fails = fails_more (g.told old) (g.faults old) (g.faults mid) (g.faults new) second.causes (λ bytes. first.causes bytes ++ second.causes bytes) e one.reads.keeps.later
        (within_told (g.told old) second.causes (λ bytes. first.causes bytes ++ second.causes bytes) (λ bytes o is. one_of-right (first.causes bytes) (second.causes bytes) o is))
        (subst (λ (told : Option (List ℕ)). IsReadFailure told (g.faults mid) (g.faults new) second.causes e) one.reads.keeps.same other.reads.fails);
  };
  adds = no_text_told V (g.told old) (λ bytes. first.text bytes ++ second.text bytes) s v e;
  carried = other.carried;
  taken = omega (arith, one.taken, other.taken);
}

-- a call of a section that is the same
pub tells_as : {S T : Type 0} {g : Ghosts S} {old new : S} {part whole : Section} {s t : List ℕ} (r : Result T Error) → IsSame part whole
    → Tells g old new part s t r → Tells g old new whole s t r
tells_as {S} {T} {g} {old} {new} {part} {whole} {s} {t} (Ok x) same one = record {
  reads = record { keeps = one.reads.keeps; quiet = one.reads.quiet; ok = none_as (g.told old) part.causes whole.causes same.causes one.reads.ok; fails = tt };
  adds = text_as {T = T} {E = Error} (g.told old) part.text whole.text s t (Ok x) same.text one.adds;
  carried = tt;
  taken = omega (arith, one.taken, same.length);
}
tells_as {S} {T} {g} {old} {new} {part} {whole} {s} {t} (Err e) same one =
    tells_failed s t (record { causes = λ bytes o is. subst (λ (causes : List Cause). IsOneOf causes o) (sym (same.causes bytes)) is; length = same.length }) one
