-- What a call promises that reads parts of a file, from what the calls in it promise.
use Rattle.std.proofs.Common.{◌≡◌, ℕ, List, [], ◌++◌, ◌∙◌, arith, refl, subst}
use Rattle.std.specs.Prelude.{Option, IfSome, Result, Ok, Err}
use Rattle.columns_core.specs.Causes.{Cause, IsOneOf}
use Rattle.columns_core.specs.declared.error.Error.{Error}
use Rattle.parquet_meta.specs.Keeps.{Keeps}
use Rattle.parquet_meta.specs.Reads.{ReadsFile}
use Rattle.parquet_meta.specs.Source.{IsReadFailure}
use Rattle.parquet_meta.specs.declared.source.Source.{Ghosts}
use Rattle.parquet_meta.proofs.FailureLemmas.{fails_more}
use Rattle.parquet_scan.proofs.ScanLemmas.{fails_same, none_as, none_of_both}

pub keeps_itself : {S : Type 0} {g : Ghosts S} {s : S} → Keeps g s s
keeps_itself = record { same = refl; kept = refl; later = omega arith }

-- two calls in turn
pub keeps_on : {S : Type 0} {g : Ghosts S} {old mid new : S} → Keeps g old mid → Keeps g mid new → Keeps g old new
keeps_on first next = record { same = next.same ∙ first.same; kept = next.kept ∙ first.kept; later = omega (arith, first.later, next.later) }

-- ---- refusals

-- one that is told of the file itself
pub refused : {S T : Type 0} {g : Ghosts S} {old new : S} {causes : List ℕ → List Cause} {e : Error} → Keeps g old new → IsReadFailure (g.told old) (g.faults old) (g.faults new) causes e → ReadsFile {T = T} g old new causes (Err e)
refused keeps fails = record { keeps = keeps; quiet = tt; ok = tt; fails = fails }

-- that of a call is one of the whole, which began before
pub refuses : {S T U : Type 0} {g : Ghosts S} {old mid new : S} {part whole : List ℕ → List Cause} {e : Error} → Keeps g old mid → ReadsFile {T = T} g mid new part (Err e)
    → IfSome (g.told old) (λ bytes. (o : Option Cause) → IsOneOf (part bytes) o → IsOneOf (whole bytes) o) → ReadsFile {T = U} g old new whole (Err e)
refuses {g = g} {old} {mid} {new} {part} {whole} {e} before reads within =
    refused (keeps_on before reads.keeps) (fails_more (g.told old) (g.faults old) (g.faults mid) (g.faults new) part whole e before.later within
    (subst (λ (told : Option (List ℕ)). IsReadFailure told (g.faults mid) (g.faults new) part e) before.same reads.fails))

-- and that of the first call
pub refuses_first : {S T U : Type 0} {g : Ghosts S} {old new : S} {part whole : List ℕ → List Cause} {e : Error} → ReadsFile {T = T} g old new part (Err e)
    → IfSome (g.told old) (λ bytes. (o : Option Cause) → IsOneOf (part bytes) o → IsOneOf (whole bytes) o) → ReadsFile {T = U} g old new whole (Err e)
refuses_first reads within = refuses keeps_itself reads within

-- one by causes that are those of the whole
pub refuses_as : {S T U : Type 0} {g : Ghosts S} {old new : S} {part whole : List ℕ → List Cause} {e : Error} → IfSome (g.told old) (λ bytes. whole bytes ≡ part bytes) → ReadsFile {T = T} g old new part (Err e) → ReadsFile {T = U} g old new whole (Err e)
refuses_as {g = g} {old} {new} {part} {whole} {e} same reads = refused reads.keeps (fails_same (g.told old) (g.faults old) (g.faults new) part whole e same reads.fails)

-- ---- answers

-- over a file with nothing wrong
pub answered : {S T : Type 0} {g : Ghosts S} {old new : S} {causes : List ℕ → List Cause} {x : T} → Keeps g old new → g.faults new ≡ g.faults old → IfSome (g.told old) (λ bytes. causes bytes ≡ []) → ReadsFile g old new causes (Ok x)
answered keeps quiet none = record { keeps = keeps; quiet = quiet; ok = none; fails = tt }

-- two calls in turn, where what is wrong with the whole is what is wrong with both
pub answered_both : {S T U V : Type 0} {g : Ghosts S} {old mid new : S} {first second : List ℕ → List Cause} {x : T} {y : U} {z : V} → ReadsFile g old mid first (Ok x) → ReadsFile g mid new second (Ok y)
    → ReadsFile g old new (λ bytes. first bytes ++ second bytes) (Ok z)
answered_both {g = g} {old} {first = first} {second} one other =
    answered (keeps_on one.keeps other.keeps) (other.quiet ∙ one.quiet)
    (none_of_both (g.told old) first second one.ok (subst (λ (told : Option (List ℕ)). IfSome told (λ bytes. second bytes ≡ [])) one.keeps.same other.ok))

-- ---- a call that is the whole

-- what is wrong with the whole is what is wrong with the part
pub reads_as : {S T : Type 0} {g : Ghosts S} {old new : S} {part whole : List ℕ → List Cause} (r : Result T Error) → IfSome (g.told old) (λ bytes. whole bytes ≡ part bytes) → ReadsFile g old new part r → ReadsFile g old new whole r
reads_as {g = g} {old} {part = part} {whole} (Ok x) same reads = answered reads.keeps reads.quiet (none_as (g.told old) whole part same reads.ok)
reads_as (Err e) same reads = refuses_as same reads
