-- What words that name a sample ask of it is legal for its bytes, which are valid for it.
use Rattle.std.proofs.Common.{◌≡◌, ℕ, ◌^◌, ◌≤◌, ◌<◌, false, List, Option, Some, None, refl, ap, subst, nat_lt, ◌∷◌, []}
use Rattle.std.specs.Prelude.{IfSome, String, codes, option_and_then, string_bytes}
use Rattle.std.specs.Option.{option_zip}
use Rattle.std.specs.declared.alloc.Global.{Global}
use Rattle.std.proofs.lemmas.Bool.{le-ltb, ltb-true}
use Rattle.std.proofs.lemmas.Option.{cond_some, none-some, option_and_then_some, same_Some}
use Rattle.parquet_sample.specs.Sample.{most_rows}
use Rattle.parquet_scan.specs.Request.{Request}
use Rattle.pq_common.specs.Spelled.{digits_at_most, fits, split_first, without_front}
use Rattle.sample_laws.specs.Commands.{IsAlwaysGoodFor}
use Rattle.sample_laws.specs.Laws.{AsksOfSample}
use Rattle.sample_laws.proofs.SampleLaws.{sample_is_good}
use Rattle.scan_program.specs.Sampled.{is_colon, is_too_great, rows_and_seed, sample_in, sample_of, short_number}
use Rattle.scan_program.specs.Words.{Command}

zip_parts : {A B : Type 0} (o : Option A) (p : Option B) (y : A × B) → option_zip o p ≡ Some y → (o ≡ Some y.0) × (p ≡ Some y.1)
zip_parts None p y e = absurd (none-some y e)
zip_parts (Some a) None y e = absurd (none-some y e)
zip_parts {A} {B} (Some a) (Some b) y e =
    let same = same_Some {A = A × B} (a, b) y e in (ap (λ q. Some q.0) same, ap (λ q. Some q.1) same)

short-below : (text : List ℕ) (n : ℕ) → short_number text ≡ Some n → n < 2 ^ 32
short-below text n e =
    option_and_then_some (fits 32) (digits_at_most 10 text) n e (λ m spelled fit.
    let test = cond_some (nat_lt m (2 ^ 32)) m n fit in
    subst (λ k. k < 2 ^ 32) test.1 (ltb-true m (2 ^ 32) test.0))

-- the seed of a sample has 32 bits
seed-below : (file : List ℕ) (asked : ℕ × ℕ) → sample_of file ≡ Some asked → asked.1 < 2 ^ 32
seed-below file asked e =
    option_and_then_some rows_and_seed (option_and_then (split_first is_colon) (without_front (codes "@sample:") file)) asked e (λ (texts : List ℕ × List ℕ) spelled read.
    let parts = zip_parts (short_number texts.0) (short_number texts.1) asked read in
    short-below texts.1 asked.1 parts.1)

seed-in : (words : List (String Global)) (asked : ℕ × ℕ) → sample_in words ≡ Some asked → asked.1 < 2 ^ 32
seed-in [] asked e = absurd (none-some asked e)
seed-in (file ∷ words) asked e = seed-below (string_bytes file) asked e

few-taken : (asked : ℕ × ℕ) → asked.0 ≤ most_rows → is_too_great asked ≡ false
few-taken asked few = le-ltb most_rows asked.0 few

good : (words : List (String Global)) (asked : ℕ × ℕ) → sample_in words ≡ Some asked → asked.0 ≤ most_rows
    → (request : Request) → AsksOfSample request → IsAlwaysGoodFor request words
good words asked named few request asks told =
    rw (named, few-taken asked few) (sample_is_good asked.0 asked.1 few (seed-in words asked named) request asks.columns asks.legal)

good-of : (words : List (String Global)) (found : Option (ℕ × ℕ)) → sample_in words ≡ found → (request : Request)
    → IfSome found (λ asked. AsksOfSample request → asked.0 ≤ most_rows → IsAlwaysGoodFor request words)
good-of words None e request = tt
good-of words (Some asked) e request = λ asks few. good words asked e few request asks

pub sample_commands : (words : List (String Global)) (command : Option Command)
    → IfSome command (λ command. IfSome (sample_in words) (λ asked. AsksOfSample command.request → asked.0 ≤ most_rows → IsAlwaysGoodFor command.request words))
sample_commands words None = tt
sample_commands words (Some command) = good-of words (sample_in words) refl command.request
