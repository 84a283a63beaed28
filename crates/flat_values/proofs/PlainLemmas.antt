-- Plain numbers by their own bytes.
use Rattle.std.proofs.Common.{◌≡◌, ℕ, ℤ, ◌*◌, ◌/◌, ◌<◌, true, List, [], length, map, refl, sym, ap, ◌∙◌}
use Rattle.std.specs.Prelude.{◌==◌, Option, Some, None, Result, Ok, Err, IfOk, is_ok, is_some, option_map, unwrap_or}
use Rattle.std.specs.Simd.{first_chunks}
use Rattle.std.proofs.Math.Nat.{mul-div_cancel}
use Rattle.std.proofs.lemmas.Bool.{eqb-true, true≢false}
use Rattle.parquet_encoding.proofs.StepLemmas.{given_some}
use Rattle.parquet_encoding.specs.DeltaBinary.{delta_binary}
use Rattle.parquet_encoding.specs.DeltaLeft.{delta_left, numbers}
use Rattle.parquet_encoding.specs.Plain.{plain_fixed}
use Rattle.parquet_encoding.specs.declared.delta_binary.DeltaBinary.{DeltaBinary}
use Rattle.parquet_page.specs.Stored.{Stored}
use Rattle.flat_values.proofs.PageLemmas.{mapped}

-- the pieces of plain values of one size spell them
pub pieces_spell : (size : ℕ) → 0 < size → (f : List ℕ → Stored) (bytes : List ℕ) (count : ℕ) (values : List Stored) → option_map (map f) (plain_fixed size bytes count) ≡ Some values →
    map f (first_chunks size (length bytes / size) bytes) ≡ values
unfolding plain_fixed
pieces_spell size pos f bytes count values e =
    mapped (plain_fixed size bytes count) (map f) values e (λ own p q.
    let test = given_some (length bytes == count * size) (first_chunks size count bytes) own p in
    let number : length bytes / size ≡ count = ap (λ n. n / size) (eqb-true (length bytes) (count * size) test.0) ∙ mul-div_cancel count pos in
    ap (λ n. map f (first_chunks size n bytes)) number ∙ ap (map f) test.1 ∙ q)

-- ---- whether there are values

pub is_some-map : {A B : Type 0} (f : A → B) (o : Option A) → is_some (option_map f o) ≡ is_some o
is_some-map f None = refl
is_some-map f (Some x) = refl

-- what packed deltas spell, where there are any
pub deltas_open : {E : Type 0} (f : ℤ → Stored) (result : Result DeltaBinary E) (bytes : List ℕ) (count : ℕ) → is_ok result ≡ is_some (delta_binary count bytes)
    → IfOk result (λ deltas. delta_left deltas bytes ≡ option_map (λ read. read.0) (delta_binary count bytes)) → IfOk result (λ deltas. option_map (λ read. map f read.0) (delta_binary count bytes) ≡ Some (map f (numbers deltas bytes)))
deltas_open f (Err e) bytes count exact left = tt
deltas_open f (Ok deltas) bytes count exact left = go (delta_binary count bytes) exact left where
  go : (o : Option (List ℤ × List ℕ)) → true ≡ is_some o → delta_left deltas bytes ≡ option_map (λ read. read.0) o → option_map (λ read. map f read.0) o ≡ Some (map f (numbers deltas bytes))
  go None e left = absurd (true≢false e)
  go (Some read) e left = ap (λ o. Some (map f (unwrap_or o []))) (sym left)
