-- Byte strings of one size, taken one after another.
use Rattle.std.proofs.Common.{◌≡◌, ℕ, ◌+◌, ◌*◌, ◌-◌, ◌<◌, List, [], ◌∷◌, ◌++◌, length, refl, sym, ap, ◌∙◌, subst, arith}
use Rattle.std.specs.Prelude.{◌%◌}
use Rattle.std.specs.Slice.Iter.{chunks_exact_rest, chunks_exact_size, chunks_exact_steps}
use Rattle.std.proofs.Math.Nat.{div-eq_of_lt, mod-eq-sub-mod, mod_self}
use Rattle.std.proofs.lemmas.Iterator.{YieldsList}
use Rattle.std.proofs.lemmas.Iterator.Splits.{YieldsList-from_shown_while}
use Rattle.std.proofs.lemmas.List.{length-append}
use Rattle.columns_core.specs.Fixed.{fixed_pieces}
use Rattle.columns_core.proofs.FixedLemmas.{length-pieces}
use Rattle.flat_values.proofs.FixedPlaceLemmas.{cut_part}
use Rattle.flat_values.proofs.ItemLemmas.{one_chunk, with_items}

-- a string, and whole ones behind it
module _ (size : ℕ) (some : 0 < size) (string rest : List ℕ) (long : length string ≡ size) where
  whole_behind : length (string ++ rest) % size ≡ 0 → length rest % size ≡ 0
  whole_behind whole =
      let all : length (string ++ rest) ≡ size + length rest = length-append string rest ∙ ap (λ n. n + length rest) long in
      let behind : length (string ++ rest) - size ≡ length rest = omega (arith, all) in
      sym (ap (λ n. n % size) behind) ∙ sym (mod-eq-sub-mod (omega (arith, all))) ∙ whole

  first_string : length rest % size ≡ 0 → fixed_pieces size (string ++ rest) ≡ string ∷ fixed_pieces size rest
  first_string whole =
      let one : length string ≡ 1 * size = omega (arith, long) in
      with_items size string some (ap (λ n. n % size) long ∙ mod_self size) rest whole
      ∙ ap (λ front. front ++ fixed_pieces size rest) (cut_part size size 1 string (string ∷ []) some refl one (one_chunk size string long))

pub strings_of : {s : _} (size : ℕ) (bytes : List ℕ) → 0 < size → length bytes % size ≡ 0 → chunks_exact_rest s ≡ bytes → chunks_exact_size s ≡ size → YieldsList chunks_exact_steps (λ string. string.now) s (fixed_pieces size bytes)
strings_of {s = s} size bytes some whole is same =
    let P = λ (left : List ℕ). YieldsList chunks_exact_steps (λ string. string.now) s (fixed_pieces size left) in
    subst P is (
    YieldsList-from_shown_while chunks_exact_steps (λ string. string.now) (λ s. fixed_pieces size (chunks_exact_rest s)) (λ s. (chunks_exact_size s ≡ size) × (length (chunks_exact_rest s) % size ≡ 0))
    (λ s t kept step. length-pieces size (chunks_exact_rest s) ∙ div-eq_of_lt (omega (arith, step.1.0, kept.0)))
    (λ s string t kept step.
    let long = step.1.1 ∙ kept.0 in
    let behind = whole_behind size some string.now (chunks_exact_rest t) long (sym (ap (λ left. length left % size) step.1.0) ∙ kept.1) in
    ((step.0 ∙ kept.0, behind), ap (fixed_pieces size) step.1.0 ∙ first_string size some string.now (chunks_exact_rest t) long behind))
    s (same, ap (λ left. length left % size) is ∙ whole))
