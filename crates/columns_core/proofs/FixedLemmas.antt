-- Bytes cut into values of one size.
use Rattle.std.proofs.Common.{◌≡◌, ℕ, ◌<◌, ◌≤◌, ◌+◌, ◌*◌, ◌/◌, List, length, take, drop, sym, ◌∙◌, ap, subst}
use Rattle.std.specs.Prelude.{◌%◌, Bool, true, false, Option, Some, slice_get, option_map, ◌↔◌, IsTrue}
use Rattle.std.specs.Option.{ForSome}
use Rattle.std.proofs.lemmas.Bool.{true≢false}
use Rattle.std.specs.List.{range_with_len}
use Rattle.std.proofs.lemmas.List.{length-map}
use Rattle.std.proofs.lemmas.List.FromFn.{length-range_with_len, get_or-range_with_len}
use Rattle.std.proofs.lemmas.Option.{slice_get-map, slice_get-get_or}
use Rattle.std.proofs.Math.Nat.{le-div_iff_mul-le, suc-mul, zero-add}
use Rattle.columns_core.specs.Fixed.{fixed_pieces, ArePieces}

pub length-pieces : (size : ℕ) (bytes : List ℕ) → length (fixed_pieces size bytes) ≡ length bytes / size
length-pieces size bytes = length-map (range_with_len 0 (length bytes / size)) (λ i. take size (drop (i * size) bytes)) ∙ length-range_with_len 0 (length bytes / size)

pub piece_at : (size : ℕ) (bytes : List ℕ) (i : ℕ) → i < length bytes / size → slice_get (fixed_pieces size bytes) i ≡ Some (take size (drop (i * size) bytes))
piece_at size bytes i h =
    let count = length bytes / size in
    slice_get-map (λ k. take size (drop (k * size) bytes)) (range_with_len 0 count) i
    ∙ ap (option_map (λ k. take size (drop (k * size) bytes)))
    (slice_get-get_or (range_with_len 0 count) i 0 (subst (λ n. i < n) (sym (length-range_with_len 0 count)) h) ∙ ap Some (get_or-range_with_len 0 count i 0 h ∙ zero-add i))

pub piece_ends : (size : ℕ) (bytes : List ℕ) (i : ℕ) → 0 < size → i < length bytes / size → i * size + size ≤ length bytes
piece_ends size bytes i s h = subst (λ n. n ≤ length bytes) (suc-mul i size) ((le-div_iff_mul-le s).0 h)

-- a test of the number of bytes and of the mask is one of the pieces
module _ (size : ℕ) (bytes : List ℕ) (mask : Option (List Bool)) (count : ℕ) (found : Option (List Bool)) (test : Bool) (long : count ≡ length bytes) (same : found ≡ mask)
    (tells : IsTrue test ↔ (0 < size) × (count % size ≡ 0) × ForSome found (λ m. length m ≡ count / size)) where
  pub pieces_from : test ≡ true → ArePieces size bytes mask
  pieces_from t =
      let h = tells.0 t in
      record {
        has_size = h.0;
        whole = subst (λ n. n % size ≡ 0) long h.1;
        fits = λ m e. h.2 m (same ∙ e) ∙ ap (λ n. n / size) long ∙ sym (length-pieces size bytes);
      }

  pub no_pieces_from : test ≡ false → ArePieces size bytes mask → ⊥
  no_pieces_from f p =
      true≢false (sym (tells.1 (p.has_size, subst (λ n. n % size ≡ 0) (sym long) p.whole, λ m e. p.fits m (sym same ∙ e) ∙ length-pieces size bytes ∙ ap (λ n. n / size) (sym long))) ∙ f)
