-- The ends of items are their least and greatest, and are read from their bytes.
use Rattle.std.proofs.Common.{◌≡◌, ℕ, ℤ, Bool, true, false, cond, List, [], ◌∷◌, Some, refl, ap, ◌∙◌}
use Rattle.std.specs.Prelude.{All, FitsSigned}
use Rattle.std.specs.Int.{w32, cast_signed, cast_unsigned}
use Rattle.std.proofs.lemmas.Int.{to_z-of_z}
use Rattle.std.proofs.lemmas.List.Elements.{All-head, All-tail, All-cons, All-nil}
use Rattle.std.proofs.lemmas.Nat.{from_le_bytes-to_le_bytes_4}
use Rattle.std.proofs.Math.Facts.{Fits-of_z, Fits-lt-pow}
use Rattle.parquet_meta.specs.StoredEnds.{int32_end}
use Rattle.parquet_page.specs.Stored.{Stored, Number}
use Rattle.parquet_plain.specs.Bodies.{number_octets}
use Rattle.parquet_plain.proofs.BodyLemmas.{four-bytes}
use Rattle.parquet_plain.specs.Columns.{first_of, last_of, least, greatest}
use Rattle.parquet_plain.specs.Orders.{IsOrder}

-- ---- least and greatest

module _ (P : Stored → Type 0) (at_most : Stored → Stored → Bool) (order : IsOrder P at_most) where
  -- of two items, the first is one of them and before both
  pub first-is : (a b : Stored) → P a → P b → P (first_of at_most a b) × (at_most (first_of at_most a b) a ≡ true) × (at_most (first_of at_most a b) b ≡ true)
  first-is a b pa pb = by_test (at_most a b) refl
    where
      by_test : (t : Bool) → at_most a b ≡ t → P (cond t a b) × (at_most (cond t a b) a ≡ true) × (at_most (cond t a b) b ≡ true)
      by_test true e = (pa, order.same a pa, e)
      by_test false e = (pb, order.total a b pa pb e, order.same b pb)

  pub last-is : (a b : Stored) → P a → P b → P (last_of at_most a b) × (at_most a (last_of at_most a b) ≡ true) × (at_most b (last_of at_most a b) ≡ true)
  last-is a b pa pb = by_test (at_most a b) refl
    where
      by_test : (t : Bool) → at_most a b ≡ t → P (cond t b a) × (at_most a (cond t b a) ≡ true) × (at_most b (cond t b a) ≡ true)
      by_test true e = (pb, e, order.same b pb)
      by_test false e = (pa, order.same a pa, order.total a b pa pb e)

  pub least-is : (item : Stored) (items : List Stored) → P item → All P items →
      P (least at_most item items) × (at_most (least at_most item items) item ≡ true) × All (λ v. at_most (least at_most item items) v ≡ true) items
  least-is item [] p all = (p, order.same item p, All-nil (λ v. at_most item v ≡ true))
  least-is item (next ∷ items) p all =
      let q : P next = All-head P next items all in
      let one = first-is item next p q in
      let rest = least-is (first_of at_most item next) items one.0 (All-tail P next items all) in
      let low : Stored = least at_most (first_of at_most item next) items in (
        rest.0,
        order.through low (first_of at_most item next) item rest.0 one.0 p rest.1 one.1,
        All-cons (λ v. at_most low v ≡ true) next items (order.through low (first_of at_most item next) next rest.0 one.0 q rest.1 one.2) rest.2,
      )

  pub greatest-is : (item : Stored) (items : List Stored) → P item → All P items →
      P (greatest at_most item items) × (at_most item (greatest at_most item items) ≡ true) × All (λ v. at_most v (greatest at_most item items) ≡ true) items
  greatest-is item [] p all = (p, order.same item p, All-nil (λ v. at_most v item ≡ true))
  greatest-is item (next ∷ items) p all =
      let q : P next = All-head P next items all in
      let one = last-is item next p q in
      let rest = greatest-is (last_of at_most item next) items one.0 (All-tail P next items all) in
      let high : Stored = greatest at_most (last_of at_most item next) items in (
        rest.0,
        order.through item (last_of at_most item next) high p one.0 rest.0 one.1 rest.1,
        All-cons (λ v. at_most v high ≡ true) next items (order.through next (last_of at_most item next) high q one.0 rest.0 one.2 rest.1) rest.2,
      )

-- ---- ends from their bytes

pub int32_end-back : (n : ℤ) → FitsSigned w32 n → int32_end (number_octets 4 (cast_unsigned w32) (Number n)) ≡ Some n
int32_end-back n fits =
    rw (four-bytes (cast_unsigned w32 n)) (ap (λ (p : ℕ). Some (cast_signed w32 p)) (from_le_bytes-to_le_bytes_4 (cast_unsigned w32 n) (Fits-lt-pow {w = w32} (Fits-of_z {w = w32} fits)))
    ∙ ap (λ (z : ℤ). Some z) (to_z-of_z w32 n fits))
