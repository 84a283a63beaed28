-- The orders of what is stored are total orders. (Laws of arrays as items: impls cite them, so they stand here.)
use Rattle.std.specs.Prelude.{◌≡◌, ◌||◌, ℕ, ℤ, pos, int_le, Bool, true, false, not, List, [], ◌∷◌, Option, Some, None, refl, map, option_map, All, Contains}
use Rattle.std.specs.Cmp.Lexicographic.{slice_cmp}
use Rattle.std.specs.Int.{Width}
use Rattle.std.specs.Ordering.{is_gt, nat_cmp, ordering_reverse}
use Rattle.std.specs.declared.cmp.Ordering.{Ordering}
use Rattle.std.specs.declared.cmp.Ordering.TheVariants.{Less, Equal, Greater}
use Rattle.std.proofs.Common.{sym, ap, subst, ◌∙◌}
use Rattle.std.proofs.lemmas.Bool.{true≢false}
use Rattle.std.proofs.lemmas.Cmp.{nat_list_cmp_total, tied_itself, upto}
use Rattle.std.proofs.lemmas.List.Elements.{All-cons, All-contains, All-nil}
use Rattle.parquet_page.specs.Stored.{Stored, Number}
use Rattle.parquet_plain.specs.Bodies.{octets_of, present, truth_in}
use Rattle.parquet_plain.specs.Orders.{IsNumber, IsOrder, numbers_at_most}
use Rattle.parquet_plain.proofs.NumberOrder.{numbers_order}
use Rattle.put_program.specs.Orders.{bytes_at_most, decimal_of, decimals_at_most, truths_at_most, unsigned_at_most, unsigned_integer}
use Rattle.put_program.specs.Typed.{IsStored}

-- an order of more is one of some of them
pub sub-order : (P Q : Stored → Type 0) (at_most : Stored → Stored → Bool) → ((s : Stored) → P s → Q s) → IsOrder Q at_most → IsOrder P at_most
sub-order P Q at_most of order = record {
  same = λ a pa. order.same a (of a pa);
  total = λ a b pa pb. order.total a b (of a pa) (of b pb);
  through = λ a b c pa pb pc. order.through a b c (of a pa) (of b pb) (of c pc);
}

-- ---- numbers

pub total_signed : IsOrder (IsStored Number) numbers_at_most
total_signed = sub-order (IsStored Number) IsNumber numbers_at_most (λ s is. subst IsNumber (sym is.is) tt) numbers_order

pub total_unsigned : IsOrder (IsStored (λ (n : ℕ). Number (pos n))) numbers_at_most
total_unsigned = sub-order (IsStored (λ (n : ℕ). Number (pos n))) IsNumber numbers_at_most (λ s is. subst IsNumber (sym is.is) tt) numbers_order

-- what is ordered by a number
by-number : (P : Stored → Type 0) (number : Stored → ℤ) → IsOrder P (λ a b. int_le (number a) (number b))
by-number P number = record {
  same = λ a pa. numbers_order.same (Number (number a)) tt;
  total = λ a b pa pb. numbers_order.total (Number (number a)) (Number (number b)) tt tt;
  through = λ a b c pa pb pc. numbers_order.through (Number (number a)) (Number (number b)) (Number (number c)) tt tt tt;
}

pub total_bits : (width : Width) (P : Stored → Type 0) → IsOrder P (unsigned_at_most width)
total_bits width P = by-number P (unsigned_integer width)

pub total_decimals : (P : Stored → Type 0) → IsOrder P decimals_at_most
total_decimals P = by-number P (λ item. decimal_of (octets_of item))

-- ---- truth values

truth-same : (a : Bool) → (not a || a) ≡ true
truth-same true = refl
truth-same false = refl

truth-total : (a b : Bool) → (not a || b) ≡ false → (not b || a) ≡ true
truth-total true b h = ap (λ (c : Bool). not c || true) h
truth-total false b h = absurd (true≢false h)

truth-through : (a b c : Bool) → (not a || b) ≡ true → (not b || c) ≡ true → (not a || c) ≡ true
truth-through false b c h k = refl
truth-through true true c h k = k
truth-through true false c h k = absurd (true≢false (sym h))

pub total_truths : (P : Stored → Type 0) → IsOrder P truths_at_most
total_truths P = record {
  same = λ a pa. truth-same (truth_in a);
  total = λ a b pa pb. truth-total (truth_in a) (truth_in b);
  through = λ a b c pa pb pc. truth-through (truth_in a) (truth_in b) (truth_in c);
}

-- ---- bytes

not_true : (b : Bool) → not b ≡ true → b ≡ false
not_true true e = sym e
not_true false e = refl

turned : (o : Ordering) → not (is_gt (ordering_reverse o)) ≡ false → not (is_gt o) ≡ true
turned Less e = refl
turned Equal e = refl
turned Greater e = sym e

pub total_bytes : (P : Stored → Type 0) → IsOrder P bytes_at_most
total_bytes P = record {
  same = λ a pa. ap (λ (o : Ordering). not (is_gt o)) (tied_itself nat_list_cmp_total (octets_of a));
  total = λ a b pa pb h. turned (slice_cmp nat_cmp (octets_of b) (octets_of a)) (ap (λ (o : Ordering). not (is_gt o)) (sym (nat_list_cmp_total.antisymm (octets_of a) (octets_of b))) ∙ h);
  through = λ a b c pa pb pc h k. ap not (upto nat_list_cmp_total (octets_of a) (octets_of b) (octets_of c) (not_true _ h) (not_true _ k));
}

-- ---- items

-- each item that is there is stored of a value
there-are : {T : Type 0} (stored : T → Stored) (items : List (Option T)) → All (IsStored stored) (present (map (option_map stored) items))
there-are stored [] = All-nil (IsStored stored)
there-are stored (None ∷ items) = there-are stored items
there-are stored (Some value ∷ items) =
    All-cons (IsStored stored) (stored value) (present (map (option_map stored) items)) (record { value = value; is = refl }) (there-are stored items)

pub of_stored : {T : Type 0} (stored : T → Stored) (at_most : Stored → Stored → Bool) → IsOrder (IsStored stored) at_most → (items : List (Option T)) →
    IsOrder (Contains (present (map (option_map stored) items))) at_most
of_stored stored at_most order items =
    let present_items : List Stored = present (map (option_map stored) items) in
    sub-order (Contains present_items) (IsStored stored) at_most
    (λ s has. All-contains (IsStored stored) present_items s (there-are stored items) has) order
