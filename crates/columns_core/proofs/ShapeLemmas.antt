-- A test whether two values are the same, by the shape that the first has.
use Rattle.std.proofs.Common.{◌≡◌, ◌↔◌, Bool, true, false, refl, sym, ◌∙◌, ap}
use Rattle.std.specs.Prelude.{IsTrue}
use Rattle.std.proofs.lemmas.Bool.{true≢false}

module _ {A : Type 0} {b x : A} where
  -- the second has another
  pub not_it : (b ≡ x → ⊥) → (IsTrue false ↔ (x ≡ b))
  not_it differs = (λ t. absurd (true≢false (sym t)), λ e. absurd (differs (sym e)))

  module _ {a : A} where
    pub both : a ≡ x → b ≡ x → (IsTrue true ↔ (a ≡ b))
    both own other = (λ _. own ∙ sym other, λ _. refl)

    pub one_alone : a ≡ x → (b ≡ x → ⊥) → (IsTrue false ↔ (a ≡ b))
    one_alone own differs = (λ t. absurd (true≢false (sym t)), λ e. absurd (differs (sym e ∙ own)))

    -- what is tested of the shape
    pub as_it_is : {test : Bool} → a ≡ x → (IsTrue test ↔ (x ≡ b)) → (IsTrue test ↔ (a ≡ b))
    as_it_is own so = (λ t. own ∙ so.0 t, λ e. so.1 (sym own ∙ e))

-- what is tested of that which lies in both
pub by_inside : {X A : Type 0} (wrap : X → A) → ((x y : X) → wrap x ≡ wrap y → x ≡ y) → {x y z : X} {b : A} {test : Bool} → (IsTrue test ↔ (x ≡ z)) → z ≡ y → b ≡ wrap y
    → (IsTrue test ↔ (wrap x ≡ b))
by_inside wrap inside so seen is = (λ h. ap wrap (so.0 h ∙ seen) ∙ sym is, λ e. so.1 (inside _ _ (e ∙ is) ∙ sym seen))
