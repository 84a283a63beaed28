-- `is_same` holds exactly where two values are the same, so it is symmetric and transitive.
use Rattle.std.specs.Prelude.{◌≡◌, refl, Bool, true, ◌&&◌, ◌↔◌, IsTrue}
use Rattle.std.specs.Cmp.{IsPartialEquivalence, both_ways, first_so, second_so}
use Rattle.std.proofs.Common.{sym, ◌∙◌, ap}
use Rattle.std.proofs.lemmas.Bool.{eqb-true, true≢false}
use Rattle.std.proofs.lemmas.Cmp.{nat_eq_equiv}
use base.Stored.{Coded, Gv, gnil, gnum, gcons}
use Rattle.columns_core.specs.Equal.{same_tree, is_same}

tree_itself : (a : Gv) → same_tree a a ≡ true
unfolding same_tree
tree_itself gnil = refl
tree_itself (gnum n) = nat_eq_equiv.refl n
tree_itself (gcons a b) = λ i. tree_itself a i && tree_itself b i

tree_from : (a b : Gv) → same_tree a b ≡ true → a ≡ b
unfolding same_tree
tree_from gnil gnil h = refl
tree_from (gnum m) (gnum n) h = ap gnum (eqb-true m n h)
tree_from (gcons a b) (gcons c d) h = λ i. gcons (tree_from a c (first_so (same_tree a c) (same_tree b d) h) i) (tree_from b d (second_so (same_tree a c) (same_tree b d) h) i)
tree_from gnil (gnum n) h = absurd (true≢false (sym h))
tree_from gnil (gcons c d) h = absurd (true≢false (sym h))
tree_from (gnum m) gnil h = absurd (true≢false (sym h))
tree_from (gnum m) (gcons c d) h = absurd (true≢false (sym h))
tree_from (gcons a b) gnil h = absurd (true≢false (sym h))
tree_from (gcons a b) (gnum n) h = absurd (true≢false (sym h))

module _ {T : Type 0} (coded : Coded T) where
  pub same_itself : (a b : T) → a ≡ b → is_same coded a b ≡ true
  unfolding is_same
  same_itself a b e = ap (λ x. is_same coded a x) (sym e) ∙ tree_itself (coded.code a)

  pub same_from : (a b : T) → is_same coded a b ≡ true → a ≡ b
  unfolding is_same
  same_from a b h = coded.inj a b (tree_from (coded.code a) (coded.code b) h)

  -- a test that holds exactly where two values are the same
  pub same_by : (a b : T) (test : Bool) → (IsTrue test ↔ (a ≡ b)) → test ≡ is_same coded a b
  same_by a b test h = both_ways test (is_same coded a b) (λ e. same_itself a b (h.0 e)) (λ e. h.1 (same_from a b e))

  pub same_laws : IsPartialEquivalence (is_same coded)
  same_laws = record {
    symm = λ x y. both_ways (is_same coded x y) (is_same coded y x) (λ e. same_itself y x (sym (same_from x y e))) (λ e. same_itself x y (sym (same_from y x e)));
    trans = λ x y z e f. same_itself x z (same_from x y e ∙ same_from y z f);
  }

-- two things are told apart by what is seen of them
pub seen_laws : {S T : Type 0} (coded : Coded T) (seen : S → T) → IsPartialEquivalence (λ a b. is_same coded (seen a) (seen b))
seen_laws coded seen = record { symm = λ x y. (same_laws coded).symm (seen x) (seen y); trans = λ x y z. (same_laws coded).trans (seen x) (seen y) (seen z) }
