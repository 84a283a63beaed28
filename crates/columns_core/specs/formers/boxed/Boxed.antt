-- How a `Boxed` holds its value, so that a type may lead back to itself through it.
use mathlib.Core.Path.{refl}
use mathlib.Core.Former.{Former, this, const, pair, via}
use base.Fml.{ftrue}
use base.Stored.{gnil}
use denote.RattleType.{RattleType}
use denote.Memory.{part_of}
use denote.RawPtr.{Ptr}
use denote.Sharing.{nothing}
use denote.HoleLaws.{Alike}
use denote.HolePlaces.{Recodes, struct_places, laid, one_value}
use denote.Hole.Fix.{over}
use denote.Param.Weighed.{Weighed}
use denote.Model.Placed.{view_places}
use Rattle.std.specs.declared.alloc.Global.{Global}
use Rattle.std.specs.declared.boxed.Box.{Box}
use Rattle.std.specs.contracts.alloc.Global as heap
use Rattle.std.specs.contracts.boxed.Box as box
use Rattle.std.specs.contracts.impls.GlobalAllocator.TheImpl.{ghosts}
use Rattle.columns_core.specs.declared.boxed.Boxed.TheInside.{Inside}
use Rattle.columns_core.specs.declared.boxed.Boxed.TheView.{view, invariant}
use Rattle.columns_core.specs.contracts.boxed.Boxed as contract
use Rattle.columns_core.specs.contracts.boxed.Boxed.TheInside as inside

abbrev pub the_former : Former {0} → Former {0}
the_former value = value

abbrev pub the_weighed : {value : Former {0}} → Weighed value → Weighed (the_former value)
the_weighed weighed = weighed

-- the `Box` inside: where it lies, whose memory it is, and the value
abbrev box_inside : Former {0}
box_inside =
    via (pair (const (Ptr × Global)) this) Inside (λ X boxed. ((boxed.held.ptr, boxed.held.alloc), boxed.held.value))
    (λ X parts. record { held = record { ptr = parts.0.0; alloc = parts.0.1; value = parts.1 } }) (λ X boxed. refl) (λ X parts. refl)

-- another value at the same place
abbrev holding : {X Y : Type 0} → Box X Global → Y → Box Y Global
holding held value = record { ptr = held.ptr; alloc = held.alloc; value = value }

abbrev box_of : RattleType → RattleType
box_of R = box.the_row R heap.the_row ghosts

module _ (R S : RattleType) (h : R.Denot → S.Denot) where
  box_places : Alike R S h → Alike (box_of R) (box_of S) (λ held. holding held (h held.value))
  unfolding part_of
  box_places alike = record {
    mir_same = λ i. (box_of (one_value R (alike.mir_same i) (λ _. ftrue) (λ _ _. nothing) gnil)).mir;
    own_same = λ held i. (box_of (one_value R (alike.mir_same i) (alike.own_same held.value i) (alike.shr_same held.value i) gnil)).own_val (holding held tt);
    shr_same = λ held i. (box_of (one_value R (alike.mir_same i) (alike.own_same held.value i) (alike.shr_same held.value i) gnil)).shr_at (holding held tt);
  }

  pub the_places : Alike R S h → Alike (contract.the_row R) (contract.the_row S) ((the_former this).map R.Denot S.Denot h)
  the_places alike = view_places box_inside this view (λ X Y k u. refl) (λ X u. refl) R.Denot S.Denot h
      (contract.the_row R).coded (contract.the_row S).coded
      (invariant R.Denot) (invariant S.Denot) (λ u p q. refl) (λ u p q. refl) (λ u e. tt) (λ u e. tt)
      (over (inside.the_row R)) (over (inside.the_row S))
      (struct_places (inside.the_type R) (inside.the_type S) ((λ held. holding held (h held.value)), tt) _ (λ d. refl) refl (laid _ _ _ (box_places alike), tt))

  pub the_codes_placed : Recodes R S h → Recodes (contract.the_row R) (contract.the_row S) ((the_former this).map R.Denot S.Denot h)
  the_codes_placed recodes value = recodes value
