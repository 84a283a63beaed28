use Rattle.std.proofs.Common.{◌≡◌, ◌↔◌, length}
use Rattle.columns_core.proofs.equal.+same.Given as goal

-- what is left of both decides
abbrev pub invariant-is_same_fields-loop-one : goal.invariant-is_same_fields-loop-one
invariant-is_same_fields-loop-one l =
    (length l.one-iterator.a.rest.now ≡ length l.one-iterator.b.rest.now) × ((l.a ≡ l.b) ↔ (l.one-iterator.a.rest.now ≡ l.one-iterator.b.rest.now))
