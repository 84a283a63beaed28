-- Facts of bytes and a mask that are borrowed.
use Rattle.std.proofs.Common.{◌≡◌, ℕ, Bool, List, subst}
use Rattle.std.specs.Prelude.{Option}

-- they hold of those that are owned
pub owned : (Fact : List ℕ → Option (List Bool) → Type 0) {lent bytes : List ℕ} {seen mask : Option (List Bool)} → lent ≡ bytes → seen ≡ mask → Fact lent seen → Fact bytes mask
owned Fact {lent} {bytes} {seen} {mask} values marks fact = subst (λ m. Fact bytes m) marks (subst (λ list. Fact list seen) values fact)
