use Rattle.std.proofs.Common.{◌≡◌, ℕ, take}
use Rattle.std.specs.Prelude.{◌||◌, nat_le}
use Rattle.parquet_page.specs.Values.{has_key_past}
use Rattle.flat_values.proofs.keys.greatest.Given as goal

abbrev pub invariant-loop-key : goal.invariant-loop-key
invariant-loop-key l = (entries : ℕ) → nat_le entries l.most ≡ (nat_le entries 0 || has_key_past entries (take l.key-index l.keys))
