-- Keys that are passed over, and whether one of them is past the entries.
use Rattle.std.specs.Prelude.{◌≡◌, ℕ, ◌<◌, ◌≤◌, Bool, List, length, take, drop}
use Rattle.parquet_page.specs.Values.{has_key_past}

pub record PassesKeys (entries : ℕ) (old new : List ℕ) (past : Bool) : Type 0 where
  pub count : ℕ
  pub some : 0 < count
  pub many : count ≤ length old
  pub test : past ≡ has_key_past entries (take count old)
  pub rest : new ≡ drop count old
