-- What no call over a source changes, and what never falls.
use Rattle.std.specs.Prelude.{◌≡◌, ◌≤◌}
use Rattle.parquet_meta.specs.declared.source.Source.{Ghosts}

-- it tells the same bytes, what is kept is the same, and its count of faults has not fallen
pub record Keeps {S : Type 0} (g : Ghosts S) (early late : S) : Type 0 where
  pub same : g.told late ≡ g.told early
  pub kept : g.kept late ≡ g.kept early
  pub later : g.faults early ≤ g.faults late
