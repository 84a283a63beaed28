use Rattle.std.proofs.Common.{◌≡◌, ◌+◌, ◌≤◌, take, drop}
use Rattle.std.specs.Prelude.{IsSome}
use Rattle.parquet_page.specs.Levels.{present_count}
use Rattle.parquet_page.specs.LevelsLeft.{places, places_left}
use Rattle.parquet_page.proofs.level_runs.LevelRuns.pass.Given as goal

abbrev pub invariant-loop-left : goal.invariant-loop-left
invariant-loop-left l = record {
  spelled : IsSome (places_left l.self l.levels);
  counted : l.present + present_count (take l.left (places l.self l.levels)) ≡ present_count (take l.count (places l.initial.self l.levels));
  behind : drop l.left (places l.self l.levels) ≡ drop l.count (places l.initial.self l.levels);
  most : l.present + l.left ≤ l.count;
}

abbrev pub decreases-loop-left : goal.decreases-loop-left
decreases-loop-left l = l.left
