use Rattle.std.proofs.Common.{◌≡◌, ◌++◌, map, take, drop}
use Rattle.std.specs.Prelude.{flat_map}
use Rattle.parquet_scan.proofs.chunks.take_fronts.Given as goal

-- the first arrays so far, and the columns behind them
abbrev pub invariant-loop-column : goal.invariant-loop-column
invariant-loop-column l =
    let before = map (λ column. column.items) l.fn.columns in
    record {
      fronts : l.fronts.items ++ flat_map (take 1) (drop l.column-index before) ≡ flat_map (take 1) before;
      rests : map (λ column. column.items) l.columns ≡ map (drop 1) (take l.column-index before) ++ drop l.column-index before;
    }
