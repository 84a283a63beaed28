use Rattle.std.proofs.Common.{◌≡◌, ◌≤◌, ◌+◌, ◌-◌, ◌^◌, ◌++◌, Some, drop, length, map, All}
use Rattle.std.specs.Prelude.{IfSome, min}
use Rattle.columns_core.specs.Array.{cells, column_of, data_type_of}
use Rattle.parquet_base.specs.Intervals.{rows_of}
use Rattle.parquet_base.specs.Pieces.{cut}
use Rattle.parquet_meta.specs.Keeps.{Keeps}
use Rattle.parquet_scan.specs.Cells.{given_column}
use Rattle.parquet_scan.specs.Causes.{causes_of_group}
use Rattle.parquet_scan.specs.Costs.{lent_of_group, taken_of_group}
use Rattle.parquet_scan.proofs.reading.read_columns.Given as goal

-- what is wrong with all columns, and what they have, is what is so of those that are left
abbrev pub invariant-loop-i : goal.invariant-loop-i
invariant-loop-i g l =
    let source = g.S.Source in
    let rows = rows_of l.rows.runs.now in
    let pieces = cut l.asked.chunk_size rows in
    record {
      keeps : Keeps source l.fn.source l.source;
      quiet : source.faults l.source ≡ source.faults l.fn.source;
      none : IfSome (source.told l.fn.source) (λ bytes. causes_of_group l.asked.by_pages l.asked.chunk_size l.asked.fields.now bytes (l.rows.group.now, rows) ≡ causes_of_group l.asked.by_pages l.asked.chunk_size (drop l.i l.asked.fields.now) bytes (l.rows.group.now, rows));
      columns : IfSome (source.told l.fn.source) (λ bytes.
          map (λ field. map (λ rows. given_column l.asked.by_pages bytes l.rows.group.now rows field) pieces) l.asked.fields.now
          ≡ map (λ column. map (λ array. Some (column_of array)) column.items) l.columns.items ++ map (λ field. map (λ rows. given_column l.asked.by_pages bytes l.rows.group.now rows field) pieces) (drop l.i l.asked.fields.now));
      lent : IfSome (source.told l.fn.source) (λ bytes. l.steps + lent_of_group l.asked.by_pages (drop l.i l.asked.fields.now) bytes (l.rows.group.now, rows) ≡ l.fn.steps + lent_of_group l.asked.by_pages l.asked.fields.now bytes (l.rows.group.now, rows));
      taken : IfSome (source.told l.fn.source) (λ bytes.
          source.taken l.source + taken_of_group l.asked.by_pages (drop l.i l.asked.fields.now) bytes (l.rows.group.now, rows) ≤ source.taken l.fn.source + taken_of_group l.asked.by_pages l.asked.fields.now bytes (l.rows.group.now, rows));
      count : length l.columns.items ≡ l.i;
      counts : All (λ column. map (λ array. length (cells array)) column.items ≡ map length pieces) l.columns.items;
      types : map (λ field. map (λ _. field.data_type) pieces) l.asked.fields.now ≡ map (λ column. map data_type_of column.items) l.columns.items ++ map (λ field. map (λ _. field.data_type) pieces) (drop l.i l.asked.fields.now);
      ticks : l.fn.steps ≤ l.steps;
      pages : l.pages ≡ min (l.steps - l.fn.steps) (2 ^ 64 - 1);
    }
