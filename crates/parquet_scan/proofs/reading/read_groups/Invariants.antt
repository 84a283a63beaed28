use Rattle.std.proofs.Common.{◌≡◌, ◌≤◌, ◌<◌, ◌-◌, ◌+◌, ◌^◌, ◌++◌, drop, map}
use Rattle.std.specs.Prelude.{All, IfSome, flat_map, min}
use Rattle.columns_core.specs.Chunk.{AreEqualLengths}
use Rattle.parquet_meta.specs.Keeps.{Keeps}
use Rattle.parquet_scan.specs.Counting.{causes_of_groups, chunks_of_groups, lent_of_groups, rows_of_groups, shown, taken_of_groups}
use Rattle.parquet_base.specs.Intervals.{rows_of}
use Rattle.parquet_scan.specs.Scan.{rows_in, shape_of, shapes_of_rows}
use Rattle.parquet_scan.proofs.reading.read_groups.Given as goal

-- what is wrong with all groups is what is wrong with those that are left
abbrev pub invariant-loop-i : goal.invariant-loop-i
invariant-loop-i g l =
    let source = g.S.Source in
    record {
      keeps : Keeps source l.fn.source l.source;
      quiet : source.faults l.source ≡ source.faults l.fn.source;
      none : IfSome (source.told l.fn.source) (λ bytes.
          causes_of_groups l.asked.by_pages l.asked.chunk_size l.asked.fields.now bytes l.groups l.given ≡ causes_of_groups l.asked.by_pages l.asked.chunk_size l.asked.fields.now bytes (drop l.i l.groups) (drop l.i l.given));
      chunks : IfSome (source.told l.fn.source) (λ bytes.
          shown l.fn.read.chunks.items ++ chunks_of_groups l.asked.by_pages l.asked.chunk_size l.asked.fields.now bytes l.groups l.given
          ≡ shown l.read.chunks.items ++ chunks_of_groups l.asked.by_pages l.asked.chunk_size l.asked.fields.now bytes (drop l.i l.groups) (drop l.i l.given));
      shapes : map shape_of l.fn.read.chunks.items ++ flat_map (λ runs. shapes_of_rows l.asked.fields.now l.asked.chunk_size (rows_of runs)) l.given
          ≡ map shape_of l.read.chunks.items ++ flat_map (λ runs. shapes_of_rows l.asked.fields.now l.asked.chunk_size (rows_of runs)) (drop l.i l.given);
      lent : IfSome (source.told l.fn.source) (λ bytes.
          l.steps + lent_of_groups l.asked.by_pages l.asked.fields.now bytes (drop l.i l.groups) (drop l.i l.given) ≡ l.fn.steps + lent_of_groups l.asked.by_pages l.asked.fields.now bytes l.groups l.given);
      taken : IfSome (source.told l.fn.source) (λ bytes.
          source.taken l.source + taken_of_groups l.asked.by_pages l.asked.fields.now bytes (drop l.i l.groups) (drop l.i l.given) ≤ source.taken l.fn.source + taken_of_groups l.asked.by_pages l.asked.fields.now bytes l.groups l.given);
      rows : min (l.fn.read.rows + rows_of_groups l.given) (2 ^ 64 - 1) ≡ min (l.read.rows + rows_of_groups (drop l.i l.given)) (2 ^ 64 - 1);
      own_rows : l.fn.read.rows ≡ rows_in l.fn.read.chunks.items → l.read.rows ≡ rows_in l.read.chunks.items;
      even : All AreEqualLengths l.fn.read.chunks.items → All AreEqualLengths l.read.chunks.items;
      fits : l.read.rows < 2 ^ 64;
      ticks : l.fn.steps ≤ l.steps;
      pages : l.read.pages ≡ min (l.fn.read.pages + (l.steps - l.fn.steps)) (2 ^ 64 - 1);
    }
