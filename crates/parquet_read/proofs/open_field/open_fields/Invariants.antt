use Rattle.std.proofs.Common.{◌≡◌, ◌+◌, ◌++◌, length, map, true, []}
use Rattle.std.specs.List.{list_all}
use Rattle.parquet_meta.specs.Keeps.{Keeps}
use Rattle.parquet_meta.proofs.EachLemmas.{IsReadingEach}
use Rattle.parquet_read.specs.Asked.{GroupReading, asked_left, asked_length, asked_outline, fields_causes, is_shaped_field}
use Rattle.parquet_read.specs.Opening.{outline_of}
use Rattle.parquet_read.specs.RowGroup.{iter_left}
use Rattle.parquet_read.proofs.open_field.open_fields.Given as goal

-- the fields so far are opened, and nothing is refused of the others
abbrev pub invariant-fields : goal.invariant-fields
invariant-fields g l =
    let reading : GroupReading = record { group = l.group; size = l.chunk_size; limit = l.limit } in
    record {
      keeps : Keeps g.S.Source l.fn.source l.source;
      quiet : g.S.Source.faults l.source ≡ g.S.Source.faults l.fn.source;
      shaped : list_all is_shaped_field l.field-iterator.rest.items ≡ true;
      readable : fields_causes reading l.field-iterator.rest.items ≡ [];
      each : length l.arrays.items + length l.field-iterator.rest.items ≡ length l.fn.asked.items;
      outlines : map (λ own. outline_of (iter_left own)) l.arrays.items ++ map (asked_outline reading) l.field-iterator.rest.items ≡ map (asked_outline reading) l.fn.asked.items;
      opening : IsReadingEach (asked_left reading) (asked_length reading) (g.S.Source.told l.fn.source)
          l.fn.asked.items l.field-iterator.rest.items (map iter_left l.arrays.items)
          (g.S.Source.taken l.fn.source) (g.S.Source.taken l.source);
    }
