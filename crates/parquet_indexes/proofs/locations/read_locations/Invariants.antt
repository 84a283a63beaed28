use Rattle.std.proofs.Common.{◌≡◌, drop, length}
use Rattle.parquet_meta.specs.Keeps.{Keeps}
use Rattle.parquet_meta.proofs.EachLemmas.{IsReadingEach}
use Rattle.parquet_indexes.specs.PageMaps.{in_fields, locations_of_field, offset_indexes_length}
use Rattle.parquet_indexes.proofs.locations.read_locations.Given as goal

-- the locations of the fields so far are found
abbrev pub invariant-loop-field : goal.invariant-loop-field
invariant-loop-field g l = record {
  keeps : Keeps g.S.Source l.fn.source l.source;
  quiet : g.S.Source.faults l.source ≡ g.S.Source.faults l.fn.source;
  reading : IsReadingEach (locations_of_field l.columns) (offset_indexes_length l.columns) (g.S.Source.told l.fn.source)
      l.fields (drop l.field-index l.fields) (in_fields l.locations.items)
      (g.S.Source.taken l.fn.source) (g.S.Source.taken l.source);
  count : length l.locations.items ≡ l.field-index;
}
