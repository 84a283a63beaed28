use Rattle.std.proofs.Common.{◌≡◌, drop, map}
use Rattle.parquet_meta.specs.Keeps.{Keeps}
use Rattle.parquet_meta.specs.Indexes.{field_columns, locations_of, offset_index_length}
use Rattle.parquet_meta.proofs.EachLemmas.{IsReadingEach}
use Rattle.parquet_indexes.proofs.locations.locations_of_field.Given as goal

-- the locations of the columns so far are found
abbrev pub invariant-loop-column : goal.invariant-loop-column
invariant-loop-column g l =
    let columns = l.columns in
    record {
      keeps : Keeps g.S.Source l.fn.source l.source;
      quiet : g.S.Source.faults l.source ≡ g.S.Source.faults l.fn.source;
      reading : IsReadingEach locations_of offset_index_length (g.S.Source.told l.fn.source)
          (field_columns l.field.name columns) (field_columns l.field.name (drop l.column-index columns)) (map (λ list. list.items) l.lists.items)
          (g.S.Source.taken l.fn.source) (g.S.Source.taken l.source);
    }
