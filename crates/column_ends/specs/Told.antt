-- The ends of statistics and column indexes as stored values.
use Rattle.std.specs.Prelude.{List, map, option_map}
use Rattle.parquet_meta.specs.declared.metadata.Ends.{Ends}
use Rattle.parquet_meta.specs.declared.metadata.Index.{Index}
use Rattle.parquet_meta.specs.declared.metadata.Index.TheVariants as indexes
use Rattle.parquet_meta.specs.declared.metadata.PageIndex.{PageIndex}
use Rattle.parquet_meta.specs.declared.metadata.RawStatistics.{RawStatistics}
use Rattle.parquet_meta.specs.declared.metadata.RawStatistics.TheVariants as raw
use Rattle.parquet_page.specs.Stored.{Stored, Number, Truth, Octets}
use Rattle.flat_values.specs.Numbers.{words_of}

-- ---- of the chunk of a column

abbrev pub stored_by : {T : Type 0} → (T → Stored) → Ends T → Ends Stored
stored_by {T = T} stored ends = record {
  null_count = ends.null_count;
  distinct_count = ends.distinct_count;
  min_value = option_map {T = T} {U = Stored} stored ends.min_value;
  max_value = option_map {T = T} {U = Stored} stored ends.max_value;
}

abbrev pub stored_ends : RawStatistics → Ends Stored
stored_ends (raw.Boolean ends) = stored_by Truth ends
stored_ends (raw.Int32 ends) = stored_by Number ends
stored_ends (raw.Int64 ends) = stored_by Number ends
stored_ends (raw.Int96 ends) = stored_by words_of ends
stored_ends (raw.ByteArray ends) = stored_by Octets ends
stored_ends (raw.FixedLenByteArray width ends) = stored_by Octets ends

-- ---- of its pages

abbrev pub stored_page : {T : Type 0} → (T → Stored) → PageIndex T → PageIndex Stored
stored_page {T = T} stored page = record {
  min = option_map {T = T} {U = Stored} stored page.min;
  max = option_map {T = T} {U = Stored} stored page.max;
  null_count = page.null_count;
}

abbrev pub stored_pages : Index → List (PageIndex Stored)
stored_pages (indexes.Boolean pages) = map (stored_page Truth) pages
stored_pages (indexes.Int32 pages) = map (stored_page Number) pages
stored_pages (indexes.Int64 pages) = map (stored_page Number) pages
stored_pages (indexes.Int96 pages) = map (stored_page words_of) pages
stored_pages (indexes.ByteArray pages) = map (stored_page Octets) pages
stored_pages (indexes.FixedLenByteArray width pages) = map (stored_page Octets) pages
