use Rattle.std.proofs.Common.{◌≡◌, drop}
use Rattle.std.specs.Prelude.{zip}
use Rattle.std.specs.List.{list_all}
use Rattle.parquet_scan.specs.Counting.{has_indexes_if_counting}
use Rattle.parquet_scan.proofs.groups.have_indexes.Given as goal

-- all have them where those that are left have
abbrev pub invariant-loop-i : goal.invariant-loop-i
invariant-loop-i l = list_all (has_indexes_if_counting l.bounds l.fields) (zip l.groups l.counts) ≡ list_all (has_indexes_if_counting l.bounds l.fields) (zip (drop l.i l.groups) (drop l.i l.counts))
