use Rattle.std.proofs.Common.{◌≡◌, map}
use Rattle.std.specs.Prelude.{pos}
use Rattle.std.specs.List.{range_with_len}
use Rattle.parquet_statistics.proofs.dictionaries.counted_keys.Given as goal

-- the keys so far are those from 0 on
abbrev pub invariant-loop-place : goal.invariant-loop-place
invariant-loop-place g l = map g.K.DictionaryKey.number l.keys.items ≡ map pos (range_with_len 0 l.place)
