use Rattle.std.proofs.Common.{◌≡◌, length}
use Rattle.std.specs.Prelude.{IsSome}
use Rattle.parquet_encoding.specs.HybridLeft.{hybrid_left, hybrid_values}
use Rattle.parquet_page.specs.Values.{has_key_past}
use Rattle.flat_values.proofs.keys.has_past.Given as goal

-- none of the keys so far is past the entries
abbrev pub invariant-loop-past : goal.invariant-loop-past
invariant-loop-past l = record {
  spelled : IsSome (hybrid_left l.left l.bytes);
  same : has_key_past l.entries (hybrid_values l.left l.bytes) ≡ has_key_past l.entries (hybrid_values l.fn.keys l.bytes);
}

abbrev pub decreases-loop-past : goal.decreases-loop-past
decreases-loop-past l = length (hybrid_values l.left l.bytes)
