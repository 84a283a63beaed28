-- The deltas that a walk has still to give, on the bytes that it is handed.
use Rattle.std.specs.Prelude.{ℕ, ◌+◌, ◌-◌, ◌*◌, ◌≤◌, nat_le, ℤ, List, [], ◌++◌, length, take, drop, Option, Some, unwrap_or}
use Rattle.parquet_base.specs.Reading.{◌>>=◌, given}
use Rattle.parquet_encoding.specs.Places.{bytes_from}
use Rattle.parquet_encoding.specs.DeltaBinary.{miniblocks, blocks}
use Rattle.parquet_encoding.specs.DeltaRun.{run_deltas}
use Rattle.parquet_encoding.specs.declared.delta_walk.DeltaWalk.{DeltaWalk}

-- its places lie in the bytes
pub record IsWithin (bytes : List ℕ) (walk : DeltaWalk) : Type 0 where
  pub widths : walk.widths + walk.parts_left ≤ length bytes
  pub next : walk.next ≤ length bytes

-- those behind the miniblock at which it stands, and the bytes after them: what is left of the block, and the blocks behind it
unfoldable pub deltas_behind : DeltaWalk → List ℕ → Option (List ℤ × List ℕ)
deltas_behind walk bytes = do
  widths ← given (nat_le (walk.widths + walk.parts_left) (length bytes)) (take walk.parts_left (drop walk.widths bytes))
  body ← bytes_from walk.next bytes
  own ← miniblocks walk.size walk.run.least walk.behind widths body
  others ← blocks (length bytes) walk.size walk.parts (walk.behind - length own.0) own.1
  Some (own.0 ++ others.0, others.1)

-- those of this miniblock, and those behind it; none where they are not in the bytes
unfoldable pub deltas_left : DeltaWalk → List ℕ → Option (List ℤ)
deltas_left walk bytes = do
  others ← deltas_behind walk bytes
  given (nat_le (8 * walk.run.place + (walk.run.bit + walk.run.count * walk.run.width)) (8 * length bytes)) (run_deltas walk.run bytes ++ others.0)

abbrev pub deltas : DeltaWalk → List ℕ → List ℤ
deltas walk bytes = unwrap_or (deltas_left walk bytes) []
