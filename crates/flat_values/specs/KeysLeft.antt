-- The keys that a place among them has still to give, on the bytes that it is handed: one byte of width, and then the keys.
use Rattle.std.specs.Prelude.{ℕ, ◌<◌, List, [], length, drop, Option, IsSome, unwrap_or}
use Rattle.parquet_encoding.specs.HybridLeft.{hybrid_left}
use Rattle.flat_values.specs.declared.keys.KeyPlace.{KeyPlace}

abbrev pub keys_left : KeyPlace → List ℕ → Option (List ℕ)
keys_left place bytes = hybrid_left place.keys (drop 1 bytes)

abbrev pub keys : KeyPlace → List ℕ → List ℕ
keys place bytes = unwrap_or (keys_left place bytes) []

-- the place is one among the keys in these bytes
pub record IsAmongKeys (bytes : List ℕ) (place : KeyPlace) : Type 0 where
  pub width : 0 < length bytes
  pub spelled : IsSome (keys_left place bytes)
