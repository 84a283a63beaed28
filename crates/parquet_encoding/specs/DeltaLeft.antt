-- The numbers that a decoder of delta binary packed numbers has still to give, on the bytes that it is handed.
use Rattle.std.specs.Prelude.{◌≡◌, ℕ, ◌≤◌, ◌%◌, ◌<◌, ℤ, List, [], length, drop, Option, Some, None, unwrap_or, option_map}
use Rattle.parquet_base.specs.Varint.{varint, zigzag}
use Rattle.parquet_encoding.specs.DeltaBinary.{shape_at, running_sums}
use Rattle.parquet_encoding.specs.DeltaWalk.{deltas_left}
use Rattle.parquet_encoding.specs.declared.delta_binary.DeltaBinary.{DeltaBinary}
use Rattle.parquet_encoding.specs.declared.delta_binary.Header.{Header}

-- the next number, if there is one, and those that deltas make of it
abbrev pub numbers_left : Option ℤ → Option (List ℤ) → Option (List ℤ)
numbers_left None deltas = Some []
numbers_left (Some value) deltas = option_map (running_sums value) deltas

unfoldable pub delta_left : DeltaBinary → List ℕ → Option (List ℤ)
delta_left decoder bytes = numbers_left decoder.value (deltas_left decoder.deltas bytes)

abbrev pub numbers : DeltaBinary → List ℕ → List ℤ
numbers decoder bytes = unwrap_or (delta_left decoder bytes) []

-- the place after the last body
abbrev pub delta_end : DeltaBinary → ℕ
delta_end decoder = decoder.end

-- what stands before the first block
pub record HeaderAt (bytes : List ℕ) (header : Header) : Type 0 where
  pub rest : List ℕ
  pub number : ℕ
  pub shape : shape_at bytes ≡ Some (record { size = header.size; miniblocks = header.parts; total = header.total }, rest)
  pub first : varint rest ≡ Some (number, drop header.start bytes)
  pub signed : header.first ≡ zigzag number
  pub within : header.start ≤ length bytes
  pub some : 0 < header.size
  pub whole : header.size % 32 ≡ 0
  pub some_parts : 0 < header.parts
