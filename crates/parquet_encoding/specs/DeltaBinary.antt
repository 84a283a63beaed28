-- Delta binary packed numbers: a first number, and then differences in blocks of miniblocks.
use Rattle.std.specs.Prelude.{ℕ, zero, suc, ◌-◌, ◌*◌, ◌/◌, ◌%◌, ◌==◌, ◌&&◌, Bool, nat_lt, nat_le, min, List, [], ◌∷◌, ◌++◌, length, take, drop, map, ℤ, pos, ◌+ℤ◌, Some, None}
use Rattle.std.specs.Int.{w64, int_wrap}
use Rattle.parquet_base.specs.Reading.{Read, ◌>>=◌, given}
use Rattle.parquet_base.specs.Varint.{varint, zigzag}
use Rattle.parquet_encoding.specs.Bits.{packed}

-- how many values a miniblock has, how many miniblocks a block has, and how many values there are in all
pub record Shape : Type 0 where
  pub size : ℕ
  pub miniblocks : ℕ
  pub total : ℕ

-- A block is a multiple of 128 values, and each of its miniblocks a multiple of 32.
abbrev pub is_block : ℕ → ℕ → Bool
is_block values parts = nat_lt 0 values && (values % 128 == 0) && nat_lt 0 parts && (values % parts == 0) && (values / parts % 32 == 0)

unfoldable pub shape_at : Read Shape
shape_at bytes = do
  values ← varint bytes
  parts ← varint values.1
  total ← varint parts.1
  given (is_block values.0 parts.0) (record { size = values.0 / parts.0; miniblocks = parts.0; total = total.0 }, total.1)

-- the deltas that stored numbers stand for: each number is what its delta is above the least
abbrev pub deltas_of : ℤ → List ℕ → List ℤ
deltas_of least numbers = map (λ number. least +ℤ pos number) numbers

-- The deltas of miniblocks with these widths, as many as are wanted, and the bytes after them. What is not wanted has no body.
unfoldable pub miniblocks : ℕ → ℤ → ℕ → List ℕ → Read (List ℤ)
miniblocks size least zero widths body = Some ([], body)
miniblocks size least (suc count) [] body = Some ([], body)
miniblocks size least (suc count) (width ∷ widths) body = do
  numbers ← given (nat_le width 64 && nat_le (size * width / 8) (length body)) (packed body width 0 (min size (suc count)))
  others ← miniblocks size least (suc count - size) widths (drop (size * width / 8) body)
  Some (deltas_of least numbers ++ others.0, others.1)

-- what the first block gives of `count` wanted deltas, and the bytes after it: its least delta, a width for each of its miniblocks, and these
unfoldable pub first_block : ℕ → ℕ → ℕ → Read (List ℤ)
first_block size parts count bytes = do
  least ← varint bytes
  widths ← given (nat_le parts (length least.1)) (take parts least.1)
  miniblocks size (zigzag least.0) count widths (drop parts least.1)

-- Blocks one behind the other, until there are as many deltas as wanted. There are fewer blocks than bytes.
unfoldable pub blocks : ℕ → ℕ → ℕ → ℕ → Read (List ℤ)
blocks limit size parts zero bytes = Some ([], bytes)
blocks zero size parts (suc count) bytes = None
blocks (suc limit) size parts (suc count) bytes = do
  first ← first_block size parts (suc count) bytes
  others ← blocks limit size parts (suc count - length first.0) first.1
  Some (first.0 ++ others.0, others.1)

-- the running sums from a number on, in 64 bits
abbrev pub running_sums : ℤ → List ℤ → List ℤ
running_sums value [] = value ∷ []
running_sums value (delta ∷ deltas) = value ∷ running_sums (int_wrap w64 (value +ℤ delta)) deltas

-- the `count` numbers, and the bytes after the last body
unfoldable pub delta_binary : ℕ → Read (List ℤ)
delta_binary count bytes = do
  shape ← shape_at bytes
  first ← varint shape.1
  deltas ← blocks (length bytes) shape.0.size shape.0.miniblocks (count - 1) first.1
  given (shape.0.total == count) (take count (running_sums (zigzag first.0) deltas.0), deltas.1)
