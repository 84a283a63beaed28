-- The hybrid of run-length runs and bit-packed runs.
use Rattle.std.specs.Prelude.{ℕ, zero, suc, ◌+◌, ◌-◌, ◌*◌, ◌/◌, ◌%◌, ◌==◌, nat_lt, nat_le, min, List, [], ◌++◌, length, take, drop, replicate, Option, Some, None, if◌then◌else◌}
use Rattle.parquet_base.specs.Reading.{Read, ◌>>=◌, given}
use Rattle.parquet_base.specs.Bytes.{little_endian}
use Rattle.parquet_base.specs.Varint.{varint}
use Rattle.parquet_encoding.specs.Bits.{packed}

-- groups of eight values in bits, or copies of one value
pub data Run : Type 0 where
  Groups : (groups : ℕ) → Run
  Copies : (copies : ℕ) → Run

-- the lowest bit of a header tells the kind of the run, and the other bits how long it is
abbrev pub run_of : ℕ → Run
run_of header = if header % 2 == 1 then Groups (header / 2) else Copies (header / 2)

-- the bytes that hold one repeated value
abbrev pub byte_width : ℕ → ℕ
byte_width width = (width + 7) / 8

-- how many values a run has by its header
abbrev pub run_count : Run → ℕ
run_count (Groups groups) = 8 * groups
run_count (Copies copies) = copies

-- how many values a run has in the bytes behind its header: of packed values those that lie whole in them
abbrev pub run_length : Run → ℕ → List ℕ → ℕ
run_length (Groups groups) width body = min (8 * groups) (8 * length body / width)
run_length (Copies copies) width body = copies

-- the bytes that belong to a run
abbrev pub run_size : Run → ℕ → ℕ
run_size (Groups groups) width = groups * width
run_size (Copies copies) width = byte_width width

-- the first values of a run
abbrev pub first_values : Run → ℕ → List ℕ → ℕ → Option (List ℕ)
first_values (Groups groups) width body count = Some (packed body width 0 count)
first_values (Copies copies) width body count = given (nat_le (byte_width width) (length body)) (replicate count (little_endian (take (byte_width width) body)))

-- what the first run gives of `count` wanted values, and the bytes after it
unfoldable pub first_run : ℕ → ℕ → Read (List ℕ)
first_run width count bytes = do
  header ← varint bytes
  let run = run_of header.0 in let body = header.1 in do
    own ← first_values run width body (min (run_length run width body) count)
    Some (own, drop (run_size run width) body)

-- Runs one behind the other, until there are as many values as wanted. There are fewer runs than bytes.
unfoldable pub runs : ℕ → ℕ → List ℕ → ℕ → Option (List ℕ)
runs limit width bytes zero = Some []
runs zero width bytes (suc count) = None
runs (suc limit) width bytes (suc count) = do
  first ← first_run width (suc count) bytes
  others ← runs limit width first.1 (suc count - length first.0)
  Some (first.0 ++ others)

-- The `count` numbers of `width` bits that the bytes spell. Numbers of no bits are zeros, whatever stands in the bytes.
unfoldable pub hybrid : ℕ → List ℕ → ℕ → Option (List ℕ)
hybrid width bytes count = if width == 0 then Some (replicate count 0) else if nat_lt 32 width then None else runs (length bytes) width bytes count
