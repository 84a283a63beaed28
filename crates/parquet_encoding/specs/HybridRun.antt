-- Runs of the hybrid encoding, as places in the bytes.
use Rattle.std.specs.Prelude.{◌≡◌, ℕ, ◌-◌, ◌*◌, ◌/◌, ◌<◌, ◌≤◌, ◌+◌, nat_le, min, List, length, drop, replicate, Option, Some}
use Rattle.parquet_base.specs.Reading.{given}
use Rattle.parquet_encoding.specs.Hybrid.{first_run, byte_width}
use Rattle.parquet_encoding.specs.Bits.{bits_at, packed}
use Rattle.parquet_encoding.specs.PackedRun.{LiesIn, packed_values}
use Rattle.parquet_encoding.specs.declared.run.HybridRun.{HybridRun}
use Rattle.parquet_encoding.specs.declared.run.HybridRun.TheVariants.{Packed, Repeated}
use Rattle.parquet_encoding.specs.declared.run.OpenedRun.{OpenedRun}

-- how many values a run has
abbrev pub count_of : HybridRun → ℕ
count_of (Packed run) = run.count
count_of (Repeated value count) = count

-- its values
abbrev pub run_values : HybridRun → List ℕ → List ℕ
run_values (Packed run) bytes = packed_values run bytes
run_values (Repeated value count) bytes = replicate count value

-- what it has of packed values lies in the bytes
abbrev pub IsIn : List ℕ → HybridRun → Type 0
IsIn bytes (Packed run) = LiesIn bytes run
IsIn bytes (Repeated value count) = Unit {0}

-- its values; none where they do not lie in the bytes
unfoldable pub run_left : HybridRun → List ℕ → Option (List ℕ)
run_left (Packed run) bytes = given (nat_le (8 * run.place + (run.bit + run.count * run.width)) (8 * length bytes)) (packed_values run bytes)
run_left (Repeated value count) bytes = Some (replicate count value)

-- a run that begins at a place, with its values and what stands behind it
pub record Opens (bytes : List ℕ) (place width wanted : ℕ) (opened : OpenedRun) : Type 0 where
  pub lies : IsIn bytes opened.run
  pub is_first : first_run width wanted (drop place bytes) ≡ Some (run_values opened.run bytes, drop opened.end bytes)
  pub most : count_of opened.run ≤ wanted
  pub after : place < opened.end
  pub within : opened.end ≤ length bytes

-- groups of packed values behind a header
pub record OpensPacked (bytes : List ℕ) (body width groups wanted : ℕ) (opened : OpenedRun) : Type 0 where
  pub lies : IsIn bytes opened.run
  pub count : count_of opened.run ≡ min (min (8 * groups) (8 * (length bytes - body) / width)) wanted
  pub values : run_values opened.run bytes ≡ packed bytes width (8 * body) (count_of opened.run)
  pub after : drop opened.end bytes ≡ drop (groups * width) (drop body bytes)
  pub no_earlier : body ≤ opened.end
  pub within : opened.end ≤ length bytes

-- copies of a value behind a header
pub record OpensRepeated (bytes : List ℕ) (body width copies wanted : ℕ) (opened : OpenedRun) : Type 0 where
  pub run : opened.run ≡ Repeated (bits_at bytes (8 * body + 0) (8 * byte_width width)) (min copies wanted)
  pub end : opened.end ≡ body + byte_width width
  pub within : opened.end ≤ length bytes

-- how many of the wanted values the run at a place gives, and the place after it
pub record PassesRun (bytes : List ℕ) (place width wanted : ℕ) (passed : ℕ × ℕ) : Type 0 where
  pub values : List ℕ
  pub is_first : first_run width wanted (drop place bytes) ≡ Some (values, drop passed.1 bytes)
  pub count : length values ≡ passed.0
  pub most : passed.0 ≤ wanted
  pub after : place < passed.1
  pub within : passed.1 ≤ length bytes
