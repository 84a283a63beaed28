-- The file that the first word of a command line names: a sample, `@sample:ROWS:SEED`, or else what the source tells.
use Rattle.std.specs.Prelude.{ℕ, ◌==◌, nat_lt, Bool, List, [], ◌∷◌, codes, if◌then◌else◌, Option, Some, None, option_and_then, String, string_bytes}
use Rattle.std.specs.Option.{option_map_or, option_zip}
use Rattle.std.specs.declared.alloc.Global.{Global}
use Rattle.parquet_sample.specs.Sample.{most_rows, sample}
use Rattle.pq_common.specs.Spelled.{digits_at_most, fits, split_first, without_front}

-- 1 to 10 digits that stand for a number of 32 bits
abbrev pub short_number : List ℕ → Option ℕ
short_number text = option_and_then (fits 32) (digits_at_most 10 text)

abbrev pub rows_and_seed : List ℕ × List ℕ → Option (ℕ × ℕ)
rows_and_seed texts = option_zip (short_number texts.0) (short_number texts.1)

abbrev pub is_colon : ℕ → Bool
is_colon byte = byte == 58

-- the rows and the seed of the sample that a text names
abbrev pub sample_of : List ℕ → Option (ℕ × ℕ)
sample_of file = option_and_then rows_and_seed (option_and_then (split_first is_colon) (without_front (codes "@sample:") file))

-- those of the sample that the first word names
abbrev pub sample_in : List (String Global) → Option (ℕ × ℕ)
sample_in [] = None
sample_in (file ∷ words) = sample_of (string_bytes file)

abbrev pub is_too_great : ℕ × ℕ → Bool
is_too_great asked = nat_lt most_rows asked.0

-- A sample that is too great has no bytes.
abbrev pub sample_bytes : ℕ × ℕ → Option (List ℕ)
sample_bytes asked = if is_too_great asked then None else Some (sample asked.0 asked.1)

-- the bytes of the file that the words name, where the source tells these
abbrev pub told_by : List (String Global) → Option (List ℕ) → Option (List ℕ)
told_by words told = option_map_or sample_bytes (sample_in words) told

-- the count of faults that the file's reads know of, where this is the source's: reads of a sample never fail
abbrev pub faults_by : List (String Global) → ℕ → ℕ
faults_by words faults = option_map_or (λ _. 0) (sample_in words) faults
