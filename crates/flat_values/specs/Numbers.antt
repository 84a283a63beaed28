-- Numbers of the code as stored values.
use Rattle.std.specs.Prelude.{◌≡◌, ◌⊎◌, ℕ, ℤ, pos, List, slice_index}
use Rattle.flat_values.specs.Units.{nanoseconds_of}
use Rattle.parquet_page.specs.Stored.{Stored, Words}

-- three words, the nanoseconds of the day in the first two
abbrev pub words_of : List ℕ → Stored
words_of words = Words (slice_index words 0) (slice_index words 1) (slice_index words 2)

-- the nanoseconds since 1970 that they name
abbrev pub nanoseconds_in : List ℕ → ℤ
nanoseconds_in words = nanoseconds_of (slice_index words 0) (slice_index words 1) (slice_index words 2)

-- the factors between units of time
abbrev pub IsFactor : ℤ → Type 0
IsFactor factor = (factor ≡ pos 1) ⊎ (factor ≡ pos 1000) ⊎ (factor ≡ pos 1000000) ⊎ (factor ≡ pos 1000000000)
