-- Passing over a value: where the bytes after it begin.
use Rattle.std.specs.Prelude.{◌≡◌, ◌<◌, ◌≤◌, ◌+◌, ◌*◌, ℕ, Bool, true, false, List, length, Option, Some, None, Result, Ok, Err}
use Rattle.parquet_base.specs.Reading.{after}
use Rattle.parquet_thrift.specs.Values.{Value, Context, in_struct, in_list, elements, entries, fields_of, value_within}
use Rattle.parquet_thrift.specs.declared.skip.Part.{Part}
use Rattle.parquet_thrift.specs.declared.skip.Part.TheVariants as parts
use Rattle.parquet_thrift.specs.declared.skip.Next.{Next}

abbrev pub context_of : Bool → Context
context_of true = in_list
context_of false = in_struct

-- the bytes after a value and what follows it
unfoldable pub after_value : (List ℕ → Option (List ℕ)) → Option (Value × List ℕ) → Option (List ℕ)
after_value others None = None
after_value others (Some v) = others v.1

-- the bytes after the part, whose values are nested at most so deep
abbrev pub after_part : ℕ → Part → List ℕ → Option (List ℕ)
after_part limit (parts.Fields previous) bytes = after (fields_of (value_within limit in_struct) previous bytes)
after_part limit (parts.Elements kind left) bytes = after (elements (value_within limit in_list kind) left bytes)
after_part limit (parts.Entries key value left) bytes = after (entries (value_within limit in_list key) (value_within limit in_list value) left bytes)
after_part limit (parts.EntryValue key value left) bytes =
    after_value (λ rest. after (entries (value_within limit in_list key) (value_within limit in_list value) left rest)) (value_within limit in_list value bytes)

-- the bytes after a value that has begun, of which at most a part is left
abbrev pub after_begun : ℕ → Option Part → List ℕ → Option (List ℕ)
after_begun limit None bytes = Some bytes
after_begun limit (Some part) bytes = after_part limit part bytes

abbrev pub BeginsValue : {X E : Type 0} → (X → Option Part × List ℕ) → Result X E → Option (List ℕ) → ℕ → Type 0
BeginsValue view (Ok x) spelled limit = spelled ≡ after_begun limit (view x).0 (view x).1
BeginsValue view (Err e) spelled limit = spelled ≡ None

-- the bytes after the next value and the part after it
abbrev pub after_next : ℕ → Option Next → List ℕ → Option (List ℕ)
after_next limit None bytes = Some bytes
after_next limit (Some next) bytes = after_value (after_part limit next.then) (value_within limit (context_of next.in_list) next.kind bytes)

abbrev pub GivesNext : {X E : Type 0} → (X → Option Next × List ℕ) → Result X E → Part → List ℕ → ℕ → Type 0
GivesNext view (Ok x) part bytes limit = after_part limit part bytes ≡ after_next limit (view x).0 (view x).1
GivesNext view (Err e) part bytes limit = after_part limit part bytes ≡ None

-- ---- why passing over ends

-- The end of a struct takes a byte; that of a list or map takes none, and was paid for by the header.
abbrev pub weight : Part → ℕ
weight (parts.Fields previous) = 0
weight (parts.Elements kind left) = 2
weight (parts.Entries key value left) = 2
weight (parts.EntryValue key value left) = 2

-- a value in a list takes a byte, or leaves a part that weighs no more than twice what the value took
abbrev pub PaysBegun : Bool → Option Part → List ℕ → List ℕ → Type 0
PaysBegun inside None bytes rest = inside ≡ true → length rest < length bytes
PaysBegun inside (Some part) bytes rest = weight part + 2 * length rest ≤ 2 * length bytes

-- a field's header takes a byte, and so does the end of a struct
abbrev pub PaysNext : Part → Option Next → List ℕ → List ℕ → Type 0
PaysNext part None bytes rest = 2 * length rest + 2 ≤ weight part + 2 * length bytes
PaysNext part (Some next) bytes rest = (weight next.then ≡ weight part) × (next.in_list ≡ false → length rest < length bytes)
