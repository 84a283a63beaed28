-- How many values the encodings give.
use Rattle.std.proofs.Common.{◌≡◌, ℕ, suc, ◌+◌, ◌-◌, ◌*◌, ◌/◌, eqb, leb, ℤ, Bool, List, [], ◌∷◌, length, take, drop, map, sym, ap, ◌∙◌, arith}
use Rattle.std.specs.Prelude.{Option, Some, None, option_map, min}
use Rattle.std.specs.Simd.{first_chunks}
use Rattle.std.proofs.lemmas.List.{length-map, length-take}
use Rattle.columns_core.specs.declared.cell.Cell.{Cell}
use Rattle.parquet_base.specs.Reading.{◌>>=◌, given}
use Rattle.parquet_base.specs.Varint.{varint, zigzag}
use Rattle.parquet_encoding.specs.Bits.{packed}
use Rattle.parquet_encoding.specs.DeltaBinary.{blocks, delta_binary, running_sums, shape_at}
use Rattle.parquet_encoding.specs.DeltaLength.{delta_length, length_of, strings_of}
use Rattle.parquet_encoding.specs.Plain.{plain_bits, plain_bytes, plain_fixed, truth}
use Rattle.parquet_encoding.proofs.BitsLemmas.{length-packed}
use Rattle.parquet_encoding.proofs.DeltaWalkLemmas.{length-blocks}
use Rattle.parquet_encoding.proofs.RunningLemmas.{length-running}
use Rattle.parquet_encoding.proofs.StepLemmas.{bind_some, given_some, some_is}
use Rattle.parquet_encoding.proofs.StringLemmas.{length-plain}
use Rattle.parquet_meta.specs.declared.metadata.PhysicalType.{PhysicalType}
use Rattle.parquet_meta.specs.declared.metadata.PhysicalType.TheVariants as physical
use Rattle.parquet_page.specs.Stored.{Stored}
use Rattle.parquet_page.specs.Values.{Encoding, Plain, Keys, DeltaPacked, DeltaLengths, delta_length_values, delta_values, dictionary_keys, plain_values, values_in}
use Rattle.parquet_page.proofs.SpelledLemmas.{length-keys}
use Rattle.page_decoding.specs.Outcome.{Outcome}
use Rattle.flat_values.specs.Conversion.{Conversion}
use Rattle.flat_values.specs.Outcomes.{entry_outcome, stored_outcome, value_outcomes}
use Rattle.flat_values.proofs.ItemLemmas.{length-chunks}
use Rattle.flat_values.proofs.PageLemmas.{mapped}

length-mapped : {A B : Type 0} (f : A → B) (count : ℕ) (o : Option (List A)) (values : List B) → ((xs : List A) → o ≡ Some xs → length xs ≡ count) → option_map (map f) o ≡ Some values → length values ≡ count
length-mapped f count o values long e = mapped o (map f) values e (λ xs is same. ap length (sym same) ∙ length-map xs f ∙ long xs is)

length-fixed : (size : ℕ) (bytes : List ℕ) (count : ℕ) (pieces : List (List ℕ)) → plain_fixed size bytes count ≡ Some pieces → length pieces ≡ count
unfolding plain_fixed
length-fixed size bytes count pieces e =
    let own = given_some (eqb (length bytes) (count * size)) (first_chunks size count bytes) pieces e in
    ap length (sym own.1) ∙ length-chunks size count bytes

length-bits : (bytes : List ℕ) (count : ℕ) (bits : List Bool) → plain_bits bytes count ≡ Some bits → length bits ≡ count
unfolding plain_bits
length-bits bytes count bits e =
    let own = given_some (leb ((count + 7) / 8) (length bytes)) (map truth (packed bytes 1 0 count)) bits e in
    ap length (sym own.1) ∙ length-map (packed bytes 1 0 count) truth ∙ length-packed bytes 1 0 count

length-delta : (count : ℕ) (bytes : List ℕ) (read : List ℤ × List ℕ) → delta_binary count bytes ≡ Some read → length read.0 ≡ count
unfolding delta_binary
length-delta count bytes read e =
    let shape = bind_some (shape_at bytes) (λ shape. varint shape.1 >>= λ first. blocks (length bytes) shape.0.size shape.0.miniblocks (count - 1) first.1 >>= λ deltas. given (eqb shape.0.total count) (take count (running_sums (zigzag first.0) deltas.0), deltas.1)) read e in
    let first = bind_some (varint shape.0.1) (λ first. blocks (length bytes) shape.0.0.size shape.0.0.miniblocks (count - 1) first.1 >>= λ deltas. given (eqb shape.0.0.total count) (take count (running_sums (zigzag first.0) deltas.0), deltas.1)) read shape.2 in
    let deltas = bind_some (blocks (length bytes) shape.0.0.size shape.0.0.miniblocks (count - 1) first.0.1) (λ deltas. given (eqb shape.0.0.total count) (take count (running_sums (zigzag first.0.0) deltas.0), deltas.1)) read first.2 in
    let own = given_some (eqb shape.0.0.total count) (take count (running_sums (zigzag first.0.0) deltas.0.0), deltas.0.1) read deltas.2 in
    let many = length-blocks (length bytes) shape.0.0.size shape.0.0.miniblocks (count - 1) first.0.1 deltas.0 deltas.1 in
    let sums = length-running (zigzag first.0.0) deltas.0.0 in
    let taken : length (take count (running_sums (zigzag first.0.0) deltas.0.0)) ≡ min count (length (running_sums (zigzag first.0.0) deltas.0.0)) = length-take count (running_sums (zigzag first.0.0) deltas.0.0) in
    ap (λ r. length r.0) (sym own.1) ∙ omega (arith, many, sums, taken)

length-strings_of : (numbers : List ℤ) (bytes : List ℕ) (strings : List (List ℕ)) → strings_of numbers bytes ≡ Some strings → length strings ≡ length numbers
unfolding strings_of
length-strings_of [] bytes strings e = ap length (sym (some_is [] strings e))
length-strings_of (number ∷ numbers) bytes strings e =
    let long = bind_some (length_of number) (λ long. given (leb long (length bytes)) (take long bytes) >>= λ own. strings_of numbers (drop long bytes) >>= λ others. Some (own ∷ others)) strings e in
    let own = bind_some (given (leb long.0 (length bytes)) (take long.0 bytes)) (λ own. strings_of numbers (drop long.0 bytes) >>= λ others. Some (own ∷ others)) strings long.2 in
    let others = bind_some (strings_of numbers (drop long.0 bytes)) (λ others. Some (own.0 ∷ others)) strings own.2 in
    ap length (sym (some_is _ strings others.2)) ∙ ap suc (length-strings_of numbers (drop long.0 bytes) others.0 others.1)

length-joined : (bytes : List ℕ) (count : ℕ) (strings : List (List ℕ)) → delta_length bytes count ≡ Some strings → length strings ≡ count
unfolding delta_length
length-joined bytes count strings e =
    let lengths = bind_some (delta_binary count bytes) (λ lengths. strings_of lengths.0 lengths.1) strings e in
    length-strings_of lengths.0.0 lengths.0.1 strings lengths.2 ∙ length-delta count bytes lengths.0 lengths.1

length-plain_values : (type : PhysicalType) (bytes : List ℕ) (count : ℕ) (values : List Stored) → plain_values type bytes count ≡ Some values → length values ≡ count
unfolding plain_values
length-plain_values physical.Boolean bytes count values e = length-mapped _ count (plain_bits bytes count) values (length-bits bytes count) e
length-plain_values physical.Int32 bytes count values e = length-mapped _ count (plain_fixed 4 bytes count) values (length-fixed 4 bytes count) e
length-plain_values physical.Int64 bytes count values e = length-mapped _ count (plain_fixed 8 bytes count) values (length-fixed 8 bytes count) e
length-plain_values physical.Int96 bytes count values e = length-mapped _ count (plain_fixed 12 bytes count) values (length-fixed 12 bytes count) e
length-plain_values physical.Float bytes count values e = absurd cc
length-plain_values physical.Double bytes count values e = absurd cc
length-plain_values physical.ByteArray bytes count values e = length-mapped _ count (plain_bytes bytes count) values (length-plain bytes count) e
length-plain_values (physical.FixedLenByteArray size) bytes count values e = length-mapped _ count (plain_fixed size bytes count) values (length-fixed size bytes count) e

length-numbers : (f : ℤ → Stored) (bytes : List ℕ) (count : ℕ) (values : List Stored) → option_map (λ read. map f read.0) (delta_binary count bytes) ≡ Some values → length values ≡ count
length-numbers f bytes count values e = mapped (delta_binary count bytes) (λ read. map f read.0) values e (λ read is same. ap length (sym same) ∙ length-map read.0 f ∙ length-delta count bytes read is)

length-delta_values : (type : PhysicalType) (bytes : List ℕ) (count : ℕ) (values : List Stored) → delta_values type bytes count ≡ Some values → length values ≡ count
unfolding delta_values
length-delta_values physical.Int32 bytes count values e = length-numbers _ bytes count values e
length-delta_values physical.Int64 bytes count values e = length-numbers _ bytes count values e
length-delta_values physical.Boolean bytes count values e = absurd cc
length-delta_values physical.Int96 bytes count values e = absurd cc
length-delta_values physical.Float bytes count values e = absurd cc
length-delta_values physical.Double bytes count values e = absurd cc
length-delta_values physical.ByteArray bytes count values e = absurd cc
length-delta_values (physical.FixedLenByteArray size) bytes count values e = absurd cc

length-delta_length_values : (type : PhysicalType) (bytes : List ℕ) (count : ℕ) (values : List Stored) → delta_length_values type bytes count ≡ Some values → length values ≡ count
unfolding delta_length_values
length-delta_length_values physical.ByteArray bytes count values e = length-mapped _ count (delta_length bytes count) values (length-joined bytes count) e
length-delta_length_values physical.Int32 bytes count values e = absurd cc
length-delta_length_values physical.Int64 bytes count values e = absurd cc
length-delta_length_values physical.Boolean bytes count values e = absurd cc
length-delta_length_values physical.Int96 bytes count values e = absurd cc
length-delta_length_values physical.Float bytes count values e = absurd cc
length-delta_length_values physical.Double bytes count values e = absurd cc
length-delta_length_values (physical.FixedLenByteArray size) bytes count values e = absurd cc

-- the values of an encoding without a dictionary are as many as are read
pub length-values : (encoding : Encoding) (type : PhysicalType) (bytes : List ℕ) (count : ℕ) (values : List Stored) → values_in encoding type None bytes count ≡ Some values → length values ≡ count
length-values Plain type bytes count values e = length-plain_values type bytes count values e
length-values Keys type bytes count values e = absurd cc
length-values DeltaPacked type bytes count values e = length-delta_values type bytes count values e
length-values DeltaLengths type bytes count values e = length-delta_length_values type bytes count values e

-- so are their outcomes
pub length-outcomes : (rule : Conversion) (type : PhysicalType) (entries : Option (List Cell)) (encoding : Encoding) (bytes : List ℕ) (count : ℕ) (outcomes : List Outcome) → value_outcomes rule type entries encoding bytes count ≡ Some outcomes → length outcomes ≡ count
unfolding value_outcomes
length-outcomes rule type entries Keys bytes count outcomes e = length-mapped (entry_outcome entries) count (dictionary_keys bytes count) outcomes (length-keys bytes count) e
length-outcomes rule type entries Plain bytes count outcomes e = length-mapped (stored_outcome rule) count (values_in Plain type None bytes count) outcomes (length-values Plain type bytes count) e
length-outcomes rule type entries DeltaPacked bytes count outcomes e = length-mapped (stored_outcome rule) count (values_in DeltaPacked type None bytes count) outcomes (length-values DeltaPacked type bytes count) e
length-outcomes rule type entries DeltaLengths bytes count outcomes e = length-mapped (stored_outcome rule) count (values_in DeltaLengths type None bytes count) outcomes (length-values DeltaLengths type bytes count) e
