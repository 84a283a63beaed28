-- Worked examples of the definitions.
use Rattle.std.specs.Prelude.{◌≡◌, ℕ, List, [], ◌∷◌, ◌++◌, replicate, true, false, Some, None, refl, pos, negsuc, codes}
use Rattle.std.specs.Int.{int_wrap}
use Rattle.parquet_base.specs.Bytes.{little_endian}
use Rattle.parquet_base.specs.Varint.{varint_within, varint}
use Rattle.parquet_encoding.specs.Bits.{packed}
use Rattle.parquet_encoding.specs.Hybrid.{first_run, runs, hybrid}
use Rattle.parquet_encoding.specs.Plain.{plain_fixed, first_string, plain_bytes, plain_bits}
use Rattle.parquet_encoding.specs.DeltaBinary.{shape_at, miniblocks, first_block, blocks, delta_binary}
use Rattle.parquet_encoding.specs.DeltaLength.{strings_of, delta_length, delta_length_places}
use Rattle.parquet_encoding.specs.Places.{places_of}

eight_packed : hybrid 3 (0x03 ∷ 0x88 ∷ 0xC6 ∷ 0xFA ∷ []) 8 ≡ Some (0 ∷ 1 ∷ 2 ∷ 3 ∷ 4 ∷ 5 ∷ 6 ∷ 7 ∷ [])
unfolding hybrid runs first_run varint varint_within packed little_endian
eight_packed = refl

a_ninth_is_missing : hybrid 3 (0x03 ∷ 0x88 ∷ 0xC6 ∷ 0xFA ∷ []) 9 ≡ None
unfolding hybrid runs first_run varint varint_within packed little_endian
a_ninth_is_missing = refl

-- a packed run that is cut by the end has the values that lie whole in it
cut_short : hybrid 3 (0x03 ∷ 0x88 ∷ 0xC6 ∷ []) 5 ≡ Some (0 ∷ 1 ∷ 2 ∷ 3 ∷ 4 ∷ [])
unfolding hybrid runs first_run varint varint_within packed little_endian
cut_short = refl

cut_too_short : hybrid 3 (0x03 ∷ 0x88 ∷ 0xC6 ∷ []) 6 ≡ None
unfolding hybrid runs first_run varint varint_within packed little_endian
cut_too_short = refl

-- two copies of 7 in two bytes, and then packed bits of which only two are wanted
two_runs : hybrid 9 (0x04 ∷ 0x07 ∷ 0x00 ∷ 0x03 ∷ 0x03 ∷ 0x02 ∷ 0x00 ∷ []) 4 ≡ Some (7 ∷ 7 ∷ 3 ∷ 1 ∷ [])
unfolding hybrid runs first_run varint varint_within packed little_endian
two_runs = refl

-- a value of more bits than the width stays as it is
wide_copies : hybrid 1 (0x04 ∷ 0x02 ∷ []) 2 ≡ Some (2 ∷ 2 ∷ [])
unfolding hybrid runs first_run varint varint_within packed little_endian
wide_copies = refl

-- a repeated value that is not there, though no copy of it is wanted
empty_run_without_value : hybrid 1 (0x00 ∷ []) 1 ≡ None
unfolding hybrid runs first_run varint varint_within packed little_endian
empty_run_without_value = refl

no_bits : hybrid 0 [] 3 ≡ Some (0 ∷ 0 ∷ 0 ∷ [])
unfolding hybrid
no_bits = refl

too_wide : hybrid 33 (0x02 ∷ 0 ∷ 0 ∷ 0 ∷ 0 ∷ 0 ∷ []) 0 ≡ None
unfolding hybrid
too_wide = refl

two_numbers : plain_fixed 2 (1 ∷ 2 ∷ 3 ∷ 4 ∷ []) 2 ≡ Some ((1 ∷ 2 ∷ []) ∷ (3 ∷ 4 ∷ []) ∷ [])
unfolding plain_fixed
two_numbers = refl

a_byte_too_many : plain_fixed 2 (1 ∷ 2 ∷ 3 ∷ 4 ∷ 5 ∷ []) 2 ≡ None
unfolding plain_fixed
a_byte_too_many = refl

two_texts : plain_bytes (2 ∷ 0 ∷ 0 ∷ 0 ∷ 104 ∷ 105 ∷ 0 ∷ 0 ∷ 0 ∷ 0 ∷ []) 2 ≡ Some (codes "hi" ∷ [] ∷ [])
unfolding plain_bytes first_string little_endian
two_texts = refl

a_text_too_many : plain_bytes (2 ∷ 0 ∷ 0 ∷ 0 ∷ 104 ∷ 105 ∷ 0 ∷ 0 ∷ 0 ∷ 0 ∷ []) 1 ≡ None
unfolding plain_bytes first_string little_endian
a_text_too_many = refl

six_truth_values : plain_bits (0x5B ∷ []) 6 ≡ Some (true ∷ true ∷ false ∷ true ∷ true ∷ false ∷ [])
unfolding plain_bits packed little_endian
six_truth_values = refl

one_to_five : delta_binary 5 (0x80 ∷ 0x01 ∷ 0x04 ∷ 0x05 ∷ 0x02 ∷ 0x02 ∷ 0 ∷ 0 ∷ 0 ∷ 0 ∷ []) ≡ Some (pos 1 ∷ pos 2 ∷ pos 3 ∷ pos 4 ∷ pos 5 ∷ [], [])
unfolding delta_binary shape_at blocks first_block miniblocks varint varint_within packed little_endian int_wrap
one_to_five = refl

other_count : delta_binary 4 (0x80 ∷ 0x01 ∷ 0x04 ∷ 0x05 ∷ 0x02 ∷ 0x02 ∷ 0 ∷ 0 ∷ 0 ∷ 0 ∷ []) ≡ None
unfolding delta_binary shape_at blocks first_block miniblocks varint varint_within packed little_endian int_wrap
other_count = refl

-- sums go round in 64 bits: the greatest number and 1 more
round : delta_binary 2 (0x80 ∷ 0x01 ∷ 0x04 ∷ 0x02 ∷ 0xFE ∷ 0xFF ∷ 0xFF ∷ 0xFF ∷ 0xFF ∷ 0xFF ∷ 0xFF ∷ 0xFF ∷ 0xFF ∷ 0x01 ∷ 0x02 ∷ 0 ∷ 0 ∷ 0 ∷ 0 ∷ [])
    ≡ Some (pos 9223372036854775807 ∷ negsuc 9223372036854775807 ∷ [], [])
unfolding delta_binary shape_at blocks first_block miniblocks varint varint_within packed little_endian int_wrap
round = refl

-- of a block of which three numbers are wanted, the other widths are not looked at, and their bodies are not there
unneeded_widths : delta_binary 3 (0x80 ∷ 0x01 ∷ 0x04 ∷ 0x03 ∷ 0 ∷ 0 ∷ 1 ∷ 255 ∷ 255 ∷ 255 ∷ 3 ∷ 0 ∷ 0 ∷ 0 ∷ 9 ∷ []) ≡ Some (pos 0 ∷ pos 1 ∷ pos 2 ∷ [], 9 ∷ [])
unfolding delta_binary shape_at blocks first_block miniblocks varint varint_within packed little_endian int_wrap
unneeded_widths = refl

too_wide_a_miniblock : delta_binary 3 (0x80 ∷ 0x01 ∷ 0x04 ∷ 0x03 ∷ 0 ∷ 0 ∷ 65 ∷ 0 ∷ 0 ∷ 0 ∷ []) ≡ None
unfolding delta_binary shape_at blocks first_block miniblocks varint varint_within packed little_endian int_wrap
too_wide_a_miniblock = refl

abbrev three : List ℕ
three = 0x80 ∷ 0x01 ∷ 0x04 ∷ 0x03 ∷ 0x0A ∷ 0x09 ∷ 0x04 ∷ 0 ∷ 0 ∷ 0 ∷ 0x80 ∷ replicate 15 0 ++ codes "Helloabc"

three_strings : delta_length three 3 ≡ Some (codes "Hello" ∷ [] ∷ codes "abc" ∷ [])
unfolding delta_length strings_of delta_binary shape_at blocks first_block miniblocks varint varint_within packed little_endian int_wrap
three_strings = refl

three_places : delta_length_places three 3 ≡ Some ((26, 5) ∷ (31, 0) ∷ (31, 3) ∷ [])
unfolding delta_length_places places_of strings_of delta_binary shape_at blocks first_block miniblocks varint varint_within packed little_endian int_wrap
three_places = refl

a_length_below_zero : delta_length (0x80 ∷ 0x01 ∷ 0x04 ∷ 0x01 ∷ 0x01 ∷ 65 ∷ []) 1 ≡ None
unfolding delta_length strings_of delta_binary shape_at blocks first_block miniblocks varint varint_within packed little_endian int_wrap
a_length_below_zero = refl
