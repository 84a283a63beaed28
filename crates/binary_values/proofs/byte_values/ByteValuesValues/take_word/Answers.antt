use Rattle.std.specs.Option.{option_copied}
use Rattle.parquet_encoding.specs.JoinedLeft.{joined_left, joined_values}
use Rattle.parquet_encoding.specs.Places.{bytes_in}
use Rattle.parquet_encoding.specs.PlainLeft.{strings, strings_left}
use Rattle.parquet_page.specs.Levels.{present_count}
use Rattle.parquet_page.specs.Stored.{Octets}
use Rattle.parquet_page.specs.ValidityParts.{word_places}
use Rattle.flat_values.specs.Outcomes.{stored_outcome}
use Rattle.flat_values.proofs.OutcomeLemmas.{behind}
use Rattle.binary_values.specs.ByteStrings.{byte_entries, byte_rule}
use Rattle.binary_values.specs.declared.byte_place.BytePlace.TheVariants.{Plain, Lengths}
use Rattle.binary_values.proofs.PlaceLemmas.{at-place}
use Rattle.binary_values.proofs.byte_values.ByteValuesValues.take_word.Goals as goal

pub returns-in_ok-behind-in-Plain-clause-left : goal.returns-in_ok-behind-in-Plain-clause-left
returns-in_ok-behind-in-Plain-clause-left g c =
    let bytes = c.args.bytes.now in
    let is_text = c.args.self.now.is_text in
    let count = present_count (word_places c.args.word) in
    at-place is_text (byte_entries is_text (option_copied c.args.dict)) bytes c.args.place.now (Plain c.in-Plain.walk) count _ c.in-Plain.is
    (behind (λ piece. stored_outcome (byte_rule is_text) (Octets (bytes_in bytes piece))) (strings_left c.in_ok-behind-in-Plain.behind bytes) (strings c.in-Plain.walk bytes) count c.in_ok-behind-in-Plain.ensures.rest)

pub returns-in_ok-behind-in-Lengths-clause-left : goal.returns-in_ok-behind-in-Lengths-clause-left
returns-in_ok-behind-in-Lengths-clause-left g c =
    let bytes = c.args.bytes.now in
    let is_text = c.args.self.now.is_text in
    let count = present_count (word_places c.args.word) in
    at-place is_text (byte_entries is_text (option_copied c.args.dict)) bytes c.args.place.now (Lengths c.in-Lengths.walk) count _ c.in-Lengths.is
    (behind (λ piece. stored_outcome (byte_rule is_text) (Octets (bytes_in bytes piece))) (joined_left c.in_ok-behind-in-Lengths.behind bytes) (joined_values c.in-Lengths.walk bytes) count c.in_ok-behind-in-Lengths.ensures.rest)
