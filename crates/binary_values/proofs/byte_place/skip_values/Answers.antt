use Rattle.std.proofs.Common.{◌∙◌, ap, map, sym}
use Rattle.std.proofs.lemmas.List.{drop-map}
use Rattle.parquet_encoding.specs.JoinedLeft.{joined_left, joined_values}
use Rattle.parquet_encoding.specs.Places.{bytes_in}
use Rattle.parquet_encoding.specs.PlainLeft.{strings, strings_left}
use Rattle.parquet_page.specs.Stored.{Octets}
use Rattle.flat_values.specs.KeysLeft.{keys}
use Rattle.flat_values.specs.Outcomes.{entry_outcome, stored_outcome}
use Rattle.flat_values.proofs.OutcomeLemmas.{behind}
use Rattle.binary_values.specs.ByteStrings.{byte_rule}
use Rattle.binary_values.specs.declared.byte_place.BytePlace.TheVariants.{Plain, Lengths, Keys}
use Rattle.binary_values.proofs.PlaceLemmas.{at-place}
use Rattle.binary_values.proofs.byte_place.skip_values.Goals as goal

pub returns-in-Plain-clause-rest : goal.returns-in-Plain-clause-rest
returns-in-Plain-clause-rest c is_text entries =
    let bytes = c.args.bytes.now in
    at-place is_text entries bytes c.args.place (Plain c.in-Plain.walk) c.args.count _ c.in-Plain.is
    (behind (λ piece. stored_outcome (byte_rule is_text) (Octets (bytes_in bytes piece))) (strings_left c.skip.new.self bytes) (strings c.in-Plain.walk bytes) c.args.count c.skip.ensures)

pub returns-in-Lengths-clause-rest : goal.returns-in-Lengths-clause-rest
returns-in-Lengths-clause-rest c is_text entries =
    let bytes = c.args.bytes.now in
    at-place is_text entries bytes c.args.place (Lengths c.in-Lengths.walk) c.args.count _ c.in-Lengths.is
    (behind (λ piece. stored_outcome (byte_rule is_text) (Octets (bytes_in bytes piece))) (joined_left c.skip-in-Lengths.new.self bytes) (joined_values c.in-Lengths.walk bytes) c.args.count c.skip-in-Lengths.ensures)

pub returns-in-Keys-clause-rest : goal.returns-in-Keys-clause-rest
returns-in-Keys-clause-rest c is_text entries =
    let bytes = c.args.bytes.now in
    at-place is_text entries bytes c.args.place (Keys c.in-Keys.keys) c.args.count _ c.in-Keys.is
    (ap (λ left. map (entry_outcome entries) left) c.skip-in-Keys.ensures.rest ∙ sym (drop-map (entry_outcome entries) c.args.count (keys c.in-Keys.keys bytes)))
