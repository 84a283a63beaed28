use Rattle.std.proofs.Common.{◌∙◌, ap, map, sym}
use Rattle.std.specs.Option.{option_copied}
use Rattle.std.proofs.lemmas.List.{drop-map}
use Rattle.parquet_encoding.specs.JoinedLeft.{joined_left, joined_values}
use Rattle.parquet_encoding.specs.Places.{bytes_in}
use Rattle.parquet_encoding.specs.PlainLeft.{strings, strings_left}
use Rattle.parquet_page.specs.Stored.{Octets}
use Rattle.parquet_page.proofs.RefusalLemmas.{passed_on}
use Rattle.flat_values.specs.KeysLeft.{keys}
use Rattle.flat_values.specs.Outcomes.{entry_outcome, stored_outcome}
use Rattle.flat_values.proofs.OutcomeLemmas.{behind}
use Rattle.binary_values.specs.ByteStrings.{byte_rule, byte_entries}
use Rattle.binary_values.specs.declared.byte_place.BytePlace.TheVariants.{Plain, Lengths, Keys}
use Rattle.binary_values.proofs.NamedLemmas.{named-added, named-caused, named-judged}
use Rattle.binary_values.proofs.PlaceLemmas.{at-place}
use Rattle.binary_values.proofs.byte_place.take_values.Goals as goal

pub returns-in_ok-take_stored-in-Plain-clause-rest : goal.returns-in_ok-take_stored-in-Plain-clause-rest
returns-in_ok-take_stored-in-Plain-clause-rest g c =
    let bytes = c.args.bytes.now in
    let dict = byte_entries c.args.is_text (option_copied c.args.dict) in
    at-place c.args.is_text dict bytes c.args.place (Plain c.in-Plain.walk) c.args.count _ c.in-Plain.is
    (behind (λ piece. stored_outcome (byte_rule c.args.is_text) (Octets (bytes_in bytes piece))) (strings_left c.in_ok-take_stored-in-Plain.field-0 bytes) (strings c.in-Plain.walk bytes) c.args.count c.in_ok-take_stored-in-Plain.ensures.rest)

pub returns-in_ok-take_stored-in-Lengths-clause-rest : goal.returns-in_ok-take_stored-in-Lengths-clause-rest
returns-in_ok-take_stored-in-Lengths-clause-rest g c =
    let bytes = c.args.bytes.now in
    let dict = byte_entries c.args.is_text (option_copied c.args.dict) in
    at-place c.args.is_text dict bytes c.args.place (Lengths c.in-Lengths.walk) c.args.count _ c.in-Lengths.is
    (behind (λ piece. stored_outcome (byte_rule c.args.is_text) (Octets (bytes_in bytes piece))) (joined_left c.in_ok-take_stored-in-Lengths.field-0 bytes) (joined_values c.in-Lengths.walk bytes) c.args.count c.in_ok-take_stored-in-Lengths.ensures.rest)

pub returns-in_ok-take_named-in-Keys-clause-rest : goal.returns-in_ok-take_named-in-Keys-clause-rest
returns-in_ok-take_named-in-Keys-clause-rest g c =
    let bytes = c.args.bytes.now in
    let entries = byte_entries c.args.is_text (option_copied c.args.dict) in
    at-place c.args.is_text entries bytes c.args.place (Keys c.in-Keys.keys) c.args.count _ c.in-Keys.is
    (ap (λ left. map (entry_outcome entries) left) c.in_ok-take_named-in-Keys.ensures.rest ∙ sym (drop-map (entry_outcome entries) c.args.count (keys c.in-Keys.keys bytes)))

pub returns-in_ok-take_named-in-Keys-clause-added : goal.returns-in_ok-take_named-in-Keys-clause-added
returns-in_ok-take_named-in-Keys-clause-added g c =
    rw c.in-Keys.is (named-added c.args.is_text (option_copied c.args.dict) (keys c.in-Keys.keys c.args.bytes.now) c.args.count c.args.strings.now c.take_named.new.strings c.in_ok-take_named-in-Keys.ensures.added)

pub returns-in_ok-take_named-in-Keys-clause-judged : goal.returns-in_ok-take_named-in-Keys-clause-judged
returns-in_ok-take_named-in-Keys-clause-judged g c =
    named-judged c.args.is_text (option_copied c.args.dict) c.args.strings.now c.take_named.new.strings c.in_ok-take_named-in-Keys.ensures.texts c.requires.own_dict c.requires.judged

pub returns-in_err-take_named-in-Keys-clause-cause : goal.returns-in_err-take_named-in-Keys-clause-cause
returns-in_err-take_named-in-Keys-clause-cause g c =
    rw c.in-Keys.is (
    passed_on _ _ _ c.from_residual-in_err-take_named-in-Keys.ensures.1
    (named-caused c.args.is_text (option_copied c.args.dict) (keys c.in-Keys.keys c.args.bytes.now) c.args.count g.O.Offset.greatest c.args.strings.now c.in_err-take_named-in-Keys.field-0.0 c.in_err-take_named-in-Keys.ensures.cause))
