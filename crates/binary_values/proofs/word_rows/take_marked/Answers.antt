use Rattle.std.proofs.Common.{◌≤◌, ◌∙◌, [], arith, length, map, sym, take, unwrap_or}
use Rattle.std.proofs.lemmas.List.{length-map, length-take}
use Rattle.parquet_encoding.specs.Places.{bytes_in}
use Rattle.parquet_page.proofs.RefusalLemmas.{passed_on}
use Rattle.parquet_page.specs.Levels.{present_count}
use Rattle.parquet_page.specs.ValidityParts.{word_places}
use Rattle.binary_values.specs.ByteStrings.{stored_outcomes}
use Rattle.binary_values.proofs.OwnLemmas.{word-cells, word-own, word-told}
use Rattle.binary_values.proofs.RowLemmas.{sum-rows}
use Rattle.binary_values.proofs.StoredLemmas.{judged-given, stored-at}
use Rattle.binary_values.proofs.word_rows.take_marked.Goals as goal

pub returns-clause-cells : goal.returns-clause-cells
returns-clause-cells g c =
    let found = g.W.StringWalk.places c.args.walk c.args.bytes.now in
    let left = unwrap_or found [] in
    let places = word_places c.args.word in
    let count = present_count places in
    let stored = map (bytes_in c.args.bytes.now) (take count left) in
    let old = c.args.decoded.now in
    let enough : count ≤ length stored = omega (arith, c.requires.enough, length-map (take count left) (bytes_in c.args.bytes.now), length-take count left) in
    let given = sym (stored-at c.args.is_text c.args.bytes.now found count ∙ judged-given c.args.is_text stored c.in_ok-behind.ensures.texts) in
    word-cells g.O.Offset.greatest c.args.is_text old.is_text old.strings old.validity c.requires.own c.take_stored_rows.new.strings stored c.mark_rows.new.validity places (stored_outcomes c.args.is_text c.args.bytes.now found) c.len-held.result
    c.len-held.ensures c.in_ok-behind.ensures.added c.in_ok-mark_rows.ensures.ok enough given

pub returns-clause-own : goal.returns-clause-own
returns-clause-own g c =
    let found = g.W.StringWalk.places c.args.walk c.args.bytes.now in
    let left = unwrap_or found [] in
    let places = word_places c.args.word in
    let count = present_count places in
    let stored = map (bytes_in c.args.bytes.now) (take count left) in
    let old = c.args.decoded.now in
    let enough : count ≤ length stored = omega (arith, c.requires.enough, length-map (take count left) (bytes_in c.args.bytes.now), length-take count left) in
    let given = sym (stored-at c.args.is_text c.args.bytes.now found count ∙ judged-given c.args.is_text stored c.in_ok-behind.ensures.texts) in
    word-own g.O.Offset.greatest c.args.is_text old.is_text old.strings old.validity c.requires.own c.take_stored_rows.new.strings stored c.mark_rows.new.validity places (stored_outcomes c.args.is_text c.args.bytes.now found) c.len-held.result
    c.len-held.ensures c.in_ok-behind.ensures.added c.in_ok-mark_rows.ensures.ok enough given (sum-rows (bytes_in c.args.bytes.now) places left) c.in_ok-behind.ensures.judged c.in_ok-behind.ensures.fits

pub returns-in_err-behind-clause-cause : goal.returns-in_err-behind-clause-cause
returns-in_err-behind-clause-cause g c =
    let found = g.W.StringWalk.places c.args.walk c.args.bytes.now in
    let old = c.args.decoded.now in
    passed_on c.from_residual.result _ _ c.from_residual.ensures.1
    (word-told g.O.Offset.greatest c.args.is_text old.is_text old.strings old.validity c.requires.own (word_places c.args.word) (stored_outcomes c.args.is_text c.args.bytes.now found) c.in_err-behind.field-0.0 c.in_err-behind.ensures.cause)
