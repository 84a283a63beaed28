use Rattle.std.proofs.Common.{◌∙◌, ◌-◌, ap, ap₂, take}
use Rattle.std.specs.Option.{option_copied}
use Rattle.std.proofs.lemmas.Result.{on_ok_weaker}
use Rattle.parquet_page.proofs.RefusalLemmas.{passed_on}
use Rattle.flat_values.specs.Decoded.{with_values}
use Rattle.binary_values.specs.ByteLeft.{byte_left}
use Rattle.binary_values.specs.ByteStrings.{byte_entries}
use Rattle.binary_values.proofs.OwnLemmas.{own-caused, own-cells, own-more}
use Rattle.binary_values.proofs.byte_values.ByteValuesValues.take.Goals as goal

pub returns-clause-cells : goal.returns-clause-cells
returns-clause-cells g c =
    let old = c.args.decoded.now in
    let is_text = c.args.self.now.is_text in
    let rows = take c.args.count (byte_left is_text (byte_entries is_text (option_copied c.args.dict)) c.args.bytes.now c.args.place.now) in
    on_ok_weaker c.mark_values.result
    (λ marked. own-cells g.O.Offset.greatest is_text old.is_text old.strings old.validity c.requires.own c.take_values.new.strings c.mark_values.new.validity rows c.in_ok-behind.ensures.added
    (marked ∙ ap (λ n. with_values n old.validity) (ap₂ (λ m n. m - n) c.len.ensures c.len-held.ensures)))
    c.mark_values.ensures.ok

pub returns-clause-own : goal.returns-clause-own
returns-clause-own g c =
    let old = c.args.decoded.now in
    let is_text = c.args.self.now.is_text in
    let rows = take c.args.count (byte_left is_text (byte_entries is_text (option_copied c.args.dict)) c.args.bytes.now c.args.place.now) in
    on_ok_weaker c.mark_values.result
    (λ marked. own-more g.O.Offset.greatest is_text old.is_text old.strings old.validity c.requires.own c.take_values.new.strings c.mark_values.new.validity rows c.in_ok-behind.ensures.added
    (marked ∙ ap (λ n. with_values n old.validity) (ap₂ (λ m n. m - n) c.len.ensures c.len-held.ensures)) c.in_ok-behind.ensures.judged c.in_ok-behind.ensures.fits)
    c.mark_values.ensures.ok

pub returns-in_err-behind-clause-cause : goal.returns-in_err-behind-clause-cause
returns-in_err-behind-clause-cause g c =
    let old = c.args.decoded.now in
    let is_text = c.args.self.now.is_text in
    let rows = take c.args.count (byte_left is_text (byte_entries is_text (option_copied c.args.dict)) c.args.bytes.now c.args.place.now) in
    passed_on c.from_residual.result _ _ c.from_residual.ensures.1
    (own-caused g.O.Offset.greatest is_text old.is_text old.strings old.validity c.requires.own rows c.in_err-behind.field-0.0 c.in_err-behind.ensures.cause)
