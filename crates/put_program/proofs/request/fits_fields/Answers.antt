use Rattle.std.proofs.Common.{sym, ◌∙◌, arith}
use Rattle.std.proofs.lemmas.Slice.Zip.{AllZip-long}
use Rattle.put_program.specs.Request.{FitsField}
use Rattle.put_program.proofs.ListLemmas.{at-place, zip-at, zip-more}
use Rattle.put_program.proofs.request.fits_fields.Goals as goal

pub returns-then-arrays-fields : goal.returns-then-arrays-fields
returns-then-arrays-fields c = (λ h. absurd cc, λ all. absurd (c.if-arrays-fields.true (AllZip-long FitsField c.args.fields.now c.args.arrays.now all)))

pub returns-then-not-fits_field : goal.returns-then-not-fits_field
returns-then-not-fits_field c =
    let field = at-place c.args.fields.now c.loop-i.i c.index-fields-i.result c.loop-i-test.true c.index-fields-i.is in
    let array = at-place c.args.arrays.now c.loop-i.i c.index-arrays-i.result (omega (arith, c.loop-i-test.true, c.loop-i.invariant.0)) c.index-arrays-i.is in
    (λ h. absurd cc, λ all. sym c.if-not-fits_field.true ∙ c.fits_field.ensures.1 (zip-at FitsField c.args.fields.now c.args.arrays.now c.loop-i.i c.index-fields-i.result c.index-arrays-i.result field array all))

pub loop-i-preserved : goal.loop-i-preserved
loop-i-preserved c =
    let field = at-place c.args.fields.now c.loop-i.i c.index-fields-i.result c.loop-i-test.true c.index-fields-i.is in
    let array = at-place c.args.arrays.now c.loop-i.i c.index-arrays-i.result (omega (arith, c.loop-i-test.true, c.loop-i.invariant.0)) c.index-arrays-i.is in
    (c.loop-i.invariant.0, zip-more FitsField c.args.fields.now c.args.arrays.now c.loop-i.i c.index-fields-i.result c.index-arrays-i.result field array (c.fits_field.ensures.0 c.if-not-fits_field.false) c.loop-i.invariant.1)
