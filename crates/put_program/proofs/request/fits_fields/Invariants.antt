use Rattle.std.proofs.Common.{◌≡◌, length, take}
use Rattle.std.specs.List.{AllZip}
use Rattle.put_program.specs.Request.{FitsField}
use Rattle.put_program.proofs.request.fits_fields.Given as goal

abbrev pub invariant-loop-i : goal.invariant-loop-i
invariant-loop-i l = (length l.arrays ≡ length l.fields) × AllZip FitsField (take l.i l.fields) (take l.i l.arrays)
