use Rattle.std.proofs.Common.{ap}
use Rattle.columns_core.specs.Array.{cells}
use Rattle.put_program.proofs.RequestLemmas.{added}
use Rattle.put_program.proofs.column.add_array.Goals as goal

pub returns-in-Boolean : goal.returns-in-Boolean
returns-in-Boolean c = added c.args.array.now c.args.field.now c.args.page_rows _ _ _ _ c.requires.fits.same (ap cells c.in-Boolean.is) c.add_typed.ensures

pub returns-in-Int8 : goal.returns-in-Int8
returns-in-Int8 c = added c.args.array.now c.args.field.now c.args.page_rows _ _ _ _ c.requires.fits.same (ap cells c.in-Int8.is) c.add_typed-in-Int8.ensures

pub returns-in-Int16 : goal.returns-in-Int16
returns-in-Int16 c = added c.args.array.now c.args.field.now c.args.page_rows _ _ _ _ c.requires.fits.same (ap cells c.in-Int16.is) c.add_typed-in-Int16.ensures

pub returns-in-Int32 : goal.returns-in-Int32
returns-in-Int32 c = added c.args.array.now c.args.field.now c.args.page_rows _ _ _ _ c.requires.fits.same (ap cells c.in-Int32.is) c.add_typed-in-Int32.ensures

pub returns-in-Int64 : goal.returns-in-Int64
returns-in-Int64 c = added c.args.array.now c.args.field.now c.args.page_rows _ _ _ _ c.requires.fits.same (ap cells c.in-Int64.is) c.add_typed-in-Int64.ensures

pub returns-in-UInt8 : goal.returns-in-UInt8
returns-in-UInt8 c = added c.args.array.now c.args.field.now c.args.page_rows _ _ _ _ c.requires.fits.same (ap cells c.in-UInt8.is) c.add_typed-in-UInt8.ensures

pub returns-in-UInt16 : goal.returns-in-UInt16
returns-in-UInt16 c = added c.args.array.now c.args.field.now c.args.page_rows _ _ _ _ c.requires.fits.same (ap cells c.in-UInt16.is) c.add_typed-in-UInt16.ensures

pub returns-in-UInt32 : goal.returns-in-UInt32
returns-in-UInt32 c = added c.args.array.now c.args.field.now c.args.page_rows _ _ _ _ c.requires.fits.same (ap cells c.in-UInt32.is) c.add_typed-in-UInt32.ensures

pub returns-in-UInt64 : goal.returns-in-UInt64
returns-in-UInt64 c = added c.args.array.now c.args.field.now c.args.page_rows _ _ _ _ c.requires.fits.same (ap cells c.in-UInt64.is) c.add_typed-in-UInt64.ensures

pub returns-in-Int128 : goal.returns-in-Int128
returns-in-Int128 c = added c.args.array.now c.args.field.now c.args.page_rows _ _ _ _ c.requires.fits.same (ap cells c.in-Int128.is) c.add_typed-in-Int128.ensures

pub returns-in-Utf8 : goal.returns-in-Utf8
returns-in-Utf8 c = added c.args.array.now c.args.field.now c.args.page_rows _ _ _ _ c.requires.fits.same (ap cells c.in-Utf8.is) c.add_typed-in-Utf8.ensures

pub returns-in-LargeUtf8 : goal.returns-in-LargeUtf8
returns-in-LargeUtf8 c = added c.args.array.now c.args.field.now c.args.page_rows _ _ _ _ c.requires.fits.same (ap cells c.in-LargeUtf8.is) c.add_typed-in-LargeUtf8.ensures

pub returns-in-Binary : goal.returns-in-Binary
returns-in-Binary c = added c.args.array.now c.args.field.now c.args.page_rows _ _ _ _ c.requires.fits.same (ap cells c.in-Binary.is) c.add_typed-in-Binary.ensures

pub returns-in-LargeBinary : goal.returns-in-LargeBinary
returns-in-LargeBinary c = added c.args.array.now c.args.field.now c.args.page_rows _ _ _ _ c.requires.fits.same (ap cells c.in-LargeBinary.is) c.add_typed-in-LargeBinary.ensures

pub returns-in-FixedSizeBinary : goal.returns-in-FixedSizeBinary
returns-in-FixedSizeBinary c = added c.args.array.now c.args.field.now c.args.page_rows _ _ _ _ c.requires.fits.same (ap cells c.in-FixedSizeBinary.is) c.add_typed-in-FixedSizeBinary.ensures
