use Rattle.std.proofs.Common.{subst, sym}
use Rattle.std.specs.Prelude.{IfSome}
use Rattle.std.specs.Option.{option_copied}
use Rattle.columns_core.specs.declared.data_type.DataType.{out-DataType}
use Rattle.parquet_meta.specs.declared.metadata.PhysicalType.{PhysicalType}
use Rattle.flat_values.specs.Pairs.{from_physical}
use Rattle.flat_binary.specs.Left.{converted_left, supply_of}
use Rattle.flat_binary.specs.Begun.{BeginsColumn}
use Rattle.flat_binary.specs.Layers.{array_left}
use Rattle.flat_binary.proofs.PageLists.{AreStoredAs}
use Rattle.flat_binary.proofs.page_iter.flat_iter.Goals as goal

pub boolean_iter-requires-clause-typed : goal.boolean_iter-requires-clause-typed
boolean_iter-requires-clause-typed g c = subst (AreStoredAs (g.I.Pages.to_come c.args.pages)) c.in-Boolean.is c.requires.typed

pub int32_iter-requires-clause-typed : goal.int32_iter-requires-clause-typed
int32_iter-requires-clause-typed g c = subst (AreStoredAs (g.I.Pages.to_come c.args.pages)) c.in-Int32.is c.requires.typed

pub int64_iter-requires-clause-typed : goal.int64_iter-requires-clause-typed
int64_iter-requires-clause-typed g c = subst (AreStoredAs (g.I.Pages.to_come c.args.pages)) c.in-Int64.is c.requires.typed

pub int96_iter-requires-clause-typed : goal.int96_iter-requires-clause-typed
int96_iter-requires-clause-typed g c = subst (AreStoredAs (g.I.Pages.to_come c.args.pages)) c.in-Int96.is c.requires.typed

pub fixed_iter-requires-clause-typed : goal.fixed_iter-requires-clause-typed
fixed_iter-requires-clause-typed g c = subst (AreStoredAs (g.I.Pages.to_come c.args.pages)) c.in-FixedLenByteArray.is c.requires.typed

pub byte_array_iter-requires-clause-typed : goal.byte_array_iter-requires-clause-typed
byte_array_iter-requires-clause-typed g c = subst (AreStoredAs (g.I.Pages.to_come c.args.pages)) c.in-ByteArray.is c.requires.typed

pub returns-in-ByteArray-clause-begins : goal.returns-in-ByteArray-clause-begins
returns-in-ByteArray-clause-begins g c =
    let supply = supply_of g.I.Pages.to_come g.I.Pages.causes g.I.Pages.row_count g.I.Pages.lent_count c.args.pages in
    let left = array_left g.I.Pages.to_come g.I.Pages.causes g.I.Pages.row_count g.I.Pages.lent_count in
    let P : PhysicalType → Type 0 = λ physical. IfSome (from_physical physical (option_copied c.args.logical) (out-DataType c.args.data_type)) (λ rule. BeginsColumn left (converted_left physical c.args.data_type c.args.chunk_size c.args.num_rows supply rule) c.byte_array_iter.result) in
    subst P (sym c.in-ByteArray.is) c.byte_array_iter.ensures.begins
