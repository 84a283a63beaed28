-- A guess is carried, and what may be wrong with its ends is damage or a value out of range.
use Rattle.std.proofs.Common.{◌≡◌, ◌⊎◌, ℕ, pos, Bool, true, false, cond, List, [], ◌∷◌, ◌++◌, ◌∙◌, Option, Some, None, ap, inl, inr, map, refl, subst, sym}
use Rattle.std.specs.Prelude.{◌&&◌, ◌==◌, All, IfErr, Result, Ok, Err, flat_map, int_div, is_some, nat_lt}
use Rattle.std.specs.Option.{option_map_or}
use Rattle.std.proofs.lemmas.Bool.{and_from, and_parts, eq-eqb}
use Rattle.std.proofs.lemmas.List.Elements.{All-append, All-cons, All-contains, All-nil}
use Rattle.columns_core.specs.Causes.{Cause, ComesOf, ExternalFormat, IsOneOf, IsWantOfMemory, NotYetImplemented, OutOfSpec, Overflow, cause_of, unless}
use Rattle.columns_core.specs.Types.{is_in, signed_range}
use Rattle.columns_core.specs.declared.cell.Cell.{Cell, Int}
use Rattle.columns_core.specs.declared.data_type.DataType.{DataType}
use Rattle.columns_core.specs.declared.data_type.DataType as type
use Rattle.columns_core.specs.declared.data_type.TimeUnit.TheVariants.{Nanosecond}
use Rattle.columns_core.specs.declared.error.Error.{Error}
use Rattle.columns_core.specs.declared.error.Error.TheVariants as error
use Rattle.parquet_base.specs.Reading.{given}
use Rattle.parquet_meta.specs.Indexes.{type_of}
use Rattle.parquet_meta.specs.TypedStatistics.{known_count}
use Rattle.parquet_meta.specs.declared.metadata.ColumnChunkMetaData.{ColumnChunkMetaData}
use Rattle.parquet_meta.specs.declared.metadata.ColumnDescriptor.{ColumnDescriptor}
use Rattle.parquet_meta.specs.declared.metadata.Ends.{Ends}
use Rattle.parquet_meta.specs.declared.metadata.Index.{Index}
use Rattle.parquet_meta.specs.declared.metadata.PageIndex.{PageIndex}
use Rattle.parquet_meta.specs.declared.metadata.PhysicalType.{PhysicalType}
use Rattle.parquet_meta.specs.declared.metadata.PhysicalType.TheVariants as types
use Rattle.parquet_meta.specs.declared.metadata.PrimitiveLogicalType.{PrimitiveLogicalType}
use Rattle.parquet_meta.specs.declared.metadata.PrimitiveLogicalType.TheVariants.{Timestamp}
use Rattle.parquet_page.specs.Stored.{Stored, Number, Octets, Truth, Words}
use Rattle.flat_values.specs.Conversion.{AsText, BigEndian, Conversion, DaysAndMilliseconds, Keep, LowNanoseconds, LowSigned, LowUnsigned, Months, NotInRange, Nulls, Scale, SinceEpoch, Value, convert, scaled}
use Rattle.flat_values.specs.Units.{nanoseconds_of}
use Rattle.flat_values.specs.Pairs.{leaf_conversion, page_conversion, rescale, since_1970}
use Rattle.flat_values.specs.Sound.{is_stored_as}
use Rattle.flat_values.specs.Units.{unit_factor}
use Rattle.flat_values.proofs.PairLemmas.{leaf_out, page_out}
use Rattle.column_ends.specs.Converted.{array_causes, causes_of_ends, causes_of_index, causes_of_page, cell_page, end_causes, group_causes, high_of_page, item_causes, low_of_page, page_array_causes, stored_causes, told_causes, told_ends}
use Rattle.column_ends.specs.Told.{stored_pages}
use Rattle.inspect_program.specs.Calls.{IsOfInspection}
use Rattle.inspect_program.specs.Guess.{chunk_type, first_name, has_length, is_of_file, time_unit_of, type_for}

-- ---- the rule of a guess

-- the conversions that guesses have
abbrev pub IsGuessed : Conversion → Type 0
IsGuessed Keep = Unit {0}
IsGuessed (Scale factor multiply) = Unit {0}
IsGuessed (SinceEpoch unit) = Unit {0}
IsGuessed rule = ⊥

pub record HasRule (found : Option Conversion) : Type 0 where
  pub rule : Conversion
  pub is : found ≡ Some rule
  pub guessed : IsGuessed rule

equal : (n : ℕ) → (n == n) ≡ true
equal n = eq-eqb n n refl

of_length : (size : ℕ) → nat_lt 0 size ≡ true → given (nat_lt 0 size && size == size) Keep ≡ Some Keep
of_length size some = ap (λ b. given b Keep) (and_from (nat_lt 0 size) (size == size) some (equal size))

same_type : (a b : DataType) → Some b ≡ Some a → a ≡ b
same_type a b e = cc

leaf_rule : (physical : PhysicalType) (logical : Option PrimitiveLogicalType) (data_type : DataType) → has_length physical ≡ true → type_for physical logical ≡ Some data_type → HasRule (leaf_conversion physical logical data_type)
unfolding type.out-DataType denote.Hole.Carrier.out Rattle.columns_core.specs.declared.data_type.DataType.TheBlock.shown-the_row-DataType-0 denote.Hole.Carrier.shown denote.Hole.Carrier.hidden
leaf_rule types.Boolean logical data_type long is = record { rule = Keep; is = subst (λ (t : DataType). leaf_conversion types.Boolean logical t ≡ Some (Keep)) (sym (same_type data_type (type.Boolean) is)) (leaf_out types.Boolean logical (type.Boolean)); guessed = tt }
leaf_rule types.Int32 logical data_type long is = record { rule = Keep; is = subst (λ (t : DataType). leaf_conversion types.Int32 logical t ≡ Some (Keep)) (sym (same_type data_type (type.Int32) is)) (leaf_out types.Int32 logical (type.Int32)); guessed = tt }
leaf_rule types.Int64 None data_type long is = record { rule = Keep; is = subst (λ (t : DataType). leaf_conversion types.Int64 None t ≡ Some (Keep)) (sym (same_type data_type (type.Int64) is)) (leaf_out types.Int64 None (type.Int64)); guessed = tt }
leaf_rule types.Int64 (Some (Timestamp unit utc)) data_type long is = record { rule = rescale (unit_factor (Some (Timestamp unit utc)) (time_unit_of unit)); is = subst (λ (t : DataType). leaf_conversion types.Int64 (Some (Timestamp unit utc)) t ≡ Some (rescale (unit_factor (Some (Timestamp unit utc)) (time_unit_of unit)))) (sym (same_type data_type (type.Timestamp (time_unit_of unit) None) is)) (leaf_out types.Int64 (Some (Timestamp unit utc)) (type.Timestamp (time_unit_of unit) None)); guessed = tt }
leaf_rule types.Int96 logical data_type long is = record { rule = since_1970 Nanosecond; is = subst (λ (t : DataType). leaf_conversion types.Int96 logical t ≡ Some (since_1970 Nanosecond)) (sym (same_type data_type (type.Timestamp Nanosecond None) is)) (leaf_out types.Int96 logical (type.Timestamp Nanosecond None)); guessed = tt }
leaf_rule types.Float logical data_type long is = absurd cc
leaf_rule types.Double logical data_type long is = absurd cc
leaf_rule types.ByteArray logical data_type long is = record { rule = Keep; is = subst (λ (t : DataType). leaf_conversion types.ByteArray logical t ≡ Some (Keep)) (sym (same_type data_type (type.Binary) is)) (leaf_out types.ByteArray logical (type.Binary)); guessed = tt }
leaf_rule (types.FixedLenByteArray size) logical data_type long is = record { rule = Keep; is = subst (λ (t : DataType). leaf_conversion (types.FixedLenByteArray size) logical t ≡ Some Keep) (sym (same_type data_type (type.FixedSizeBinary size) is)) (leaf_out (types.FixedLenByteArray size) logical (type.FixedSizeBinary size) ∙ of_length size long); guessed = tt }

page_rule : (physical : PhysicalType) (logical : Option PrimitiveLogicalType) (data_type : DataType) → has_length physical ≡ true → type_for physical logical ≡ Some data_type → HasRule (page_conversion physical logical data_type)
unfolding type.out-DataType denote.Hole.Carrier.out Rattle.columns_core.specs.declared.data_type.DataType.TheBlock.shown-the_row-DataType-0 denote.Hole.Carrier.shown denote.Hole.Carrier.hidden
page_rule types.Boolean logical data_type long is = record { rule = Keep; is = subst (λ (t : DataType). page_conversion types.Boolean logical t ≡ Some (Keep)) (sym (same_type data_type (type.Boolean) is)) (page_out types.Boolean logical (type.Boolean)); guessed = tt }
page_rule types.Int32 logical data_type long is = record { rule = Keep; is = subst (λ (t : DataType). page_conversion types.Int32 logical t ≡ Some (Keep)) (sym (same_type data_type (type.Int32) is)) (page_out types.Int32 logical (type.Int32)); guessed = tt }
page_rule types.Int64 None data_type long is = record { rule = Keep; is = subst (λ (t : DataType). page_conversion types.Int64 None t ≡ Some (Keep)) (sym (same_type data_type (type.Int64) is)) (page_out types.Int64 None (type.Int64)); guessed = tt }
page_rule types.Int64 (Some (Timestamp unit utc)) data_type long is = record { rule = rescale (unit_factor (Some (Timestamp unit utc)) (time_unit_of unit)); is = subst (λ (t : DataType). page_conversion types.Int64 (Some (Timestamp unit utc)) t ≡ Some (rescale (unit_factor (Some (Timestamp unit utc)) (time_unit_of unit)))) (sym (same_type data_type (type.Timestamp (time_unit_of unit) None) is)) (page_out types.Int64 (Some (Timestamp unit utc)) (type.Timestamp (time_unit_of unit) None)); guessed = tt }
page_rule types.Int96 logical data_type long is = record { rule = since_1970 Nanosecond; is = subst (λ (t : DataType). page_conversion types.Int96 logical t ≡ Some (since_1970 Nanosecond)) (sym (same_type data_type (type.Timestamp Nanosecond None) is)) (page_out types.Int96 logical (type.Timestamp Nanosecond None)); guessed = tt }
page_rule types.Float logical data_type long is = absurd cc
page_rule types.Double logical data_type long is = absurd cc
page_rule types.ByteArray logical data_type long is = record { rule = Keep; is = subst (λ (t : DataType). page_conversion types.ByteArray logical t ≡ Some (Keep)) (sym (same_type data_type (type.Binary) is)) (page_out types.ByteArray logical (type.Binary)); guessed = tt }
page_rule (types.FixedLenByteArray size) logical data_type long is = record { rule = Keep; is = subst (λ (t : DataType). page_conversion (types.FixedLenByteArray size) logical t ≡ Some Keep) (sym (same_type data_type (type.FixedSizeBinary size) is)) (page_out (types.FixedLenByteArray size) logical (type.FixedSizeBinary size) ∙ of_length size long); guessed = tt }

-- what a chunk is read as has rules for statistics and for pages
is_guess : (column : ColumnDescriptor) (data_type : DataType) → chunk_type column ≡ Some data_type
    → (has_length column.primitive_type.physical_type ≡ true) × (type_for column.primitive_type.physical_type column.primitive_type.logical_type ≡ Some data_type)
is_guess column data_type is = by (is_of_file column) refl column.flat refl is where
  by : (b : Bool) → is_of_file column ≡ b → (flat : Bool) → column.flat ≡ flat
      → cond b (cond flat (type_for column.primitive_type.physical_type column.primitive_type.logical_type) None) None ≡ Some data_type
      → (has_length column.primitive_type.physical_type ≡ true) × (type_for column.primitive_type.physical_type column.primitive_type.logical_type ≡ Some data_type)
  by true of_file true flat is = ((and_parts (is_some (first_name column.path_in_schema)) (has_length column.primitive_type.physical_type) of_file).1, is)
  by true of_file false flat is = absurd cc
  by false of_file flat same is = absurd cc

pub statistics_have_rule : (column : ColumnDescriptor) (data_type : DataType) → chunk_type column ≡ Some data_type
    → HasRule (leaf_conversion column.primitive_type.physical_type column.primitive_type.logical_type data_type)
statistics_have_rule column data_type is =
    let guess = is_guess column data_type is in
    leaf_rule column.primitive_type.physical_type column.primitive_type.logical_type data_type guess.0 guess.1

pub pages_have_rule : (column : ColumnDescriptor) (data_type : DataType) → chunk_type column ≡ Some data_type
    → HasRule (page_conversion column.primitive_type.physical_type column.primitive_type.logical_type data_type)
pages_have_rule column data_type is =
    let guess = is_guess column data_type is in
    page_rule column.primitive_type.physical_type column.primitive_type.logical_type data_type guess.0 guess.1

-- ---- what may be wrong

-- damage, or a value out of range
abbrev pub IsOfEnds : Cause → Type 0
IsOfEnds ExternalFormat = Unit {0}
IsOfEnds Overflow = Unit {0}
IsOfEnds NotYetImplemented = ⊥
IsOfEnds OutOfSpec = ⊥

abbrev pub AreOfEnds : List Cause → Type 0
AreOfEnds causes = All IsOfEnds causes

one_of_ends : (cause : Cause) → IsOfEnds cause → AreOfEnds (cause ∷ [])
one_of_ends cause is = All-cons IsOfEnds cause [] is (All-nil IsOfEnds)

unless_of_ends : (passes : Bool) (cause : Cause) → IsOfEnds cause → AreOfEnds (unless passes cause)
unless_of_ends true cause is = All-nil IsOfEnds
unless_of_ends false cause is = one_of_ends cause is

in_range : (passes : Bool) (cell : Cell) → AreOfEnds (item_causes (cond passes (Value cell) NotInRange))
in_range true cell = All-nil IsOfEnds
in_range false cell = one_of_ends Overflow tt

item_of_ends : (rule : Conversion) (stored : Stored) → IsGuessed rule → AreOfEnds (item_causes (convert rule stored))
item_of_ends Keep (Truth b) guessed = All-nil IsOfEnds
item_of_ends Keep (Number n) guessed = All-nil IsOfEnds
item_of_ends Keep (Octets bytes) guessed = All-nil IsOfEnds
item_of_ends Keep (Words low high day) guessed = one_of_ends Overflow tt
item_of_ends (Scale factor multiply) (Truth b) guessed = one_of_ends Overflow tt
item_of_ends (Scale factor multiply) (Number n) guessed = in_range (is_in (signed_range 64) (scaled factor multiply n)) (Int (scaled factor multiply n))
item_of_ends (Scale factor multiply) (Octets bytes) guessed = one_of_ends Overflow tt
item_of_ends (Scale factor multiply) (Words low high day) guessed = one_of_ends Overflow tt
item_of_ends (SinceEpoch unit) (Truth b) guessed = one_of_ends Overflow tt
item_of_ends (SinceEpoch unit) (Number n) guessed = one_of_ends Overflow tt
item_of_ends (SinceEpoch unit) (Octets bytes) guessed = one_of_ends Overflow tt
item_of_ends (SinceEpoch unit) (Words low high day) guessed =
    in_range (is_in (signed_range 64) (nanoseconds_of low high day)) (Int (int_div (nanoseconds_of low high day) (pos unit)))
item_of_ends Nulls stored guessed = absurd guessed
item_of_ends (LowUnsigned bits) stored guessed = absurd guessed
item_of_ends (LowSigned width) stored guessed = absurd guessed
item_of_ends LowNanoseconds stored guessed = absurd guessed
item_of_ends BigEndian stored guessed = absurd guessed
item_of_ends Months stored guessed = absurd guessed
item_of_ends DaysAndMilliseconds stored guessed = absurd guessed
item_of_ends AsText stored guessed = absurd guessed

stored_of_ends : (physical : PhysicalType) (rule : Conversion) (stored : Stored) → IsGuessed rule → AreOfEnds (stored_causes physical rule stored)
stored_of_ends physical rule stored guessed = by (is_stored_as physical stored) where
  by : (b : Bool) → AreOfEnds (cond b (item_causes (convert rule stored)) (ExternalFormat ∷ []))
  by true = item_of_ends rule stored guessed
  by false = one_of_ends ExternalFormat tt

end_of_ends : (physical : PhysicalType) (rule : Conversion) (end : Option Stored) → IsGuessed rule → AreOfEnds (end_causes physical rule end)
end_of_ends physical rule None guessed = All-nil IsOfEnds
end_of_ends physical rule (Some stored) guessed = stored_of_ends physical rule stored guessed

ends_of_ends : (physical : PhysicalType) (rule : Conversion) (ends : Ends Stored) → IsGuessed rule → AreOfEnds (causes_of_ends physical rule ends)
ends_of_ends physical rule ends guessed =
    All-append IsOfEnds (end_causes physical rule ends.min_value) (end_causes physical rule ends.max_value)
    (end_of_ends physical rule ends.min_value guessed) (end_of_ends physical rule ends.max_value guessed)

told_of_ends : (column : ColumnChunkMetaData) (rule : Conversion) → IsGuessed rule → AreOfEnds (told_causes rule column)
told_of_ends column rule guessed = by (told_ends rule column) where
  by : (o : Option (Ends Stored)) → AreOfEnds (option_map_or (causes_of_ends (type_of column) rule) o (ExternalFormat ∷ []))
  by None = one_of_ends ExternalFormat tt
  by (Some ends) = ends_of_ends (type_of column) rule ends guessed

page_of_ends : (physical : PhysicalType) (rule : Conversion) (page : PageIndex Stored) → IsGuessed rule → AreOfEnds (causes_of_page physical rule page)
page_of_ends physical rule page guessed =
    All-append IsOfEnds (unless (is_some (known_count page.null_count)) ExternalFormat ++ end_causes physical rule page.min) (end_causes physical rule page.max)
    (All-append IsOfEnds (unless (is_some (known_count page.null_count)) ExternalFormat) (end_causes physical rule page.min)
    (unless_of_ends (is_some (known_count page.null_count)) ExternalFormat tt) (end_of_ends physical rule page.min guessed))
    (end_of_ends physical rule page.max guessed)

all_pages_of_ends : (physical : PhysicalType) (rule : Conversion) (pages : List (PageIndex Stored)) → IsGuessed rule → AreOfEnds (flat_map (causes_of_page physical rule) pages)
all_pages_of_ends physical rule [] guessed = All-nil IsOfEnds
all_pages_of_ends physical rule (page ∷ pages) guessed =
    All-append IsOfEnds (causes_of_page physical rule page) (flat_map (causes_of_page physical rule) pages) (page_of_ends physical rule page guessed) (all_pages_of_ends physical rule pages guessed)

arrays_of_ends : (data_type : DataType) (pages : List (PageIndex Cell)) → AreOfEnds (page_array_causes data_type pages)
arrays_of_ends data_type pages =
    All-append IsOfEnds (array_causes data_type (map low_of_page pages)) (array_causes data_type (map high_of_page pages))
    (unless_of_ends _ Overflow tt) (unless_of_ends _ Overflow tt)

-- ---- errors

of_inspection : (causes : List Cause) (e : Error) → AreOfEnds causes → IsWantOfMemory e ⊎ IsOneOf causes (cause_of e) → IsOfInspection e
of_inspection causes (error.InvalidArgumentError part) all (inl memory) = absurd cc
of_inspection causes (error.InvalidArgumentError part) all (inr one) = one
of_inspection causes (error.NotYetImplemented part) all (inl memory) = absurd cc
of_inspection causes (error.NotYetImplemented part) all (inr one) = All-contains IsOfEnds causes NotYetImplemented all one
of_inspection causes (error.ExternalFormat part) all is = tt
of_inspection causes (error.OutOfSpec part) all (inl memory) = absurd cc
of_inspection causes (error.OutOfSpec part) all (inr one) = All-contains IsOfEnds causes OutOfSpec all one
of_inspection causes error.Overflow all is = tt
of_inspection causes error.Io all is = tt
of_inspection causes error.OutOfMemory all is = tt

result_of_inspection : {T : Type 0} (causes : List Cause) (r : Result T Error) → AreOfEnds causes → ComesOf r causes → IfErr r IsOfInspection
result_of_inspection causes (Ok x) all comes = tt
result_of_inspection causes (Err e) all comes = of_inspection causes e all comes

-- the statistics of a chunk that is read as its guess
pub statistics_carried : {T : Type 0} (column : ColumnChunkMetaData) (data_type : DataType) (r : Result T Error) → chunk_type column.descriptor ≡ Some data_type
    → ComesOf r (group_causes data_type column) → IfErr r IsOfInspection
statistics_carried column data_type r is comes =
    let have = statistics_have_rule column.descriptor data_type is in
    let all : AreOfEnds (group_causes data_type column) =
    subst (λ (found : Option Conversion). AreOfEnds (option_map_or (λ rule. told_causes rule column) found (NotYetImplemented ∷ []))) (sym have.is) (told_of_ends column have.rule have.guessed) in
    result_of_inspection (group_causes data_type column) r all comes

-- its column index
pub index_carried : {T : Type 0} (column : ColumnDescriptor) (data_type : DataType) (index : Index) (r : Result T Error) → chunk_type column ≡ Some data_type
    → ComesOf r (causes_of_index column.primitive_type data_type index) → IfErr r IsOfInspection
index_carried column data_type index r is comes =
    let have = pages_have_rule column data_type is in
    let physical = column.primitive_type.physical_type in
    let by_rule : Conversion → List Cause = λ rule. flat_map (causes_of_page physical rule) (stored_pages index) ++ page_array_causes data_type (map (cell_page rule) (stored_pages index)) in
    let both : AreOfEnds (by_rule have.rule) =
    All-append IsOfEnds (flat_map (causes_of_page physical have.rule) (stored_pages index)) (page_array_causes data_type (map (cell_page have.rule) (stored_pages index)))
    (all_pages_of_ends physical have.rule (stored_pages index) have.guessed) (arrays_of_ends data_type (map (cell_page have.rule) (stored_pages index))) in
    let all : AreOfEnds (causes_of_index column.primitive_type data_type index) =
    subst (λ (found : Option Conversion). AreOfEnds (option_map_or by_rule found (NotYetImplemented ∷ []))) (sym have.is) both in
    result_of_inspection (causes_of_index column.primitive_type data_type index) r all comes
