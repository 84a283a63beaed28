-- Fields that are asked of a group, one by one.
use Rattle.std.proofs.Common.{◌≡◌, ◌∙◌, ◌⊎◌, true, List, [], ◌∷◌, ◌++◌, length, refl, sym, ap, subst, inl, inr, arith, append_assoc, Option, None}
use Rattle.std.proofs.lemmas.List.{append-nil}
use Rattle.std.proofs.lemmas.List.Concat.{flat_map-cons}
use Rattle.columns_core.specs.Causes.{Cause, IsOneOf}
use Rattle.columns_core.specs.declared.data_type.DataType.{DataType}
use Rattle.columns_core.specs.declared.data_type.Field.{Field}
use Rattle.parquet_meta.specs.declared.metadata.ColumnChunkMetaData.{ColumnChunkMetaData}
use Rattle.page_decoding.proofs.RowLemmas.{one_of-left}
use Rattle.parquet_read.specs.Asked.{AskedField, GroupReading, asked_causes, fields_causes, form_causes}
use Rattle.parquet_read.specs.Columns.{is_here}
use Rattle.parquet_read.specs.Opening.{column_causes_of, type_causes}

-- ---- pairing

abbrev pub whole_of : Field → AskedField
whole_of field = (field, None)

-- what was made, and what is still made, are all of it
pub record IsAsked (made rest all : List AskedField) : Type 0 where
  pub same : made ++ rest ≡ all

pub asked_on : (made rest all : List AskedField) (one : AskedField) → IsAsked made (one ∷ rest) all → IsAsked (made ++ one ∷ []) rest all
asked_on made rest all one asked = record { same = append_assoc made (one ∷ []) rest ∙ asked.same }

pub asked_all : (made rest all : List AskedField) → rest ≡ [] → IsAsked made rest all → made ≡ all
asked_all made rest all none asked = sym (append-nil made) ∙ ap (λ (l : List AskedField). made ++ l) (sym none) ∙ asked.same

-- ---- what the metadata refuse

pub causes_on : (reading : GroupReading) (fields others : List AskedField) (one : AskedField) → fields ≡ one ∷ others → fields_causes reading fields ≡ asked_causes reading one ++ fields_causes reading others
causes_on reading fields others one is = ap (fields_causes reading) is ∙ flat_map-cons (asked_causes reading) one others

-- What is wrong with a column that is there, flat and not compressed is wrong with its type.
pub form_left : (data_type : DataType) (column : ColumnChunkMetaData) → is_here column ≡ true → column_causes_of column ≡ [] → type_causes data_type column ≡ form_causes data_type column
form_left data_type column here none = rw here (ap (λ (l : List Cause). l ++ type_causes data_type column) (sym none))

-- What is wrong with its form is wrong with it.
pub form_err : (data_type : DataType) (column : ColumnChunkMetaData) (o : Option Cause) (Other : Type 0) → is_here column ≡ true → Other ⊎ IsOneOf (column_causes_of column) o → Other ⊎ IsOneOf (form_causes data_type column) o
form_err data_type column o Other here (inl other) = inl other
form_err data_type column o Other here (inr cause) = inr (rw here (one_of-left (column_causes_of column) (type_causes data_type column) o cause))

-- an error of one field is one of all
pub field_err : (reading : GroupReading) (fields others all : List AskedField) (one : AskedField) (o : Option Cause) (Other : Type 0) → fields_causes reading all ≡ fields_causes reading fields → fields ≡ one ∷ others
    → Other ⊎ IsOneOf (asked_causes reading one) o → Other ⊎ IsOneOf (fields_causes reading all) o
field_err reading fields others all one o Other same is (inl other) = inl other
field_err reading fields others all one o Other same is (inr cause) =
    inr (subst (λ (l : List Cause). IsOneOf l o) (sym (same ∙ causes_on reading fields others one is)) (one_of-left (asked_causes reading one) (fields_causes reading others) o cause))

pub no_items : {A : Type 0} (xs : List A) → length xs ≡ 0 → xs ≡ []
no_items [] e = refl
no_items (x ∷ xs) e = absurd (omega (arith, e))
