-- What the column index of a chunk tells of its pages.
use Rattle.std.proofs.Common.{◌≡◌, ◌⊎◌, ℕ, List, [], ◌∷◌, ◌∙◌, Option, Some, None, ap, inl, inr, subst, sym}
use Rattle.std.specs.Prelude.{IfSome, OnOk, Result, Ok, Err}
use Rattle.std.specs.Option.{option_map_or}
use Rattle.columns_core.specs.Causes.{Cause, ComesOf, ExternalFormat, IsOneOf, IsWantOfMemory, cause_of}
use Rattle.columns_core.specs.declared.data_type.DataType.{DataType}
use Rattle.columns_core.specs.declared.error.Error.{Error}
use Rattle.columns_core.specs.declared.error.Error.TheVariants as error
use Rattle.column_ends.specs.Converted.{causes_of_index}
use Rattle.parquet_meta.specs.Indexes.{raw_index}
use Rattle.parquet_meta.specs.Keeps.{Keeps}
use Rattle.parquet_meta.specs.Reads.{ReadsFile}
use Rattle.parquet_meta.specs.Source.{IsReadFailure}
use Rattle.parquet_meta.specs.declared.metadata.ColumnChunkMetaData.{ColumnChunkMetaData}
use Rattle.parquet_meta.specs.declared.metadata.Index.{Index}
use Rattle.parquet_meta.specs.declared.source.Source.{Ghosts}
use Rattle.inspect_program.specs.Pages.{ends_causes}

-- an error that tells of one of these causes, where they are those of the bytes
pub fails_by : (told : Option (List ℕ)) (before now : ℕ) (causes : List ℕ → List Cause) (own : List Cause) (e : Error) → IfSome told (λ bytes. causes bytes ≡ own)
    → IsWantOfMemory e ⊎ IsOneOf own (cause_of e) → IsReadFailure told before now causes e
fails_by told before now causes own (error.InvalidArgumentError part) same (inl memory) = absurd cc
fails_by told before now causes own (error.InvalidArgumentError part) same (inr one) = one
fails_by None before now causes own (error.NotYetImplemented part) same is = tt
fails_by (Some bytes) before now causes own (error.NotYetImplemented part) same (inl memory) = absurd cc
fails_by (Some bytes) before now causes own (error.NotYetImplemented part) same (inr one) = subst (λ (causes : List Cause). IsOneOf causes (cause_of (error.NotYetImplemented part))) (sym same) one
fails_by None before now causes own (error.ExternalFormat part) same is = tt
fails_by (Some bytes) before now causes own (error.ExternalFormat part) same (inl memory) = absurd cc
fails_by (Some bytes) before now causes own (error.ExternalFormat part) same (inr one) = subst (λ (causes : List Cause). IsOneOf causes (cause_of (error.ExternalFormat part))) (sym same) one
fails_by None before now causes own (error.OutOfSpec part) same is = tt
fails_by (Some bytes) before now causes own (error.OutOfSpec part) same (inl memory) = absurd cc
fails_by (Some bytes) before now causes own (error.OutOfSpec part) same (inr one) = subst (λ (causes : List Cause). IsOneOf causes (cause_of (error.OutOfSpec part))) (sym same) one
fails_by None before now causes own error.Overflow same is = tt
fails_by (Some bytes) before now causes own error.Overflow same (inl memory) = absurd cc
fails_by (Some bytes) before now causes own error.Overflow same (inr one) = subst (λ (causes : List Cause). IsOneOf causes (cause_of error.Overflow)) (sym same) one
fails_by told before now causes own error.Io same (inl memory) = absurd cc
fails_by told before now causes own error.Io same (inr one) = absurd one
fails_by told before now causes own error.OutOfMemory same is = tt

told_causes_of : (told : Option (List ℕ)) (data_type : DataType) (column : ColumnChunkMetaData) (index : Index) → IfSome told (λ bytes. raw_index bytes column ≡ Some index)
    → IfSome told (λ bytes. ends_causes data_type bytes column ≡ causes_of_index column.descriptor.primitive_type data_type index)
told_causes_of None data_type column index found = tt
told_causes_of (Some bytes) data_type column index found = ap (λ o. option_map_or (causes_of_index column.descriptor.primitive_type data_type) o (ExternalFormat ∷ [])) found

no_causes_told : (told : Option (List ℕ)) (causes : List ℕ → List Cause) (own : List Cause) → IfSome told (λ bytes. causes bytes ≡ own) → own ≡ [] → IfSome told (λ bytes. causes bytes ≡ [])
no_causes_told None causes own same none = tt
no_causes_told (Some bytes) causes own same none = same ∙ none

-- ends that are made of an index that is read
pub ends_read : {S T : Type 0} {g : Ghosts S} {old new : S} (data_type : DataType) (column : ColumnChunkMetaData) (index : Index) (r : Result T Error) → Keeps g old new → g.faults new ≡ g.faults old
    → IfSome (g.told old) (λ bytes. raw_index bytes column ≡ Some index) → OnOk r (causes_of_index column.descriptor.primitive_type data_type index ≡ [])
    → ComesOf r (causes_of_index column.descriptor.primitive_type data_type index) → ReadsFile g old new (λ bytes. ends_causes data_type bytes column) r
ends_read {g = g} {old} {new} data_type column index (Ok x) keeps quiet found none comes = record {
  keeps = keeps;
  quiet = quiet;
  ok = no_causes_told (g.told old) (λ bytes. ends_causes data_type bytes column) _ (told_causes_of (g.told old) data_type column index found) none;
  fails = tt;
}
ends_read {g = g} {old} {new} data_type column index (Err e) keeps quiet found none comes = record {
  keeps = keeps;
  quiet = tt;
  ok = tt;
  fails = fails_by (g.told old) (g.faults old) (g.faults new) (λ bytes. ends_causes data_type bytes column) _ e (told_causes_of (g.told old) data_type column index found) comes;
}
