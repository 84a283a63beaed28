use Rattle.std.proofs.Common.{◌≡◌, ◌∙◌, Bool, List, Bor, true, false, ap, map, sym}
use Rattle.std.specs.List.{list_all}
use Rattle.std.proofs.lemmas.List.Folds.{list_all-map}
use Rattle.parquet_meta.specs.declared.metadata.ColumnChunkMetaData.{ColumnChunkMetaData}
use Rattle.parquet_meta.specs.Indexes.{field_columns}
use Rattle.parquet_read.specs.Columns.{are_here, is_here}
use Rattle.parquet_read.proofs.columns.read_columns.Goals as goal

abbrev now : Bor ColumnChunkMetaData → ColumnChunkMetaData
now column = column.now

-- what was tested is so of the columns of the field
tested : (b : Bool) (result found : List (Bor ColumnChunkMetaData)) (columns : List ColumnChunkMetaData) →
    b ≡ list_all (λ column. is_here column.now) result → result ≡ found → map now found ≡ columns → b ≡ are_here columns
tested b result found columns test same is = test ∙ ap (list_all (λ column. is_here column.now)) same ∙ sym (list_all-map is_here now found) ∙ ap are_here is

never : {b : Bool} {A : Type 0} → b ≡ true → b ≡ false → A
never {b = true} is not_so = absurd cc
never {b = false} is not_so = absurd cc

pub returns-then-not-are_here-clause-found : goal.returns-then-not-are_here-clause-found
returns-then-not-are_here-clause-found g c = λ here.
    never (tested c.are_here.result c.deref.result.now c.in_ok-found.found.items (field_columns c.args.field_name.now c.args.columns.now) c.are_here.ensures c.deref.ensures.value c.in_ok-found.ensures.found ∙ here) c.if-not-are_here.true

pub returns-clause-elsewhere : goal.returns-clause-elsewhere
returns-clause-elsewhere g c = λ elsewhere.
    never c.if-not-are_here.false (tested c.are_here.result c.deref.result.now c.in_ok-found.found.items (field_columns c.args.field_name.now c.args.columns.now) c.are_here.ensures c.deref.ensures.value c.in_ok-found.ensures.found ∙ elsewhere)
