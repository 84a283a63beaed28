use Rattle.std.proofs.Common.{◌≡◌, ◌∙◌, Bor, List, length, map, subst, sym, ap, arith}
use Rattle.std.specs.Prelude.{IfOk, Result, Ok, Err}
use Rattle.std.specs.List.{list_all}
use Rattle.std.proofs.lemmas.Result.{IfErr-weaker, IfOk-weaker, err_from_is_err_and}
use Rattle.columns_core.specs.declared.data_type.DataType.{DataType}
use Rattle.columns_core.specs.declared.error.Part.TheVariants as part
use Rattle.parquet_meta.specs.Indexes.{begins_with, field_columns}
use Rattle.parquet_meta.specs.declared.metadata.ColumnChunkMetaData.{ColumnChunkMetaData}
use Rattle.parquet_meta.specs.Source.{IsReadFailure}
use Rattle.parquet_indexes.specs.FieldStatistics.{TellsUncarried, causes_of_field, is_carried_field}
use Rattle.parquet_indexes.proofs.CarriedLemmas.{memory_carried}
use Rattle.parquet_indexes.proofs.FieldLemmas.{at_most, both_lengths, columns_fail, field_carried, no_causes, of_field, uneven, uneven_uncarried}
use Rattle.parquet_indexes.proofs.TypedLemmas.{all_named}
use Rattle.parquet_indexes.proofs.columns_indexes.read_field.Goals as goal

abbrev own : Bor ColumnChunkMetaData → ColumnChunkMetaData
own column = column.now

-- what two clauses of an answer say
both_ok : {T E : Type 0} (r : Result T E) (P Q R : T → Type 0) → ((x : T) → P x → Q x → R x) → IfOk r P → IfOk r Q → IfOk r R
both_ok (Ok x) P Q R f p q = f x p q
both_ok (Err e) P Q R f p q = tt

abbrev own_type : Bor DataType → DataType
own_type t = t.now

pub read_columns-requires-clause-named : goal.read_columns-requires-clause-named
read_columns-requires-clause-named g c =
    subst (λ (columns : List (Bor ColumnChunkMetaData)). list_all (λ column. begins_with c.args.field.now.name column.now) columns ≡ _) (sym c.deref.ensures.value)
    (all_named c.args.field.now.name own c.in_ok-columns.columns.items c.args.chunks.now
    (c.in_ok-columns.ensures.found ∙ ap (λ name. field_columns name c.args.chunks.now) c.as_str.ensures))

pub returns-then-len-clause-fails : goal.returns-then-len-clause-fails
returns-then-len-clause-fails g c =
    let chunks = c.args.chunks.now in
    let field = c.args.field.now in
    let types = c.in_ok-types.types.items in
    let columns = c.in_ok-columns.columns.items in
    let columns_are : map own columns ≡ field_columns field.name chunks = c.in_ok-columns.ensures.found ∙ ap (λ name. field_columns name chunks) c.as_str.ensures in
    let lengths = both_lengths chunks field types columns c.in_ok-types.ensures.types columns_are in
    uneven chunks field (g.S.Source.told c.args.source.now) (g.S.Source.faults c.args.source.now) (g.S.Source.faults c.args.source.now) part.Schema
    (λ same. c.if-len.true (omega (arith, same, lengths.0, lengths.1, c.len.ensures, c.len-2.ensures, c.in_ok-types.types.ok.0, c.in_ok-columns.columns.ok.0)))

pub returns-in_err-told-clause-fails : goal.returns-in_err-told-clause-fails
returns-in_err-told-clause-fails g c =
    let p = err_from_is_err_and c.from_residual-in_err-told.result c.from_residual-in_err-told.ensures.1 in
    let chunks = c.args.chunks.now in
    let field = c.args.field.now in
    let types = c.in_ok-types.types.items in
    let columns = c.in_ok-columns.columns.items in
    let columns_are : map own columns ≡ field_columns field.name chunks = c.in_ok-columns.ensures.found ∙ ap (λ name. field_columns name chunks) c.as_str.ensures in
    let same : length types ≡ length columns = omega (arith, c.if-len.false, c.len.ensures, c.len-2.ensures, c.in_ok-types.types.ok.0, c.in_ok-columns.columns.ok.0) in
    rw (p.1, p.2) (columns_fail chunks field types columns c.in_ok-types.ensures.types columns_are (g.S.Source.told c.args.source.now) (g.S.Source.faults c.args.source.now) (g.S.Source.faults c.read_columns.new.source)
    c.in_err-told.field-0.0 same (rw (c.deref-2.ensures.value, c.deref.ensures.value) at c.in_err-told.ensures.fails))

pub returns-in_err-told-clause-taken : goal.returns-in_err-told-clause-taken
returns-in_err-told-clause-taken g c =
    let chunks = c.args.chunks.now in
    let field = c.args.field.now in
    let types = c.in_ok-types.types.items in
    let columns = c.in_ok-columns.columns.items in
    let columns_are : map own columns ≡ field_columns field.name chunks = c.in_ok-columns.ensures.found ∙ ap (λ name. field_columns name chunks) c.as_str.ensures in
    at_most chunks field types columns c.in_ok-types.ensures.types columns_are (g.S.Source.taken c.args.source.now) (g.S.Source.taken c.read_columns.new.source)
    (rw (c.deref-2.ensures.value, c.deref.ensures.value) at c.in_err-told.ensures.taken)

pub returns-clause-taken : goal.returns-clause-taken
returns-clause-taken g c =
    let chunks = c.args.chunks.now in
    let field = c.args.field.now in
    let types = c.in_ok-types.types.items in
    let columns = c.in_ok-columns.columns.items in
    let columns_are : map own columns ≡ field_columns field.name chunks = c.in_ok-columns.ensures.found ∙ ap (λ name. field_columns name chunks) c.as_str.ensures in
    at_most chunks field types columns c.in_ok-types.ensures.types columns_are (g.S.Source.taken c.args.source.now) (g.S.Source.taken c.read_columns.new.source)
    (rw (c.deref-2.ensures.value, c.deref.ensures.value) at c.in_ok-told.ensures.taken)

pub returns-clause-told : goal.returns-clause-told
returns-clause-told g c =
    let chunks = c.args.chunks.now in
    let field = c.args.field.now in
    let types = c.in_ok-types.types.items in
    let columns = c.in_ok-columns.columns.items in
    let columns_are : map own columns ≡ field_columns field.name chunks = c.in_ok-columns.ensures.found ∙ ap (λ name. field_columns name chunks) c.as_str.ensures in
    let same : length types ≡ length columns = omega (arith, c.if-len.false, c.len.ensures, c.len-2.ensures, c.in_ok-types.types.ok.0, c.in_ok-columns.columns.ok.0) in
    let told = g.S.Source.told c.args.source.now in
    let each = rw (c.deref-2.ensures.value, c.deref.ensures.value) at c.in_ok-told.ensures.told in
    let lengths = both_lengths chunks field types columns c.in_ok-types.ensures.types columns_are in
    let count : length c.in_ok-told.told.items ≡ length types = c.in_ok-told.ensures.length ∙ ap length c.deref-2.ensures.value in
    both_ok c.arrange.result _ _ _ (λ statistics arranged rest. of_field chunks field types columns c.in_ok-types.ensures.types columns_are told c.in_ok-told.told.items c.arrange.new.columns.items statistics each arranged
    (omega (arith, rest, count, lengths.0))) c.arrange.ensures.arranged c.arrange.ensures.rest

pub returns-clause-ok : goal.returns-clause-ok
returns-clause-ok g c =
    let chunks = c.args.chunks.now in
    let field = c.args.field.now in
    let types = c.in_ok-types.types.items in
    let columns = c.in_ok-columns.columns.items in
    let columns_are : map own columns ≡ field_columns field.name chunks = c.in_ok-columns.ensures.found ∙ ap (λ name. field_columns name chunks) c.as_str.ensures in
    let same : length types ≡ length columns = omega (arith, c.if-len.false, c.len.ensures, c.len-2.ensures, c.in_ok-types.types.ok.0, c.in_ok-columns.columns.ok.0) in
    let none = no_causes chunks field types columns c.in_ok-types.ensures.types columns_are (g.S.Source.told c.args.source.now) same (rw (c.deref-2.ensures.value, c.deref.ensures.value) at c.in_ok-told.ensures.ok) in
    IfOk-weaker c.arrange.result _ _ (λ statistics rest. none) c.arrange.ensures.rest

pub returns-clause-fails : goal.returns-clause-fails
returns-clause-fails g c =
    let chunks = c.args.chunks.now in
    let field = c.args.field.now in
    let types = c.in_ok-types.types.items in
    let columns = c.in_ok-columns.columns.items in
    let columns_are : map own columns ≡ field_columns field.name chunks = c.in_ok-columns.ensures.found ∙ ap (λ name. field_columns name chunks) c.as_str.ensures in
    let same : length types ≡ length columns = omega (arith, c.if-len.false, c.len.ensures, c.len-2.ensures, c.in_ok-types.types.ok.0, c.in_ok-columns.columns.ok.0) in
    let told = g.S.Source.told c.args.source.now in
    let before = g.S.Source.faults c.args.source.now in
    let now = g.S.Source.faults c.read_columns.new.source in
    let lengths = both_lengths chunks field types columns c.in_ok-types.ensures.types columns_are in
    IfErr-weaker c.arrange.result _ _ (λ e memory. subst (IsReadFailure told before now (λ file. causes_of_field file chunks field)) (sym memory) tt)
    (c.arrange.ensures.memory (omega (arith, c.in_ok-told.ensures.length, ap length c.deref-2.ensures.value, lengths.0)))

pub returns-then-len-clause-carried : goal.returns-then-len-clause-carried
returns-then-len-clause-carried g c =
    let chunks = c.args.chunks.now in
    let field = c.args.field.now in
    let types = c.in_ok-types.types.items in
    let columns = c.in_ok-columns.columns.items in
    let columns_are : map own columns ≡ field_columns field.name chunks = c.in_ok-columns.ensures.found ∙ ap (λ name. field_columns name chunks) c.as_str.ensures in
    let lengths = both_lengths chunks field types columns c.in_ok-types.ensures.types columns_are in
    uneven_uncarried chunks field (λ same. c.if-len.true (omega (arith, same, lengths.0, lengths.1, c.len.ensures, c.len-2.ensures, c.in_ok-types.types.ok.0, c.in_ok-columns.columns.ok.0)))

pub returns-in_err-told-clause-carried : goal.returns-in_err-told-clause-carried
returns-in_err-told-clause-carried g c =
    let p = err_from_is_err_and c.from_residual-in_err-told.result c.from_residual-in_err-told.ensures.1 in
    let chunks = c.args.chunks.now in
    let field = c.args.field.now in
    let types = c.in_ok-types.types.items in
    let columns = c.in_ok-columns.columns.items in
    let columns_are : map own columns ≡ field_columns field.name chunks = c.in_ok-columns.ensures.found ∙ ap (λ name. field_columns name chunks) c.as_str.ensures in
    let same : length types ≡ length columns = omega (arith, c.if-len.false, c.len.ensures, c.len-2.ensures, c.in_ok-types.types.ok.0, c.in_ok-columns.columns.ok.0) in
    let e = c.in_err-told.field-0.0 in
    rw (p.1, p.2) (subst (λ carried. TellsUncarried carried e) (sym (field_carried chunks field types columns c.in_ok-types.ensures.types columns_are same))
    (rw (c.deref-2.ensures.value, c.deref.ensures.value) at c.in_err-told.ensures.carried))

pub returns-clause-carried : goal.returns-clause-carried
returns-clause-carried g c =
    let chunks = c.args.chunks.now in
    let field = c.args.field.now in
    let types = c.in_ok-types.types.items in
    let columns = c.in_ok-columns.columns.items in
    let columns_are : map own columns ≡ field_columns field.name chunks = c.in_ok-columns.ensures.found ∙ ap (λ name. field_columns name chunks) c.as_str.ensures in
    let same : length types ≡ length columns = omega (arith, c.if-len.false, c.len.ensures, c.len-2.ensures, c.in_ok-types.types.ok.0, c.in_ok-columns.columns.ok.0) in
    let lengths = both_lengths chunks field types columns c.in_ok-types.ensures.types columns_are in
    memory_carried (is_carried_field chunks field) c.arrange.result
    (field_carried chunks field types columns c.in_ok-types.ensures.types columns_are same ∙ (rw (c.deref-2.ensures.value, c.deref.ensures.value) at c.in_ok-told.ensures.carried))
    (c.arrange.ensures.memory (omega (arith, c.in_ok-told.ensures.length, ap length c.deref-2.ensures.value, lengths.0)))
