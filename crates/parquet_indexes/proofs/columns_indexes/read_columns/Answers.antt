use Rattle.std.proofs.Common.{◌∙◌, ◌+◌, Bor, List, [], ◌∷◌, drop, length, length-append, map, refl, rules, ap, arith, ℕ}
use Rattle.std.specs.Prelude.{zip}
use Rattle.std.specs.List.{list_all}
use Rattle.std.proofs.lemmas.List.{drop_all}
use Rattle.std.proofs.lemmas.Result.{err_from_is_err_and}
use Rattle.columns_core.specs.declared.data_type.DataType.{DataType}
use Rattle.parquet_meta.specs.Indexes.{begins_with, column_index_length}
use Rattle.parquet_meta.specs.declared.metadata.ColumnChunkMetaData.{ColumnChunkMetaData}
use Rattle.parquet_indexes.specs.FieldStatistics.{IsOfColumn, causes_of_typed, is_carried_column}
use Rattle.parquet_indexes.proofs.CarriedLemmas.{carried_next, uncarried_one}
use Rattle.parquet_indexes.proofs.TellingLemmas.{telling_begins, telling_ends, telling_goes_on, telling_refused}
use Rattle.parquet_indexes.proofs.TypedLemmas.{all_at, zip_next, zip_none}
use Rattle.parquet_indexes.proofs.columns_indexes.read_columns.Goals as goal

abbrev own_type : Bor DataType → DataType
own_type t = t.now

abbrev own : Bor ColumnChunkMetaData → ColumnChunkMetaData
own column = column.now

abbrev cost : DataType × ColumnChunkMetaData → ℕ
cost typed = column_index_length typed.1

abbrev typed : List (Bor DataType) → List (Bor ColumnChunkMetaData) → List (DataType × ColumnChunkMetaData)
typed types columns = zip (map own_type types) (map own columns)

pub loop-i-init : goal.loop-i-init
loop-i-init g c = record {
  keeps = search rules;
  quiet = search rules;
  telling = telling_begins IsOfColumn causes_of_typed cost (g.S.Source.told c.args.source.now) (typed c.args.types.now c.args.columns.now) c.new-told.result.items (g.S.Source.taken c.args.source.now) c.new-told.ensures.items;
  carried = refl;
  count = search rules;
}

pub read_column-requires : goal.read_column-requires
read_column-requires g c =
    record {
      named = ap (λ (column : Bor ColumnChunkMetaData). begins_with c.args.name.now column.now) c.index-columns-i.is
          ∙ all_at (λ (column : Bor ColumnChunkMetaData). begins_with c.args.name.now column.now) c.args.columns.now c.loop-i.i c.index-columns-i.result c.requires.named (omega arith);
    }

pub returns-in_err-read_column-clause-fails : goal.returns-in_err-read_column-clause-fails
returns-in_err-read_column-clause-fails g c =
    let types = c.args.types.now in
    let columns = c.args.columns.now in
    let i = c.loop-i.i in
    let others = zip_next own_type own types columns i c.index-types-i.result c.index-columns-i.result (omega (arith, c.requires.even)) (omega arith) c.index-types-i.is c.index-columns-i.is in
    let telling = rw others at c.loop-i.invariant.telling in
    let p = err_from_is_err_and c.from_residual.result c.from_residual.ensures.1 in
    rw (p.1, p.2)
    (telling_refused IsOfColumn causes_of_typed cost (g.S.Source.told c.args.source.now) (g.S.Source.told c.loop-i.source) (typed types columns) (typed (drop (i + 1) types) (drop (i + 1) columns))
    (c.index-types-i.result.now, c.index-columns-i.result.now) _ _ _ _ _ _ _ telling c.loop-i.invariant.keeps.later c.loop-i.invariant.keeps.same c.in_err-read_column.ensures.fails)

pub returns-in_err-read_column-clause-carried : goal.returns-in_err-read_column-clause-carried
returns-in_err-read_column-clause-carried g c =
    let types = c.args.types.now in
    let columns = c.args.columns.now in
    let i = c.loop-i.i in
    let others = zip_next own_type own types columns i c.index-types-i.result c.index-columns-i.result (omega (arith, c.requires.even)) (omega arith) c.index-types-i.is c.index-columns-i.is in
    let p = err_from_is_err_and c.from_residual.result c.from_residual.ensures.1 in
    rw (p.1, p.2)
    (uncarried_one is_carried_column (typed types columns) (typed (drop (i + 1) types) (drop (i + 1) columns)) (c.index-types-i.result.now, c.index-columns-i.result.now)
    (c.loop-i.invariant.carried ∙ ap (list_all is_carried_column) others) c.in_err-read_column.field-0.0 c.in_err-read_column.ensures.carried)

pub loop-i-preserved : goal.loop-i-preserved
loop-i-preserved g c =
    let types = c.args.types.now in
    let columns = c.args.columns.now in
    let i = c.loop-i.i in
    let same = c.loop-i.invariant.keeps.same in
    let others = zip_next own_type own types columns i c.index-types-i.result c.index-columns-i.result (omega (arith, c.requires.even)) (omega arith) c.index-types-i.is c.index-columns-i.is in
    let telling = rw others at c.loop-i.invariant.telling in
    record {
      keeps = search rules;
      quiet = c.in_ok-read_column.ensures.quiet ∙ c.loop-i.invariant.quiet;
      telling = rw c.in_ok-push_back.ensures.items
          (telling_goes_on IsOfColumn causes_of_typed cost (g.S.Source.told c.args.source.now) (typed types columns) (typed (drop (i + 1) types) (drop (i + 1) columns))
          (c.index-types-i.result.now, c.index-columns-i.result.now) _ c.in_ok-read_column.field-0 _ _ _ telling (rw same at c.in_ok-read_column.ensures.told) (rw same at c.in_ok-read_column.ensures.ok) c.in_ok-read_column.ensures.taken);
      carried = carried_next is_carried_column (typed types columns) (typed (drop (i + 1) types) (drop (i + 1) columns)) (c.index-types-i.result.now, c.index-columns-i.result.now)
          (c.loop-i.invariant.carried ∙ ap (list_all is_carried_column) others) c.in_ok-read_column.ensures.carried;
      count = omega (arith, c.loop-i.invariant.count, ap length c.in_ok-push_back.ensures.items, length-append c.loop-i.told.items (c.in_ok-read_column.field-0 ∷ []));
    }

pub returns-clause-told : goal.returns-clause-told
returns-clause-told g c =
    let types = c.args.types.now in
    let telling = rw (drop_all c.loop-i.i c.args.columns.now c.loop-i-test.false, zip_none own_type own (drop c.loop-i.i types)) at c.loop-i.invariant.telling in
    (telling_ends IsOfColumn causes_of_typed cost (g.S.Source.told c.args.source.now) (typed types c.args.columns.now) _ _ _ telling).0

pub returns-clause-ok : goal.returns-clause-ok
returns-clause-ok g c =
    let types = c.args.types.now in
    let telling = rw (drop_all c.loop-i.i c.args.columns.now c.loop-i-test.false, zip_none own_type own (drop c.loop-i.i types)) at c.loop-i.invariant.telling in
    (telling_ends IsOfColumn causes_of_typed cost (g.S.Source.told c.args.source.now) (typed types c.args.columns.now) _ _ _ telling).1

pub returns-clause-carried : goal.returns-clause-carried
returns-clause-carried g c =
    let types = c.args.types.now in
    rw (drop_all c.loop-i.i c.args.columns.now c.loop-i-test.false, zip_none own_type own (drop c.loop-i.i types)) at c.loop-i.invariant.carried
