use Rattle.std.proofs.Common.{◌∙◌, ◌+◌, [], ◌∷◌, ap, arith, drop, length, length-append, refl, rules}
use Rattle.std.specs.List.{list_all}
use Rattle.std.proofs.lemmas.List.{drop_all}
use Rattle.std.proofs.lemmas.Result.{err_from_is_err_and}
use Rattle.parquet_meta.proofs.ListLemmas.{item_and_others}
use Rattle.parquet_indexes.specs.FieldStatistics.{IsOfField, causes_of_field, column_indexes_length, is_carried_field}
use Rattle.parquet_indexes.proofs.CarriedLemmas.{carried_next, uncarried_one}
use Rattle.parquet_indexes.proofs.TellingLemmas.{telling_begins, telling_ends, telling_goes_on, telling_refused}
use Rattle.parquet_indexes.proofs.columns_indexes.read_fields.Goals as goal

pub loop-field-init : goal.loop-field-init
loop-field-init g c = record {
  keeps = search rules;
  quiet = search rules;
  telling = telling_begins (λ file field. IsOfField file c.args.chunks.now field) (λ file field. causes_of_field file c.args.chunks.now field) (column_indexes_length c.args.chunks.now)
      (g.S.Source.told c.args.source.now) c.args.fields.now c.new-statistics.result.items (g.S.Source.taken c.args.source.now) c.new-statistics.ensures.items;
  carried = refl;
  count = search rules;
}

pub returns-in_err-read_field-clause-fails : goal.returns-in_err-read_field-clause-fails
returns-in_err-read_field-clause-fails g c =
    let chunks = c.args.chunks.now in
    let others = item_and_others c.args.fields.now c.loop-field.field-index c.field-item.result c.loop-field-test.true c.field-item.is in
    let telling = rw others at c.loop-field.invariant.telling in
    let p = err_from_is_err_and c.from_residual.result c.from_residual.ensures.1 in
    rw (p.1, p.2)
    (telling_refused (λ file field. IsOfField file chunks field) (λ file field. causes_of_field file chunks field) (column_indexes_length chunks) (g.S.Source.told c.args.source.now) (g.S.Source.told c.loop-field.source)
    c.args.fields.now (drop (c.loop-field.field-index + 1) c.args.fields.now) c.field-item.result _ _ _ _ _ _ _ telling c.loop-field.invariant.keeps.later c.loop-field.invariant.keeps.same
    c.in_err-read_field.ensures.fails)

pub returns-in_err-read_field-clause-carried : goal.returns-in_err-read_field-clause-carried
returns-in_err-read_field-clause-carried g c =
    let chunks = c.args.chunks.now in
    let field = c.field-item.result in
    let others = item_and_others c.args.fields.now c.loop-field.field-index field c.loop-field-test.true c.field-item.is in
    let p = err_from_is_err_and c.from_residual.result c.from_residual.ensures.1 in
    rw (p.1, p.2)
    (uncarried_one (is_carried_field chunks) c.args.fields.now (drop (c.loop-field.field-index + 1) c.args.fields.now) field
    (c.loop-field.invariant.carried ∙ ap (list_all (is_carried_field chunks)) others) c.in_err-read_field.field-0.0 c.in_err-read_field.ensures.carried)

pub loop-field-preserved : goal.loop-field-preserved
loop-field-preserved g c =
    let chunks = c.args.chunks.now in
    let told = g.S.Source.told c.args.source.now in
    let same = c.loop-field.invariant.keeps.same in
    let field = c.field-item.result in
    let statistics = c.in_ok-read_field.field-0 in
    let others = item_and_others c.args.fields.now c.loop-field.field-index field c.loop-field-test.true c.field-item.is in
    let telling = rw others at c.loop-field.invariant.telling in
    record {
      keeps = search rules;
      quiet = c.in_ok-read_field.ensures.quiet ∙ c.loop-field.invariant.quiet;
      telling = rw c.in_ok-push.ensures.items
          (telling_goes_on (λ file field. IsOfField file chunks field) (λ file field. causes_of_field file chunks field) (column_indexes_length chunks) told c.args.fields.now
          (drop (c.loop-field.field-index + 1) c.args.fields.now) field _ statistics _ _ _ telling (rw same at c.in_ok-read_field.ensures.told) (rw same at c.in_ok-read_field.ensures.ok) c.in_ok-read_field.ensures.taken);
      carried = carried_next (is_carried_field chunks) c.args.fields.now (drop (c.loop-field.field-index + 1) c.args.fields.now) field
          (c.loop-field.invariant.carried ∙ ap (list_all (is_carried_field chunks)) others) c.in_ok-read_field.ensures.carried;
      count = omega (arith, c.loop-field.invariant.count, ap length c.in_ok-push.ensures.items, length-append c.loop-field.statistics.items (statistics ∷ []));
    }

pub returns-clause-told : goal.returns-clause-told
returns-clause-told g c =
    let chunks = c.args.chunks.now in
    let telling = rw (drop_all c.loop-field.field-index c.args.fields.now c.loop-field-test.false) at c.loop-field.invariant.telling in
    (telling_ends (λ file field. IsOfField file chunks field) (λ file field. causes_of_field file chunks field) (column_indexes_length chunks) (g.S.Source.told c.args.source.now) c.args.fields.now _ _ _ telling).0

pub returns-clause-ok : goal.returns-clause-ok
returns-clause-ok g c =
    let chunks = c.args.chunks.now in
    let telling = rw (drop_all c.loop-field.field-index c.args.fields.now c.loop-field-test.false) at c.loop-field.invariant.telling in
    (telling_ends (λ file field. IsOfField file chunks field) (λ file field. causes_of_field file chunks field) (column_indexes_length chunks) (g.S.Source.told c.args.source.now) c.args.fields.now _ _ _ telling).1

pub returns-clause-carried : goal.returns-clause-carried
returns-clause-carried g c =
    c.loop-field.invariant.carried ∙ ap (list_all (is_carried_field c.args.chunks.now)) (drop_all c.loop-field.field-index c.args.fields.now c.loop-field-test.false)
