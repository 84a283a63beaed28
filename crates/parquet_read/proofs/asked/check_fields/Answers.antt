use Rattle.std.proofs.Common.{◌∙◌, ◌+◌, ◌++◌, List, drop, ap, None}
use Rattle.std.proofs.lemmas.List.{drop_all}
use Rattle.std.proofs.lemmas.Result.{err_from_is_err_and}
use Rattle.columns_core.specs.Causes.{Cause, IsWantOfMemory, cause_of}
use Rattle.parquet_meta.proofs.ListLemmas.{item_and_others}
use Rattle.parquet_read.specs.Asked.{GroupReading, fields_causes}
use Rattle.parquet_read.proofs.AskedLemmas.{causes_on, field_err}
use Rattle.parquet_read.proofs.asked.check_fields.Goals as goal

pub returns-in_err-check_field-clause-cause : goal.returns-in_err-check_field-clause-cause
returns-in_err-check_field-clause-cause c =
    let reading : GroupReading = record { group = c.args.group.now; size = None; limit = None } in
    let fields = c.args.fields.now in
    let i = c.loop-field.field-index in
    let others = item_and_others fields i c.field-item.result c.loop-field-test.true c.field-item.is in
    let p = err_from_is_err_and c.from_residual.result c.from_residual.ensures.1 in
    let e = c.in_err-check_field.field-0.0 in
    rw (p.1, p.2) (field_err reading (drop i fields) (drop (i + 1) fields) fields c.field-item.result (cause_of e) (IsWantOfMemory e) c.loop-field.invariant others c.in_err-check_field.ensures.cause)

pub loop-field-preserved : goal.loop-field-preserved
loop-field-preserved c =
    let reading : GroupReading = record { group = c.args.group.now; size = None; limit = None } in
    let fields = c.args.fields.now in
    let i = c.loop-field.field-index in
    let others = item_and_others fields i c.field-item.result c.loop-field-test.true c.field-item.is in
    c.loop-field.invariant ∙ causes_on reading (drop i fields) (drop (i + 1) fields) c.field-item.result others
    ∙ ap (λ (l : List Cause). l ++ fields_causes reading (drop (i + 1) fields)) c.in_ok-check_field.ensures.ok

pub returns-clause-ok : goal.returns-clause-ok
returns-clause-ok c =
    let reading : GroupReading = record { group = c.args.group.now; size = None; limit = None } in
    c.loop-field.invariant ∙ ap (fields_causes reading) (drop_all c.loop-field.field-index c.args.fields.now c.loop-field-test.false)
