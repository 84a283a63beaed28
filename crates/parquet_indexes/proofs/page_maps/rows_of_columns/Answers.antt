use Rattle.std.proofs.Common.{◌≡◌, List, Some, Vec, Global, map, subst}
use Rattle.std.proofs.lemmas.List.{drop_all, map_push}
use Rattle.std.proofs.lemmas.Result.{err_from_is_err_and}
use Rattle.columns_core.specs.Refusals.{IsDamaged}
use Rattle.parquet_base.specs.declared.interval.Interval.{Interval}
use Rattle.parquet_meta.specs.declared.metadata.PageLocation.{PageLocation}
use Rattle.parquet_page.specs.Locations.{page_intervals}
use Rattle.parquet_indexes.proofs.MadeLemmas.{damaged_next, made_all, made_next}
use Rattle.parquet_indexes.proofs.page_maps.rows_of_columns.Goals as goal

abbrev view : Vec PageLocation Global → List PageLocation
view list = list.items

abbrev shown : Vec Interval Global → List Interval
shown list = list.items

pub returns-in_err-page_row_intervals-clause-refusal : goal.returns-in_err-page_row_intervals-clause-refusal
returns-in_err-page_row_intervals-clause-refusal c =
    let p = err_from_is_err_and c.from_residual.result c.from_residual.ensures.1 in
    let e = c.in_err-page_row_intervals.field-0.0 in
    rw (p.1, p.2)
    (damaged_next (λ (locations : List PageLocation). page_intervals locations c.args.num_rows) view c.args.columns.now c.loop-locations.locations-index c.locations-item.result (map shown c.loop-locations.rows.items) e c.loop-locations-test.true c.locations-item.is c.loop-locations.invariant
    (subst (λ list. IsDamaged ((λ (locations : List PageLocation). page_intervals locations c.args.num_rows) list) e) c.deref.ensures.value c.in_err-page_row_intervals.ensures.refusal))

pub loop-locations-preserved : goal.loop-locations-preserved
loop-locations-preserved c =
    rw (c.in_ok-push.ensures.items, map_push)
    (made_next (λ (locations : List PageLocation). page_intervals locations c.args.num_rows) view c.args.columns.now c.loop-locations.locations-index c.locations-item.result (map shown c.loop-locations.rows.items) c.in_ok-page_row_intervals.field-0.items
    c.loop-locations-test.true c.locations-item.is c.loop-locations.invariant
    (subst (λ list. (λ (locations : List PageLocation). page_intervals locations c.args.num_rows) list ≡ Some c.in_ok-page_row_intervals.field-0.items) c.deref.ensures.value c.in_ok-page_row_intervals.ensures.rows))

pub returns-clause-rows : goal.returns-clause-rows
returns-clause-rows c =
    let making = rw (drop_all c.loop-locations.locations-index c.args.columns.now c.loop-locations-test.false) at c.loop-locations.invariant in
    made_all (λ (locations : List PageLocation). page_intervals locations c.args.num_rows) view c.args.columns.now (map shown c.loop-locations.rows.items) making
