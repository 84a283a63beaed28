use Rattle.std.proofs.Common.{◌≡◌, List, Some, Vec, Global, map, subst}
use Rattle.std.proofs.lemmas.List.{drop_all, map_push}
use Rattle.std.proofs.lemmas.Result.{err_from_is_err_and}
use Rattle.columns_core.specs.Refusals.{IsDamaged, Refuses}
use Rattle.parquet_meta.specs.declared.metadata.PageLocation.{PageLocation}
use Rattle.parquet_page.specs.Locations.{selected_pages}
use Rattle.parquet_page.specs.declared.page.FilteredPage.{FilteredPage}
use Rattle.parquet_indexes.proofs.MadeLemmas.{damaged_next, made_all, made_next}
use Rattle.parquet_indexes.proofs.page_maps.select_of_columns.Goals as goal

abbrev view : Vec PageLocation Global → List PageLocation
view list = list.items

abbrev shown : Vec FilteredPage Global → List FilteredPage
shown list = list.items

pub returns-in_err-select_pages-clause-refusal : goal.returns-in_err-select_pages-clause-refusal
returns-in_err-select_pages-clause-refusal c =
    let p = err_from_is_err_and c.from_residual.result c.from_residual.ensures.1 in
    let e = c.in_err-select_pages.field-0.0 in
    rw (p.1, p.2)
    (damaged_next (λ (locations : List PageLocation). selected_pages c.args.intervals.now locations c.args.num_rows) view c.args.columns.now c.loop-locations.locations-index c.locations-item.result (map shown c.loop-locations.maps.items) e c.loop-locations-test.true c.locations-item.is c.loop-locations.invariant
    (subst (λ list. IsDamaged ((λ (locations : List PageLocation). selected_pages c.args.intervals.now locations c.args.num_rows) list) e) c.deref.ensures.value (subst (λ shaped. Refuses shaped (selected_pages c.args.intervals.now c.deref.result.now c.args.num_rows) e) c.requires.shaped c.in_err-select_pages.ensures.refusal)))

pub loop-locations-preserved : goal.loop-locations-preserved
loop-locations-preserved c =
    rw (c.in_ok-push.ensures.items, map_push)
    (made_next (λ (locations : List PageLocation). selected_pages c.args.intervals.now locations c.args.num_rows) view c.args.columns.now c.loop-locations.locations-index c.locations-item.result (map shown c.loop-locations.maps.items) c.in_ok-select_pages.field-0.items
    c.loop-locations-test.true c.locations-item.is c.loop-locations.invariant
    (subst (λ list. (λ (locations : List PageLocation). selected_pages c.args.intervals.now locations c.args.num_rows) list ≡ Some c.in_ok-select_pages.field-0.items) c.deref.ensures.value c.in_ok-select_pages.ensures.pages))

pub returns-clause-maps : goal.returns-clause-maps
returns-clause-maps c =
    let making = rw (drop_all c.loop-locations.locations-index c.args.columns.now c.loop-locations-test.false) at c.loop-locations.invariant in
    made_all (λ (locations : List PageLocation). selected_pages c.args.intervals.now locations c.args.num_rows) view c.args.columns.now (map shown c.loop-locations.maps.items) making
