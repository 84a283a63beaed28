use Rattle.std.proofs.Common.{◌≡◌, List, Some, Vec, Global, map, subst}
use Rattle.std.proofs.lemmas.List.{drop_all, map_push}
use Rattle.std.proofs.lemmas.Result.{err_from_is_err_and}
use Rattle.columns_core.specs.Refusals.{IsDamaged}
use Rattle.parquet_meta.specs.Lists.{all_of}
use Rattle.parquet_meta.specs.declared.metadata.PageLocation.{PageLocation}
use Rattle.parquet_page.specs.Locations.{selected_pages}
use Rattle.parquet_page.specs.declared.page.FilteredPage.{FilteredPage}
use Rattle.parquet_indexes.proofs.MadeLemmas.{damaged_next, made_all, made_next}
use Rattle.parquet_indexes.proofs.page_maps.select_of_fields.Goals as goal

abbrev view : Vec (Vec PageLocation Global) Global → List (List PageLocation)
view lists = map (λ list. list.items) lists.items

abbrev shown : Vec (Vec FilteredPage Global) Global → List (List FilteredPage)
shown lists = map (λ list. list.items) lists.items

pub returns-in_err-select_of_columns-clause-refusal : goal.returns-in_err-select_of_columns-clause-refusal
returns-in_err-select_of_columns-clause-refusal c =
    let p = err_from_is_err_and c.from_residual.result c.from_residual.ensures.1 in
    let e = c.in_err-select_of_columns.field-0.0 in
    rw (p.1, p.2)
    (damaged_next (all_of (λ (locations : List PageLocation). selected_pages c.args.intervals.now locations c.args.num_rows)) view c.args.fields.now c.loop-columns.columns-index c.columns-item.result (map shown c.loop-columns.maps.items) e c.loop-columns-test.true c.columns-item.is c.loop-columns.invariant
    (subst (λ (lists : List (Vec PageLocation Global)). IsDamaged (all_of (λ (locations : List PageLocation). selected_pages c.args.intervals.now locations c.args.num_rows) (map (λ list. list.items) lists)) e) c.deref.ensures.value c.in_err-select_of_columns.ensures.refusal))

pub loop-columns-preserved : goal.loop-columns-preserved
loop-columns-preserved c =
    rw (c.in_ok-push.ensures.items, map_push)
    (made_next (all_of (λ (locations : List PageLocation). selected_pages c.args.intervals.now locations c.args.num_rows)) view c.args.fields.now c.loop-columns.columns-index c.columns-item.result (map shown c.loop-columns.maps.items) (shown c.in_ok-select_of_columns.field-0)
    c.loop-columns-test.true c.columns-item.is c.loop-columns.invariant
    (subst (λ (lists : List (Vec PageLocation Global)). all_of (λ (locations : List PageLocation). selected_pages c.args.intervals.now locations c.args.num_rows) (map (λ list. list.items) lists) ≡ Some (shown c.in_ok-select_of_columns.field-0)) c.deref.ensures.value c.in_ok-select_of_columns.ensures.maps))

pub returns-clause-maps : goal.returns-clause-maps
returns-clause-maps c =
    let making = rw (drop_all c.loop-columns.columns-index c.args.fields.now c.loop-columns-test.false) at c.loop-columns.invariant in
    made_all (all_of (λ (locations : List PageLocation). selected_pages c.args.intervals.now locations c.args.num_rows)) view c.args.fields.now (map shown c.loop-columns.maps.items) making
