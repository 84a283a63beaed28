use Rattle.std.proofs.Common.{◌≡◌, ◌∙◌, List, Some, Vec, Global, subst, sym}
use Rattle.std.specs.Prelude.{IfErr, IfOk, IfSome, Err}
use Rattle.std.specs.List.{list_all}
use Rattle.std.proofs.lemmas.Bool.{and_parts}
use Rattle.std.proofs.lemmas.Result.{IfOk-weaker, err_from_is_err_and}
use Rattle.columns_core.specs.Refusals.{IsDamaged}
use Rattle.parquet_base.specs.Intervals.{is_well_shaped}
use Rattle.parquet_meta.specs.Lists.{all_of}
use Rattle.parquet_meta.specs.Source.{Finds}
use Rattle.parquet_meta.specs.declared.metadata.PageLocation.{PageLocation}
use Rattle.parquet_page.specs.Locations.{selected_pages}
use Rattle.parquet_page.specs.declared.page.FilteredPage.{FilteredPage}
use Rattle.parquet_statistics.specs.LeafTypes.{has_column}
use Rattle.parquet_indexes.specs.PageMaps.{InFields, in_fields, locations_of_fields, pages_at_places}
use Rattle.parquet_indexes.proofs.MadeLemmas.{as_many_fields, next_found, not_found}
use Rattle.parquet_indexes.proofs.page_maps.pages_of.Goals as goal

abbrev view : Vec (Vec (Vec PageLocation Global) Global) Global → InFields PageLocation
view lists = in_fields lists.items

abbrev shown : Vec (Vec (Vec FilteredPage Global) Global) Global → InFields FilteredPage
shown maps = in_fields maps.items

pub returns-in_err-locations-clause-found : goal.returns-in_err-locations-clause-found
returns-in_err-locations-clause-found g c = λ asked.
    let p = err_from_is_err_and c.from_residual.result c.from_residual.ensures.1 in
    let told = g.S.Source.told c.args.source.now in
    let before = g.S.Source.faults c.args.source.now in
    let now = g.S.Source.faults c.read_locations.new.source in
    let group = c.args.row_group.now in
    let e = c.in_err-locations.field-0.0 in
    rw (p.1, p.2) (not_found (locations_of_fields group.columns c.args.fields.now) (pages_at_places c.args.intervals.now group.num_rows) view shown told before now e
    (subst (λ columns. Finds view (locations_of_fields columns c.args.fields.now) told before now (Err e)) c.as_slice.ensures c.in_err-locations.ensures.found))

pub select_of_fields-requires : goal.select_of_fields-requires
select_of_fields-requires g c =
    let group = c.args.row_group.now in
    record { shaped = (and_parts (is_well_shaped c.args.intervals.now group.num_rows) (list_all (has_column group.columns) c.args.fields.now) (sym c.can_be_asked.ensures ∙ c.if-not-can_be_asked.false)).0 }

pub returns-clause-found : goal.returns-clause-found
returns-clause-found g c = λ asked.
    let told = g.S.Source.told c.args.source.now in
    let before = g.S.Source.faults c.args.source.now in
    let now = g.S.Source.faults c.read_locations.new.source in
    let group = c.args.row_group.now in
    let result = c.select_of_fields.result in
    next_found (locations_of_fields group.columns c.args.fields.now) (pages_at_places c.args.intervals.now group.num_rows) shown told before now (view c.in_ok-locations.locations) result
    (subst (λ columns. IfSome told (λ file. locations_of_fields columns c.args.fields.now file ≡ Some (view c.in_ok-locations.locations))) c.as_slice.ensures c.in_ok-locations.ensures.found)
    (subst (λ lists. IfOk result (λ maps. pages_at_places c.args.intervals.now group.num_rows (in_fields lists) ≡ Some (shown maps))) c.deref.ensures.value c.select_of_fields.ensures.maps)
    (subst (λ (lists : List (Vec (Vec PageLocation Global) Global)). IfErr result (IsDamaged (pages_at_places c.args.intervals.now group.num_rows (in_fields lists)))) c.deref.ensures.value c.select_of_fields.ensures.refusal)

pub returns-clause-each : goal.returns-clause-each
returns-clause-each g c =
    let group = c.args.row_group.now in
    let intervals = c.args.intervals.now in
    let places = c.in_ok-locations.locations.items in
    IfOk-weaker c.select_of_fields.result _ _
    (λ maps selected. as_many_fields (all_of (λ (locations : List PageLocation). selected_pages intervals locations group.num_rows)) places maps.items
    (subst (λ (lists : List (Vec (Vec PageLocation Global) Global)). pages_at_places intervals group.num_rows (in_fields lists) ≡ Some (in_fields maps.items)) c.deref.ensures.value selected)
    ∙ c.in_ok-locations.ensures.each)
    c.select_of_fields.ensures.maps
