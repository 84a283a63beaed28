use Rattle.std.proofs.Common.{◌≡◌, List, Some, [], ◌∷◌, map, subst, arith, Vec, Global}
use Rattle.std.specs.Prelude.{IfSome, Err}
use Rattle.std.proofs.lemmas.Result.{err_from_is_err_and}
use Rattle.parquet_meta.specs.Indexes.{locations_of}
use Rattle.parquet_meta.specs.Lists.{all_of}
use Rattle.parquet_meta.specs.Source.{Finds}
use Rattle.parquet_meta.specs.declared.metadata.PageLocation.{PageLocation}
use Rattle.parquet_indexes.proofs.LocationLemmas.{none_there, one_list, one_refused, some_list}
use Rattle.parquet_indexes.proofs.locations.locations_of_column.Goals as goal

pub returns-in_err-lists-clause-found : goal.returns-in_err-lists-clause-found
returns-in_err-lists-clause-found g c =
    let p = err_from_is_err_and c.from_residual.result c.from_residual.ensures.1 in
    let told = g.S.Source.told c.args.source.now in
    let start = g.S.Source.faults c.args.source.now in
    let now = g.S.Source.faults c.read_pages_locations.new.source in
    let view : Vec (Vec PageLocation Global) Global → List (List PageLocation) = λ lists. map {A = Vec PageLocation Global} {B = List PageLocation} (λ list. list.items) lists.items in
    let views : Vec PageLocation Global → List PageLocation = λ list. list.items in
    rw (p.1, p.2) (one_refused c.args.column.now view views told start now c.in_err-lists.field-0.0
    (subst (λ columns. Finds view (λ file. all_of (locations_of file) columns) told start now (Err c.in_err-lists.field-0.0)) c.from_ref.ensures.value c.in_err-lists.ensures.found))

pub returns-in_default-clause-found : goal.returns-in_default-clause-found
returns-in_default-clause-found g c =
    let told = g.S.Source.told c.args.source.now in
    let list : Vec PageLocation Global → List PageLocation = λ list. list.items in
    let found = subst (λ columns. IfSome told (λ file. all_of (locations_of file) columns ≡ Some (map list c.in_ok-lists.lists.items))) c.from_ref.ensures.value c.in_ok-lists.ensures.found in
    some_list c.args.column.now list told c.in_ok-lists.lists.items (none_there c.in_ok-lists.lists.items (omega (arith, c.in_default.ensures.cases.0))) found

pub returns-clause-found : goal.returns-clause-found
returns-clause-found g c =
    let told = g.S.Source.told c.args.source.now in
    let list : Vec PageLocation Global → List PageLocation = λ list. list.items in
    let found = subst (λ columns. IfSome told (λ file. all_of (locations_of file) columns ≡ Some (map list c.in_ok-lists.lists.items))) c.from_ref.ensures.value c.in_ok-lists.ensures.found in
    one_list c.args.column.now list told c.pop.new.self.items c.in-Some.locations
    (subst (λ lists. IfSome told (λ file. all_of (locations_of file) (c.args.column.now ∷ []) ≡ Some (map list lists))) c.in-Some.ensures.items found)
