use Rattle.std.proofs.Common.{◌≡◌, List, Some, Vec, Global, map, subst}
use Rattle.std.specs.Prelude.{Err, IfSome}
use Rattle.std.proofs.lemmas.Result.{err_from_is_err_and}
use Rattle.parquet_meta.specs.Indexes.{locations_of}
use Rattle.parquet_meta.specs.Lists.{all_of}
use Rattle.parquet_meta.specs.Source.{Finds}
use Rattle.parquet_meta.specs.declared.metadata.ColumnChunkMetaData.{ColumnChunkMetaData}
use Rattle.parquet_meta.specs.declared.metadata.PageLocation.{PageLocation}
use Rattle.inspect_program.proofs.IndexLemmas.{locations_found, no_locations_found}
use Rattle.inspect_program.proofs.pages.locations_of.Goals as goal

pub returns-in_err-lists-clause-found : goal.returns-in_err-lists-clause-found
returns-in_err-lists-clause-found g c =
    let p = err_from_is_err_and c.from_residual.result c.from_residual.ensures.1 in
    let told = g.S.Source.told c.args.source.now in
    let start = g.S.Source.faults c.args.source.now in
    let now = g.S.Source.faults c.read_pages_locations.new.source in
    let view : Vec (Vec PageLocation Global) Global → List (List PageLocation) = λ lists. map {A = Vec PageLocation Global} {B = List PageLocation} (λ list. list.items) lists.items in
    let own : Vec PageLocation Global → List PageLocation = λ list. list.items in
    rw (p.1, p.2) (no_locations_found view own told start now c.args.column.now c.in_err-lists.field-0.0
    (subst (λ (columns : List ColumnChunkMetaData). Finds view (λ file. all_of (locations_of file) columns) told start now (Err c.in_err-lists.field-0.0)) c.from_ref.ensures.value c.in_err-lists.ensures.found))

pub returns-in-Some-clause-found : goal.returns-in-Some-clause-found
returns-in-Some-clause-found g c =
    let told = g.S.Source.told c.args.source.now in
    let column = c.args.column.now in
    let view : Vec PageLocation Global → List PageLocation = λ list. list.items in
    locations_found told column c.in_ok-lists.lists.items c.pop.new.self.items c.in-Some.list c.in-Some.ensures.items
    (subst (λ (columns : List ColumnChunkMetaData). IfSome told (λ bytes. all_of (locations_of bytes) columns ≡ Some (map view c.in_ok-lists.lists.items))) c.from_ref.ensures.value c.in_ok-lists.ensures.found)
