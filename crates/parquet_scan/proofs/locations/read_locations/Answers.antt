use Rattle.std.proofs.Common.{◌≡◌, List, Some, [], ◌∷◌, map, sym, subst, arith, Vec, Global}
use Rattle.std.specs.Prelude.{IfSome, Err}
use Rattle.std.proofs.lemmas.Result.{err_from_is_err_and}
use Rattle.columns_core.specs.Causes.{ExternalFormat, unless}
use Rattle.columns_core.specs.declared.error.Part.TheVariants as part
use Rattle.parquet_meta.specs.Indexes.{locations_of}
use Rattle.parquet_meta.specs.Lists.{all_of}
use Rattle.parquet_meta.specs.Source.{Finds}
use Rattle.parquet_meta.specs.declared.metadata.PageLocation.{PageLocation}
use Rattle.parquet_page.specs.Locations.{has_shape}
use Rattle.parquet_scan.specs.Pages.{locations, locations_causes}
use Rattle.parquet_scan.proofs.CallLemmas.{answered, refused}
use Rattle.parquet_scan.proofs.LocationLemmas.{locations_fail, never_told, none_of, read_none, read_one, shape_fine, shape_told}
use Rattle.parquet_scan.proofs.ScanLemmas.{fails_telling}
use Rattle.parquet_scan.proofs.locations.read_locations.Goals as goal

pub returns-in_err-lists-clause-reads : goal.returns-in_err-lists-clause-reads
returns-in_err-lists-clause-reads g c =
    let p = err_from_is_err_and c.from_residual.result c.from_residual.ensures.1 in
    let told = g.S.Source.told c.args.source.now in
    let start = g.S.Source.faults c.args.source.now in
    let now = g.S.Source.faults c.read_pages_locations.new.source in
    let group = c.args.group.now in
    let column = c.args.column.now in
    let view : Vec (Vec PageLocation Global) Global → List (List PageLocation) = λ lists. map {A = Vec PageLocation Global} {B = List PageLocation} (λ list. list.items) lists.items in
    rw (p.1, p.2) (refused c.in_err-lists.ensures.keeps (locations_fail view told start now group column c.in_err-lists.field-0.0
    (subst (λ columns. Finds view (λ file. all_of (locations_of file) columns) told start now (Err c.in_err-lists.field-0.0)) c.from_ref.ensures.value c.in_err-lists.ensures.found)))

pub returns-in_default-clause-reads : goal.returns-in_default-clause-reads
returns-in_default-clause-reads g c =
    let told = g.S.Source.told c.args.source.now in
    let start = g.S.Source.faults c.args.source.now in
    let now = g.S.Source.faults c.read_pages_locations.new.source in
    let group = c.args.group.now in
    let column = c.args.column.now in
    let view : Vec PageLocation Global → List PageLocation = λ list. list.items in
    let found = subst (λ columns. IfSome told (λ bytes. all_of (locations_of bytes) columns ≡ Some (map view c.in_ok-lists.lists.items))) c.from_ref.ensures.value c.in_ok-lists.ensures.found in
    refused c.in_ok-lists.ensures.keeps
    (never_told told start now (λ bytes. locations_causes bytes group column) part.Location (read_none view told column c.in_ok-lists.lists.items (none_of c.in_ok-lists.lists.items (omega (arith, c.in_default.ensures.cases.0))) found))

pub returns-in_err-check_shape-clause-reads : goal.returns-in_err-check_shape-clause-reads
returns-in_err-check_shape-clause-reads g c =
    let p = err_from_is_err_and c.from_residual-in_err-check_shape.result c.from_residual-in_err-check_shape.ensures.1 in
    let told = g.S.Source.told c.args.source.now in
    let start = g.S.Source.faults c.args.source.now in
    let now = g.S.Source.faults c.read_pages_locations.new.source in
    let group = c.args.group.now in
    let column = c.args.column.now in
    let view : Vec PageLocation Global → List PageLocation = λ list. list.items in
    let found = subst (λ columns. IfSome told (λ bytes. all_of (locations_of bytes) columns ≡ Some (map view c.in_ok-lists.lists.items))) c.from_ref.ensures.value c.in_ok-lists.ensures.found in
    let one = subst (λ lists. IfSome told (λ bytes. all_of (locations_of bytes) (column ∷ []) ≡ Some (map view lists))) c.in-Some.ensures.items found in
    let at = read_one view told column c.pop.new.self.items c.in-Some.locations one in
    let here = subst (λ list. IfSome told (λ bytes. locations bytes column ≡ list)) (sym c.deref.ensures.value) at in
    rw (p.1, p.2) (refused c.in_ok-lists.ensures.keeps
    (fails_telling told start now (unless (has_shape c.deref.result.now group.num_rows) ExternalFormat) (λ bytes. locations_causes bytes group column) c.in_err-check_shape.field-0.0
    (shape_told told group column c.deref.result.now here) c.in_err-check_shape.ensures.cause))

pub returns-clause-reads : goal.returns-clause-reads
returns-clause-reads g c =
    let told = g.S.Source.told c.args.source.now in
    let group = c.args.group.now in
    let column = c.args.column.now in
    let view : Vec PageLocation Global → List PageLocation = λ list. list.items in
    let found = subst (λ columns. IfSome told (λ bytes. all_of (locations_of bytes) columns ≡ Some (map view c.in_ok-lists.lists.items))) c.from_ref.ensures.value c.in_ok-lists.ensures.found in
    let one = subst (λ lists. IfSome told (λ bytes. all_of (locations_of bytes) (column ∷ []) ≡ Some (map view lists))) c.in-Some.ensures.items found in
    let at = read_one view told column c.pop.new.self.items c.in-Some.locations one in
    let here = subst (λ list. IfSome told (λ bytes. locations bytes column ≡ list)) (sym c.deref.ensures.value) at in
    answered c.in_ok-lists.ensures.keeps c.in_ok-lists.ensures.quiet (shape_fine told group column c.deref.result.now here c.in_ok-check_shape.ensures.ok)

pub returns-clause-locations : goal.returns-clause-locations
returns-clause-locations g c =
    let told = g.S.Source.told c.args.source.now in
    let column = c.args.column.now in
    let view : Vec PageLocation Global → List PageLocation = λ list. list.items in
    let found = subst (λ columns. IfSome told (λ bytes. all_of (locations_of bytes) columns ≡ Some (map view c.in_ok-lists.lists.items))) c.from_ref.ensures.value c.in_ok-lists.ensures.found in
    let one = subst (λ lists. IfSome told (λ bytes. all_of (locations_of bytes) (column ∷ []) ≡ Some (map view lists))) c.in-Some.ensures.items found in
    let at = read_one view told column c.pop.new.self.items c.in-Some.locations one in
    at
