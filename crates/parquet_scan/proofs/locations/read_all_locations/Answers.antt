use Rattle.std.proofs.Common.{◌≡◌, ◌∙◌, ◌++◌, ◌+◌, rules, [], ◌∷◌, List, ℕ, map, drop, ap, sym, subst, arith, refl}
use Rattle.std.specs.Prelude.{Option, IfSome}
use Rattle.std.specs.List.{list_all}
use Rattle.std.proofs.lemmas.Bool.{and_from}
use Rattle.std.proofs.lemmas.List.Folds.{list_all-append}
use Rattle.std.proofs.lemmas.Result.{err_from_is_err_and}
use Rattle.parquet_meta.specs.declared.metadata.PageLocation.{PageLocation}
use Rattle.parquet_page.specs.Locations.{has_shape}
use Rattle.parquet_scan.specs.Causes.{offset_causes_of_field}
use Rattle.parquet_scan.specs.Costs.{location_bytes_of}
use Rattle.parquet_scan.specs.Rows.{field_locations}
use Rattle.parquet_scan.proofs.CostLemmas.{none_left, sum_left}
use Rattle.parquet_scan.proofs.CallLemmas.{refuses}
use Rattle.parquet_scan.proofs.ScanLemmas.{in_item, made_more, none_more}
use Rattle.parquet_scan.proofs.locations.read_all_locations.Goals as goal

pub returns-in_err-list-clause-reads : goal.returns-in_err-list-clause-reads
returns-in_err-list-clause-reads g c =
    let p = err_from_is_err_and c.from_residual-in_err-list.result c.from_residual-in_err-list.ensures.1 in
    let group = c.args.group.now in
    rw (p.1, p.2) (refuses c.loop-field.invariant.keeps c.in_err-list.ensures.reads
    (in_item (g.S.Source.told c.args.source.now) (λ bytes. offset_causes_of_field bytes group) c.args.fields.now c.loop-field.field-index c.field-item.result c.loop-field-test.true c.field-item.is))

pub loop-field-preserved : goal.loop-field-preserved
loop-field-preserved g c =
    let told = g.S.Source.told c.args.source.now in
    let group = c.args.group.now in
    let fields = c.args.fields.now in
    let i = c.loop-field.field-index in
    let field = c.field-item.result in
    let list = c.in_ok-list.list in
    let lists = c.loop-field.lists.items in
    let more : c.push.new.self.items ≡ lists ++ list.items ∷ [] = c.in_ok-push.ensures.items ∙ ap (λ one. lists ++ one ∷ []) c.new.ensures in
    let own = subst (λ (told : Option (List ℕ)). IfSome told (λ bytes. offset_causes_of_field bytes group field ≡ [])) c.loop-field.invariant.keeps.same c.in_ok-list.ensures.reads.ok in
    let are = subst (λ (told : Option (List ℕ)). IfSome told (λ bytes. field_locations bytes group field.name ≡ list.items)) c.loop-field.invariant.keeps.same c.in_ok-list.ensures.locations in
    record {
      keeps = search rules;
      quiet = c.in_ok-list.ensures.reads.quiet ∙ c.loop-field.invariant.quiet;
      none = none_more told (λ bytes. offset_causes_of_field bytes group) fields i field c.loop-field-test.true c.field-item.is c.loop-field.invariant.none own;
      locations = subst (λ (lists : List (List PageLocation)). IfSome told (λ bytes. map (λ field. field_locations bytes group field.name) fields ≡ lists ++ map (λ field. field_locations bytes group field.name) (drop (i + 1) fields)))
          (sym more)
          (made_more told (λ bytes field. field_locations bytes group field.name) fields i field lists list.items c.loop-field-test.true c.field-item.is c.loop-field.invariant.locations are);
      taken = omega (arith, c.loop-field.invariant.taken, c.in_ok-list.ensures.taken, sum_left (location_bytes_of group) fields i field c.loop-field-test.true c.field-item.is);
      count = search rules;
      shaped = ap (list_all (λ list. has_shape list group.num_rows)) more ∙ list_all-append (λ list. has_shape list group.num_rows) lists (list.items ∷ [])
          ∙ and_from _ _ c.loop-field.invariant.shaped (and_from _ _ c.in_ok-list.ensures.shaped refl);
    }

pub returns-clause-taken : goal.returns-clause-taken
returns-clause-taken g c = omega (arith, c.loop-field.invariant.taken, none_left (location_bytes_of c.args.group.now) c.args.fields.now c.loop-field.field-index (omega arith))
