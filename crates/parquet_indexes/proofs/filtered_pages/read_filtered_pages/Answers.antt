use Rattle.std.proofs.Common.{◌≡◌, ◌∙◌, refl, true, inl, inr, ℕ, List, [], Option, Some, Vec, Global, subst, sym, ap}
use Rattle.std.specs.Prelude.{IfSome, Ok, Err}
use Rattle.std.specs.List.{list_all}
use Rattle.std.proofs.lemmas.Result.{IfErr-weaker, IfOk-weaker, err_from_is_err_and}
use Rattle.columns_core.specs.Refusals.{IsDamaged}
use Rattle.parquet_base.specs.Intervals.{is_well_shaped}
use Rattle.parquet_base.specs.declared.interval.Interval.{Interval}
use Rattle.parquet_meta.specs.Lists.{all_of}
use Rattle.parquet_meta.specs.Source.{Finds, IsReadFailure}
use Rattle.parquet_meta.specs.declared.metadata.PageLocation.{PageLocation}
use Rattle.parquet_page.specs.Locations.{selected_pages}
use Rattle.parquet_indexes.specs.Answered.{AnswersAt, RowsOfPages}
use Rattle.parquet_indexes.specs.FieldStatistics.{AreOfFields, TellsUncarried, causes_of_fields, is_carried_field}
use Rattle.parquet_statistics.specs.LeafTypes.{has_column}
use Rattle.parquet_indexes.specs.PageMaps.{InFields, in_fields, locations_of_fields, pages_at_places, rows_at_places}
use Rattle.parquet_indexes.specs.declared.page_statistics.FieldPageStatistics.{FieldPageStatistics}
use Rattle.parquet_indexes.proofs.AnswerLemmas.{answered, chosen, ill_shaped, locations_fail, none_wrong, not_selected, passed_on, rows_fail, statistics_fail}
use Rattle.parquet_indexes.proofs.CarriedLemmas.{damaged_carried, damaged_uncarried, not_found_uncarried}
use Rattle.parquet_indexes.proofs.MadeLemmas.{as_many_fields}
use Rattle.parquet_indexes.proofs.filtered_pages.read_filtered_pages.Goals as goal

abbrev view : Vec (Vec (Vec PageLocation Global) Global) Global → InFields PageLocation
view lists = in_fields lists.items

pub returns-in_err-statistics-clause-fails : goal.returns-in_err-statistics-clause-fails
returns-in_err-statistics-clause-fails g c = λ all.
    let p = err_from_is_err_and c.from_residual.result c.from_residual.ensures.1 in
    let told = g.S.Source.told c.args.source.now in
    let before = g.S.Source.faults c.args.source.now in
    let now = g.S.Source.faults c.read_columns_indexes.new.source in
    let fields = c.args.fields.now in
    let same = c.as_slice-columns.ensures in
    let e = c.in_err-statistics.field-0.0 in
    rw (p.1, p.2) (inl (statistics_fail c.args.row_group.now fields told before now e
    (subst (λ columns. IsReadFailure told before now (causes_of_fields columns fields) e) same
    (c.in_err-statistics.ensures.fails (ap (λ columns. list_all (has_column columns) fields) same ∙ all)))))

pub returns-in_err-rows-clause-fails : goal.returns-in_err-rows-clause-fails
returns-in_err-rows-clause-fails g c = λ all.
    let p = err_from_is_err_and c.from_residual-in_err-rows.result c.from_residual-in_err-rows.ensures.1 in
    let told = g.S.Source.told c.args.source.now in
    let here = g.S.Source.told c.read_columns_indexes.new.source in
    let before = g.S.Source.faults c.args.source.now in
    let now = g.S.Source.faults c.read_locations.new.source in
    let group = c.args.row_group.now in
    let fields = c.args.fields.now in
    let places = view c.in_ok-locations.locations in
    let e = c.in_err-rows.field-0.0 in
    rw (p.1, p.2) (inl (rows_fail group fields told before now places e
    (subst (λ (o : Option (List ℕ)). IfSome o (λ file. locations_of_fields group.columns fields file ≡ Some places)) c.in_ok-statistics.ensures.keeps.same
    (subst (λ columns. IfSome here (λ file. locations_of_fields columns fields file ≡ Some places)) c.as_slice-columns.ensures c.in_ok-locations.ensures.found))
    (subst (λ (lists : List (Vec (Vec PageLocation Global) Global)). IsDamaged (rows_at_places group.num_rows (in_fields lists)) e) c.deref.ensures.value c.in_err-rows.ensures.refusal)))

pub returns-in_err-locations-clause-fails : goal.returns-in_err-locations-clause-fails
returns-in_err-locations-clause-fails g c = λ all.
    let p = err_from_is_err_and c.from_residual-in_err-locations.result c.from_residual-in_err-locations.ensures.1 in
    let told = g.S.Source.told c.args.source.now in
    let here = g.S.Source.told c.read_columns_indexes.new.source in
    let before = g.S.Source.faults c.args.source.now in
    let mid = g.S.Source.faults c.read_columns_indexes.new.source in
    let now = g.S.Source.faults c.read_locations.new.source in
    let group = c.args.row_group.now in
    let fields = c.args.fields.now in
    let e = c.in_err-locations.field-0.0 in
    rw (p.1, p.2) (inl (locations_fail group fields view told here before mid now e c.in_ok-statistics.ensures.keeps.later c.in_ok-statistics.ensures.keeps.same
    (subst (λ columns. Finds view (locations_of_fields columns fields) here mid now (Err e)) c.as_slice-columns.ensures c.in_err-locations.ensures.found)))

pub returns-in_err-answer-clause-fails : goal.returns-in_err-answer-clause-fails
returns-in_err-answer-clause-fails g c = λ all.
    let p = err_from_is_err_and c.from_residual-in_err-answer.result c.from_residual-in_err-answer.ensures.1 in
    let told = g.S.Source.told c.args.source.now in
    let here = g.S.Source.told c.read_columns_indexes.new.source in
    let before = g.S.Source.faults c.args.source.now in
    let now = g.S.Source.faults c.read_locations.new.source in
    let group = c.args.row_group.now in
    let fields = c.args.fields.now in
    let statistics = c.in_ok-statistics.statistics.items in
    let places = view c.in_ok-locations.locations in
    let slice = c.as_slice-columns.ensures in
    let of : IfSome told (λ file. AreOfFields file group.columns fields statistics) = subst (λ columns. IfSome told (λ file. AreOfFields file columns fields statistics)) slice c.in_ok-statistics.ensures.told in
    let none : IfSome told (λ file. causes_of_fields group.columns fields file ≡ []) = subst (λ columns. IfSome told (λ file. causes_of_fields columns fields file ≡ [])) slice c.in_ok-statistics.ensures.ok in
    let is : IfSome told (λ file. locations_of_fields group.columns fields file ≡ Some places) = subst (λ (o : Option (List ℕ)). IfSome o (λ file. locations_of_fields group.columns fields file ≡ Some places)) c.in_ok-statistics.ensures.keeps.same
    (subst (λ columns. IfSome here (λ file. locations_of_fields columns fields file ≡ Some places)) slice c.in_ok-locations.ensures.found) in
    let are : rows_at_places group.num_rows places ≡ Some (in_fields c.in_ok-rows.rows.items) = subst (λ (lists : List (Vec (Vec PageLocation Global) Global)). rows_at_places group.num_rows (in_fields lists) ≡ Some (in_fields c.in_ok-rows.rows.items)) c.deref.ensures.value c.in_ok-rows.ensures.rows in
    let e = c.in_err-answer.field-0.0 in
    let at : AnswersAt g.F.Fn c.args.predicate statistics c.in_ok-rows.rows.items (Err e) = subst (λ (list : List FieldPageStatistics). AnswersAt g.F.Fn c.args.predicate list c.in_ok-rows.rows.items (Err e)) c.deref-2.ensures.value
    (subst (λ (rows : RowsOfPages). AnswersAt g.F.Fn c.args.predicate c.deref-2.result.now rows (Err e)) c.deref-3.ensures.value
    (subst (λ answer. AnswersAt g.F.Fn c.args.predicate c.deref-2.result.now c.deref-3.result.now answer) c.in_err-answer.was c.ask.ensures)) in
    rw (p.1, p.2) (passed_on group fields g.F.Fn c.args.predicate told statistics places of none is c.in_ok-rows.rows.items are before now e at)

pub returns-then-not-is_well_shaped-clause-fails : goal.returns-then-not-is_well_shaped-clause-fails
returns-then-not-is_well_shaped-clause-fails g c = λ all.
    let told = g.S.Source.told c.args.source.now in
    let here = g.S.Source.told c.read_columns_indexes.new.source in
    let before = g.S.Source.faults c.args.source.now in
    let now = g.S.Source.faults c.read_locations.new.source in
    let group = c.args.row_group.now in
    let fields = c.args.fields.now in
    let statistics = c.in_ok-statistics.statistics.items in
    let places = view c.in_ok-locations.locations in
    let slice = c.as_slice-columns.ensures in
    let of : IfSome told (λ file. AreOfFields file group.columns fields statistics) = subst (λ columns. IfSome told (λ file. AreOfFields file columns fields statistics)) slice c.in_ok-statistics.ensures.told in
    let none : IfSome told (λ file. causes_of_fields group.columns fields file ≡ []) = subst (λ columns. IfSome told (λ file. causes_of_fields columns fields file ≡ [])) slice c.in_ok-statistics.ensures.ok in
    let is : IfSome told (λ file. locations_of_fields group.columns fields file ≡ Some places) = subst (λ (o : Option (List ℕ)). IfSome o (λ file. locations_of_fields group.columns fields file ≡ Some places)) c.in_ok-statistics.ensures.keeps.same
    (subst (λ columns. IfSome here (λ file. locations_of_fields columns fields file ≡ Some places)) slice c.in_ok-locations.ensures.found) in
    let are : rows_at_places group.num_rows places ≡ Some (in_fields c.in_ok-rows.rows.items) = subst (λ (lists : List (Vec (Vec PageLocation Global) Global)). rows_at_places group.num_rows (in_fields lists) ≡ Some (in_fields c.in_ok-rows.rows.items)) c.deref.ensures.value c.in_ok-rows.ensures.rows in
    let at : AnswersAt g.F.Fn c.args.predicate statistics c.in_ok-rows.rows.items (Ok c.in_ok-answer.answer) = subst (λ (list : List FieldPageStatistics). AnswersAt g.F.Fn c.args.predicate list c.in_ok-rows.rows.items (Ok c.in_ok-answer.answer)) c.deref-2.ensures.value
    (subst (λ (rows : RowsOfPages). AnswersAt g.F.Fn c.args.predicate c.deref-2.result.now rows (Ok c.in_ok-answer.answer)) c.deref-3.ensures.value
    (subst (λ answer. AnswersAt g.F.Fn c.args.predicate c.deref-2.result.now c.deref-3.result.now answer) c.in_ok-answer.was c.ask.ensures)) in
    ill_shaped group fields g.F.Fn c.args.predicate told statistics places of none is c.in_ok-rows.rows.items are c.in_ok-answer.answer at before now _
    (ap (λ (intervals : List Interval). is_well_shaped intervals group.num_rows) (sym c.deref-4.ensures.value) ∙ sym c.is_well_shaped.ensures ∙ c.if-not-is_well_shaped.true) refl

pub returns-clause-chosen : goal.returns-clause-chosen
returns-clause-chosen g c =
    let told = g.S.Source.told c.args.source.now in
    let here = g.S.Source.told c.read_columns_indexes.new.source in
    let before = g.S.Source.faults c.args.source.now in
    let now = g.S.Source.faults c.read_locations.new.source in
    let group = c.args.row_group.now in
    let fields = c.args.fields.now in
    let statistics = c.in_ok-statistics.statistics.items in
    let places = view c.in_ok-locations.locations in
    let slice = c.as_slice-columns.ensures in
    let of : IfSome told (λ file. AreOfFields file group.columns fields statistics) = subst (λ columns. IfSome told (λ file. AreOfFields file columns fields statistics)) slice c.in_ok-statistics.ensures.told in
    let none : IfSome told (λ file. causes_of_fields group.columns fields file ≡ []) = subst (λ columns. IfSome told (λ file. causes_of_fields columns fields file ≡ [])) slice c.in_ok-statistics.ensures.ok in
    let is : IfSome told (λ file. locations_of_fields group.columns fields file ≡ Some places) = subst (λ (o : Option (List ℕ)). IfSome o (λ file. locations_of_fields group.columns fields file ≡ Some places)) c.in_ok-statistics.ensures.keeps.same
    (subst (λ columns. IfSome here (λ file. locations_of_fields columns fields file ≡ Some places)) slice c.in_ok-locations.ensures.found) in
    let are : rows_at_places group.num_rows places ≡ Some (in_fields c.in_ok-rows.rows.items) = subst (λ (lists : List (Vec (Vec PageLocation Global) Global)). rows_at_places group.num_rows (in_fields lists) ≡ Some (in_fields c.in_ok-rows.rows.items)) c.deref.ensures.value c.in_ok-rows.ensures.rows in
    let at : AnswersAt g.F.Fn c.args.predicate statistics c.in_ok-rows.rows.items (Ok c.in_ok-answer.answer) = subst (λ (list : List FieldPageStatistics). AnswersAt g.F.Fn c.args.predicate list c.in_ok-rows.rows.items (Ok c.in_ok-answer.answer)) c.deref-2.ensures.value
    (subst (λ (rows : RowsOfPages). AnswersAt g.F.Fn c.args.predicate c.deref-2.result.now rows (Ok c.in_ok-answer.answer)) c.deref-3.ensures.value
    (subst (λ answer. AnswersAt g.F.Fn c.args.predicate c.deref-2.result.now c.deref-3.result.now answer) c.in_ok-answer.was c.ask.ensures)) in
    let shaped : is_well_shaped c.in_ok-answer.answer.items group.num_rows ≡ true = ap (λ (intervals : List Interval). is_well_shaped intervals group.num_rows) (sym c.deref-4.ensures.value) ∙ sym c.is_well_shaped.ensures ∙ c.if-not-is_well_shaped.false in
    IfOk-weaker c.select_of_fields.result _ _
    (λ maps selected. chosen group fields g.F.Fn c.args.predicate told statistics places of none is c.in_ok-rows.rows.items are c.in_ok-answer.answer at (in_fields maps.items) shaped
    (subst (λ (intervals : List Interval). pages_at_places intervals group.num_rows places ≡ Some (in_fields maps.items)) c.deref-5.ensures.value
    (subst (λ (lists : List (Vec (Vec PageLocation Global) Global)). pages_at_places c.deref-5.result.now group.num_rows (in_fields lists) ≡ Some (in_fields maps.items)) c.deref-6.ensures.value selected)))
    c.select_of_fields.ensures.maps

pub returns-clause-fails : goal.returns-clause-fails
returns-clause-fails g c = λ all.
    let told = g.S.Source.told c.args.source.now in
    let here = g.S.Source.told c.read_columns_indexes.new.source in
    let before = g.S.Source.faults c.args.source.now in
    let now = g.S.Source.faults c.read_locations.new.source in
    let group = c.args.row_group.now in
    let fields = c.args.fields.now in
    let statistics = c.in_ok-statistics.statistics.items in
    let places = view c.in_ok-locations.locations in
    let slice = c.as_slice-columns.ensures in
    let of : IfSome told (λ file. AreOfFields file group.columns fields statistics) = subst (λ columns. IfSome told (λ file. AreOfFields file columns fields statistics)) slice c.in_ok-statistics.ensures.told in
    let none : IfSome told (λ file. causes_of_fields group.columns fields file ≡ []) = subst (λ columns. IfSome told (λ file. causes_of_fields columns fields file ≡ [])) slice c.in_ok-statistics.ensures.ok in
    let is : IfSome told (λ file. locations_of_fields group.columns fields file ≡ Some places) = subst (λ (o : Option (List ℕ)). IfSome o (λ file. locations_of_fields group.columns fields file ≡ Some places)) c.in_ok-statistics.ensures.keeps.same
    (subst (λ columns. IfSome here (λ file. locations_of_fields columns fields file ≡ Some places)) slice c.in_ok-locations.ensures.found) in
    let are : rows_at_places group.num_rows places ≡ Some (in_fields c.in_ok-rows.rows.items) = subst (λ (lists : List (Vec (Vec PageLocation Global) Global)). rows_at_places group.num_rows (in_fields lists) ≡ Some (in_fields c.in_ok-rows.rows.items)) c.deref.ensures.value c.in_ok-rows.ensures.rows in
    let at : AnswersAt g.F.Fn c.args.predicate statistics c.in_ok-rows.rows.items (Ok c.in_ok-answer.answer) = subst (λ (list : List FieldPageStatistics). AnswersAt g.F.Fn c.args.predicate list c.in_ok-rows.rows.items (Ok c.in_ok-answer.answer)) c.deref-2.ensures.value
    (subst (λ (rows : RowsOfPages). AnswersAt g.F.Fn c.args.predicate c.deref-2.result.now rows (Ok c.in_ok-answer.answer)) c.deref-3.ensures.value
    (subst (λ answer. AnswersAt g.F.Fn c.args.predicate c.deref-2.result.now c.deref-3.result.now answer) c.in_ok-answer.was c.ask.ensures)) in
    let shaped : is_well_shaped c.in_ok-answer.answer.items group.num_rows ≡ true = ap (λ (intervals : List Interval). is_well_shaped intervals group.num_rows) (sym c.deref-4.ensures.value) ∙ sym c.is_well_shaped.ensures ∙ c.if-not-is_well_shaped.false in
    IfErr-weaker c.select_of_fields.result _ _
    (λ e damaged. not_selected group fields g.F.Fn c.args.predicate told statistics places of none is c.in_ok-rows.rows.items are c.in_ok-answer.answer at before now e shaped
    (subst (λ (intervals : List Interval). IsDamaged (pages_at_places intervals group.num_rows places) e) c.deref-5.ensures.value
    (subst (λ (lists : List (Vec (Vec PageLocation Global) Global)). IsDamaged (pages_at_places c.deref-5.result.now group.num_rows (in_fields lists)) e) c.deref-6.ensures.value damaged)))
    c.select_of_fields.ensures.refusal

pub returns-clause-ok : goal.returns-clause-ok
returns-clause-ok g c =
    let told = g.S.Source.told c.args.source.now in
    let here = g.S.Source.told c.read_columns_indexes.new.source in
    let before = g.S.Source.faults c.args.source.now in
    let now = g.S.Source.faults c.read_locations.new.source in
    let group = c.args.row_group.now in
    let fields = c.args.fields.now in
    let statistics = c.in_ok-statistics.statistics.items in
    let places = view c.in_ok-locations.locations in
    let slice = c.as_slice-columns.ensures in
    let of : IfSome told (λ file. AreOfFields file group.columns fields statistics) = subst (λ columns. IfSome told (λ file. AreOfFields file columns fields statistics)) slice c.in_ok-statistics.ensures.told in
    let none : IfSome told (λ file. causes_of_fields group.columns fields file ≡ []) = subst (λ columns. IfSome told (λ file. causes_of_fields columns fields file ≡ [])) slice c.in_ok-statistics.ensures.ok in
    let is : IfSome told (λ file. locations_of_fields group.columns fields file ≡ Some places) = subst (λ (o : Option (List ℕ)). IfSome o (λ file. locations_of_fields group.columns fields file ≡ Some places)) c.in_ok-statistics.ensures.keeps.same
    (subst (λ columns. IfSome here (λ file. locations_of_fields columns fields file ≡ Some places)) slice c.in_ok-locations.ensures.found) in
    let are : rows_at_places group.num_rows places ≡ Some (in_fields c.in_ok-rows.rows.items) = subst (λ (lists : List (Vec (Vec PageLocation Global) Global)). rows_at_places group.num_rows (in_fields lists) ≡ Some (in_fields c.in_ok-rows.rows.items)) c.deref.ensures.value c.in_ok-rows.ensures.rows in
    IfOk-weaker c.select_of_fields.result (λ _. Unit {0}) _ (λ maps done. none_wrong group fields told places (in_fields c.in_ok-rows.rows.items) none is are) (IfOk-weaker c.select_of_fields.result _ _ (λ maps selected. tt) c.select_of_fields.ensures.maps)

-- ---- what is carried

pub returns-in_err-statistics-clause-carried : goal.returns-in_err-statistics-clause-carried
returns-in_err-statistics-clause-carried g c =
    let p = err_from_is_err_and c.from_residual.result c.from_residual.ensures.1 in
    let fields = c.args.fields.now in
    let e = c.in_err-statistics.field-0.0 in
    rw (p.1, p.2) (inl (subst (λ columns. TellsUncarried (list_all (is_carried_field columns) fields) e) c.as_slice-columns.ensures c.in_err-statistics.ensures.carried))

pub returns-in_err-locations-clause-carried : goal.returns-in_err-locations-clause-carried
returns-in_err-locations-clause-carried g c =
    let p = err_from_is_err_and c.from_residual-in_err-locations.result c.from_residual-in_err-locations.ensures.1 in
    let here = g.S.Source.told c.read_columns_indexes.new.source in
    let mid = g.S.Source.faults c.read_columns_indexes.new.source in
    let now = g.S.Source.faults c.read_locations.new.source in
    let group = c.args.row_group.now in
    let fields = c.args.fields.now in
    let e = c.in_err-locations.field-0.0 in
    rw (p.1, p.2) (inl (not_found_uncarried (list_all (is_carried_field group.columns) fields) view (locations_of_fields group.columns fields) here mid now e
    (subst (λ columns. Finds view (locations_of_fields columns fields) here mid now (Err e)) c.as_slice-columns.ensures c.in_err-locations.ensures.found)))

pub returns-in_err-rows-clause-carried : goal.returns-in_err-rows-clause-carried
returns-in_err-rows-clause-carried g c =
    let p = err_from_is_err_and c.from_residual-in_err-rows.result c.from_residual-in_err-rows.ensures.1 in
    let group = c.args.row_group.now in
    rw (p.1, p.2) (inl (damaged_uncarried (list_all (is_carried_field group.columns) c.args.fields.now) (rows_at_places group.num_rows (in_fields c.deref.result.now)) c.in_err-rows.field-0.0 c.in_err-rows.ensures.refusal))

pub returns-in_err-answer-clause-carried : goal.returns-in_err-answer-clause-carried
returns-in_err-answer-clause-carried g c =
    let p = err_from_is_err_and c.from_residual-in_err-answer.result c.from_residual-in_err-answer.ensures.1 in
    let told = g.S.Source.told c.args.source.now in
    let here = g.S.Source.told c.read_columns_indexes.new.source in
    let group = c.args.row_group.now in
    let fields = c.args.fields.now in
    let statistics = c.in_ok-statistics.statistics.items in
    let places = view c.in_ok-locations.locations in
    let slice = c.as_slice-columns.ensures in
    let of : IfSome told (λ file. AreOfFields file group.columns fields statistics) = subst (λ columns. IfSome told (λ file. AreOfFields file columns fields statistics)) slice c.in_ok-statistics.ensures.told in
    let none : IfSome told (λ file. causes_of_fields group.columns fields file ≡ []) = subst (λ columns. IfSome told (λ file. causes_of_fields columns fields file ≡ [])) slice c.in_ok-statistics.ensures.ok in
    let is : IfSome told (λ file. locations_of_fields group.columns fields file ≡ Some places) = subst (λ (o : Option (List ℕ)). IfSome o (λ file. locations_of_fields group.columns fields file ≡ Some places)) c.in_ok-statistics.ensures.keeps.same
    (subst (λ columns. IfSome here (λ file. locations_of_fields columns fields file ≡ Some places)) slice c.in_ok-locations.ensures.found) in
    let are : rows_at_places group.num_rows places ≡ Some (in_fields c.in_ok-rows.rows.items) = subst (λ (lists : List (Vec (Vec PageLocation Global) Global)). rows_at_places group.num_rows (in_fields lists) ≡ Some (in_fields c.in_ok-rows.rows.items)) c.deref.ensures.value c.in_ok-rows.ensures.rows in
    let e = c.in_err-answer.field-0.0 in
    let at : AnswersAt g.F.Fn c.args.predicate statistics c.in_ok-rows.rows.items (Err e) = subst (λ (list : List FieldPageStatistics). AnswersAt g.F.Fn c.args.predicate list c.in_ok-rows.rows.items (Err e)) c.deref-2.ensures.value
    (subst (λ (rows : RowsOfPages). AnswersAt g.F.Fn c.args.predicate c.deref-2.result.now rows (Err e)) c.deref-3.ensures.value
    (subst (λ answer. AnswersAt g.F.Fn c.args.predicate c.deref-2.result.now c.deref-3.result.now answer) c.in_err-answer.was c.ask.ensures)) in
    rw (p.1, p.2) (inr (answered group fields g.F.Fn c.args.predicate told statistics places of none is c.in_ok-rows.rows.items are (Err e) at))

pub returns-then-not-is_well_shaped-clause-carried : goal.returns-then-not-is_well_shaped-clause-carried
returns-then-not-is_well_shaped-clause-carried g c = inl tt

pub returns-clause-carried : goal.returns-clause-carried
returns-clause-carried g c =
    let group = c.args.row_group.now in
    let fields = c.args.fields.now in
    inl (damaged_carried (list_all (is_carried_field group.columns) fields) (pages_at_places c.deref-5.result.now group.num_rows (in_fields c.deref-6.result.now)) c.select_of_fields.result
    (subst (λ columns. list_all (is_carried_field columns) fields ≡ true) c.as_slice-columns.ensures c.in_ok-statistics.ensures.carried) c.select_of_fields.ensures.refusal)

-- ---- how many

pub returns-clause-each : goal.returns-clause-each
returns-clause-each g c =
    let group = c.args.row_group.now in
    IfOk-weaker c.select_of_fields.result _ _
    (λ maps selected. as_many_fields (all_of (λ (locations : List PageLocation). selected_pages c.deref-5.result.now locations group.num_rows)) c.in_ok-locations.locations.items maps.items
    (subst (λ (lists : List (Vec (Vec PageLocation Global) Global)). pages_at_places c.deref-5.result.now group.num_rows (in_fields lists) ≡ Some (in_fields maps.items)) c.deref-6.ensures.value selected)
    ∙ c.in_ok-locations.ensures.each)
    c.select_of_fields.ensures.maps
