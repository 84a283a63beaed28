use Rattle.std.proofs.Common.{◌≡◌, ◌≤◌, ◌+◌, ◌∙◌, [], map, min, ◌-◌, ◌^◌, sym, subst, List, ℕ}
use Rattle.parquet_meta.specs.Source.{IsReadFailure}
use Rattle.std.specs.Prelude.{Option, Some, IfSome, IfOk, IfErr, OnOk}
use Rattle.std.proofs.lemmas.Result.{err_from_is_err_and}
use Rattle.columns_core.specs.Causes.{cause_of}
use Rattle.columns_core.specs.declared.data_type.Field.{Field}
use Rattle.columns_core.specs.declared.error.Error.TheVariants as error
use Rattle.columns_core.specs.declared.error.Part.TheVariants as part
use Rattle.parquet_scan.specs.Causes.{metadata_causes}
use Rattle.parquet_scan.specs.Cells.{columns_of_chunk, given_chunks}
use Rattle.parquet_scan.specs.Costs.{bytes_behind_footer, most_bytes_taken, most_pages, pages_lent}
use Rattle.parquet_scan.specs.Request.{Request}
use Rattle.parquet_scan.specs.Rows.{file_with, given_row_count}
use Rattle.parquet_scan.specs.Scan.{Answers, RefusesScan, RisesBy, RisesJustBy, ScanCosts, kept_groups, kept_of, request_of}
use Rattle.parquet_scan.specs.declared.bound.Bound.{Bound}
use Rattle.parquet_scan.specs.declared.scanning.Scan.{Scan}
use Rattle.parquet_scan.proofs.AnswerLemmas.{answers, illegal, legal_alone, legal_told, refused_by_causes, refused_by_footer, refused_by_groups}
use Rattle.parquet_scan.proofs.FileCosts.{all_taken, at_most, costs, scan_sound}
use Rattle.parquet_scan.proofs.FileLemmas.{are_counted, behind_metadata, has_cause, is_valid, meta_cause, on_answer, on_file}
use Rattle.parquet_scan.proofs.LegalLemmas.{asks_legally, each_error, no_file}
use Rattle.parquet_scan.proofs.scanning.scan_where.Goals as goal

-- what holds of the request that was made holds of the one that is asked for
of_request : (P : Request → Type 0) {fields fields' : List Field} (bounds : List Bound) (chunk_size limit : Option ℕ) → fields ≡ fields' → P (record { fields = fields; bounds = bounds; chunk_size = chunk_size; limit = limit })
    → P (record { fields = fields'; bounds = bounds; chunk_size = chunk_size; limit = limit })
of_request P bounds chunk_size limit e holds = subst (λ fields. P (record { fields = fields; bounds = bounds; chunk_size = chunk_size; limit = limit })) e holds

pub returns-in_err-metadata-clause-refuses : goal.returns-in_err-metadata-clause-refuses
returns-in_err-metadata-clause-refuses g c =
    let p = err_from_is_err_and c.from_residual.result c.from_residual.ensures.1 in
    let request = request_of c.args.schema.now c.args.bounds.now c.args.chunk_size c.args.limit in
    let told = g.S.Source.told c.args.source.now in
    let before = g.S.Source.faults c.args.source.now in
    let now = g.S.Source.faults c.read_metadata.new.source in
    let e = c.in_err-metadata.field-0.0 in
    rw (p.1, p.2) (refused_by_footer request told before now e c.in_err-metadata.ensures.footer (no_file request told before now e c.in_err-metadata.ensures.footer))

pub returns-in_err-counts-clause-refuses : goal.returns-in_err-counts-clause-refuses
returns-in_err-counts-clause-refuses g c =
    let p = err_from_is_err_and c.from_residual-in_err-counts.result c.from_residual-in_err-counts.ensures.1 in
    let asked : Request = record { fields = c.as_slice.result.now; bounds = c.args.bounds.now; chunk_size = c.args.chunk_size; limit = c.args.limit } in
    let metadata = c.in_ok-metadata.metadata in
    let told = g.S.Source.told c.args.source.now in
    let before = g.S.Source.faults c.args.source.now in
    let now = g.S.Source.faults c.read_metadata.new.source in
    let e = c.in_err-counts.field-0.0 in
    let legal = sym c.is_legal.ensures ∙ c.if-not-is_legal.false in
    rw (p.1, p.2) (of_request (λ (request : Request). RefusesScan request told before now e) c.args.bounds.now c.args.chunk_size c.args.limit c.as_slice.ensures
    (refused_by_causes asked told before now e (metadata_causes asked metadata) c.in_err-counts.ensures.cause
    (asks_legally asked told metadata (cause_of e) c.in_ok-metadata.ensures.footer legal)
    (meta_cause told asked metadata e c.in_ok-metadata.ensures.footer c.in_err-counts.ensures.cause)))

pub returns-then-not-is_legal-clause-refuses : goal.returns-then-not-is_legal-clause-refuses
returns-then-not-is_legal-clause-refuses g c =
    let asked : Request = record { fields = c.as_slice.result.now; bounds = c.args.bounds.now; chunk_size = c.args.chunk_size; limit = c.args.limit } in
    let told = g.S.Source.told c.args.source.now in
    let before = g.S.Source.faults c.args.source.now in
    let now = g.S.Source.faults c.read_metadata.new.source in
    of_request (λ (request : Request). RefusesScan request told before now (error.InvalidArgumentError part.Request)) c.args.bounds.now c.args.chunk_size c.args.limit c.as_slice.ensures
    (illegal asked told c.in_ok-metadata.metadata before now _ c.in_ok-metadata.ensures.footer (sym c.is_legal.ensures ∙ c.if-not-is_legal.true))

pub scan_groups-requires-clause-counts : goal.scan_groups-requires-clause-counts
scan_groups-requires-clause-counts g c = c.deref.ensures.value ∙ c.in_ok-counts.ensures.counts

pub scan_groups-requires-clause-legal : goal.scan_groups-requires-clause-legal
scan_groups-requires-clause-legal g c = sym c.is_legal.ensures ∙ c.if-not-is_legal.false

pub returns-clause-refuses : goal.returns-clause-refuses
returns-clause-refuses g c =
    let asked : Request = record { fields = c.as_slice.result.now; bounds = c.args.bounds.now; chunk_size = c.args.chunk_size; limit = c.args.limit } in
    let metadata = c.in_ok-metadata.metadata in
    let told = g.S.Source.told c.args.source.now in
    let before = g.S.Source.faults c.args.source.now in
    let mid = g.S.Source.faults c.read_metadata.new.source in
    let now = g.S.Source.faults c.scan_groups.new.source in
    let scan = c.scan_groups.result in
    let legal = sym c.is_legal.ensures ∙ c.if-not-is_legal.false in
    let fails = subst (λ (told : Option (List ℕ)). IfErr scan (IsReadFailure told mid now (behind_metadata asked metadata))) c.in_ok-metadata.ensures.keeps.same c.scan_groups.ensures.reads.fails in
    of_request (λ (request : Request). IfErr scan (RefusesScan request told before now)) c.args.bounds.now c.args.chunk_size c.args.limit c.as_slice.ensures
    (refused_by_groups asked scan told before mid now _ c.in_ok-metadata.ensures.keeps.later fails
    (each_error scan (λ e. asks_legally asked told metadata (cause_of e) c.in_ok-metadata.ensures.footer legal))
    (has_cause asked metadata c.in_ok-counts.ensures.ok scan told mid now c.in_ok-metadata.ensures.footer fails))

pub returns-clause-answers : goal.returns-clause-answers
returns-clause-answers g c =
    let asked : Request = record { fields = c.as_slice.result.now; bounds = c.args.bounds.now; chunk_size = c.args.chunk_size; limit = c.args.limit } in
    let metadata = c.in_ok-metadata.metadata in
    let told = g.S.Source.told c.args.source.now in
    let footed = c.in_ok-metadata.ensures.footer in
    let same = c.in_ok-metadata.ensures.keeps.same in
    let legal = sym c.is_legal.ensures ∙ c.if-not-is_legal.false in
    let scan = c.scan_groups.result in
    let valid = is_valid asked metadata c.in_ok-counts.ensures.ok scan told footed (subst (λ (told : Option (List ℕ)). OnOk scan (IfSome told (λ bytes. behind_metadata asked metadata bytes ≡ []))) same c.scan_groups.ensures.reads.ok) in
    let kept = on_file (λ (scan : Scan) file. map kept_of scan.kept ≡ kept_groups asked file) scan told metadata footed
    (subst (λ (told : Option (List ℕ)). IfOk scan (λ (scan : Scan). IfSome told (λ bytes. map kept_of scan.kept ≡ kept_groups asked (file_with bytes metadata)))) same c.scan_groups.ensures.kept) in
    let chunks = on_file (λ (scan : Scan) file. given_chunks asked file ≡ Some (map columns_of_chunk scan.chunks)) scan told metadata footed
    (subst (λ (told : Option (List ℕ)). IfOk scan (λ (scan : Scan). IfSome told (λ bytes. given_chunks asked (file_with bytes metadata) ≡ Some (map columns_of_chunk scan.chunks)))) same c.scan_groups.ensures.chunks) in
    let rows = are_counted asked metadata scan told (λ (scan : Scan). scan.rows) footed
    (subst (λ (told : Option (List ℕ)). IfOk scan (λ (scan : Scan). IfSome told (λ bytes. scan.rows ≡ min (given_row_count asked (file_with bytes metadata)) (2 ^ 64 - 1)))) same c.scan_groups.ensures.rows) in
    of_request (λ (request : Request). IfOk scan (Answers request told)) c.args.bounds.now c.args.chunk_size c.args.limit c.as_slice.ensures
    (answers asked told scan (legal_alone asked metadata legal) (legal_told asked told metadata footed legal) valid kept chunks rows
    (scan_sound asked metadata scan told (λ (scan : Scan). map kept_of scan.kept) footed legal valid kept)
    c.scan_groups.ensures.shapes c.scan_groups.ensures.apart c.scan_groups.ensures.even c.scan_groups.ensures.own_rows)

pub returns-clause-costs : goal.returns-clause-costs
returns-clause-costs g c =
    let asked : Request = record { fields = c.as_slice.result.now; bounds = c.args.bounds.now; chunk_size = c.args.chunk_size; limit = c.args.limit } in
    let metadata = c.in_ok-metadata.metadata in
    let told = g.S.Source.told c.args.source.now in
    let footed = c.in_ok-metadata.ensures.footer in
    let same = c.in_ok-metadata.ensures.keeps.same in
    let start = c.args.steps.now in
    let now = c.scan_groups.new.steps in
    let before = g.S.Source.taken c.args.source.now in
    let mid = g.S.Source.taken c.read_metadata.new.source in
    let behind = g.S.Source.taken c.scan_groups.new.source in
    let scan = c.scan_groups.result in
    let lent : OnOk scan (RisesJustBy told start now (λ bytes. pages_lent asked (file_with bytes metadata))) =
    subst (λ (told : Option (List ℕ)). OnOk scan (RisesJustBy told start now (λ bytes. pages_lent asked (file_with bytes metadata)))) same c.scan_groups.ensures.lent in
    let taken = subst (λ (told : Option (List ℕ)). OnOk scan (RisesBy told mid behind (λ bytes. bytes_behind_footer asked (file_with bytes metadata)))) same c.scan_groups.ensures.taken in
    of_request (λ (request : Request). IfOk scan (λ _. ScanCosts request told start now before behind)) c.args.bounds.now c.args.chunk_size c.args.limit c.as_slice.ensures
    (costs asked told start now before behind scan
    (on_file (λ (scan : Scan) file. now ≡ start + pages_lent asked file) scan told metadata footed (on_answer _ scan lent))
    (on_file (λ (scan : Scan) file. now ≤ start + most_pages asked file) scan told metadata footed (at_most asked metadata scan told start now lent))
    (on_file (λ (scan : Scan) file. behind ≤ before + most_bytes_taken asked file) scan told metadata footed (all_taken asked metadata scan told before mid behind c.in_ok-metadata.ensures.taken taken)))
