use Rattle.std.proofs.Common.{◌≡◌, ◌≤◌, ◌<◌, ◌∙◌, ◌+◌, ◌-◌, ◌^◌, ◌++◌, All, Bool, [], List, ℕ, length, map, min, ap, arith, subst, sym}
use Rattle.std.specs.Prelude.{Err, Option, Some, IfSome, flat_map, zip}
use Rattle.std.specs.List.{list_all}
use Rattle.std.proofs.lemmas.List.{length-map}
use Rattle.std.proofs.lemmas.List.Folds.{flat_map-map}
use Rattle.std.proofs.lemmas.Result.{err_from_is_err_and}
use Rattle.columns_core.specs.declared.array.Array.{Array}
use Rattle.page_decoding.specs.Queue.{IsChunkSize}
use Rattle.parquet_base.specs.Intervals.{is_well_shaped, rows_of}
use Rattle.parquet_base.specs.declared.interval.Interval.{Interval}
use Rattle.parquet_meta.specs.Reads.{ReadsFile}
use Rattle.parquet_meta.specs.declared.metadata.RowGroupMetaData.{RowGroupMetaData}
use Rattle.parquet_scan.specs.Counting.{AreAllLocated, AreFirst, are_pruned, lie_in_groups, causes_of_groups, chunks_of_groups, index_causes_of_groups, indexes_taken_of_groups, lent_of_groups, rows_of_groups, shown, taken_of_groups}
use Rattle.parquet_scan.specs.Cells.{columns_of_chunk, given_chunks}
use Rattle.parquet_scan.specs.Request.{Request}
use Rattle.parquet_scan.specs.Rows.{file_with, given_of_kept, group_counts}
use Rattle.parquet_scan.specs.Scan.{RisesBy, RisesJustBy, chunk_shapes, kept_groups, kept_of, shape_of, shapes_of_rows}
use Rattle.parquet_scan.specs.declared.scanning.GroupKept.{GroupKept}
use Rattle.parquet_scan.proofs.CallLemmas.{answered, keeps_on, refuses, refuses_first}
use Rattle.parquet_scan.proofs.ClippedLemmas.{given_first}
use Rattle.parquet_scan.proofs.FileCosts.{lent_told, taken_told}
use Rattle.parquet_scan.proofs.FileLemmas.{chunks_told, given_of, index_wrong, kept_told, legal_size, none_wrong, pruned, pruned_is, read_wrong, rows_told, some_field}
use Rattle.parquet_scan.proofs.KeptLemmas.{groups_shaped}
use Rattle.parquet_scan.proofs.LocatedGroups.{given_located}
use Rattle.parquet_scan.proofs.Sound.{legal_bounds}
use Rattle.parquet_scan.proofs.scanning.scan_groups.Goals as goal

-- what holds of the groups and what counts of them as they were passed on holds of what they are
kept_as : (R : Bool → List RowGroupMetaData → List Bool → Type 0) {b b' : Bool} {groups groups' : List RowGroupMetaData} {counts counts' : List Bool} → b ≡ b' → groups ≡ groups' → counts ≡ counts' → R b groups counts → R b' groups' counts'
kept_as R {b' = b'} {groups} {groups'} {counts} p g n holds = subst (R b' groups') n (subst (λ groups. R b' groups counts) g (subst (λ b. R b groups counts) p holds))

-- and of what was asked of them
read_as : (R : Option (List ℕ) → Bool → Request → List RowGroupMetaData → List (List Interval) → Type 0)
    {told told' : Option (List ℕ)} {b b' : Bool} {asked asked' : Request} {groups groups' : List RowGroupMetaData} {given given' : List (List Interval)}
    → told ≡ told' → b ≡ b' → asked ≡ asked' → groups ≡ groups' → given ≡ given' → R told b asked groups given → R told' b' asked' groups' given'
read_as R {told} {told'} {b} {b'} {asked} {asked'} {groups} {groups'} {given} {given'} t p a g r holds =
    subst (R told' b' asked' groups') r (subst (λ groups. R told' b' asked' groups given) g (subst (λ asked. R told' b' asked groups given) a (subst (λ b. R told' b asked groups given) p (subst (λ told. R told b asked groups given) t holds))))

pub kept_groups-requires-clause-lengths : goal.kept_groups-requires-clause-lengths
kept_groups-requires-clause-lengths g c =
    ap length c.requires.counts ∙ length-map c.args.metadata.now.row_groups (group_counts c.args.request.now) ∙ sym (ap length c.as_slice-groups.ensures)

pub kept_groups-requires-clause-legal : goal.kept_groups-requires-clause-legal
kept_groups-requires-clause-legal g c = legal_bounds c.args.request.now (Some c.args.metadata.now) c.requires.legal

pub read_groups-requires-clause-lengths : goal.read_groups-requires-clause-lengths
read_groups-requires-clause-lengths g c =
    let kept = c.in_ok-kept.kept.items in
    ap length c.deref-2.ensures.value ∙ c.in_ok-given.ensures.count ∙ ap length c.deref.ensures.value
    ∙ sym (length-map kept (λ (group : GroupKept). group.rows)) ∙ ap length c.in_ok-kept.ensures.rows ∙ length-map c.as_slice-groups.result.now (λ (group : RowGroupMetaData). group.num_rows)

pub read_groups-requires-clause-shaped : goal.read_groups-requires-clause-shaped
read_groups-requires-clause-shaped g c =
    let groups = c.as_slice-groups.result.now in
    let given = c.in_ok-given.given.items in
    ap (lie_in_groups groups) c.deref-2.ensures.value
    ∙ groups_shaped groups c.in_ok-kept.kept.items given c.in_ok-kept.ensures.rows
    (ap (λ kept. list_all (λ (group : GroupKept × List Interval). is_well_shaped group.1 (group.0).rows) (zip kept given)) (sym c.deref.ensures.value) ∙ c.in_ok-given.ensures.shaped)

pub read_groups-requires-clause-each : goal.read_groups-requires-clause-each
read_groups-requires-clause-each g c = ap length c.deref-3.ensures.value ∙ c.in_ok-kept.ensures.each

pub read_groups-requires-clause-located : goal.read_groups-requires-clause-located
read_groups-requires-clause-located g c =
    let told = g.S.Source.told c.args.source.now in
    let request = c.args.request.now in
    let groups = c.as_slice-groups.result.now in
    let by_pages = c.are_pruned-by_pages.result in
    let limit = c.request.inside.limit in
    let kept = c.in_ok-kept.kept.items in
    let given = c.in_ok-given.given.items in
    let located = c.in_ok-kept.located.items in
    let all = given_located by_pages told request.fields groups limit kept given located (c.in_ok-given.ensures.rows ∙ ap (given_of_kept limit) c.deref.ensures.value)
    (ap (λ kept. list_all (λ (group : GroupKept × List Interval). is_well_shaped group.1 (group.0).rows) (zip kept given)) (sym c.deref.ensures.value) ∙ c.in_ok-given.ensures.shaped) c.in_ok-kept.ensures.located in
    subst (λ (told : Option (List ℕ)). AreAllLocated by_pages told c.request.inside.fields.now groups c.deref-2.result.now c.deref-3.result.now) (sym c.in_ok-kept.ensures.reads.keeps.same)
    (subst (λ (asked : Request). AreAllLocated by_pages told asked.fields groups c.deref-2.result.now c.deref-3.result.now) (sym c.request.view_is)
    (subst (λ given. AreAllLocated by_pages told request.fields groups given c.deref-3.result.now) (sym c.deref-2.ensures.value)
    (subst (AreAllLocated by_pages told request.fields groups given) (sym c.deref-3.ensures.value) all)))

pub read_groups-requires-clause-first : goal.read_groups-requires-clause-first
read_groups-requires-clause-first g c =
    let by_pages = c.are_pruned-by_pages.result in
    let limit = c.request.inside.limit in
    subst (All (AreFirst by_pages)) (sym c.deref-2.ensures.value)
    (given_first by_pages limit c.in_ok-kept.kept.items c.in_ok-given.given.items (c.in_ok-given.ensures.rows ∙ ap (given_of_kept limit) c.deref.ensures.value) c.in_ok-kept.ensures.first)

pub read_groups-requires-clause-size : goal.read_groups-requires-clause-size
read_groups-requires-clause-size g c = subst (λ (asked : Request). IsChunkSize asked.chunk_size) (sym c.request.view_is) (legal_size c.args.request.now c.args.metadata.now c.requires.legal)

pub read_groups-requires-clause-some : goal.read_groups-requires-clause-some
read_groups-requires-clause-some g c = subst (λ (asked : Request). 0 < length asked.fields) (sym c.request.view_is) (some_field c.args.request.now c.args.metadata.now c.requires.legal)

pub returns-in_err-kept-clause-reads : goal.returns-in_err-kept-clause-reads
returns-in_err-kept-clause-reads g c =
    let p = err_from_is_err_and c.from_residual.result c.from_residual.ensures.1 in
    let request = c.args.request.now in
    let metadata = c.args.metadata.now in
    let told = g.S.Source.told c.args.source.now in
    let groups = c.as_slice-groups.result.now in
    let counts = c.args.counts.now in
    let is = pruned_is request metadata c.are_pruned-by_pages.result groups counts (c.are_pruned-by_pages.ensures ∙ ap (λ (asked : Request). are_pruned asked.bounds asked.fields groups counts) c.request.view_is) c.as_slice-groups.ensures c.requires.counts in
    let reads = kept_as (λ b groups counts. ReadsFile g.S.Source c.args.source.now c.kept_groups.new.source (λ bytes. index_causes_of_groups b request.fields request.bounds bytes groups counts) (Err c.in_err-kept.field-0.0)) is c.as_slice-groups.ensures c.requires.counts c.in_err-kept.ensures.reads in
    rw (p.1, p.2) (refuses_first reads (index_wrong request metadata told))

pub returns-in_err-read_groups-clause-reads : goal.returns-in_err-read_groups-clause-reads
returns-in_err-read_groups-clause-reads g c =
    let p = err_from_is_err_and c.from_residual-in_err-read_groups.result c.from_residual-in_err-read_groups.ensures.1 in
    let request = c.args.request.now in
    let metadata = c.args.metadata.now in
    let told = g.S.Source.told c.args.source.now in
    let groups = c.as_slice-groups.result.now in
    let counts = c.args.counts.now in
    let is = pruned_is request metadata c.are_pruned-by_pages.result groups counts (c.are_pruned-by_pages.ensures ∙ ap (λ (asked : Request). are_pruned asked.bounds asked.fields groups counts) c.request.view_is) c.as_slice-groups.ensures c.requires.counts in
    let kept = c.in_ok-kept.kept.items in
    let given = c.in_ok-given.given.items in
    let are = given_of request metadata told c.are_pruned-by_pages.result groups counts kept c.deref.result.now given is c.as_slice-groups.ensures c.requires.counts c.deref.ensures.value c.in_ok-kept.ensures.kept c.in_ok-kept.ensures.rows
    (c.in_ok-given.ensures.rows ∙ ap (λ (asked : Request). given_of_kept asked.limit c.deref.result.now) c.request.view_is) c.in_ok-given.ensures.shaped in
    let none = kept_as (λ b groups counts. IfSome told (λ bytes. index_causes_of_groups b request.fields request.bounds bytes groups counts ≡ [])) is c.as_slice-groups.ensures c.requires.counts c.in_ok-kept.ensures.reads.ok in
    let reads = read_as (λ told b asked groups given. ReadsFile {T = Unit {0}} g.S.Source c.kept_groups.new.source c.read_groups.new.source (λ bytes. causes_of_groups b asked.chunk_size asked.fields bytes groups given) (Err c.in_err-read_groups.field-0.0)) c.in_ok-kept.ensures.reads.keeps.same is c.request.view_is c.as_slice-groups.ensures c.deref-2.ensures.value c.in_err-read_groups.ensures.reads in
    rw (p.1, p.2) (refuses c.in_ok-kept.ensures.reads.keeps reads (read_wrong request metadata kept given told are none))

pub returns-clause-reads : goal.returns-clause-reads
returns-clause-reads g c =
    let request = c.args.request.now in
    let metadata = c.args.metadata.now in
    let told = g.S.Source.told c.args.source.now in
    let groups = c.as_slice-groups.result.now in
    let counts = c.args.counts.now in
    let is = pruned_is request metadata c.are_pruned-by_pages.result groups counts (c.are_pruned-by_pages.ensures ∙ ap (λ (asked : Request). are_pruned asked.bounds asked.fields groups counts) c.request.view_is) c.as_slice-groups.ensures c.requires.counts in
    let kept = c.in_ok-kept.kept.items in
    let given = c.in_ok-given.given.items in
    let are = given_of request metadata told c.are_pruned-by_pages.result groups counts kept c.deref.result.now given is c.as_slice-groups.ensures c.requires.counts c.deref.ensures.value c.in_ok-kept.ensures.kept c.in_ok-kept.ensures.rows
    (c.in_ok-given.ensures.rows ∙ ap (λ (asked : Request). given_of_kept asked.limit c.deref.result.now) c.request.view_is) c.in_ok-given.ensures.shaped in
    let none = kept_as (λ b groups counts. IfSome told (λ bytes. index_causes_of_groups b request.fields request.bounds bytes groups counts ≡ [])) is c.as_slice-groups.ensures c.requires.counts c.in_ok-kept.ensures.reads.ok in
    let nothing = read_as (λ told b asked groups given. IfSome told (λ bytes. causes_of_groups b asked.chunk_size asked.fields bytes groups given ≡ [])) c.in_ok-kept.ensures.reads.keeps.same is c.request.view_is c.as_slice-groups.ensures c.deref-2.ensures.value c.in_ok-read_groups.ensures.reads.ok in
    answered (keeps_on c.in_ok-kept.ensures.reads.keeps c.in_ok-read_groups.ensures.reads.keeps) (c.in_ok-read_groups.ensures.reads.quiet ∙ c.in_ok-kept.ensures.reads.quiet) (none_wrong request metadata kept given told are none nothing)

pub returns-clause-kept : goal.returns-clause-kept
returns-clause-kept g c =
    let request = c.args.request.now in
    let metadata = c.args.metadata.now in
    let told = g.S.Source.told c.args.source.now in
    let groups = c.as_slice-groups.result.now in
    let counts = c.args.counts.now in
    let is = pruned_is request metadata c.are_pruned-by_pages.result groups counts (c.are_pruned-by_pages.ensures ∙ ap (λ (asked : Request). are_pruned asked.bounds asked.fields groups counts) c.request.view_is) c.as_slice-groups.ensures c.requires.counts in
    let kept = c.in_ok-kept.kept.items in
    let given = c.in_ok-given.given.items in
    let are = given_of request metadata told c.are_pruned-by_pages.result groups counts kept c.deref.result.now given is c.as_slice-groups.ensures c.requires.counts c.deref.ensures.value c.in_ok-kept.ensures.kept c.in_ok-kept.ensures.rows
    (c.in_ok-given.ensures.rows ∙ ap (λ (asked : Request). given_of_kept asked.limit c.deref.result.now) c.request.view_is) c.in_ok-given.ensures.shaped in
    subst (λ (kept : List GroupKept). IfSome told (λ bytes. map kept_of kept ≡ kept_groups request (file_with bytes metadata))) (sym c.new-2.ensures) (kept_told request metadata kept given told are)

pub returns-clause-chunks : goal.returns-clause-chunks
returns-clause-chunks g c =
    let request = c.args.request.now in
    let metadata = c.args.metadata.now in
    let told = g.S.Source.told c.args.source.now in
    let groups = c.as_slice-groups.result.now in
    let counts = c.args.counts.now in
    let is = pruned_is request metadata c.are_pruned-by_pages.result groups counts (c.are_pruned-by_pages.ensures ∙ ap (λ (asked : Request). are_pruned asked.bounds asked.fields groups counts) c.request.view_is) c.as_slice-groups.ensures c.requires.counts in
    let kept = c.in_ok-kept.kept.items in
    let given = c.in_ok-given.given.items in
    let are = given_of request metadata told c.are_pruned-by_pages.result groups counts kept c.deref.result.now given is c.as_slice-groups.ensures c.requires.counts c.deref.ensures.value c.in_ok-kept.ensures.kept c.in_ok-kept.ensures.rows
    (c.in_ok-given.ensures.rows ∙ ap (λ (asked : Request). given_of_kept asked.limit c.deref.result.now) c.request.view_is) c.in_ok-given.ensures.shaped in
    let found = c.read_groups.new.read.chunks.items in
    let chunks = read_as (λ told b asked groups given. IfSome told (λ bytes. shown found ≡ shown c.new.result.items ++ chunks_of_groups b asked.chunk_size asked.fields bytes groups given)) c.in_ok-kept.ensures.reads.keeps.same is c.request.view_is c.as_slice-groups.ensures c.deref-2.ensures.value c.in_ok-read_groups.ensures.chunks in
    let alone = subst (λ (before : List (List Array)). IfSome told (λ bytes. shown found ≡ shown before ++ chunks_of_groups (pruned request metadata) request.chunk_size request.fields bytes metadata.row_groups given)) c.new.ensures.items chunks in
    subst (λ (chunks : List (List Array)). IfSome told (λ bytes. given_chunks request (file_with bytes metadata) ≡ Some (map columns_of_chunk chunks))) (sym c.new-3.ensures) (chunks_told request metadata kept given told found are alone)

pub returns-clause-shapes : goal.returns-clause-shapes
returns-clause-shapes g c =
    let request = c.args.request.now in
    let kept = c.in_ok-kept.kept.items in
    let given = c.in_ok-given.given.items in
    let found = c.read_groups.new.read.chunks.items in
    let each = shapes_of_rows request.fields request.chunk_size in
    let rows : map rows_of given ≡ given_of_kept request.limit kept
    = c.in_ok-given.ensures.rows ∙ ap (λ (asked : Request). given_of_kept asked.limit c.deref.result.now) c.request.view_is ∙ ap (given_of_kept request.limit) c.deref.ensures.value in
    let inside = c.request.inside in
    let of_given = subst (λ (given : List (List Interval)). map shape_of found ≡ map shape_of c.new.result.items ++ flat_map (λ (runs : List Interval). shapes_of_rows inside.fields.now inside.chunk_size (rows_of runs)) given) c.deref-2.ensures.value c.in_ok-read_groups.ensures.shapes in
    let of_request = subst (λ (asked : Request). map shape_of found ≡ map shape_of c.new.result.items ++ flat_map (λ (runs : List Interval). shapes_of_rows asked.fields asked.chunk_size (rows_of runs)) given) c.request.view_is of_given in
    let alone = subst (λ (before : List (List Array)). map shape_of found ≡ map shape_of before ++ flat_map (λ (runs : List Interval). each (rows_of runs)) given) c.new.ensures.items of_request in
    ap (map shape_of) c.new-3.ensures ∙ alone ∙ sym (flat_map-map each rows_of given) ∙ ap (flat_map each) rows ∙ ap (chunk_shapes request) (sym c.new-2.ensures)

pub returns-clause-rows : goal.returns-clause-rows
returns-clause-rows g c =
    let request = c.args.request.now in
    let metadata = c.args.metadata.now in
    let told = g.S.Source.told c.args.source.now in
    let groups = c.as_slice-groups.result.now in
    let counts = c.args.counts.now in
    let is = pruned_is request metadata c.are_pruned-by_pages.result groups counts (c.are_pruned-by_pages.ensures ∙ ap (λ (asked : Request). are_pruned asked.bounds asked.fields groups counts) c.request.view_is) c.as_slice-groups.ensures c.requires.counts in
    let kept = c.in_ok-kept.kept.items in
    let given = c.in_ok-given.given.items in
    let are = given_of request metadata told c.are_pruned-by_pages.result groups counts kept c.deref.result.now given is c.as_slice-groups.ensures c.requires.counts c.deref.ensures.value c.in_ok-kept.ensures.kept c.in_ok-kept.ensures.rows
    (c.in_ok-given.ensures.rows ∙ ap (λ (asked : Request). given_of_kept asked.limit c.deref.result.now) c.request.view_is) c.in_ok-given.ensures.shaped in
    let all : 0 + rows_of_groups given ≡ rows_of_groups given = omega arith in
    rows_told request metadata kept given told c.read_groups.new.read.rows are
    (c.in_ok-read_groups.ensures.rows ∙ ap (λ given. min (0 + rows_of_groups given) (2 ^ 64 - 1)) c.deref-2.ensures.value ∙ ap (λ n. min n (2 ^ 64 - 1)) all)

pub returns-clause-lent : goal.returns-clause-lent
returns-clause-lent g c =
    let request = c.args.request.now in
    let metadata = c.args.metadata.now in
    let told = g.S.Source.told c.args.source.now in
    let groups = c.as_slice-groups.result.now in
    let counts = c.args.counts.now in
    let is = pruned_is request metadata c.are_pruned-by_pages.result groups counts (c.are_pruned-by_pages.ensures ∙ ap (λ (asked : Request). are_pruned asked.bounds asked.fields groups counts) c.request.view_is) c.as_slice-groups.ensures c.requires.counts in
    let kept = c.in_ok-kept.kept.items in
    let given = c.in_ok-given.given.items in
    let are = given_of request metadata told c.are_pruned-by_pages.result groups counts kept c.deref.result.now given is c.as_slice-groups.ensures c.requires.counts c.deref.ensures.value c.in_ok-kept.ensures.kept c.in_ok-kept.ensures.rows
    (c.in_ok-given.ensures.rows ∙ ap (λ (asked : Request). given_of_kept asked.limit c.deref.result.now) c.request.view_is) c.in_ok-given.ensures.shaped in
    lent_told request metadata kept given told c.args.steps.now c.read_groups.new.steps are
    (read_as (λ told b asked groups given. RisesJustBy told c.args.steps.now c.read_groups.new.steps (λ bytes. lent_of_groups b asked.fields bytes groups given)) c.in_ok-kept.ensures.reads.keeps.same is c.request.view_is c.as_slice-groups.ensures c.deref-2.ensures.value c.in_ok-read_groups.ensures.lent)

pub returns-clause-taken : goal.returns-clause-taken
returns-clause-taken g c =
    let request = c.args.request.now in
    let metadata = c.args.metadata.now in
    let told = g.S.Source.told c.args.source.now in
    let groups = c.as_slice-groups.result.now in
    let counts = c.args.counts.now in
    let is = pruned_is request metadata c.are_pruned-by_pages.result groups counts (c.are_pruned-by_pages.ensures ∙ ap (λ (asked : Request). are_pruned asked.bounds asked.fields groups counts) c.request.view_is) c.as_slice-groups.ensures c.requires.counts in
    let kept = c.in_ok-kept.kept.items in
    let given = c.in_ok-given.given.items in
    let are = given_of request metadata told c.are_pruned-by_pages.result groups counts kept c.deref.result.now given is c.as_slice-groups.ensures c.requires.counts c.deref.ensures.value c.in_ok-kept.ensures.kept c.in_ok-kept.ensures.rows
    (c.in_ok-given.ensures.rows ∙ ap (λ (asked : Request). given_of_kept asked.limit c.deref.result.now) c.request.view_is) c.in_ok-given.ensures.shaped in
    let start = g.S.Source.taken c.args.source.now in
    let mid = g.S.Source.taken c.kept_groups.new.source in
    let now = g.S.Source.taken c.read_groups.new.source in
    let first = kept_as (λ b groups counts. mid ≤ start + indexes_taken_of_groups b request.fields request.bounds groups counts) is c.as_slice-groups.ensures c.requires.counts c.in_ok-kept.ensures.taken in
    taken_told request metadata kept given told start mid now are first
    (read_as (λ told b asked groups given. RisesBy told mid now (λ bytes. taken_of_groups b asked.fields bytes groups given)) c.in_ok-kept.ensures.reads.keeps.same is c.request.view_is c.as_slice-groups.ensures c.deref-2.ensures.value c.in_ok-read_groups.ensures.taken)
