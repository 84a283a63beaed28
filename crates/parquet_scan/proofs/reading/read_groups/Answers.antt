use Rattle.std.proofs.Common.{rules, ◌≡◌, ◌≤◌, ◌<◌, ◌∙◌, ◌++◌, [], length, drop, map, append-nil, arith, sym, subst, List, ℕ, Option, ap, get_or}
use Rattle.std.specs.Prelude.{IfSome, flat_map}
use Rattle.std.proofs.lemmas.List.{drop_all, get_or_default}
use Rattle.std.proofs.lemmas.Result.{err_from_is_err_and}
use Rattle.parquet_base.specs.Intervals.{row_count, rows_of}
use Rattle.parquet_base.specs.declared.interval.Interval.{Interval}
use Rattle.parquet_meta.specs.declared.metadata.PageLocation.{PageLocation}
use Rattle.parquet_scan.specs.Counting.{AreFirst, AreLocatedIf, causes_if_read, chunks_if_read, lies_in_group, lent_if_read, rows_of_groups, shown, taken_if_read}
use Rattle.parquet_scan.specs.Scan.{RisesBy, RisesJustBy, shape_of, shapes_of_rows}
use Rattle.parquet_scan.proofs.CallLemmas.{refuses}
use Rattle.parquet_scan.proofs.CostLemmas.{rises_pairs, sum_left}
use Rattle.parquet_scan.proofs.ExactCounts.{just_pair, just_pairs, most_pair}
use Rattle.parquet_scan.proofs.PairLemmas.{flat_pair, none_pair, pair_passes}
use Rattle.parquet_scan.proofs.ScanLemmas.{given_more, in_pair}
use Rattle.parquet_scan.proofs.reading.read_groups.Goals as goal

pub loop-i-preserved : goal.loop-i-preserved
loop-i-preserved g c =
    let told = g.S.Source.told c.args.source.now in
    let by_pages = c.args.asked.by_pages in
    let size = c.args.asked.chunk_size in
    let fields = c.args.asked.fields.now in
    let groups = c.args.groups.now in
    let given = c.args.given.now in
    let i = c.loop-i.i in
    let group = c.index-groups-i.result in
    let runs = c.as_slice-runs.result.now in
    let below : i < length given = omega (arith, c.loop-i-test.true, c.requires.lengths) in
    let beside = subst (λ (runs : List Interval). runs ≡ get_or given i runs) (sym c.as_slice-runs.ensures) c.index-given-i.is in
    let same = c.loop-i.invariant.keeps.same in
    let none = subst (λ (told : Option (List ℕ)). IfSome told (λ bytes. causes_if_read by_pages size fields bytes (group, runs) ≡ [])) same c.in_ok-read_if_given.ensures.reads.ok in
    let chunks = subst (λ (told : Option (List ℕ)). IfSome told (λ bytes. shown c.read_if_given.new.read.chunks.items ≡ shown c.loop-i.read.chunks.items ++ chunks_if_read by_pages size fields bytes (group, runs))) same c.in_ok-read_if_given.ensures.chunks in
    let lent = subst (λ (told : Option (List ℕ)). RisesJustBy told c.loop-i.steps c.read_if_given.new.steps (λ bytes. lent_if_read by_pages fields bytes (group, runs))) same c.in_ok-read_if_given.ensures.lent in
    let taken = subst (λ (told : Option (List ℕ)). RisesBy told (g.S.Source.taken c.loop-i.source) (g.S.Source.taken c.read_if_given.new.source) (λ bytes. taken_if_read by_pages fields bytes (group, runs))) same c.in_ok-read_if_given.ensures.taken in
    record {
      keeps = search rules;
      quiet = c.in_ok-read_if_given.ensures.reads.quiet ∙ c.loop-i.invariant.quiet;
      none = none_pair told (causes_if_read by_pages size fields) groups given i group runs runs c.loop-i-test.true below c.index-groups-i.is beside c.loop-i.invariant.none none;
      chunks = flat_pair told (chunks_if_read by_pages size fields) groups given i group runs (shown c.args.read.now.chunks.items) (shown c.loop-i.read.chunks.items) (shown c.read_if_given.new.read.chunks.items)
          c.loop-i-test.true below c.index-groups-i.is beside c.loop-i.invariant.chunks chunks;
      shapes = given_more (λ (runs : List Interval). shapes_of_rows fields size (rows_of runs)) given i runs (map shape_of c.args.read.now.chunks.items) (map shape_of c.loop-i.read.chunks.items)
          (map shape_of c.read_if_given.new.read.chunks.items) below beside c.loop-i.invariant.shapes c.in_ok-read_if_given.ensures.shapes;
      lent = just_pair told (lent_if_read by_pages fields) groups given i group runs c.args.steps.now c.loop-i.steps c.read_if_given.new.steps c.loop-i-test.true below c.index-groups-i.is beside c.loop-i.invariant.lent lent;
      taken = most_pair told (taken_if_read by_pages fields) groups given i group runs (g.S.Source.taken c.args.source.now) (g.S.Source.taken c.loop-i.source) (g.S.Source.taken c.read_if_given.new.source)
          c.loop-i-test.true below c.index-groups-i.is beside c.loop-i.invariant.taken taken;
      rows = omega (arith, c.loop-i.invariant.rows, c.loop-i.invariant.fits, c.in_ok-read_if_given.ensures.rows, sum_left row_count given i runs below beside);
      own_rows = search rules;
      even = λ all. c.in_ok-read_if_given.ensures.even (c.loop-i.invariant.even all);
      fits = search rules;
      ticks = search rules;
      pages = search rules;
    }

pub read_if_given-requires-clause-shaped : goal.read_if_given-requires-clause-shaped
read_if_given-requires-clause-shaped g c =
    let groups = c.args.groups.now in
    let given = c.args.given.now in
    let i = c.loop-i.i in
    let runs = c.as_slice-runs.result.now in
    let below : i < length given = omega (arith, c.loop-i-test.true, c.requires.lengths) in
    let beside = subst (λ (runs : List Interval). runs ≡ get_or given i runs) (sym c.as_slice-runs.ensures) c.index-given-i.is in
    (λ j. lies_in_group (c.index-groups-i.is j, beside j)) ∙ pair_passes lies_in_group groups given i c.index-groups-i.result runs c.requires.shaped c.loop-i-test.true below

pub read_if_given-requires-clause-first : goal.read_if_given-requires-clause-first
read_if_given-requires-clause-first g c =
    let given = c.args.given.now in
    let i = c.loop-i.i in
    let runs = c.as_slice-runs.result.now in
    let below : i < length given = omega (arith, c.loop-i-test.true, c.requires.lengths) in
    let beside = subst (λ (runs : List Interval). runs ≡ get_or given i runs) (sym c.as_slice-runs.ensures) c.index-given-i.is in
    subst (AreFirst c.args.asked.by_pages) (sym beside) (c.requires.first i runs below)

pub read_if_given-requires-clause-located : goal.read_if_given-requires-clause-located
read_if_given-requires-clause-located g c =
    let by_pages = c.args.asked.by_pages in
    let fields = c.args.asked.fields.now in
    let groups = c.args.groups.now in
    let given = c.args.given.now in
    let located = c.args.located.now in
    let i = c.loop-i.i in
    let group = c.index-groups-i.result in
    let runs = c.as_slice-runs.result.now in
    let lists = c.as_slice.result.now in
    let below : i < length given = omega (arith, c.loop-i-test.true, c.requires.lengths) in
    let within : i < length located = omega (arith, c.loop-i-test.true, c.requires.each) in
    let beside = subst (λ (runs : List Interval). runs ≡ get_or given i runs) (sym c.as_slice-runs.ensures) c.index-given-i.is ∙ get_or_default given i runs [] below in
    let there = subst (λ (lists : List (List PageLocation)). lists ≡ get_or located i lists) (sym c.as_slice.ensures) c.index-located-i.is ∙ get_or_default located i lists [] within in
    subst (λ (told : Option (List ℕ)). AreLocatedIf by_pages told fields group runs lists) (sym c.loop-i.invariant.keeps.same)
    (subst (λ runs. AreLocatedIf by_pages (g.S.Source.told c.args.source.now) fields group runs lists) (sym beside)
    (subst (AreLocatedIf by_pages (g.S.Source.told c.args.source.now) fields group (get_or given i [])) (sym there) (c.requires.located i group c.loop-i-test.true c.index-groups-i.is)))

pub returns-in_err-read_if_given-clause-reads : goal.returns-in_err-read_if_given-clause-reads
returns-in_err-read_if_given-clause-reads g c =
    let p = err_from_is_err_and c.from_residual.result c.from_residual.ensures.1 in
    let given = c.args.given.now in
    let i = c.loop-i.i in
    let runs = c.as_slice-runs.result.now in
    let below : i < length given = omega (arith, c.loop-i-test.true, c.requires.lengths) in
    let beside = subst (λ (runs : List Interval). runs ≡ get_or given i runs) (sym c.as_slice-runs.ensures) c.index-given-i.is in
    rw (p.1, p.2) (refuses c.loop-i.invariant.keeps c.in_err-read_if_given.ensures.reads
    (in_pair (g.S.Source.told c.args.source.now) (causes_if_read c.args.asked.by_pages c.args.asked.chunk_size c.args.asked.fields.now) c.args.groups.now given i c.index-groups-i.result runs runs c.loop-i-test.true below c.index-groups-i.is beside))

none_left : (given : List (List Interval)) (i : ℕ) → length given ≤ i → rows_of_groups (drop i given) ≡ 0
none_left given i h = ap rows_of_groups (drop_all i given h)

pub returns-clause-shapes : goal.returns-clause-shapes
returns-clause-shapes g c =
    let given = c.args.given.now in
    let shapes : List Interval → _ = λ runs. shapes_of_rows c.args.asked.fields.now c.args.asked.chunk_size (rows_of runs) in
    let so_far = map shape_of c.loop-i.read.chunks.items in
    sym (c.loop-i.invariant.shapes ∙ ap (λ rest. so_far ++ flat_map shapes rest) (drop_all c.loop-i.i given (omega (arith, c.requires.lengths))) ∙ append-nil so_far)

pub returns-clause-rows : goal.returns-clause-rows
returns-clause-rows g c = omega (arith, c.loop-i.invariant.rows, c.loop-i.invariant.fits, none_left c.args.given.now c.loop-i.i (omega (arith, c.requires.lengths)))

pub returns-clause-lent : goal.returns-clause-lent
returns-clause-lent g c =
    just_pairs (g.S.Source.told c.args.source.now) (lent_if_read c.args.asked.by_pages c.args.asked.fields.now) c.args.groups.now c.args.given.now c.loop-i.i c.args.steps.now c.loop-i.steps (omega arith) c.loop-i.invariant.lent

pub returns-clause-taken : goal.returns-clause-taken
returns-clause-taken g c =
    rises_pairs (g.S.Source.told c.args.source.now) (taken_if_read c.args.asked.by_pages c.args.asked.fields.now) c.args.groups.now c.args.given.now c.loop-i.i (g.S.Source.taken c.args.source.now) (g.S.Source.taken c.loop-i.source) (omega arith) c.loop-i.invariant.taken
