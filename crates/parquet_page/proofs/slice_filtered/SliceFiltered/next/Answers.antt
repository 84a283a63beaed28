use Rattle.std.proofs.Common.{arith}
use Rattle.parquet_page.proofs.SliceLemmas.{stands-at, ends-in-time, has-enough, ends-interval, stays-in-interval}
use Rattle.parquet_page.proofs.slice_filtered.SliceFiltered.next.Goals as goal

pub overflow_add-end : goal.overflow_add-end
overflow_add-end c =
    let run = c.in_ok-interval.field-0.now in
    let at = stands-at c.args.self.now c.args.rows.now run c.in_ok-interval.ensures.lookup.3.0 c.in_ok-interval.ensures.lookup.1 c.requires.walk in
    omega (arith, ends-in-time c.args.self.now c.args.rows.now run at)

pub overflow_add-self : goal.overflow_add-self
overflow_add-self c =
    let run = c.in_ok-interval.field-0.now in
    let at = stands-at c.args.self.now c.args.rows.now run c.in_ok-interval.ensures.lookup.3.0 c.in_ok-interval.ensures.lookup.1 c.requires.walk in
    omega (arith, ends-in-time c.args.self.now c.args.rows.now run at, c.max-first.ensures, c.min-taken.ensures, at.stands.0)

pub overflow_sub-self : goal.overflow_sub-self
overflow_sub-self c =
    let run = c.in_ok-interval.field-0.now in
    let at = stands-at c.args.self.now c.args.rows.now run c.in_ok-interval.ensures.lookup.3.0 c.in_ok-interval.ensures.lookup.1 c.requires.walk in
    has-enough c.args.self.now c.args.rows.now run c.args.limit c.max-first.result c.min-taken.result at c.max-first.ensures c.min-taken.ensures

pub returns-then-self-end-clause-run : goal.returns-then-self-end-clause-run
returns-then-self-end-clause-run c =
    let run = c.in_ok-interval.field-0.now in
    let at = stands-at c.args.self.now c.args.rows.now run c.in_ok-interval.ensures.lookup.3.0 c.in_ok-interval.ensures.lookup.1 c.requires.walk in
    let turn = ends-interval c.args.self.now c.args.rows.now run c.args.limit c.max-first.result c.min-taken.result at c.requires.limit c.max-first.ensures c.min-taken.ensures c.if-self-end.true in
    (turn.rows, turn.there, turn.some, turn.many)

pub returns-then-self-end-clause-walk : goal.returns-then-self-end-clause-walk
returns-then-self-end-clause-walk c =
    let run = c.in_ok-interval.field-0.now in
    let at = stands-at c.args.self.now c.args.rows.now run c.in_ok-interval.ensures.lookup.3.0 c.in_ok-interval.ensures.lookup.1 c.requires.walk in
    let turn = ends-interval c.args.self.now c.args.rows.now run c.args.limit c.max-first.result c.min-taken.result at c.requires.limit c.max-first.ensures c.min-taken.ensures c.if-self-end.true in
    record { stands = turn.stands; counted = turn.counted }

pub returns-else-self-end-clause-run : goal.returns-else-self-end-clause-run
returns-else-self-end-clause-run c =
    let run = c.in_ok-interval.field-0.now in
    let at = stands-at c.args.self.now c.args.rows.now run c.in_ok-interval.ensures.lookup.3.0 c.in_ok-interval.ensures.lookup.1 c.requires.walk in
    let turn = stays-in-interval c.args.self.now c.args.rows.now run c.args.limit c.max-first.result c.min-taken.result at c.requires.limit c.max-first.ensures c.min-taken.ensures c.if-self-end.false in
    (turn.rows, turn.there, turn.some, turn.many)

pub returns-else-self-end-clause-walk : goal.returns-else-self-end-clause-walk
returns-else-self-end-clause-walk c =
    let run = c.in_ok-interval.field-0.now in
    let at = stands-at c.args.self.now c.args.rows.now run c.in_ok-interval.ensures.lookup.3.0 c.in_ok-interval.ensures.lookup.1 c.requires.walk in
    let turn = stays-in-interval c.args.self.now c.args.rows.now run c.args.limit c.max-first.result c.min-taken.result at c.requires.limit c.max-first.ensures c.min-taken.ensures c.if-self-end.false in
    record { stands = turn.stands; counted = turn.counted }
