use Rattle.std.proofs.Common.{rules, ◌-◌, ◌≤◌, ◌∙◌, refl, sym, ap, min, length, take, drop, arith}
use Rattle.parquet_encoding.specs.DeltaLeft.{delta_left}
use Rattle.parquet_encoding.specs.JoinedLeft.{joined_left}
use Rattle.parquet_encoding.proofs.JoinedLemmas.{is_left, strings_within, length-strings_from, left_behind, takes, end_is, no_room}
use Rattle.parquet_encoding.proofs.delta_length.DeltaLength.take.Goals as goal

pub fill-count-requires : goal.fill-count-requires
unfolding joined_left
fill-count-requires c = (is_left (delta_left c.args.self.now.lengths c.args.bytes.now) c.args.self.now.next c.args.bytes.now c.requires).there

pub overflow_sub-bytes : goal.overflow_sub-bytes
unfolding joined_left
overflow_sub-bytes c =
    strings_within c.args.self.now.next _ c.args.bytes.now _ (is_left (delta_left c.args.self.now.lengths c.args.bytes.now) c.args.self.now.next c.args.bytes.now c.requires).strings

pub unreachable-requires : goal.unreachable-requires
unfolding joined_left
unreachable-requires c =
    let s = c.args.self.now in
    let all = takes (delta_left s.lengths c.args.bytes.now) s.next c.args.bytes.now c.fill-count.result (length c.args.lengths.now) c.fill-count.new.out c.args.lengths.now c.requires c.fill-count.ensures.values c.fill-count.ensures.count in
    no_room _ _ c.in_default.ensures all.room

pub overflow_sub-end : goal.overflow_sub-end
unfolding joined_left
overflow_sub-end c =
    let s = c.args.self.now in
    let all = takes (delta_left s.lengths c.args.bytes.now) s.next c.args.bytes.now c.fill-count.result (length c.args.lengths.now) c.fill-count.new.out c.args.lengths.now c.requires c.fill-count.ensures.values c.fill-count.ensures.count in
    (end_is _ c.in-Ok.rest _ (length c.args.bytes.now) all.strings.end c.in-Ok.ensures all.room refl all.strings.within).0

pub slice_bounds-joined-count : goal.slice_bounds-joined-count
unfolding joined_left
slice_bounds-joined-count c =
    let s = c.args.self.now in
    let all = takes (delta_left s.lengths c.args.bytes.now) s.next c.args.bytes.now c.fill-count.result (length c.args.lengths.now) c.fill-count.new.out c.args.lengths.now c.requires c.fill-count.ensures.values c.fill-count.ensures.count in
    let end = end_is _ c.in-Ok.rest _ (length c.args.bytes.now) all.strings.end c.in-Ok.ensures all.room refl all.strings.within in
    omega (arith, all.strings.later, end.1)

pub slice_bounds-joined-start : goal.slice_bounds-joined-start
unfolding joined_left
slice_bounds-joined-start c =
    let s = c.args.self.now in
    let all = takes (delta_left s.lengths c.args.bytes.now) s.next c.args.bytes.now c.fill-count.result (length c.args.lengths.now) c.fill-count.new.out c.args.lengths.now c.requires c.fill-count.ensures.values c.fill-count.ensures.count in
    let end = end_is _ c.in-Ok.rest _ (length c.args.bytes.now) all.strings.end c.in-Ok.ensures all.room refl all.strings.within in
    let starts : s.next ≤ length c.args.bytes.now - c.in-Ok.rest = omega (arith, all.strings.later, end.1) in
    search (rules, starts)

pub returns-clause-count : goal.returns-clause-count
unfolding joined_left
returns-clause-count c =
    let s = c.args.self.now in
    let left = is_left (delta_left s.lengths c.args.bytes.now) s.next c.args.bytes.now c.requires in
    c.fill-count.ensures.count ∙ ap (min (length c.args.lengths.now)) (sym (length-strings_from s.next _ c.args.bytes.now _ left.strings))

pub returns-clause-lengths : goal.returns-clause-lengths
unfolding joined_left
returns-clause-lengths c =
    let s = c.args.self.now in
    let all = takes (delta_left s.lengths c.args.bytes.now) s.next c.args.bytes.now c.fill-count.result (length c.args.lengths.now) c.fill-count.new.out c.args.lengths.now c.requires c.fill-count.ensures.values c.fill-count.ensures.count in
    all.lengths

pub returns-clause-joined : goal.returns-clause-joined
unfolding joined_left
returns-clause-joined c =
    let s = c.args.self.now in
    let all = takes (delta_left s.lengths c.args.bytes.now) s.next c.args.bytes.now c.fill-count.result (length c.args.lengths.now) c.fill-count.new.out c.args.lengths.now c.requires c.fill-count.ensures.values c.fill-count.ensures.count in
    let end = end_is _ c.in-Ok.rest _ (length c.args.bytes.now) all.strings.end c.in-Ok.ensures all.room refl all.strings.within in
    ap (λ n. take (n - s.next) (drop s.next c.args.bytes.now)) end.1 ∙ sym all.strings.joined

pub returns-clause-rest : goal.returns-clause-rest
unfolding joined_left
returns-clause-rest c =
    let s = c.args.self.now in
    let all = takes (delta_left s.lengths c.args.bytes.now) s.next c.args.bytes.now c.fill-count.result (length c.args.lengths.now) c.fill-count.new.out c.args.lengths.now c.requires c.fill-count.ensures.values c.fill-count.ensures.count in
    let end = end_is _ c.in-Ok.rest _ (length c.args.bytes.now) all.strings.end c.in-Ok.ensures all.room refl all.strings.within in
    left_behind (delta_left c.fill-count.new.self c.args.bytes.now) s.next _ _ c.args.bytes.now c.fill-count.result _ c.fill-count.ensures.rest all.strings end.1
