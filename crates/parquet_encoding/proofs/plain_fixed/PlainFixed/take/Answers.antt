use Rattle.std.proofs.Common.{rules, ◌≡◌, ◌+◌, ◌-◌, ◌*◌, ◌≤◌, ◌∙◌, sym, ap, min, length, drop, take, Some, arith}
use Rattle.std.proofs.lemmas.Nat.{mul-le}
use Rattle.std.proofs.lemmas.List.{length-take, length-drop}
use Rattle.parquet_encoding.specs.PlainLeft.{fixed_left}
use Rattle.parquet_encoding.proofs.FixedLemmas.{fixed_ends, fixed_without, fixed_capped, part_fixed, length-fixed}
use Rattle.parquet_encoding.proofs.plain_fixed.PlainFixed.take.Goals as goal

pub overflow_mul-end : goal.overflow_mul-end
unfolding fixed_left
overflow_mul-end c =
    let s = c.args.self.now in
    let end = fixed_ends s.size s.next s.left c.args.bytes.now c.requires in
    let few = mul-le c.min-count.result s.size s.left s.size (omega arith) (omega arith) in
    omega arith

pub overflow_add-end : goal.overflow_add-end
unfolding fixed_left
overflow_add-end c =
    let s = c.args.self.now in
    let end = fixed_ends s.size s.next s.left c.args.bytes.now c.requires in
    let few = mul-le c.min-count.result s.size s.left s.size (omega arith) (omega arith) in
    omega arith

pub slice_bounds-part-end : goal.slice_bounds-part-end
unfolding fixed_left
slice_bounds-part-end c =
    let s = c.args.self.now in
    let end = fixed_ends s.size s.next s.left c.args.bytes.now c.requires in
    let few = mul-le c.min-count.result s.size s.left s.size (omega arith) (omega arith) in
    let within : s.next + c.min-count.result * s.size ≤ length c.args.bytes.now = omega arith in
    search (rules, within)

pub returns-clause-values : goal.returns-clause-values
unfolding fixed_left
returns-clause-values c =
    let s = c.args.self.now in
    part_fixed s.size s.next s.left c.args.bytes.now c.args.n c.min-count.result _ c.min-count.ensures (omega arith) c.requires

pub returns-clause-whole : goal.returns-clause-whole
unfolding fixed_left
returns-clause-whole c =
    let s = c.args.self.now in
    let bytes = c.args.bytes.now in
    let end = fixed_ends s.size s.next s.left bytes c.requires in
    let few = mul-le c.min-count.result s.size s.left s.size (omega arith) (omega arith) in
    let long = s.next + c.min-count.result * s.size - s.next in
    let own : length (take long (drop s.next bytes)) ≡ c.min-count.result * s.size = length-take long (drop s.next bytes) ∙ omega (arith, length-drop s.next bytes) in
    own ∙ ap (λ k. k * s.size) (c.min-count.ensures ∙ ap (min c.args.n) (sym (length-fixed s.size s.next s.left bytes c.requires)))

pub returns-clause-rest : goal.returns-clause-rest
unfolding fixed_left
returns-clause-rest c =
    let s = c.args.self.now in
    fixed_without s.size s.next s.left c.args.bytes.now c.min-count.result (omega arith) c.requires
    ∙ ap Some (fixed_capped s.size s.next s.left c.args.bytes.now c.args.n c.min-count.result c.min-count.ensures c.requires)
