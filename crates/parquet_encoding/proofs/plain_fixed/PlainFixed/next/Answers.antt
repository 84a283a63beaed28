use Rattle.std.proofs.Common.{◌≡◌, ◌+◌, ◌-◌, ◌*◌, ◌∙◌, sym, ap, [], drop, Some, arith}
use Rattle.std.specs.Prelude.{slice_get, unwrap_or}
use Rattle.std.proofs.lemmas.Nat.{mul-le}
use Rattle.parquet_encoding.specs.PlainLeft.{fixed_left}
use Rattle.parquet_encoding.proofs.FixedLemmas.{fixed_from, fixed_ends, fixed_without, first_fixed, no_fixed}
use Rattle.parquet_encoding.proofs.plain_fixed.PlainFixed.next.Goals as goal

pub returns-then-self-eq0-clause-value : goal.returns-then-self-eq0-clause-value
unfolding fixed_left
returns-then-self-eq0-clause-value c =
    let s = c.args.self.now in
    sym (ap (λ o. slice_get (unwrap_or o []) 0) (no_fixed s.size s.next s.left c.args.bytes.now c.if-self-eq0.true c.requires))

pub returns-then-self-eq0-clause-rest : goal.returns-then-self-eq0-clause-rest
unfolding fixed_left
returns-then-self-eq0-clause-rest c =
    let s = c.args.self.now in
    let none = no_fixed s.size s.next s.left c.args.bytes.now c.if-self-eq0.true c.requires in
    none ∙ ap Some (sym (ap (λ o. drop 1 (unwrap_or o [])) none))

pub overflow_add-self : goal.overflow_add-self
unfolding fixed_left
overflow_add-self c =
    let s = c.args.self.now in
    let end = fixed_ends s.size s.next s.left c.args.bytes.now c.requires in
    let one = mul-le 1 s.size s.left s.size (omega arith) (omega arith) in
    omega arith

pub returns-clause-value : goal.returns-clause-value
unfolding fixed_left
returns-clause-value c = let s = c.args.self.now in first_fixed s.size s.next s.left c.args.bytes.now (omega arith) c.requires

pub returns-clause-within : goal.returns-clause-within
unfolding fixed_left
returns-clause-within c =
    let s = c.args.self.now in
    let end = fixed_ends s.size s.next s.left c.args.bytes.now c.requires in
    let one = mul-le 1 s.size s.left s.size (omega arith) (omega arith) in
    omega arith

pub returns-clause-rest : goal.returns-clause-rest
unfolding fixed_left
returns-clause-rest c =
    let s = c.args.self.now in
    let one : s.next + s.size ≡ s.next + 1 * s.size = omega arith in
    ap (λ next. fixed_from s.size next (s.left - 1) c.args.bytes.now) one ∙ fixed_without s.size s.next s.left c.args.bytes.now 1 (omega arith) c.requires
