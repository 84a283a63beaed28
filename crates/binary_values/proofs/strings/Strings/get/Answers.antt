use Rattle.std.proofs.Common.{◌∙◌, ◌<◌, ◌-◌, Some, suc, length, get_or, ap, sym, arith, add-one}
use Rattle.std.specs.Prelude.{slice_get, slice_range}
use Rattle.std.proofs.lemmas.Option.{slice_get_past}
use Rattle.columns_core.proofs.OffsetLemmas.{get-parts, length-parts}
use Rattle.columns_core.proofs.JoinedLemmas.{end_within}
use Rattle.binary_values.proofs.strings.Strings.get.Goals as goal

pub slice_bounds-result-count : goal.slice_bounds-result-count
slice_bounds-result-count g c =
    let s = c.self.inside in
    let i = c.args.i in
    let h : i < length s.offsets - 1 = omega (arith, c.if-i-len_proxy.true, c.len_proxy.ensures.len) in
    let within = end_within s.offsets s.values.items i c.self.invariant.0 (omega (arith, c.self.invariant.1)) h in
    omega (arith, within.0, c.start_end-start.ensures.start, c.start_end-start.ensures.end ∙ ap (λ k. get_or s.offsets k 0) (add-one i))

pub slice_bounds-result-start : goal.slice_bounds-result-start
slice_bounds-result-start g c =
    let s = c.self.inside in
    let i = c.args.i in
    let h : i < length s.offsets - 1 = omega (arith, c.if-i-len_proxy.true, c.len_proxy.ensures.len) in
    let within = end_within s.offsets s.values.items i c.self.invariant.0 (omega (arith, c.self.invariant.1)) h in
    omega (arith, within.0, within.1, c.start_end-start.ensures.start, c.start_end-start.ensures.end ∙ ap (λ k. get_or s.offsets k 0) (add-one i), s.values.ok.0)

pub slice_bounds-result-end : goal.slice_bounds-result-end
slice_bounds-result-end g c =
    let s = c.self.inside in
    let i = c.args.i in
    let h : i < length s.offsets - 1 = omega (arith, c.if-i-len_proxy.true, c.len_proxy.ensures.len) in
    let within = end_within s.offsets s.values.items i c.self.invariant.0 (omega (arith, c.self.invariant.1)) h in
    omega (arith, within.0, within.1, c.start_end-start.ensures.start, c.start_end-start.ensures.end ∙ ap (λ k. get_or s.offsets k 0) (add-one i), s.values.ok.0)

pub returns-then-i-len_proxy : goal.returns-then-i-len_proxy
returns-then-i-len_proxy g c =
    let s = c.self.inside in
    let i = c.args.i in
    let h : i < length s.offsets - 1 = omega (arith, c.if-i-len_proxy.true, c.len_proxy.ensures.len) in
    let start = c.start_end-start.ensures.start in
    let end = c.start_end-start.ensures.end ∙ ap (λ k. get_or s.offsets k 0) (add-one i) in
    sym (
    ap (λ list. slice_get list i) (sym c.self.view_is) ∙ get-parts s.offsets s.values.items i h
    ∙ ap (λ from. Some (slice_range s.values.items from (get_or s.offsets (suc i) 0))) (sym start) ∙ ap (λ to. Some (slice_range s.values.items c.start_end-start.result.0 to)) (sym end)
    ∙ ap (λ list. Some (slice_range list c.start_end-start.result.0 c.start_end-start.result.1)) (sym c.deref.ensures.value))

pub returns-else-i-len_proxy : goal.returns-else-i-len_proxy
returns-else-i-len_proxy g c =
    let s = c.self.inside in
    sym (slice_get_past c.args.self.now c.args.i (omega (arith, c.if-i-len_proxy.false, c.len_proxy.ensures.len, length-parts s.offsets s.values.items, ap length c.self.view_is)))
