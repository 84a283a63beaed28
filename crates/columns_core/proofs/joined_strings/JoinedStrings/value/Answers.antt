use Rattle.std.proofs.Common.{◌∙◌, ◌<◌, ◌-◌, Some, suc, length, get_or, ap, sym, arith, add-one}
use Rattle.std.specs.Prelude.{slice_get, slice_range}
use Rattle.columns_core.proofs.OffsetLemmas.{get-parts, length-parts}
use Rattle.columns_core.proofs.JoinedLemmas.{end_within}
use Rattle.columns_core.proofs.joined_strings.JoinedStrings.value.Goals as goal

pub start_end-start-requires : goal.start_end-start-requires
start_end-start-requires g c =
    let s = c.self.inside in
    omega (arith, c.requires, length-parts s.offsets s.values.items, ap length c.self.view_is)

pub slice_bounds-result-count : goal.slice_bounds-result-count
slice_bounds-result-count g c =
    let s = c.self.inside in
    let i = c.args.i in
    let h : i < length s.offsets - 1 = omega (arith, c.requires, length-parts s.offsets s.values.items, ap length c.self.view_is) in
    let within = end_within s.offsets s.values.items i c.self.invariant.0 (omega (arith, c.self.invariant.1)) h in
    omega (arith, within.0, c.start_end-start.ensures.start, c.start_end-start.ensures.end ∙ ap (λ k. get_or s.offsets k 0) (add-one i))

pub slice_bounds-result-start : goal.slice_bounds-result-start
slice_bounds-result-start g c =
    let s = c.self.inside in
    let i = c.args.i in
    let h : i < length s.offsets - 1 = omega (arith, c.requires, length-parts s.offsets s.values.items, ap length c.self.view_is) in
    let within = end_within s.offsets s.values.items i c.self.invariant.0 (omega (arith, c.self.invariant.1)) h in
    omega (arith, within.0, within.1, c.start_end-start.ensures.start, c.start_end-start.ensures.end ∙ ap (λ k. get_or s.offsets k 0) (add-one i), s.values.ok.0)

pub slice_bounds-result-end : goal.slice_bounds-result-end
slice_bounds-result-end g c =
    let s = c.self.inside in
    let i = c.args.i in
    let h : i < length s.offsets - 1 = omega (arith, c.requires, length-parts s.offsets s.values.items, ap length c.self.view_is) in
    let within = end_within s.offsets s.values.items i c.self.invariant.0 (omega (arith, c.self.invariant.1)) h in
    omega (arith, within.0, within.1, c.start_end-start.ensures.start, c.start_end-start.ensures.end ∙ ap (λ k. get_or s.offsets k 0) (add-one i), s.values.ok.0)

pub returns : goal.returns
returns g c =
    let s = c.self.inside in
    let i = c.args.i in
    let h : i < length s.offsets - 1 = omega (arith, c.requires, length-parts s.offsets s.values.items, ap length c.self.view_is) in
    let start = c.start_end-start.ensures.start in
    let end = c.start_end-start.ensures.end ∙ ap (λ k. get_or s.offsets k 0) (add-one i) in
    ap (λ list. slice_get list i) (sym c.self.view_is) ∙ get-parts s.offsets s.values.items i h
    ∙ ap (λ from. Some (slice_range s.values.items from (get_or s.offsets (suc i) 0))) (sym start) ∙ ap (λ to. Some (slice_range s.values.items c.start_end-start.result.0 to)) (sym end)
    ∙ ap (λ list. Some (slice_range list c.start_end-start.result.0 c.start_end-start.result.1)) (sym c.deref.ensures.value)
