use Rattle.std.proofs.Common.{◌≡◌, ◌∙◌, ◌<◌, ◌-◌, suc, true, false, length, get_or, ap, sym, arith, add-one}
use Rattle.std.specs.Prelude.{slice_get, slice_range, Some, None, if◌then◌else◌}
use Rattle.columns_core.specs.Masks.{is_there}
use Rattle.columns_core.proofs.OffsetLemmas.{length-parts}
use Rattle.columns_core.proofs.JoinedLemmas.{length-strings, get-strings, end_within}
use Rattle.columns_core.proofs.joined.JoinedBytes.get.Goals as goal

pub start_end-start-requires : goal.start_end-start-requires
start_end-start-requires g c = let s = c.self.inside in omega (arith, c.requires, ap length c.self.view_is, length-strings s.offsets s.values.items s.validity c.self.invariant)

pub is_there-requires : goal.is_there-requires
is_there-requires g c found is =
    let s = c.self.inside in
    let long = (c.self.invariant).1 found (sym c.as_ref.ensures.value ∙ is) in
    omega (arith, c.requires, ap length c.self.view_is, length-strings s.offsets s.values.items s.validity c.self.invariant, long, length-parts s.offsets s.values.items)

pub slice_bounds-result-count : goal.slice_bounds-result-count
slice_bounds-result-count g c =
    let s = c.self.inside in
    let i = c.args.i in
    let h : i < length s.offsets - 1 = omega (arith, c.requires, ap length c.self.view_is, length-strings s.offsets s.values.items s.validity c.self.invariant) in
    let within = end_within s.offsets s.values.items i c.start_end-start.ensures.shape c.self.invariant.0 h in
    omega (arith, within.0, c.start_end-start.ensures.start, c.start_end-start.ensures.end ∙ ap (λ k. get_or s.offsets k 0) (add-one i))

pub slice_bounds-result-start : goal.slice_bounds-result-start
slice_bounds-result-start g c =
    let s = c.self.inside in
    let i = c.args.i in
    let h : i < length s.offsets - 1 = omega (arith, c.requires, ap length c.self.view_is, length-strings s.offsets s.values.items s.validity c.self.invariant) in
    let within = end_within s.offsets s.values.items i c.start_end-start.ensures.shape c.self.invariant.0 h in
    omega (arith, within.0, within.1, c.start_end-start.ensures.start, c.start_end-start.ensures.end ∙ ap (λ k. get_or s.offsets k 0) (add-one i), s.values.ok.0)

pub slice_bounds-result-end : goal.slice_bounds-result-end
slice_bounds-result-end g c =
    let s = c.self.inside in
    let i = c.args.i in
    let h : i < length s.offsets - 1 = omega (arith, c.requires, ap length c.self.view_is, length-strings s.offsets s.values.items s.validity c.self.invariant) in
    let within = end_within s.offsets s.values.items i c.start_end-start.ensures.shape c.self.invariant.0 h in
    omega (arith, within.0, within.1, c.start_end-start.ensures.start, c.start_end-start.ensures.end ∙ ap (λ k. get_or s.offsets k 0) (add-one i), s.values.ok.0)

pub returns-then-is_there : goal.returns-then-is_there
returns-then-is_there g c =
    let s = c.self.inside in
    let i = c.args.i in
    let h : i < length s.offsets - 1 = omega (arith, c.requires, ap length c.self.view_is, length-strings s.offsets s.values.items s.validity c.self.invariant) in
    let there : is_there s.validity i ≡ true = ap (λ m. is_there m i) (sym c.as_ref.ensures.value) ∙ sym c.is_there.ensures ∙ c.if-is_there.true in
    let start = c.start_end-start.ensures.start in
    let end = c.start_end-start.ensures.end ∙ ap (λ k. get_or s.offsets k 0) (add-one i) in
    ap (λ list. slice_get list i) (sym c.self.view_is) ∙ get-strings s.offsets s.values.items s.validity i c.self.invariant h
    ∙ ap (λ b. Some (if b then Some (slice_range s.values.items (get_or s.offsets i 0) (get_or s.offsets (suc i) 0)) else None)) there
    ∙ ap (λ from. Some (Some (slice_range s.values.items from (get_or s.offsets (suc i) 0)))) (sym start) ∙ ap (λ to. Some (Some (slice_range s.values.items c.start_end-start.result.0 to))) (sym end)
    ∙ ap (λ list. Some (Some (slice_range list c.start_end-start.result.0 c.start_end-start.result.1))) (sym c.deref.ensures.value)

pub returns-else-is_there : goal.returns-else-is_there
returns-else-is_there g c =
    let s = c.self.inside in
    let i = c.args.i in
    let h : i < length s.offsets - 1 = omega (arith, c.requires, ap length c.self.view_is, length-strings s.offsets s.values.items s.validity c.self.invariant) in
    let there : is_there s.validity i ≡ false = ap (λ m. is_there m i) (sym c.as_ref.ensures.value) ∙ sym c.is_there.ensures ∙ c.if-is_there.false in
    ap (λ list. slice_get list i) (sym c.self.view_is) ∙ get-strings s.offsets s.values.items s.validity i c.self.invariant h
    ∙ ap (λ b. Some (if b then Some (slice_range s.values.items (get_or s.offsets i 0) (get_or s.offsets (suc i) 0)) else None)) there
