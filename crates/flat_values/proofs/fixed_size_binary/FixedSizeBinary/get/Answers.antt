use Rattle.std.proofs.Common.{◌<◌, ◌≤◌, ◌+◌, ◌*◌, ◌/◌, ◌∙◌, Some, length, take, drop, ap, sym, subst, arith}
use Rattle.std.specs.Prelude.{slice_get}
use Rattle.std.proofs.lemmas.List.{length-drop, length-take-le}
use Rattle.std.proofs.lemmas.Option.{slice_get_past}
use Rattle.columns_core.proofs.FixedLemmas.{length-pieces, piece_at, piece_ends}
use Rattle.flat_values.proofs.fixed_size_binary.FixedSizeBinary.get.Goals as goal

pub item_at-requires : goal.item_at-requires
item_at-requires c =
    let size = c.self.inside.size in
    let bytes = c.self.inside.values.items in
    let within : c.args.i < length bytes / size = omega (arith, c.if-i-len.true, c.len.ensures, ap (λ v. length v.items) c.self.view_is, length-pieces size bytes) in
    subst (λ all. c.args.i * size + size ≤ length all) (sym c.as_slice.ensures.value) (piece_ends size bytes c.args.i c.self.invariant.0 within)

pub returns-then-i-len-clause-item : goal.returns-then-i-len-clause-item
returns-then-i-len-clause-item c =
    let size = c.self.inside.size in
    let bytes = c.self.inside.values.items in
    let within : c.args.i < length bytes / size = omega (arith, c.if-i-len.true, c.len.ensures, ap (λ v. length v.items) c.self.view_is, length-pieces size bytes) in
    ap Some (c.item_at.ensures ∙ ap (λ all. take size (drop (c.args.i * size) all)) c.as_slice.ensures.value) ∙ sym (piece_at size bytes c.args.i within) ∙ ap (λ v. slice_get v.items c.args.i) c.self.view_is

pub returns-then-i-len-clause-size : goal.returns-then-i-len-clause-size
returns-then-i-len-clause-size c =
    let size = c.self.inside.size in
    let bytes = c.self.inside.values.items in
    let place = c.args.i * size in
    let within : c.args.i < length bytes / size = omega (arith, c.if-i-len.true, c.len.ensures, ap (λ v. length v.items) c.self.view_is, length-pieces size bytes) in
    let ends : place + size ≤ length bytes = piece_ends size bytes c.args.i c.self.invariant.0 within in
    ap length (c.item_at.ensures ∙ ap (λ all. take size (drop place all)) c.as_slice.ensures.value) ∙ length-take-le size (drop place bytes) (omega (arith, ends, length-drop place bytes)) ∙ ap (λ v. v.size) c.self.view_is

pub returns-else-i-len-clause-item : goal.returns-else-i-len-clause-item
returns-else-i-len-clause-item c = sym (slice_get_past c.args.self.now.items c.args.i (omega (arith, c.if-i-len.false, c.len.ensures)))
