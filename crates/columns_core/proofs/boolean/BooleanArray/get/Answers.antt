use Rattle.std.proofs.Common.{◌<◌, length, ap, sym, subst, ◌∙◌, arith}
use Rattle.std.specs.Prelude.{slice_get}
use Rattle.columns_core.specs.Column.{Column, masked}
use Rattle.columns_core.specs.Masks.{is_there}
use Rattle.columns_core.proofs.Masked.{length-masked, there, not_there}
use Rattle.columns_core.proofs.boolean.BooleanArray.get.Goals as goal

pub is_there-requires : goal.is_there-requires
is_there-requires c mask e =
    let array = c.self.inside in
    let within : c.args.i < length (masked array.values array.validity) = subst (λ (column : Column _). c.args.i < length column.items) (sym c.self.view_is) c.requires in
    omega (arith, within, length-masked array.values array.validity c.self.invariant, c.self.invariant mask (sym c.as_ref.ensures.value ∙ e))

pub get_bit-requires : goal.get_bit-requires
get_bit-requires c =
    let array = c.self.inside in
    let within : c.args.i < length (masked array.values array.validity) = subst (λ (column : Column _). c.args.i < length column.items) (sym c.self.view_is) c.requires in
    omega (arith, within, length-masked array.values array.validity c.self.invariant)

pub returns-then-is_there : goal.returns-then-is_there
returns-then-is_there c =
    let array = c.self.inside in
    ap (λ (column : Column _). slice_get column.items c.args.i) (sym c.self.view_is)
    ∙ there array.values array.validity c.args.i c.get_bit.result c.self.invariant c.get_bit.ensures
    (ap (λ mask. is_there mask c.args.i) (sym c.as_ref.ensures.value) ∙ sym c.is_there.ensures ∙ c.if-is_there.true)

pub returns-else-is_there : goal.returns-else-is_there
returns-else-is_there c =
    let array = c.self.inside in
    let within : c.args.i < length (masked array.values array.validity) = subst (λ (column : Column _). c.args.i < length column.items) (sym c.self.view_is) c.requires in
    ap (λ (column : Column _). slice_get column.items c.args.i) (sym c.self.view_is)
    ∙ not_there array.values array.validity c.args.i c.self.invariant (omega (arith, within, length-masked array.values array.validity c.self.invariant))
    (ap (λ mask. is_there mask c.args.i) (sym c.as_ref.ensures.value) ∙ sym c.is_there.ensures ∙ c.if-is_there.false)
