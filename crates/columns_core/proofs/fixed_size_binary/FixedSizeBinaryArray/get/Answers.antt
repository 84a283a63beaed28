use Rattle.std.proofs.Common.{◌<◌, ◌≤◌, ◌+◌, ◌*◌, length, ap, sym, subst, ◌∙◌, arith, take, drop}
use Rattle.std.specs.Prelude.{slice_get, Some}
use Rattle.columns_core.specs.Column.{Column, masked}
use Rattle.columns_core.specs.Fixed.{fixed_pieces}
use Rattle.columns_core.specs.Masks.{is_there}
use Rattle.columns_core.proofs.Masked.{length-masked, there, not_there}
use Rattle.columns_core.proofs.FixedLemmas.{length-pieces, piece_at, piece_ends}
use Rattle.columns_core.proofs.fixed_size_binary.FixedSizeBinaryArray.get.Goals as goal

pub is_there-requires : goal.is_there-requires
is_there-requires c mask e =
    let array = c.self.inside in
    let within : c.args.i < length (masked (fixed_pieces array.size array.values.items) array.validity) = subst (λ (column : Column _). c.args.i < length column.items) (sym c.self.view_is) c.requires in
    omega (arith, within, length-masked (fixed_pieces array.size array.values.items) array.validity c.self.invariant.fits, c.self.invariant.fits mask (sym c.as_ref.ensures.value ∙ e))

pub piece-requires : goal.piece-requires
piece-requires c =
    let array = c.self.inside in
    let within : c.args.i < length (masked (fixed_pieces array.size array.values.items) array.validity) = subst (λ (column : Column _). c.args.i < length column.items) (sym c.self.view_is) c.requires in
    subst (λ bytes. c.args.i * array.size + array.size ≤ length bytes) (sym c.as_slice.ensures.value)
    (piece_ends array.size array.values.items c.args.i c.self.invariant.has_size (omega (arith, within, length-masked (fixed_pieces array.size array.values.items) array.validity c.self.invariant.fits, length-pieces array.size array.values.items)))

pub returns-then-is_there : goal.returns-then-is_there
returns-then-is_there c =
    let array = c.self.inside in
    let within : c.args.i < length (masked (fixed_pieces array.size array.values.items) array.validity) = subst (λ (column : Column _). c.args.i < length column.items) (sym c.self.view_is) c.requires in
    ap (λ (column : Column _). slice_get column.items c.args.i) (sym c.self.view_is)
    ∙ there (fixed_pieces array.size array.values.items) array.validity c.args.i (take array.size (drop (c.args.i * array.size) array.values.items)) c.self.invariant.fits
    (piece_at array.size array.values.items c.args.i (omega (arith, within, length-masked (fixed_pieces array.size array.values.items) array.validity c.self.invariant.fits, length-pieces array.size array.values.items)))
    (ap (λ mask. is_there mask c.args.i) (sym c.as_ref.ensures.value) ∙ sym c.is_there.ensures ∙ c.if-is_there.true)
    ∙ ap (λ bytes. Some (Some bytes)) (sym (c.piece.ensures ∙ ap (λ bytes. take array.size (drop (c.args.i * array.size) bytes)) c.as_slice.ensures.value))

pub returns-else-is_there : goal.returns-else-is_there
returns-else-is_there c =
    let array = c.self.inside in
    let within : c.args.i < length (masked (fixed_pieces array.size array.values.items) array.validity) = subst (λ (column : Column _). c.args.i < length column.items) (sym c.self.view_is) c.requires in
    ap (λ (column : Column _). slice_get column.items c.args.i) (sym c.self.view_is)
    ∙ not_there (fixed_pieces array.size array.values.items) array.validity c.args.i c.self.invariant.fits (omega (arith, within, length-masked (fixed_pieces array.size array.values.items) array.validity c.self.invariant.fits))
    (ap (λ mask. is_there mask c.args.i) (sym c.as_ref.ensures.value) ∙ sym c.is_there.ensures ∙ c.if-is_there.false)
