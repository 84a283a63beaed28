use Rattle.std.proofs.Common.{refl, sym, ◌∙◌, subst}
use Rattle.std.specs.Prelude.{option_copied}
use Rattle.columns_core.specs.Fixed.{ArePieces}
use Rattle.columns_core.proofs.FixedLemmas.{pieces_from, no_pieces_from}
use Rattle.columns_core.proofs.fixed_size_binary.FixedSizeBinaryArray.try_new.Goals as goal

pub invariant_of-result : goal.invariant_of-result
invariant_of-result c =
    pieces_from c.size_of_values-size.result c.args.values.items c.args.validity c.len.result (option_copied c.as_ref.result) c.are_pieces.result
    (c.len.ensures ∙ c.args.values.ok.0) c.as_ref.ensures.value c.are_pieces.ensures c.if-are_pieces.true

pub returns-then-are_pieces-clause-ok : goal.returns-then-are_pieces-clause-ok
returns-then-are_pieces-clause-ok c =
    subst (λ size. ArePieces size c.args.values.items c.args.validity) c.size_of_values-size.ensures
    (pieces_from c.size_of_values-size.result c.args.values.items c.args.validity c.len.result (option_copied c.as_ref.result) c.are_pieces.result
    (c.len.ensures ∙ c.args.values.ok.0) c.as_ref.ensures.value c.are_pieces.ensures c.if-are_pieces.true)

pub returns-else-are_pieces-clause-err : goal.returns-else-are_pieces-clause-err
returns-else-are_pieces-clause-err c = (
  refl,
  λ pieces. no_pieces_from c.size_of_values-size.result c.args.values.items c.args.validity c.len.result (option_copied c.as_ref.result) c.are_pieces.result
      (c.len.ensures ∙ c.args.values.ok.0) c.as_ref.ensures.value c.are_pieces.ensures c.if-are_pieces.false
      (subst (λ size. ArePieces size c.args.values.items c.args.validity) (sym c.size_of_values-size.ensures) pieces),
)
