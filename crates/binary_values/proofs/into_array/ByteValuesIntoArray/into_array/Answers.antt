use Rattle.std.proofs.Common.{◌∙◌, ℕ, List, map, ap, ap₂, subst, sym}
use Rattle.std.specs.Prelude.{All, IsUtf8}
use Rattle.std.proofs.lemmas.Result.{IfOk-weaker}
use Rattle.columns_core.specs.Column.{cell_of, masked}
use Rattle.columns_core.specs.declared.cell.Cell.{Bytes, Text}
use Rattle.flat_values.specs.Decoded.{marked_cells}
use Rattle.flat_values.proofs.DecodedLemmas.{array_items}
use Rattle.binary_values.specs.ByteStrings.{byte_cell}
use Rattle.binary_values.proofs.into_array.ByteValuesIntoArray.into_array.Goals as goal

pub text_column-requires-clause-texts : goal.text_column-requires-clause-texts
text_column-requires-clause-texts g c =
    let P : List (List ℕ) → Type 0 = All IsUtf8 in
    subst P (sym c.into_parts-offsets.ensures.parts) (c.requires.own.judged (sym c.requires.own.same ∙ c.if-is_text.true))

pub returns-then-is_text-clause-cells : goal.returns-then-is_text-clause-cells
returns-then-is_text-clause-cells g c =
    let own = c.args.decoded in
    let items = ap₂ masked c.into_parts-offsets.ensures.parts c.freeze_mask-validity.ensures ∙ array_items own.strings own.validity c.requires.own.masked in
    c.text_column.ensures.cells ∙ ap (map (cell_of Text)) items ∙ ap (λ is_text. marked_cells (byte_cell is_text) own.strings own.validity) (sym c.if-is_text.true)

pub returns-else-is_text-clause-cells : goal.returns-else-is_text-clause-cells
returns-else-is_text-clause-cells g c =
    let own = c.args.decoded in
    let items = ap₂ masked c.into_parts-offsets.ensures.parts c.freeze_mask-validity.ensures ∙ array_items own.strings own.validity c.requires.own.masked in
    IfOk-weaker c.byte_column.result _ _
    (λ array e. e ∙ ap (map (cell_of Bytes)) items ∙ ap (λ is_text. marked_cells (byte_cell is_text) own.strings own.validity) (sym c.if-is_text.false)) c.byte_column.ensures.cells
