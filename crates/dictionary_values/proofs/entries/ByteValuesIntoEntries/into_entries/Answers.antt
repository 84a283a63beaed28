use Rattle.std.proofs.Common.{◌∙◌, ℕ, List, ap, map, subst, sym}
use Rattle.std.specs.Prelude.{All, IsUtf8}
use Rattle.columns_core.specs.Column.{cell_of}
use Rattle.columns_core.specs.Offsets.{parts}
use Rattle.columns_core.specs.declared.cell.Cell.{Bytes, Text}
use Rattle.binary_values.specs.ByteStrings.{byte_cell}
use Rattle.dictionary_values.proofs.ByteLemmas.{bytes-are, text-is}
use Rattle.dictionary_values.proofs.EntryLemmas.{all-there}
use Rattle.dictionary_values.proofs.entries.ByteValuesIntoEntries.into_entries.Goals as goal

pub of_texts-array-requires-clause-texts : goal.of_texts-array-requires-clause-texts
of_texts-array-requires-clause-texts g c =
    let P : List (List ℕ) → Type 0 = All IsUtf8 in
    let text = text-is c.args.self.now.is_text g.O.Offset.is_large c.args.data_type c.requires.fits (sym c.is_text_type.ensures ∙ c.if-is_text_type.true) in
    subst P (sym c.into_parts-offsets.ensures.parts) (c.requires.own text)

pub returns-then-is_text_type-clause-cells : goal.returns-then-is_text_type-clause-cells
returns-then-is_text_type-clause-cells g c =
    let text = text-is c.args.self.now.is_text g.O.Offset.is_large c.args.data_type c.requires.fits (sym c.is_text_type.ensures ∙ c.if-is_text_type.true) in
    ap (λ array. map (cell_of Text) array.items) c.of_texts-array.ensures ∙ all-there Text (parts c.into_parts-offsets.result.0 c.into_parts-offsets.result.1.items)
    ∙ ap (map Text) c.into_parts-offsets.ensures.parts ∙ ap (λ own. map (byte_cell own) c.args.dict) (sym text)

pub returns-in_ok-array-clause-cells : goal.returns-in_ok-array-clause-cells
returns-in_ok-array-clause-cells g c =
    let own = bytes-are c.args.self.now.is_text g.O.Offset.is_large c.args.data_type c.requires.fits (sym c.is_text_type.ensures ∙ c.if-is_text_type.false) in
    ap (λ array. map (cell_of Bytes) array.items) c.in_ok-array.ensures.array ∙ all-there Bytes (parts c.into_parts-offsets.result.0 c.into_parts-offsets.result.1.items)
    ∙ ap (map Bytes) c.into_parts-offsets.ensures.parts ∙ ap (λ is_text. map (byte_cell is_text) c.args.dict) (sym own.0)
