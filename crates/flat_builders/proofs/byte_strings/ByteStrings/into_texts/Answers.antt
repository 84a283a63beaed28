use Rattle.std.proofs.Common.{◌∙◌, ℕ, List, ap, sym, subst}
use Rattle.std.specs.Prelude.{All, IsUtf8}
use Rattle.flat_builders.proofs.KeptLemmas.{Seen}
use Rattle.flat_builders.proofs.byte_strings.ByteStrings.into_texts.Goals as goal

pub of_texts-requires-clause-texts : goal.of_texts-requires-clause-texts
of_texts-requires-clause-texts g c =
    let P : List (List ℕ) → Type 0 = All IsUtf8 in
    subst P (sym c.into_parts-offsets.ensures.parts) (c.self.invariant.judged (ap (λ (column : Seen). column.0) c.self.view_is ∙ c.requires.text))
