use Rattle.std.proofs.Common.{◌≡◌, ◌∙◌, sym, ◌++◌, ap, subst, List, ℕ}
use Rattle.std.specs.List.{flat_map}
use Rattle.std.proofs.lemmas.Grind.{flat_map-append}
use Rattle.pq_common.specs.CellText.{quoted_byte}
use Rattle.pq_common.proofs.cells.next_piece.Goals as goal

-- bytes that stand for themselves, and the others
pub returns-clause-some : goal.returns-clause-some
returns-clause-some c =
    let parts = c.split_at in
    let behind = flat_map quoted_byte parts.result.1.now in
    let plain = subst (λ (text : List ℕ). flat_map quoted_byte text ≡ text) (sym parts.ensures.front) c.plain_length.ensures.plain in
    ap (flat_map quoted_byte) parts.ensures.by_index.0 ∙ flat_map-append quoted_byte parts.result.0.now parts.result.1.now ∙ ap (λ text. text ++ behind) plain
