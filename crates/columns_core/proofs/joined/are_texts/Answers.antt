use Rattle.std.proofs.Common.{◌∙◌, length, take, ap, sym, subst, arith}
use Rattle.std.specs.Prelude.{IsUtf8}
use Rattle.std.proofs.lemmas.List.{length-take-le}
use Rattle.columns_core.proofs.TextLemmas.{together, begin-apart, cut}
use Rattle.columns_core.proofs.joined.are_texts.Goals as goal

pub returns-in-Err : goal.returns-in-Err
returns-in-Err g c =
    let offsets = c.args.offsets.now in
    let values = c.args.values.now in
    let shape = c.last.ensures.shape in (
      λ t. absurd (grind (arith, t)),
      λ texts. absurd (c.in-Err.ensures (subst (λ n. IsUtf8 (take n values)) (sym c.last.ensures.last) (together offsets values shape texts))),
    )

pub begin_at_characters-requires : goal.begin_at_characters-requires
begin_at_characters-requires g c =
    let whole = ap length (c.in-Ok.ensures.0 ∙ ap (λ n. take n c.args.values.now) c.last.ensures.last) in
    whole ∙ length-take-le _ c.args.values.now c.requires

pub returns-in-Ok : goal.returns-in-Ok
returns-in-Ok g c =
    let offsets = c.args.offsets.now in
    let values = c.args.values.now in
    let shape = c.last.ensures.shape in
    let text = c.in-Ok.text.now in
    let whole = c.in-Ok.ensures.0 ∙ ap (λ n. take n values) c.last.ensures.last in
    let utf8 = subst IsUtf8 (sym c.in-Ok.ensures.0) c.in-Ok.ensures.1 in (
      λ t. cut offsets values text whole shape c.requires utf8 (c.begin_at_characters.ensures.0 t),
      λ texts. c.begin_at_characters.ensures.1 (begin-apart offsets values text whole shape c.requires texts),
    )
