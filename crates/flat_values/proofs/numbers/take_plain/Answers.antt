use Rattle.std.proofs.Common.{[], ap, arith, drop, length, subst, unwrap_or, ◌∙◌, refl, List}
use Rattle.std.proofs.lemmas.List.{length-map}
use Rattle.std.proofs.lemmas.Result.{err_from_is_err_and}
use Rattle.parquet_encoding.proofs.WalkLemmas.{passes_none}
use Rattle.parquet_page.specs.Values.{plain_values}
use Rattle.page_decoding.specs.Outcome.{IsCausedBy, Outcome}
use Rattle.flat_values.specs.Added.{Adds}
use Rattle.flat_values.specs.Outcomes.{stored_outcome}
use Rattle.flat_values.proofs.PlainTakes.{behind_place, taken_pieces}
use Rattle.flat_values.proofs.numbers.take_plain.Goals as goal

pub returns-clause-added : goal.returns-clause-added
returns-clause-added g c =
    let found = plain_values g.P.ParquetNativeType.physical c.args.bytes.now c.args.place.count in
    let whole = unwrap_or found [] in
    let pieces = c.plain_pieces-pieces.result.now in
    let all = c.plain_pieces-pieces.ensures c.args.place.count whole (passes_none found c.requires) in
    let P : List Outcome → Type 0 = λ outcomes. Adds g.T.NativeType.cell c.args.values.now.items c.extend_plain.new.values.items outcomes in
    subst P (taken_pieces (stored_outcome (g.C.Convert.rule c.args.rule)) g.P.ParquetNativeType.plain pieces whole c.args.place.next c.args.count (length pieces) c.min-start.result c.behind-behind.result.next all refl c.min-start.ensures (omega (arith, c.behind-behind.ensures.next, c.min-start.ensures)))
    c.in_ok-extend_plain.ensures.added

pub returns-clause-rest : goal.returns-clause-rest
returns-clause-rest g c =
    let found = plain_values g.P.ParquetNativeType.physical c.args.bytes.now c.args.place.count in
    let whole = unwrap_or found [] in
    let pieces = c.plain_pieces-pieces.result.now in
    let all = c.plain_pieces-pieces.ensures c.args.place.count whole (passes_none found c.requires) in
    ap (λ n. drop c.behind-behind.result.next (unwrap_or (plain_values g.P.ParquetNativeType.physical c.args.bytes.now n) [])) c.behind-behind.ensures.count
    ∙ behind_place whole c.args.place.next c.args.count (length pieces) c.behind-behind.result.next (omega (arith, ap length all, length-map pieces g.P.ParquetNativeType.plain)) c.behind-behind.ensures.next

pub returns-in_err-extend_plain-clause-cause : goal.returns-in_err-extend_plain-clause-cause
returns-in_err-extend_plain-clause-cause g c =
    let p = err_from_is_err_and c.from_residual.result c.from_residual.ensures.1 in
    let found = plain_values g.P.ParquetNativeType.physical c.args.bytes.now c.args.place.count in
    let whole = unwrap_or found [] in
    let pieces = c.plain_pieces-pieces.result.now in
    let all = c.plain_pieces-pieces.ensures c.args.place.count whole (passes_none found c.requires) in
    let P : List Outcome → Type 0 = λ outcomes. IsCausedBy outcomes c.in_err-extend_plain.field-0.0 in
    rw (p.1, p.2) (
    subst P (taken_pieces (stored_outcome (g.C.Convert.rule c.args.rule)) g.P.ParquetNativeType.plain pieces whole c.args.place.next c.args.count (length pieces) c.min-start.result c.behind-behind.result.next all refl c.min-start.ensures (omega (arith, c.behind-behind.ensures.next, c.min-start.ensures)))
    c.in_err-extend_plain.ensures.cause)
