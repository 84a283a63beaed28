use Rattle.std.proofs.Common.{[], ap, arith, drop, length, unwrap_or, ◌∙◌}
use Rattle.std.proofs.lemmas.List.{length-map}
use Rattle.parquet_encoding.proofs.WalkLemmas.{passes_none}
use Rattle.parquet_page.specs.Values.{plain_values}
use Rattle.flat_values.proofs.PlainTakes.{behind_place}
use Rattle.flat_values.proofs.numbers.skip_plain.Goals as goal

pub returns-clause-rest : goal.returns-clause-rest
returns-clause-rest g c =
    let found = plain_values g.P.ParquetNativeType.physical c.args.bytes.now c.args.place.count in
    let whole = unwrap_or found [] in
    let all = c.plain_pieces.ensures c.args.place.count whole (passes_none found c.requires) in
    ap (λ n. drop c.behind.result.next (unwrap_or (plain_values g.P.ParquetNativeType.physical c.args.bytes.now n) [])) c.behind.ensures.count
    ∙ behind_place whole c.args.place.next c.args.count (length c.plain_pieces.result.now) c.behind.result.next (omega (arith, ap length all, length-map c.plain_pieces.result.now g.P.ParquetNativeType.plain)) c.behind.ensures.next
