use Rattle.std.proofs.Common.{[], inr, subst, sym, unwrap_or, List}
use Rattle.std.proofs.lemmas.Result.{err_from_is_err_and}
use Rattle.parquet_encoding.proofs.WalkLemmas.{passes_none}
use Rattle.parquet_page.specs.Content.{dict_content}
use Rattle.parquet_page.specs.Values.{plain_values}
use Rattle.page_decoding.specs.Outcome.{IsCausedBy, Outcome}
use Rattle.flat_values.specs.Added.{Adds}
use Rattle.flat_values.specs.Outcomes.{stored_outcome}
use Rattle.flat_values.proofs.NumberPlaces.{dictionary_damaged, dictionary_read, dictionary_wrong, pieces_give}
use Rattle.flat_values.proofs.number_values.NumberValuesValueDecoder.read_dict.Goals as goal

pub returns-then-not-is_plain-clause-cause : goal.returns-then-not-is_plain-clause-cause
returns-then-not-is_plain-clause-cause g c = inr (dictionary_damaged (g.C.Convert.rule c.args.self.now.rule) g.P.ParquetNativeType.physical (dict_content c.args.page.now) c.if-not-is_plain.ensures)

pub returns-clause-entries : goal.returns-clause-entries
returns-clause-entries g c =
    let rule = g.C.Convert.rule c.args.self.now.rule in
    let found = plain_values g.P.ParquetNativeType.physical c.args.page.now.buffer.now c.args.page.now.num_values in
    let whole = unwrap_or found [] in
    let spelled = passes_none found (sym c.if-not-is_plain.ensures) in
    let give = pieces_give (stored_outcome rule) g.P.ParquetNativeType.plain c.plain_pieces-pieces.result.now whole (c.plain_pieces-pieces.ensures c.args.page.now.num_values whole spelled) in
    let P : List Outcome → Type 0 = λ outcomes. Adds g.T.NativeType.cell [] c.extend_plain.new.values.items outcomes in
    dictionary_read g.T.NativeType.cell rule g.P.ParquetNativeType.physical (dict_content c.args.page.now) whole c.extend_plain.new.values.items spelled (subst P give (rw c.in_ok-entries.ensures.items at c.in_ok-extend_plain.ensures.added))

pub returns-in_err-extend_plain-clause-cause : goal.returns-in_err-extend_plain-clause-cause
returns-in_err-extend_plain-clause-cause g c =
    let p = err_from_is_err_and c.from_residual-in_err-extend_plain.result c.from_residual-in_err-extend_plain.ensures.1 in
    let rule = g.C.Convert.rule c.args.self.now.rule in
    let found = plain_values g.P.ParquetNativeType.physical c.args.page.now.buffer.now c.args.page.now.num_values in
    let whole = unwrap_or found [] in
    let spelled = passes_none found (sym c.if-not-is_plain.ensures) in
    let give = pieces_give (stored_outcome rule) g.P.ParquetNativeType.plain c.plain_pieces-pieces.result.now whole (c.plain_pieces-pieces.ensures c.args.page.now.num_values whole spelled) in
    let P : List Outcome → Type 0 = λ outcomes. IsCausedBy outcomes c.in_err-extend_plain.field-0.0 in
    rw (p.1, p.2) (dictionary_wrong rule g.P.ParquetNativeType.physical (dict_content c.args.page.now) whole c.in_err-extend_plain.field-0.0 spelled (subst P give c.in_err-extend_plain.ensures.cause))
