use Rattle.std.proofs.Common.{◌≡◌, ◌∙◌, true, false, sym, drop}
use Rattle.std.proofs.lemmas.Result.{MatchResult-from_err}
use Rattle.parquet_encoding.specs.DeltaBinary.{is_block}
use Rattle.parquet_encoding.proofs.SumLemmas.{same_number}
use Rattle.parquet_encoding.proofs.HeaderLemmas.{block_facts, shape_is, not_shape, no_values, no_parts, no_total, no_shape, no_first}
use Rattle.parquet_encoding.proofs.delta_binary.header_at.Goals as goal

pub returns-in_err-values-clause-err : goal.returns-in_err-values-clause-err
returns-in_err-values-clause-err c =
    MatchResult-from_err c.from_residual.result _ _ c.from_residual.ensures.0 (λ _ count. no_shape c.args.bytes.now count (no_values c.args.bytes.now c.in_err-values.ensures.err))

pub returns-in_err-parts-clause-err : goal.returns-in_err-parts-clause-err
returns-in_err-parts-clause-err c =
    MatchResult-from_err c.from_residual-in_err-parts.result _ _ c.from_residual-in_err-parts.ensures.0
    (λ _ count. no_shape c.args.bytes.now count (no_parts c.args.bytes.now c.in_ok-values.values c.in_ok-values.after_values c.in_ok-values.ensures.ok c.in_err-parts.ensures.err))

pub returns-in_err-total-clause-err : goal.returns-in_err-total-clause-err
returns-in_err-total-clause-err c =
    MatchResult-from_err c.from_residual-in_err-total.result _ _ c.from_residual-in_err-total.ensures.0
    (λ _ count. no_shape c.args.bytes.now count
    (no_total c.args.bytes.now c.in_ok-values.values c.in_ok-parts.parts c.in_ok-values.after_values c.in_ok-parts.after_parts c.in_ok-values.ensures.ok c.in_ok-parts.ensures.ok c.in_err-total.ensures.err))

pub returns-then-not-is_shape-clause-err : goal.returns-then-not-is_shape-clause-err
returns-then-not-is_shape-clause-err c count =
    let other : is_block c.in_ok-values.values c.in_ok-parts.parts ≡ false = sym c.is_shape.ensures ∙ c.if-not-is_shape.true in
    no_shape c.args.bytes.now count
    (not_shape c.args.bytes.now c.in_ok-values.values c.in_ok-parts.parts c.in_ok-total.total c.in_ok-values.after_values c.in_ok-parts.after_parts c.in_ok-total.after_total
    c.in_ok-values.ensures.ok c.in_ok-parts.ensures.ok c.in_ok-total.ensures.ok other)

pub returns-in_err-first-clause-err : goal.returns-in_err-first-clause-err
returns-in_err-first-clause-err c =
    let shape : is_block c.in_ok-values.values c.in_ok-parts.parts ≡ true = sym c.is_shape.ensures ∙ c.if-not-is_shape.false in
    MatchResult-from_err c.from_residual-in_err-first.result _ _ c.from_residual-in_err-first.ensures.0
    (λ _ count. no_first c.args.bytes.now (drop c.in_ok-total.after_total c.args.bytes.now) _ count
    (shape_is c.args.bytes.now c.in_ok-values.values c.in_ok-parts.parts c.in_ok-total.total c.in_ok-values.after_values c.in_ok-parts.after_parts c.in_ok-total.after_total
    c.in_ok-values.ensures.ok c.in_ok-parts.ensures.ok c.in_ok-total.ensures.ok shape) c.in_err-first.ensures.err)

pub returns-clause-ok : goal.returns-clause-ok
returns-clause-ok c =
    let shape : is_block c.in_ok-values.values c.in_ok-parts.parts ≡ true = sym c.is_shape.ensures ∙ c.if-not-is_shape.false in
    let facts = block_facts c.in_ok-values.values c.in_ok-parts.parts shape in
    let first = c.in_ok-first.ensures.ok in
    record {
      rest = drop c.in_ok-total.after_total c.args.bytes.now;
      number = c.in_ok-first.first;
      shape = shape_is c.args.bytes.now c.in_ok-values.values c.in_ok-parts.parts c.in_ok-total.total c.in_ok-values.after_values c.in_ok-parts.after_parts c.in_ok-total.after_total
          c.in_ok-values.ensures.ok c.in_ok-parts.ensures.ok c.in_ok-total.ensures.ok shape;
      first = first.value;
      signed = same_number c.from_zigzag.result (record { sfits = c.from_zigzag.type_inv }) ∙ c.from_zigzag.ensures;
      within = first.within;
      some = facts.some;
      whole = facts.whole;
      some_parts = facts.some_parts;
    }
