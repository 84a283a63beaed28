use Rattle.columns_core.specs.declared.cell.Cell.{Bool as TruthCell}
use Rattle.page_decoding.specs.Outcome.{Given}
use Rattle.parquet_encoding.specs.PlainLeft.{bits_left, truths}
use Rattle.flat_values.proofs.OutcomeLemmas.{behind}
use Rattle.flat_values.proofs.truths.TruthValuesValues.skip.Goals as goal

pub returns-clause-left : goal.returns-clause-left
returns-clause-left c dict =
    behind (λ b. Given (TruthCell b)) (bits_left c.skip.new.self c.args.bytes.now) (truths c.args.place.now c.args.bytes.now) c.args.count c.skip.ensures
