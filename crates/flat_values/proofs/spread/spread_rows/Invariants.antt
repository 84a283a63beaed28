use Rattle.parquet_page.specs.ValidityParts.{word_places}
use Rattle.flat_values.proofs.SpreadLemmas.{AreSpread}
use Rattle.flat_values.proofs.spread.spread_rows.Given as goal

abbrev pub invariant-loop-row : goal.invariant-loop-row
invariant-loop-row g l = AreSpread l.null (word_places l.word) l.row l.stored l.initial.numbers l.numbers
