use Rattle.std.proofs.Common.{List}
use Rattle.parquet_read.specs.FileReader.{OpensInTurn, answers_left}
use Rattle.parquet_read.specs.declared.file_reader.FileReader.{FileReader}
use Rattle.parquet_read.proofs.file_reader.FileReader.next_counted.Given as goal

-- the groups so far are opened one behind the other
abbrev pub invariant-loop-self : goal.invariant-loop-self
invariant-loop-self g l = (passed : List (FileReader g.row.S.Denot)) × OpensInTurn g.S.Source passed l.fn.self l.self

abbrev pub decreases-loop-self : goal.decreases-loop-self
decreases-loop-self g l = answers_left l.self
