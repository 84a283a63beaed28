use Rattle.std.proofs.Common.{◌≤◌, [], drop, length}
use Rattle.std.specs.Prelude.{IsSome, sum_by, unwrap_or}
use Rattle.parquet_encoding.specs.Places.{bytes_in}
use Rattle.parquet_page.specs.ValidityParts.{word_places}
use Rattle.binary_values.proofs.RowLemmas.{RowsLeft}
use Rattle.binary_values.proofs.string_rows.take_each_row.Given as goal

-- the rows so far were appended
abbrev pub invariant-loop-row : goal.invariant-loop-row
invariant-loop-row g l =
    let whole = unwrap_or (g.W.StringWalk.places l.fn.walk l.bytes) [] in
    let left = unwrap_or (g.W.StringWalk.places l.walk l.bytes) [] in
    let places = word_places l.word in
    record {
      spelled : IsSome (g.W.StringWalk.places l.walk l.bytes);
      rows : RowsLeft (bytes_in l.bytes) l.fn.strings l.strings whole left places (drop l.row places);
      fits : sum_by length l.strings ≤ g.O.Offset.greatest;
    }
