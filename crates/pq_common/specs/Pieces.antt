-- Pieces of texts as they are written.
use Rattle.std.specs.Prelude.{ℕ, List}
use Rattle.pq_common.specs.declared.cells.Piece.{Piece}
use Rattle.pq_common.specs.declared.cells.Piece.TheVariants.{Plain, Escape}

abbrev pub piece_bytes : Piece → List ℕ
piece_bytes (Plain bytes) = bytes.now
piece_bytes (Escape bytes) = bytes
