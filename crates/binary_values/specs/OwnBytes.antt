-- Decoded byte strings that are their decoder's own.
use Rattle.std.specs.Prelude.{◌≡◌, ℕ, Bool, true, List, length, sum_by, Some}
use Rattle.page_decoding.specs.Bytes.{cell_bytes, fits_most}
use Rattle.flat_values.specs.Decoded.{IsMaskFor, marked_cells}
use Rattle.binary_values.specs.ByteStrings.{AreJudged, byte_cell}

-- They are judged where they are texts, those that are null are empty, and all together fit.
pub record AreOwnBytes (most : ℕ) (is_text own_text : Bool) (strings : List (List ℕ)) (mask : List Bool) : Type 0 where
  pub same : own_text ≡ is_text
  pub masked : IsMaskFor strings mask
  pub judged : AreJudged is_text strings
  pub counted : sum_by cell_bytes (marked_cells (byte_cell own_text) strings mask) ≡ sum_by length strings
  pub fits : fits_most (Some most) (sum_by cell_bytes (marked_cells (byte_cell own_text) strings mask)) ≡ true
