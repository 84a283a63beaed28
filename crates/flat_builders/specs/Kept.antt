-- What a builder refuses.
use Rattle.std.specs.Prelude.{◌≡◌, ◌⊎◌, ℕ, Bool, true, false, IsTrue, List, sum_by, Some}
use Rattle.columns_core.specs.Causes.{IsWantOfMemory, NotYetImplemented, cause_of, is_invalid_argument}
use Rattle.columns_core.specs.declared.cell.Cell.{Cell}
use Rattle.columns_core.specs.declared.data_type.DataType.{DataType, out-DataType}
use Rattle.columns_core.specs.Types.{Layer}
use Rattle.columns_core.specs.declared.error.Error.{Error}
use Rattle.columns_core.specs.declared.error.Error.TheVariants as kind
use Rattle.page_decoding.specs.Bytes.{cell_bytes, fits_most}
use Rattle.flat_values.specs.MostBytes.{most_bytes_at}
use Rattle.flat_builders.specs.Flat.{Flatness, Flat, Sizeless, Nested}

-- why there is no builder of a type: it is not flat, bytes of no size are not carried, or memory is wanting
abbrev pub IsRefusedType : Flatness → Error → Type 0
IsRefusedType Flat error = IsWantOfMemory error
IsRefusedType Sizeless error = cause_of error ≡ Some NotYetImplemented
IsRefusedType Nested error = IsTrue (is_invalid_argument error)

-- the bytes of all cells fit the offsets of the type
abbrev pub cells_fit_at : Layer → List Cell → Bool
cells_fit_at layer cells = fits_most (most_bytes_at layer) (sum_by cell_bytes cells)

-- or offsets that tell places up to a greatest one
abbrev pub bytes_fit : ℕ → List Cell → Bool
bytes_fit most cells = fits_most (Some most) (sum_by cell_bytes cells)

abbrev pub cells_fit : DataType → List Cell → Bool
cells_fit data_type = cells_fit_at (out-DataType data_type)

-- why a cell is not appended, by whether it is of the type, and whether the bytes of all fit with its own
abbrev pub IsRefusedCell : Bool → Bool → Error → Type 0
IsRefusedCell false fits error = IsTrue (is_invalid_argument error)
IsRefusedCell true true error = IsWantOfMemory error
IsRefusedCell true false error = IsWantOfMemory error ⊎ (error ≡ kind.Overflow)
