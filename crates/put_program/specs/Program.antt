-- What a run of the program puts, and how it is refused.
use Rattle.std.specs.Prelude.{◌≡◌, ◌⊎◌, ◌<◌, ◌≤◌, ℕ, true, List, [], ◌∷◌, map, All, Option, Some, None, IfSome, IsFalse, IsTrue, String, string_bytes}
use Rattle.std.specs.declared.alloc.Global.{Global}
use Rattle.std.specs.List.{AllZip}
use Rattle.columns_core.specs.declared.array.Array.{Array}
use Rattle.columns_core.specs.declared.cell.Cell.{Cell}
use Rattle.columns_core.specs.declared.error.Error.{Error}
use Rattle.columns_core.specs.declared.error.Error.TheVariants as error
use Rattle.parquet_base.specs.Failures.{MayFail}
use Rattle.parquet_meta.specs.declared.source.Source.{Ghosts as Sources}
use Rattle.parquet_plain.specs.File.{plain_file}
use Rattle.pq_common.specs.Endings.{has_answer}
use Rattle.pq_common.specs.Written.{IsAppended, IsFrontAppended}
use Rattle.pq_common.specs.declared.sink.Sink.{Ghosts as Sinks}
use Rattle.pq_common.specs.declared.status.Status.{Status}
use Rattle.pq_common.specs.declared.status.Status.TheVariants.{Done, Words, Argument, NotCarried, Damaged, NotValid, Range, Reading, Writing, Memory}
use Rattle.put_program.specs.Lines.{Asked, asked, cells_of_text, field_of, file_of_lines, groups_of_cells}
use Rattle.put_program.specs.Put.{is_short_file}
use Rattle.put_program.specs.Request.{FitsField, columns_of_chunks}

abbrev pub asked_in : List (String Global) → Option Asked
asked_in words = asked (map string_bytes words)

-- This holds of the cells of lines, which are those of the source where it tells.
pub record OfLines (told : Option (List ℕ)) (P : List Cell → Type 0) : Type 0 where
  pub text : List ℕ
  pub of_source : IfSome told (λ bytes. text ≡ bytes)
  pub cells : List Cell
  pub of_lines : cells_of_text text ≡ Some cells
  pub holds : P cells

-- This holds of the bytes of the file of these lines, which readers take.
abbrev pub Puts : Asked → Option (List ℕ) → (List ℕ → Type 0) → Type 0
Puts asked told P =
    OfLines told (λ cells. IsTrue (is_short_file (file_of_lines asked cells)) × P (plain_file (file_of_lines asked cells)))

-- The chunks are the groups of these cells: arrays of numbers, which fit a field of any name.
pub record HoldCells (chunks : List (List Array)) (cells : List Cell) : Type 0 where
  pub groups : columns_of_chunks chunks ≡ groups_of_cells cells
  pub fit : (name : List ℕ) → All (AllZip FitsField (field_of name ∷ [])) chunks

-- Lines are refused that are not spelled or not ended; a read may fail, and memory may run out.
abbrev pub IsFailureOfLines : Option (List ℕ) → ℕ → ℕ → Error → Type 0
IsFailureOfLines told before now (error.ExternalFormat part) = IfSome told (λ text. cells_of_text text ≡ None)
IsFailureOfLines told before now error.Io = MayFail before now
IsFailureOfLines told before now error.OutOfMemory = Unit {0}
IsFailureOfLines told before now _ = ⊥

-- What a run leaves in the sink: at its end the file, and behind a failed write a front of it, not all. Otherwise the sink is as it was.
pub record WritesPut {K : Type 0} (g : Sinks K) (asked : Option Asked) (told : Option (List ℕ)) (old new : K) (status : Status) : Type 0 where
  pub done : status ≡ Done → IfSome asked (λ a. Puts a told (IsAppended (g.written old) (g.written new)))
  pub front : status ≡ Writing → IfSome asked (λ a. Puts a told (IsFrontAppended (g.written old) (g.written new)))
  pub nothing : IsFalse (has_answer status) → new ≡ old
  pub later : g.faults old ≤ g.faults new
  pub writing : status ≡ Writing → MayFail (g.faults old) (g.faults new)
  pub quiet : status ≡ Done → g.faults new ≡ g.faults old

-- Each refusal comes only where its own cause stands: pages have no rows, a line is not spelled or not ended, the file is too
-- large, or a read failed. No other refusal comes.
abbrev pub RefusesLines : Asked → Option (List ℕ) → ℕ → ℕ → Status → Type 0
RefusesLines asked told before now Argument = asked.page_rows ≡ 0
RefusesLines asked told before now Damaged = IfSome told (λ text. cells_of_text text ≡ None)
RefusesLines asked told before now Range = OfLines told (λ cells. IsFalse (is_short_file (file_of_lines asked cells)))
RefusesLines asked told before now Reading = MayFail before now
RefusesLines asked told before now NotCarried = ⊥
RefusesLines asked told before now NotValid = ⊥
RefusesLines asked told before now Words = ⊥
RefusesLines asked told before now Done = Unit {0}
RefusesLines asked told before now Writing = Unit {0}
RefusesLines asked told before now Memory = Unit {0}

-- Lines that are spelled and ended are put, where pages have rows, readers take the file, neither source nor sink may have
-- failed, and memory suffices.
abbrev pub PutsSoundLines : {S K : Type 0} → Sources S → Sinks K → Asked → S → S → K → K → Status → Type 0
PutsSoundLines source sink asked early late old new status =
    0 < asked.page_rows → IfSome (source.told early) (λ text. IfSome (cells_of_text text) (λ cells.
    is_short_file (file_of_lines asked cells) ≡ true
    → (MayFail (source.faults early) (source.faults late) → ⊥)
    → (MayFail (sink.faults old) (sink.faults new) → ⊥)
    → (status ≡ Done) ⊎ (status ≡ Memory)))

-- Pages without rows are refused before the source is asked.
pub record RefusesNoRows {S : Type 0} (early late : S) (status : Status) : Type 0 where
  pub refused : (status ≡ Argument) ⊎ (status ≡ Memory)
  pub untouched : late ≡ early
