-- What a run of the program answers.
use Rattle.std.specs.Prelude.{◌≡◌, ℕ, ◌-◌, ◌^◌, Bool, List, map, min, Option, IfSome, IsTrue, String, string_bytes}
use Rattle.std.specs.declared.alloc.Global.{Global}
use Rattle.columns_core.specs.declared.error.Error.{Error}
use Rattle.parquet_meta.specs.File.{footer}
use Rattle.parquet_scan.specs.Cells.{columns_of_chunk}
use Rattle.parquet_scan.specs.Request.{Request, is_legal}
use Rattle.parquet_scan.specs.Scan.{Answers, RefusesScan, kept_of}
use Rattle.parquet_scan.specs.declared.scanning.Scan.{Scan}
use Rattle.pq_common.specs.Endings.{status_of_error}
use Rattle.pq_common.specs.declared.status.Status.{Status}
use Rattle.scan_program.specs.Report.{report}
use Rattle.scan_program.specs.Words.{Command, spelled_command}

abbrev pub command_in : List (String Global) → Option Command
command_in words = spelled_command (map string_bytes words)

-- a fact about the command that the words spell and the bytes that the source tells, where they do
abbrev pub OnCommand : Option Command → Option (List ℕ) → (Command → List ℕ → Type 0) → Type 0
OnCommand command told P = IfSome command (λ command. IfSome told (P command))

abbrev pub IsLegal : Command → List ℕ → Type 0
IsLegal command bytes = IsTrue (is_legal command.request (footer bytes))

-- how many pages were lent between two counts, up to the greatest number that is shown
abbrev pub lent_between : ℕ → ℕ → ℕ
lent_between before now = min (now - before) (2 ^ 64 - 1)

-- the report on what a scan gave, or its summary
abbrev pub report_of : Bool → Scan → List ℕ
report_of summary scan = report summary (map kept_of scan.kept) (map columns_of_chunk scan.chunks) scan.rows scan.pages

-- This holds of the report on a scan that answers the command's request, of which so many pages were lent.
pub record Reports (command : Command) (told : Option (List ℕ)) (pages : ℕ) (P : List ℕ → Type 0) : Type 0 where
  pub scan : Scan
  pub answers : Answers command.request told scan
  pub lent : scan.pages ≡ pages
  pub holds : P (report_of command.summary scan)

-- The status is that of an error by which the scan refuses the request.
pub record IsStatusOfRefusal (request : Request) (told : Option (List ℕ)) (before now : ℕ) (status : Status) : Type 0 where
  pub error : Error
  pub as_status : status ≡ status_of_error error
  pub refuses : RefusesScan request told before now error
