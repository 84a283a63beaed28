-- From what a scan answers to what is reported.
use Rattle.std.proofs.Common.{◌≡◌, ℕ, ◌+◌, ◌≤◌, List, sym, subst, arith}
use Rattle.std.specs.Prelude.{Option, Some, None, Result, Ok, Err, IfNone, IfOk, IfSome}
use Rattle.columns_core.specs.declared.error.Error.{Error}
use Rattle.parquet_scan.specs.Costs.{most_bytes_taken}
use Rattle.parquet_scan.specs.Request.{Request}
use Rattle.parquet_scan.specs.Rows.{File, file_of}
use Rattle.parquet_scan.specs.Scan.{OnFile, ScanCosts}
use Rattle.scan_program.specs.Program.{OnCommand, Reports}
use Rattle.scan_program.specs.Words.{Command}

-- ---- facts about the command and the bytes

pub always : (o : Option Command) (told : Option (List ℕ)) (P : Command → List ℕ → Type 0) → ((command : Command) (bytes : List ℕ) → P command bytes) → OnCommand o told P
always None told P f = tt
always (Some command) None P f = tt
always (Some command) (Some bytes) P f = f command bytes

pub passed_up : (o : Option Command) (told : Option (List ℕ)) (P Q : Command → List ℕ → Type 0) → OnCommand o told P → ((command : Command) (bytes : List ℕ) → P command bytes → Q command bytes) → OnCommand o told Q
passed_up None told P Q h f = tt
passed_up (Some command) None P Q h f = tt
passed_up (Some command) (Some bytes) P Q h f = f command bytes h

pub no_command : (o : Option Command) (P : Type 0) → IfNone o ⊥ → IfNone o P
no_command None P h = absurd h
no_command (Some command) P h = tt

-- where a scan answers, the sample was not too great
pub no_sample : {X : Type 0} (sample : Option X) (P : X → Type 0) (o : Option Command) (Q : Type 0)
    → IfSome sample (λ x. P x → IfSome o (λ command. ⊥)) → IfSome sample (λ x. P x → IfSome o (λ command. Q))
no_sample None P o Q h = tt
no_sample (Some x) P None Q h = λ is. tt
no_sample (Some x) P (Some command) Q h = λ is. absurd (h is)

-- of the text that was made, all that holds of it
pub of_report : (o : Option Command) (told : Option (List ℕ)) (pages : ℕ) (text : List ℕ) (Q : List ℕ → Type 0) → Q text
    → IfSome o (λ command. Reports command told pages (λ found. found ≡ text)) → IfSome o (λ command. Reports command told pages Q)
of_report None told pages text Q h reports = tt
of_report (Some command) told pages text Q h reports =
    record { scan = reports.scan; answers = reports.answers; lent = reports.lent; holds = subst Q (sym reports.holds) h }

-- ---- what a scan of a sample costs

idle : (told : Option (List ℕ)) (P : File → Type 0) → ((file : File) → P file) → OnFile told P
idle None P h = tt
idle (Some bytes) P h = on (file_of bytes) where
  on : (o : Option File) → IfSome o P
  on None = tt
  on (Some file) = h file

-- of a source that the scan does not look at nothing is taken
pub nothing_taken : {X : Type 0} (request : Request) (told : Option (List ℕ)) (steps steps_now before now : ℕ) (r : Result X Error) (taken : ℕ)
    → IfOk r (λ _. ScanCosts request told steps steps_now before now) → IfOk r (λ _. ScanCosts request told steps steps_now taken taken)
nothing_taken request told steps steps_now before now (Err e) taken costs = tt
nothing_taken request told steps steps_now before now (Ok x) taken costs =
    record { pages_lent = costs.pages_lent; most_pages = costs.most_pages; taken = idle told (λ file. taken ≤ taken + most_bytes_taken request file) (λ file. omega arith) }
