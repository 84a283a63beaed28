-- What is wrong behind a file's footer is told of a legal request.
use Rattle.std.proofs.Common.{◌≡◌, ℕ, true, List, sym, subst}
use Rattle.std.specs.Prelude.{Option, Some, None, option_map, IfErr, IfSome, IsTrue, Result, Ok, Err}
use Rattle.columns_core.specs.Causes.{Cause, cause_of}
use Rattle.columns_core.specs.declared.error.Error.{Error}
use Rattle.columns_core.specs.declared.error.Error.TheVariants as error
use Rattle.parquet_meta.specs.File.{footer}
use Rattle.parquet_meta.specs.Source.{Finds}
use Rattle.parquet_meta.specs.declared.metadata.FileMetaData.{FileMetaData}
use Rattle.parquet_scan.specs.Request.{Request, is_legal}
use Rattle.parquet_scan.specs.Rows.{file_with}
use Rattle.parquet_scan.specs.Scan.{OnFile}

-- the file that the source tells, if it has metadata, may be asked for this
abbrev pub AsksLegally : Request → Option (List ℕ) → Type 0
AsksLegally request told = OnFile told (λ file. IsTrue (is_legal request (Some file.metadata)))

pub asks_legally : (request : Request) (told : Option (List ℕ)) (metadata : FileMetaData) (o : Option Cause) → IfSome told (λ bytes. footer bytes ≡ Some metadata) → is_legal request (Some metadata) ≡ true
    → IfSome o (λ _. AsksLegally request told)
asks_legally request told metadata None at legal = tt
asks_legally request None metadata (Some cause) at legal = tt
asks_legally request (Some bytes) metadata (Some cause) at legal = subst (λ (o : Option FileMetaData). IfSome (option_map (file_with bytes) o) (λ file. IsTrue (is_legal request (Some file.metadata)))) (sym at) legal

-- without metadata nothing is said of the request
pub no_file : (request : Request) (told : Option (List ℕ)) (before now : ℕ) (e : Error) → Finds (λ (metadata : FileMetaData). metadata) footer told before now (Err e) → IfSome (cause_of e) (λ _. AsksLegally request told)
no_file request told before now (error.InvalidArgumentError p) finds = tt
no_file request told before now (error.NotYetImplemented p) finds = absurd finds
no_file request None before now (error.ExternalFormat p) finds = tt
no_file request (Some bytes) before now (error.ExternalFormat p) finds = subst (λ (o : Option FileMetaData). IfSome (option_map (file_with bytes) o) (λ file. IsTrue (is_legal request (Some file.metadata)))) (sym finds) tt
no_file request told before now (error.OutOfSpec p) finds = absurd finds
no_file request told before now error.Overflow finds = absurd finds
no_file request told before now error.Io finds = tt
no_file request told before now error.OutOfMemory finds = tt

pub each_error : {T E : Type 0} {Q : E → Type 0} (r : Result T E) → ((e : E) → Q e) → IfErr r Q
each_error (Ok x) f = tt
each_error (Err e) f = f e
