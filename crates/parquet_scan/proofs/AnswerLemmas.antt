-- What a scan answers and what it refuses, from its parts.
use Rattle.std.proofs.Common.{◌≡◌, ◌∙◌, ℕ, ◌≤◌, All, Bool, true, false, List, [], ◌∷◌, length, map, refl, sym, subst, arith, inl, inr}
use Rattle.std.specs.Prelude.{Contains, Option, Some, None, ◌&&◌, nat_lt, option_map, IfSome, IfOk, IfErr, IsTrue, Result, Ok, Err}
use Rattle.std.specs.List.{list_all}
use Rattle.std.specs.Option.{option_map_or}
use Rattle.std.proofs.lemmas.Bool.{false≢true}
use Rattle.std.proofs.lemmas.List.Elements.{Contains-push}
use Rattle.columns_core.specs.Causes.{Cause, ExternalFormat, IsOneOf, NotYetImplemented, OutOfSpec, Overflow, cause_of, is_invalid_argument}
use Rattle.columns_core.specs.Chunk.{AreEqualLengths}
use Rattle.columns_core.specs.declared.error.Error.{Error}
use Rattle.columns_core.specs.declared.error.Error.TheVariants as error
use Rattle.columns_core.specs.declared.error.Part.{Part}
use Rattle.parquet_base.specs.Failures.{MayFail}
use Rattle.parquet_meta.specs.File.{footer}
use Rattle.parquet_meta.specs.Source.{Finds, IsReadFailure}
use Rattle.parquet_meta.specs.declared.metadata.FileMetaData.{FileMetaData}
use Rattle.parquet_scan.specs.Causes.{IsValid, causes, file_causes}
use Rattle.parquet_scan.specs.Cells.{columns_of_chunk, given_chunks}
use Rattle.parquet_scan.specs.Request.{Request, are_distinct, bounded_name, is_legal, is_legal_bound_of, name_of_field, names_columns}
use Rattle.parquet_scan.specs.Rows.{file_with, given_row_count}
use Rattle.parquet_scan.specs.Scan.{Answers, IsApart, IsSound, OnFile, RefusesScan, chunk_shapes, kept_groups, kept_of, rows_in, shape_of}
use Rattle.parquet_scan.specs.declared.scanning.Scan.{Scan}
use Rattle.parquet_scan.proofs.CauseLemmas.{ComesFrom}
use Rattle.parquet_scan.proofs.GivenCells.{own_chunks}
use Rattle.parquet_scan.proofs.LegalLemmas.{AsksLegally}
use Rattle.page_decoding.proofs.NextLemmas.{nothing_wrong}

-- ---- answers

-- a request that is legal by the file's metadata
pub legal_told : (request : Request) (told : Option (List ℕ)) (metadata : FileMetaData) → IfSome told (λ bytes. footer bytes ≡ Some metadata) → is_legal request (Some metadata) ≡ true
    → IfSome told (λ bytes. IsTrue (is_legal request (footer bytes)))
legal_told request None metadata at legal = tt
legal_told request (Some bytes) metadata at legal = subst (λ (o : Option FileMetaData). IsTrue (is_legal request o)) (sym at) legal

-- and so one that is legal as far as that hangs on no file
pub legal_alone : (request : Request) (metadata : FileMetaData) → is_legal request (Some metadata) ≡ true → IsTrue (is_legal request None)
legal_alone request metadata legal =
    without (nat_lt 0 (length request.fields)) (names_columns request (Some metadata)) (are_distinct name_of_field request.fields) (option_map_or (nat_lt 0) request.chunk_size true)
    (list_all (is_legal_bound_of request.fields) request.bounds) (are_distinct bounded_name request.bounds) legal where
      without : (a b c d e f : Bool) → (a && b && c && d && e && f) ≡ true → (a && true && c && d && e && f) ≡ true
      without true true c d e f h = h
      without true false c d e f h = absurd (false≢true h)
      without false b c d e f h = absurd (false≢true h)

pub answers : (request : Request) (told : Option (List ℕ)) (r : Result Scan Error)
    → IsTrue (is_legal request None) → IfSome told (λ bytes. IsTrue (is_legal request (footer bytes))) → IfOk r (λ _. IfSome told (IsValid request))
    → IfOk r (λ scan. OnFile told (λ file. map kept_of scan.kept ≡ kept_groups request file))
    → IfOk r (λ scan. OnFile told (λ file. given_chunks request file ≡ Some (map columns_of_chunk scan.chunks)))
    → IfOk r (λ scan. OnFile told (λ file. scan.rows ≡ given_row_count request file))
    → IfOk r (λ scan. OnFile told (λ file. IsSound request file (map kept_of scan.kept)))
    → IfOk r (λ scan. map shape_of scan.chunks ≡ chunk_shapes request scan.kept) → IfOk r (λ scan. All IsApart scan.kept) → IfOk r (λ scan. All AreEqualLengths scan.chunks) → IfOk r (λ scan. scan.rows ≡ rows_in scan.chunks)
    → IfOk r (Answers request told)
answers request told (Err e) asked legal valid kept chunks rows sound shapes apart even own = tt
answers request told (Ok scan) asked legal valid kept chunks rows sound shapes apart even own = record {
  legal = legal;
  valid = valid;
  kept = kept;
  chunks = chunks;
  as_cells = own_chunks request (Ok scan) told (λ (scan : Scan). map columns_of_chunk scan.chunks) chunks;
  rows = rows;
  sound = sound;
  asked = asked;
  shapes = shapes;
  apart = apart;
  even = even;
  own_rows = own;
}

-- ---- refusals

abbrev Caused : Request → Option (List ℕ) → Error → Type 0
Caused request told e = IfSome (cause_of e) (λ cause. IfSome told (λ bytes. Contains (causes request bytes) cause))

abbrev Completes : Request → Option (List ℕ) → ℕ → ℕ → Error → Type 0
Completes request told before now e =
    IfSome told (λ bytes. IsTrue (is_legal request (footer bytes)) → IsValid request bytes → (MayFail before now → ⊥) → e ≡ error.OutOfMemory)

-- a cause of the file is none of a valid one
no_cause : (request : Request) (told : Option (List ℕ)) (before now : ℕ) (e : Error) (cause : Cause) → IfSome told (λ bytes. Contains (causes request bytes) cause) → Completes request told before now e
no_cause request None before now e cause k = tt
no_cause request (Some bytes) before now e cause k = λ legal valid whole.
    absurd (nothing_wrong (Some cause) (subst (λ (found : List Cause). Contains found cause) valid.none k))

completes : (request : Request) (told : Option (List ℕ)) (before now : ℕ) (e : Error) → (IsTrue (is_invalid_argument e) → ⊥) → Caused request told e → (e ≡ error.Io → MayFail before now) → Completes request told before now e
completes request told before now (error.InvalidArgumentError p) argument cause io = absurd (argument refl)
completes request told before now (error.NotYetImplemented p) argument cause io = no_cause request told before now (error.NotYetImplemented p) NotYetImplemented cause
completes request told before now (error.ExternalFormat p) argument cause io = no_cause request told before now (error.ExternalFormat p) ExternalFormat cause
completes request told before now (error.OutOfSpec p) argument cause io = no_cause request told before now (error.OutOfSpec p) OutOfSpec cause
completes request told before now error.Overflow argument cause io = no_cause request told before now error.Overflow Overflow cause
completes request None before now error.Io argument cause io = tt
completes request (Some bytes) before now error.Io argument cause io = λ legal valid whole. absurd (whole (io refl))
completes request None before now error.OutOfMemory argument cause io = tt
completes request (Some bytes) before now error.OutOfMemory argument cause io = λ legal valid whole. refl

-- an error of a legal request
pub refused : (request : Request) (told : Option (List ℕ)) (before now : ℕ) (e : Error) → (IsTrue (is_invalid_argument e) → ⊥) → (e ≡ error.Io → MayFail before now)
    → IfSome (cause_of e) (λ _. AsksLegally request told) → Caused request told e → RefusesScan request told before now e
refused request told before now e argument io legal cause = record {
  argument = λ h. absurd (argument h);
  legal_first = legal;
  cause = cause;
  io = io;
  complete = completes request told before now e argument cause io;
}

-- a request that is not legal
pub illegal : (request : Request) (told : Option (List ℕ)) (metadata : FileMetaData) (before now : ℕ) (part : Part) → IfSome told (λ bytes. footer bytes ≡ Some metadata) → is_legal request (Some metadata) ≡ false
    → RefusesScan request told before now (error.InvalidArgumentError part)
illegal request None metadata before now part at legal = record {
  argument = λ h. tt;
  legal_first = tt;
  cause = tt;
  io = λ h. absurd cc;
  complete = tt;
}
illegal request (Some bytes) metadata before now part at legal =
    let not_legal : is_legal request (footer bytes) ≡ false = subst (λ (o : Option FileMetaData). is_legal request o ≡ false) (sym at) legal in
    record {
      argument = λ h. not_legal;
      legal_first = tt;
      cause = tt;
      io = λ h. absurd cc;
      complete = λ asked valid whole. absurd (false≢true (sym not_legal ∙ asked));
    }

-- of the footer
pub refused_by_footer : (request : Request) (told : Option (List ℕ)) (before now : ℕ) (e : Error) → Finds (λ (metadata : FileMetaData). metadata) footer told before now (Err e)
    → IfSome (cause_of e) (λ _. AsksLegally request told) → RefusesScan request told before now e
refused_by_footer request told before now e finds legal = refused request told before now e (argument e finds) (io e finds) legal (caused told e finds) where
  argument : (e : Error) → Finds (λ (metadata : FileMetaData). metadata) footer told before now (Err e) → IsTrue (is_invalid_argument e) → ⊥
  argument (error.InvalidArgumentError p) finds h = finds
  argument (error.NotYetImplemented p) finds h = finds
  argument (error.ExternalFormat p) finds h = false≢true h
  argument (error.OutOfSpec p) finds h = finds
  argument error.Overflow finds h = finds
  argument error.Io finds h = false≢true h
  argument error.OutOfMemory finds h = false≢true h

  io : (e : Error) → Finds (λ (metadata : FileMetaData). metadata) footer told before now (Err e) → e ≡ error.Io → MayFail before now
  io (error.InvalidArgumentError p) finds h = absurd finds
  io (error.NotYetImplemented p) finds h = absurd finds
  io (error.ExternalFormat p) finds h = absurd cc
  io (error.OutOfSpec p) finds h = absurd finds
  io error.Overflow finds h = absurd finds
  io error.Io finds h = finds
  io error.OutOfMemory finds h = absurd cc

  caused : (told : Option (List ℕ)) (e : Error) → Finds (λ (metadata : FileMetaData). metadata) footer told before now (Err e) → Caused request told e
  caused told (error.InvalidArgumentError p) finds = tt
  caused told (error.NotYetImplemented p) finds = absurd finds
  caused None (error.ExternalFormat p) finds = tt
  caused (Some bytes) (error.ExternalFormat p) finds =
      subst (λ (o : Option FileMetaData). Contains (option_map_or (file_causes request) (option_map (file_with bytes) o) (ExternalFormat ∷ [])) ExternalFormat) (sym finds) (Contains-push [] ExternalFormat)
  caused told (error.OutOfSpec p) finds = absurd finds
  caused told error.Overflow finds = absurd finds
  caused told error.Io finds = tt
  caused told error.OutOfMemory finds = tt

-- of causes that are known
pub refused_by_causes : (request : Request) (told : Option (List ℕ)) (before now : ℕ) (e : Error) (found : List Cause) → ComesFrom found e
    → IfSome (cause_of e) (λ _. AsksLegally request told) → Caused request told e → RefusesScan request told before now e
refused_by_causes request told before now e found tells legal cause = refused request told before now e (argument e tells) (io e tells) legal cause where
  argument : (e : Error) → ComesFrom found e → IsTrue (is_invalid_argument e) → ⊥
  argument e (inl h) k = false≢true (subst (λ x. IsTrue (is_invalid_argument x)) h k)
  argument (error.InvalidArgumentError p) (inr h) k = h
  argument (error.NotYetImplemented p) (inr h) k = false≢true k
  argument (error.ExternalFormat p) (inr h) k = false≢true k
  argument (error.OutOfSpec p) (inr h) k = false≢true k
  argument error.Overflow (inr h) k = false≢true k
  argument error.Io (inr h) k = false≢true k
  argument error.OutOfMemory (inr h) k = false≢true k

  io : (e : Error) → ComesFrom found e → e ≡ error.Io → MayFail before now
  io e (inl h) k = absurd cc
  io e (inr h) k = absurd (subst (λ x. IsOneOf found (cause_of x)) k h)

-- of the groups
pub refused_by_groups : (request : Request) (r : Result Scan Error) (told : Option (List ℕ)) (before mid now : ℕ) (found : List ℕ → List Cause) → before ≤ mid → IfErr r (IsReadFailure told mid now found)
    → IfErr r (λ e. IfSome (cause_of e) (λ _. AsksLegally request told)) → IfErr r (Caused request told) → IfErr r (RefusesScan request told before now)
refused_by_groups request (Ok scan) told before mid now found le fails legal cause = tt
refused_by_groups request (Err e) told before mid now found le fails legal cause = refused request told before now e (argument e fails) (io e fails) legal cause where
  argument : (e : Error) → IsReadFailure told mid now found e → IsTrue (is_invalid_argument e) → ⊥
  argument (error.InvalidArgumentError p) fails h = fails
  argument (error.NotYetImplemented p) fails h = false≢true h
  argument (error.ExternalFormat p) fails h = false≢true h
  argument (error.OutOfSpec p) fails h = false≢true h
  argument error.Overflow fails h = false≢true h
  argument error.Io fails h = false≢true h
  argument error.OutOfMemory fails h = false≢true h

  io : (e : Error) → IsReadFailure told mid now found e → e ≡ error.Io → MayFail before now
  io (error.InvalidArgumentError p) fails h = absurd fails
  io (error.NotYetImplemented p) fails h = absurd cc
  io (error.ExternalFormat p) fails h = absurd cc
  io (error.OutOfSpec p) fails h = absurd cc
  io error.Overflow fails h = absurd cc
  io error.Io fails h = omega (arith, le, fails)
  io error.OutOfMemory fails h = absurd cc
