-- What a call promises that adds to a text what it reads in a file.
use Rattle.std.specs.Prelude.{ℕ, ◌+◌, ◌≤◌, List, Result, IfErr, IfSome}
use Rattle.columns_core.specs.Causes.{Cause}
use Rattle.columns_core.specs.declared.error.Error.{Error}
use Rattle.columns_core.specs.declared.error.Error.TheVariants as error
use Rattle.parquet_meta.specs.Reads.{ReadsFile}
use Rattle.parquet_meta.specs.declared.source.Source.{Ghosts}
use Rattle.pq_common.specs.Texts.{AddsText}

-- Damage, a value out of range, a failed read or want of memory: each guess is carried, and no text is looked at.
abbrev pub IsOfInspection : Error → Type 0
IsOfInspection (error.ExternalFormat part) = Unit {0}
IsOfInspection error.Overflow = Unit {0}
IsOfInspection error.Io = Unit {0}
IsOfInspection error.OutOfMemory = Unit {0}
IsOfInspection (error.InvalidArgumentError part) = ⊥
IsOfInspection (error.NotYetImplemented part) = ⊥
IsOfInspection (error.OutOfSpec part) = ⊥

-- what may be wrong with a part of the inspection, its text, and how many bytes are read for it at most
pub record Section : Type 0 where
  pub causes : List ℕ → List Cause
  pub text : List ℕ → List ℕ
  pub length : ℕ

-- The section's text is added. What the text is behind an error is not told.
pub record Tells {S T : Type 0} (g : Ghosts S) (old new : S) (section : Section) (before after : List ℕ) (result : Result T Error) : Type 0 where
  pub reads : ReadsFile g old new section.causes result
  pub adds : IfSome (g.told old) (λ bytes. AddsText (section.text bytes) before result after)
  pub carried : IfErr result IsOfInspection
  pub taken : g.taken new ≤ g.taken old + section.length
