use Rattle.std.proofs.Common.{◌≡◌, ◌∙◌, ap, refl, subst, sym}
use Rattle.std.specs.Prelude.{IsSomeAnd, OnOk, Result}
use borrow.Enum.Total.{values_d, values_d_at, values_o, values_o_at}
use Rattle.columns_core.specs.Shown.{Shown}
use Rattle.columns_core.specs.declared.cell.Cell.{Cell}
use Rattle.columns_core.specs.declared.error.Error.{Error}
use Rattle.parquet_statistics.specs.Flats.{IsPushed, flat_of}
use Rattle.parquet_statistics.specs.contracts.dyn_mutable.DynMutable as builders
use Rattle.parquet_statistics.specs.declared.dyn_mutable.DynMutable.{DynMutable, Flat}
use Rattle.parquet_statistics.proofs.PushLemmas.{appended, nested_refused, not_appended}
use Rattle.parquet_statistics.proofs.dyn_mutable.DynMutable.push_cell.Goals as goal

-- what a flat builder has in it
abbrev held : Shown → DynMutable → Shown
held blank builder = (values_d builders.enum 0 (blank, tt) builder).0

module _ (blank : Shown) (builder : DynMutable) (is : builder ≡ Flat blank) where
  flat_is : builder ≡ Flat (held blank builder)
  flat_is =
      let read : held blank (Flat blank) ≡ blank = λ i. (values_d_at builders.enum 0 (blank, tt) (blank, tt) i).0 in
      is ∙ ap Flat (sym (ap (held blank) is ∙ read))

pushed_own : {T : Type 0} (r : Result T Error) (builder : DynMutable) (cell : Cell) (new : Shown) (own : DynMutable) → own ≡ Flat new → OnOk r (IsSomeAnd (flat_of builder) (λ old. IsPushed old cell (Flat new)))
    → OnOk r (IsSomeAnd (flat_of builder) (λ old. IsPushed old cell own))
pushed_own r builder cell new own is pushed = subst (λ (own : DynMutable). OnOk r (IsSomeAnd (flat_of builder) (λ old. IsPushed old cell own))) (sym is) pushed

pub returns-in-Flat-clause-ok : goal.returns-in-Flat-clause-ok
returns-in-Flat-clause-ok c =
    let read = ap (values_o builders.enum 0) c.in-Flat.is ∙ values_o_at builders.enum 0 (c.in-Flat.builder, tt) in
    pushed_own c.push_cell.result c.args.self.now c.args.cell.now c.push_cell.new.self _ (rw read refl)
    (appended c.args.self.now (held c.in-Flat.builder c.args.self.now) c.args.cell.now (flat_is c.in-Flat.builder c.args.self.now c.in-Flat.is) c.push_cell.result c.push_cell.new.self
    c.push_cell.ensures.ok c.push_cell.ensures.typed c.push_cell.ensures.fits)

pub returns-in-Flat-clause-err : goal.returns-in-Flat-clause-err
returns-in-Flat-clause-err c =
    not_appended c.args.self.now (held c.in-Flat.builder c.args.self.now) c.args.cell.now (flat_is c.in-Flat.builder c.args.self.now c.in-Flat.is) c.push_cell.result c.push_cell.ensures.err

pub returns-in-Dictionary-clause-err : goal.returns-in-Dictionary-clause-err
returns-in-Dictionary-clause-err c = nested_refused c.args.self.now c.args.cell.now _ refl c.in-Dictionary.is

pub returns-in-Dictionary-2-clause-err : goal.returns-in-Dictionary-2-clause-err
returns-in-Dictionary-2-clause-err c = nested_refused c.args.self.now c.args.cell.now _ refl c.in-Dictionary.is

pub returns-in-Dictionary-3-clause-err : goal.returns-in-Dictionary-3-clause-err
returns-in-Dictionary-3-clause-err c = nested_refused c.args.self.now c.args.cell.now _ refl c.in-Dictionary.is

pub returns-in-Dictionary-4-clause-err : goal.returns-in-Dictionary-4-clause-err
returns-in-Dictionary-4-clause-err c = nested_refused c.args.self.now c.args.cell.now _ refl c.in-Dictionary.is
