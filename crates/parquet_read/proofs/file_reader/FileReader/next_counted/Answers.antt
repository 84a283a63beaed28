use Rattle.std.proofs.Common.{[], ◌∷◌, None, Some, Err, Ok, inr, refl, subst, sym}
use Rattle.parquet_read.specs.FileReader.{GivesFileRows, OpensNext}
use Rattle.parquet_read.proofs.FileLemmas.{gives_rows, replaced_nearer}
use Rattle.parquet_read.proofs.file_reader.FileReader.next_counted.Goals as goal

pub loop-self-init : goal.loop-self-init
loop-self-init g c = ([], refl)

pub loop-self-smaller : goal.loop-self-smaller
loop-self-smaller g c =
    let opens = subst (λ found. OpensNext g.S.Source c.loop-self.self (Some found) c.open_next.new.self) c.in_default.is c.in_ok-error.ensures in
    replaced_nearer g.S.Source c.loop-self.self (Ok opens.0) c.open_next.new.self opens.1

pub loop-self-preserved : goal.loop-self-preserved
loop-self-preserved g c = (
  c.loop-self.self ∷ c.loop-self.invariant.0,
  (
    c.loop-self.invariant.1,
    subst (λ found. OpensNext g.S.Source c.loop-self.self (Some found) c.open_next.new.self) c.in_default.is c.in_ok-error.ensures,
  ),
)

pub returns-in_err-error : goal.returns-in_err-error
returns-in_err-error g c =
    subst (λ result. GivesFileRows g.S.Source c.args.self.now result c.open_next.new.self c.args.steps.now c.args.steps.now) (sym c.from_residual.ensures)
    (gives_rows g.S.Source c.loop-self.invariant.0 c.args.self.now c.loop-self.self None c.open_next.new.self c.args.steps.now c.args.steps.now c.loop-self.invariant.1 (c.in_err-error.ensures, refl))

pub returns-in-Err : goal.returns-in-Err
returns-in-Err g c =
    let opens = subst (λ found. OpensNext g.S.Source c.loop-self.self (Some found) c.open_next.new.self) c.in-Err.is c.in_ok-error.ensures in
    gives_rows g.S.Source c.loop-self.invariant.0 c.args.self.now c.loop-self.self (Some (Err c.in-Err.error)) c.open_next.new.self c.args.steps.now c.args.steps.now c.loop-self.invariant.1
    (inr (opens, refl))

pub returns : goal.returns
returns g c =
    gives_rows g.S.Source c.loop-self.invariant.0 c.args.self.now c.loop-self.self c.next_rows.result c.next_rows.new.self c.args.steps.now c.next_rows.new.steps c.loop-self.invariant.1 c.next_rows.ensures
