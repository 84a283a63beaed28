use Rattle.std.proofs.Common.{◌∙◌, ap, arith}
use Rattle.parquet_base.specs.Intervals.{is_well_shaped}
use Rattle.parquet_scan.proofs.KeptLemmas.{apart_shaped}
use Rattle.parquet_scan.proofs.given.given_of_group.Goals as goal

pub returns-in_default-clause-shaped : goal.returns-in_default-clause-shaped
returns-in_default-clause-shaped c =
    let group = c.args.group.now in
    ap (λ runs. is_well_shaped runs group.rows) (c.in_ok-from_slice.ensures.items ∙ c.as_slice-runs.ensures) ∙ apart_shaped 0 group.intervals group.rows (omega arith) c.requires.apart

pub returns-clause-shaped : goal.returns-clause-shaped
returns-clause-shaped c =
    let group = c.args.group.now in
    c.in_ok-given.ensures.shaped group.rows (ap (λ runs. is_well_shaped runs group.rows) c.as_slice-runs.ensures ∙ apart_shaped 0 group.intervals group.rows (omega arith) c.requires.apart)
