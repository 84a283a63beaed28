use Rattle.std.proofs.Common.{◌∙◌, ap, take}
use Rattle.std.specs.Prelude.{nat_le}
use Rattle.std.specs.List.{list_all}
use Rattle.std.proofs.lemmas.Bool.{le-leb}
use Rattle.parquet_encoding.specs.HybridRun.{run_values}
use Rattle.parquet_page.proofs.LevelLemmas.{low_copies}
use Rattle.parquet_page.proofs.level_runs.low_front.Goals as goal

pub returns-then-value-top-clause-low : goal.returns-then-value-top-clause-low
returns-then-value-top-clause-low c =
    let count = c.in-Repeated.count in
    ap (λ run. list_all (λ level. nat_le level c.args.top) (take count (run_values run c.args.bytes.now))) c.in-Repeated.is
    ∙ low_copies (λ level. nat_le level c.args.top) count c.in-Repeated.value (le-leb c.in-Repeated.value c.args.top c.if-value-top.true)
