use Rattle.std.proofs.Common.{◌≡◌, ◌∙◌, ap, map}
use Rattle.std.proofs.lemmas.Result.{IfOk-weaker}
use Rattle.columns_core.specs.Column.{cell_of}
use Rattle.dictionary_values.proofs.EntryLemmas.{all-there, fits-never, no-mask}
use Rattle.dictionary_values.proofs.entries.NumberValuesIntoEntries.into_entries.Goals as goal

pub returns-clause-cells : goal.returns-clause-cells
returns-clause-cells g c =
    let cell = g.T.NativeType.cell in
    IfOk-weaker c.try_new.result _ (λ array. map (cell_of cell) array.items ≡ map cell c.args.dict.items) (λ array e. ap (λ a. map (cell_of cell) a.items) e ∙ all-there cell c.args.dict.items) c.try_new.ensures.array

pub returns-clause-granted : goal.returns-clause-granted
returns-clause-granted g c = fits-never c.try_new.result c.requires.fits (no-mask c.args.dict.items) c.try_new.ensures.err
