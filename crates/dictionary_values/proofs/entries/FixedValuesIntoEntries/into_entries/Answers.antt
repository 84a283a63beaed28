use Rattle.std.proofs.Common.{◌≡◌, ◌∙◌, ap, map, subst, sym, ℕ}
use Rattle.std.proofs.lemmas.Result.{IfOk-weaker}
use Rattle.columns_core.specs.Column.{cell_of}
use Rattle.columns_core.specs.ElementType.{fixed_size}
use Rattle.columns_core.specs.Fixed.{ArePieces, fixed_pieces}
use Rattle.columns_core.specs.declared.cell.Cell.{Bytes}
use Rattle.std.proofs.Common.{None}
use Rattle.dictionary_values.proofs.EntryLemmas.{all-there, fits-alone, no-mask}
use Rattle.dictionary_values.proofs.entries.FixedValuesIntoEntries.into_entries.Goals as goal

pub returns-clause-cells : goal.returns-clause-cells
returns-clause-cells c =
    let bytes = c.into_values.result.items in
    let size : fixed_size c.args.data_type ≡ c.args.dict.size = c.requires.fits ∙ sym c.requires.own in
    let items = ap (λ n. fixed_pieces n bytes) size ∙ c.into_values.ensures.items in
    IfOk-weaker c.try_new.result _ (λ array. map (cell_of Bytes) array.items ≡ map Bytes c.args.dict.items)
    (λ array e. ap (λ a. map (cell_of Bytes) a.items) e ∙ all-there Bytes (fixed_pieces (fixed_size c.args.data_type) bytes) ∙ ap (map Bytes) items) c.try_new.ensures.array

pub returns-clause-granted : goal.returns-clause-granted
returns-clause-granted c =
    let bytes = c.into_values.result.items in
    let size : fixed_size c.args.data_type ≡ c.args.dict.size = c.requires.fits ∙ sym c.requires.own in
    let P : ℕ → Type 0 = λ n. ArePieces n bytes None in
    fits-alone c.try_new.result (subst P (sym size) (record { has_size = c.into_values.ensures.size; whole = c.into_values.ensures.whole; fits = no-mask (fixed_pieces c.args.dict.size bytes) })) c.try_new.ensures.err
