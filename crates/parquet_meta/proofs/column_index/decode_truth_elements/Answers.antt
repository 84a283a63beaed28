use Rattle.std.proofs.lemmas.Result.{err_from_is_err_and}
use Rattle.parquet_meta.specs.Meaning.{truth_element}
use Rattle.parquet_meta.proofs.Rules.{list_goes_on, list_fails, list_ends}
use Rattle.parquet_meta.proofs.Steps.{refuses-on}
use Rattle.parquet_meta.proofs.column_index.decode_truth_elements.Goals as goal

pub returns-in_err-decode_truth : goal.returns-in_err-decode_truth
returns-in_err-decode_truth c =
    let p = err_from_is_err_and c.from_residual.result c.from_residual.ensures.1 in
    rw (p.1, p.2) (refuses-on _ _ _ _
    (λ none. list_fails truth_element c.args.kind c.args.count c.args.compact.now c.elements.counter c.elements.truths.items c.elements.compact c.elements.invariant c.elements-test.true none)
    c.in_err-decode_truth.ensures)

pub elements-preserved : goal.elements-preserved
elements-preserved c =
    let one = c.in_ok-decode_truth.ensures in
    rw c.in_ok-push.ensures.items
    (list_goes_on truth_element c.args.kind c.args.count c.args.compact.now c.elements.counter c.elements.truths.items c.elements.compact c.in_ok-decode_truth.field-0 c.decode_truth.new.compact
    c.elements.invariant c.elements-test.true one.0 one.1)

pub returns : goal.returns
returns c =
    rw c.new.ensures
    (list_ends truth_element c.args.kind c.args.count c.args.compact.now c.elements.counter c.elements.truths.items c.elements.compact c.elements.invariant c.elements-test.false, c.elements.invariant.whole)
