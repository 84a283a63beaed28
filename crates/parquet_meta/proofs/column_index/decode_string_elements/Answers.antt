use Rattle.std.proofs.lemmas.Result.{err_from_is_err_and}
use Rattle.parquet_thrift.specs.Values.{in_list}
use Rattle.parquet_meta.specs.Meaning.{byte_string}
use Rattle.parquet_meta.proofs.Rules.{list_goes_on, list_fails, list_ends}
use Rattle.parquet_meta.proofs.Steps.{refuses-on}
use Rattle.parquet_meta.proofs.column_index.decode_string_elements.Goals as goal

pub returns-in_err-string : goal.returns-in_err-string
returns-in_err-string c =
    let p = err_from_is_err_and c.from_residual.result c.from_residual.ensures.1 in
    rw (p.1, p.2) (refuses-on _ _ _ _
    (λ none. list_fails byte_string c.args.kind c.args.count c.args.compact.now c.elements.counter c.elements.strings c.elements.compact c.elements.invariant c.elements-test.true none)
    (c.in_err-string.ensures in_list))

pub elements-preserved : goal.elements-preserved
elements-preserved c =
    let one = c.in_ok-string.ensures in_list in
    rw c.in-Ok-push.ensures.ok
    (list_goes_on byte_string c.args.kind c.args.count c.args.compact.now c.elements.counter c.elements.strings c.elements.compact c.in_ok-string.string.now c.decode_bytes.new.compact
    c.elements.invariant c.elements-test.true one.0 one.1)

pub returns : goal.returns
returns c =
    (list_ends byte_string c.args.kind c.args.count c.args.compact.now c.elements.counter c.elements.strings c.elements.compact c.elements.invariant c.elements-test.false, c.elements.invariant.whole)
