use Rattle.std.proofs.lemmas.Result.{err_from_is_err_and}
use Rattle.parquet_thrift.specs.Values.{in_list}
use Rattle.parquet_meta.proofs.Rules.{list_goes_on, list_fails, list_ends}
use Rattle.parquet_meta.proofs.Steps.{refuses-on}
use Rattle.parquet_meta.proofs.decode.decode_elements.Goals as goal

pub returns-in_err-decode : goal.returns-in_err-decode
returns-in_err-decode g c =
    let p = err_from_is_err_and c.from_residual-in_err-decode.result c.from_residual-in_err-decode.ensures.1 in
    rw (p.1, p.2) (refuses-on _ _ _ _
    (λ none. list_fails g.T.Decode.rule c.args.kind c.args.count c.args.compact.now c.elements.counter c.elements.items.items c.elements.compact c.elements.invariant c.elements-test.true none)
    (c.in_err-decode.ensures in_list))

pub elements-preserved : goal.elements-preserved
elements-preserved g c =
    let one = c.in_ok-decode.ensures in_list in
    rw c.in_ok-push.ensures.items
    (list_goes_on g.T.Decode.rule c.args.kind c.args.count c.args.compact.now c.elements.counter c.elements.items.items c.elements.compact c.in_ok-decode.field-0 c.decode.new.compact
    c.elements.invariant c.elements-test.true one.0 one.1)

pub returns : goal.returns
returns g c =
    rw c.new.ensures
    (list_ends g.T.Decode.rule c.args.kind c.args.count c.args.compact.now c.elements.counter c.elements.items.items c.elements.compact c.elements.invariant c.elements-test.false, c.elements.invariant.whole)
