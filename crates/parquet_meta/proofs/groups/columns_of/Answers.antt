use Rattle.std.proofs.Common.{sym, ap, ◌∙◌, true, arith}
use Rattle.std.proofs.lemmas.Result.{err_from_is_err_and}
use Rattle.parquet_meta.specs.File.{columns_of}
use Rattle.parquet_meta.proofs.Steps.{refuses-on}
use Rattle.parquet_meta.proofs.UnplacedLemmas.{goes_on, fails, ends, other_length}
use Rattle.parquet_meta.proofs.groups.columns_of.Goals as goal

pub returns-then-len-leaves : goal.returns-then-len-leaves
returns-then-len-leaves c =
    let parts = c.into_parts-columns in
    ap (columns_of c.args.leaves.now) (sym parts.ensures.same)
    ∙ other_length c.args.leaves.now parts.result.0.items parts.result.1.items parts.ensures.length (λ e. absurd (omega (arith, e, c.len.ensures, c.if-len-leaves.true, parts.result.0.ok.0)))

pub returns-in_err-put_beside : goal.returns-in_err-put_beside
returns-in_err-put_beside c =
    let parts = c.into_parts-columns in
    let p = err_from_is_err_and c.from_residual.result c.from_residual.ensures.1 in
    rw (p.1, p.2) (refuses-on true _ _ _
    (λ none. ap (columns_of c.args.leaves.now) (sym parts.ensures.same)
    ∙ fails c.args.leaves.now parts.result.0.items parts.result.1.items c.leaves.index c.leaves.columns.items c.index-leaves-index.result c.index_mut.result.now c.index.result.now
    c.leaves.invariant c.leaves-test.true c.index-leaves-index.is c.index_mut.ensures.value c.index.ensures none)
    c.in_err-put_beside.ensures.refused)

pub leaves-preserved : goal.leaves-preserved
leaves-preserved c =
    let parts = c.into_parts-columns in
    goes_on c.args.leaves.now parts.result.0.items parts.result.1.items c.leaves.index c.leaves.columns.items c.index-leaves-index.result c.index_mut.result.now c.put_beside.new.column c.index.result.now
    c.leaves.invariant c.leaves-test.true c.index-leaves-index.is c.index_mut.ensures.value c.index.ensures c.in_ok-put_beside.ensures.placed

pub returns : goal.returns
returns c =
    let parts = c.into_parts-columns in
    rw c.new.ensures
    (ap (columns_of c.args.leaves.now) (sym parts.ensures.same)
    ∙ ends c.args.leaves.now parts.result.0.items parts.result.1.items c.leaves.index c.leaves.columns.items c.leaves.invariant c.leaves-test.false)
