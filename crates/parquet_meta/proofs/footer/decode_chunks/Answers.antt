use Rattle.std.proofs.lemmas.Result.{err_from_is_err_and}
use Rattle.parquet_thrift.specs.Values.{in_list}
use Rattle.parquet_meta.specs.Footer.{column_chunk}
use Rattle.parquet_meta.proofs.Rules.{list_goes_on, list_fails, list_ends}
use Rattle.parquet_meta.proofs.Steps.{refuses-on}
use Rattle.parquet_meta.proofs.footer.decode_chunks.Goals as goal

pub returns-in_err-chunk : goal.returns-in_err-chunk
returns-in_err-chunk c =
    let p = err_from_is_err_and c.from_residual-in_err-chunk.result c.from_residual-in_err-chunk.ensures.1 in
    rw (p.1, p.2) (refuses-on _ _ _ _
    (λ none. list_fails column_chunk c.args.kind c.args.count c.args.compact.now c.chunks.counter c.chunks.chunks c.chunks.compact c.chunks.invariant c.chunks-test.true none)
    (c.in_err-chunk.ensures in_list))

pub chunks-preserved : goal.chunks-preserved
chunks-preserved c =
    let one = c.in_ok-chunk.ensures in_list in
    rw c.in_ok-push.ensures.pushed
    (list_goes_on column_chunk c.args.kind c.args.count c.args.compact.now c.chunks.counter c.chunks.chunks c.chunks.compact c.in_ok-chunk.chunk c.decode.new.compact
    c.chunks.invariant c.chunks-test.true one.0 one.1)

pub returns : goal.returns
returns c =
    (list_ends column_chunk c.args.kind c.args.count c.args.compact.now c.chunks.counter c.chunks.chunks c.chunks.compact c.chunks.invariant c.chunks-test.false, c.chunks.invariant.whole)
