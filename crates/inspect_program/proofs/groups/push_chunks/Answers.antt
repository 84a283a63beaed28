use Rattle.std.proofs.Common.{◌<◌, ◌≤◌, arith, false, length, min}
use Rattle.std.proofs.lemmas.List.{get_or_default}
use Rattle.std.proofs.lemmas.Result.{err_from_is_err_and}
use Rattle.inspect_program.proofs.GroupLemmas.{chunk_failed, chunk_told, chunks_told}
use Rattle.inspect_program.proofs.groups.push_chunks.Goals as goal

pub returns-in_err-push_chunk : goal.returns-in_err-push_chunk
returns-in_err-push_chunk g c =
    let p = err_from_is_err_and c.from_residual.result c.from_residual.ensures.1 in
    let singles = c.args.singles.now in
    let columns = c.as_slice-columns.result.now in
    let i = c.loop-i.i in
    let first : i < length singles = omega arith in
    let second : i < length columns = omega arith in
    rw (p.1, p.2, ← c.as_slice-columns.ensures)
    (chunk_failed c.args.group.now.num_rows singles columns c.push_chunk.new.text i _ c.index-columns-i.result first second (get_or_default singles i false _ first) c.index-columns-i.is c.loop-i.invariant c.in_err-push_chunk.ensures)

pub loop-i-preserved : goal.loop-i-preserved
loop-i-preserved g c =
    let singles = c.args.singles.now in
    let columns = c.as_slice-columns.result.now in
    let i = c.loop-i.i in
    let first : i < length singles = omega arith in
    let second : i < length columns = omega arith in
    chunk_told c.args.group.now.num_rows singles columns tt i _ c.index-columns-i.result first second (get_or_default singles i false _ first) c.index-columns-i.is c.loop-i.invariant c.in_ok-push_chunk.ensures

pub returns : goal.returns
returns g c =
    let singles = c.args.singles.now in
    let columns = c.as_slice-columns.result.now in
    let whole : min (length singles) (length columns) ≤ c.loop-i.i = omega arith in
    rw (← c.as_slice-columns.ensures) (chunks_told c.args.group.now.num_rows singles columns c.loop-i.i whole c.loop-i.invariant)
