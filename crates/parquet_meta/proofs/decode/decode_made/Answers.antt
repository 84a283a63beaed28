use Rattle.std.proofs.lemmas.Result.{err_from_is_err_and}
use Rattle.parquet_meta.proofs.Steps.{made_refuses, made_gives}
use Rattle.parquet_meta.proofs.decode.decode_made.Goals as goal

pub returns-in_err-read : goal.returns-in_err-read
returns-in_err-read g c = λ context. (
    let p = err_from_is_err_and c.from_residual.result c.from_residual.ensures.1 in
    rw (p.1, p.2) (made_refuses g.M.Memory.may_want context g.A.Decode.rule g.A.Make.make c.args.kind c.args.compact.now.rest _ (c.in_err-read.ensures context)))

pub returns : goal.returns
returns g c = λ context. (
    let read = c.in_ok-read.ensures context in
    made_gives g.M.Memory.may_want context g.A.Decode.rule g.A.Make.make c.args.kind c.args.compact.now c.in_ok-read.read c.decode.new.compact c.make.result read.0 read.1 c.make.ensures)
