use Rattle.std.proofs.Common.{length, map, refl, inl}
use Rattle.std.proofs.lemmas.Result.{err_from_is_err_and}
use Rattle.columns_core.specs.declared.error.Error.TheVariants as error
use Rattle.columns_core.specs.declared.error.Part.TheVariants as part
use Rattle.parquet_read.proofs.AskLemmas.{made}
use Rattle.parquet_read.proofs.rows.next_chunk.Goals as goal

pub returns-in_err-arrays : goal.returns-in_err-arrays
returns-in_err-arrays g c =
    let p = err_from_is_err_and c.from_residual.result c.from_residual.ensures.1 in
    let e = c.in_err-arrays.ensures in
    rw (p.1, p.2) (record { answers = e.answers; asked = e.asked; given = tt; even = tt; refused = inl e.stopped })

pub returns : goal.returns
returns g c =
    let e = c.in_ok-arrays.ensures in
    let all = c.try_new.ensures in
    let m = made (length (map g.A.ColumnArrays.left c.args.columns.now)) e.answers c.in_ok-arrays.arrays.items c.try_new.result c.or.result (error.ExternalFormat part.Chunk)
    e.given refl all.chunk all.ok all.err c.or.ensures in
    record { answers = e.answers; asked = e.asked; given = m.given; even = m.even; refused = m.refused }
