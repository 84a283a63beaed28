-- The law of samples, for the sample that the bytes are.
use Rattle.std.proofs.Common.{arith}
use Rattle.parquet_scan.specs.Request.{Request}
use Rattle.parquet_scan.specs.Scan.{request_of}
use Rattle.sample_laws.proofs.SampleLaws.{sample_is_good}
use Rattle.sample_laws.proofs.laws.sample_holds.Goals as goal

pub returns : goal.returns
returns c =
    let request : Request = request_of c.args._schema.now c.args._bounds.now c.args._chunk_size c.args._limit in
    rw c.requires.bytes (
    sample_is_good c.args._rows c.args._seed c.requires.few (omega arith) request c.requires.asks.columns c.requires.asks.legal)
