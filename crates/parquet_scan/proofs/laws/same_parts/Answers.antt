use Rattle.parquet_scan.specs.Scan.{request_of}
use Rattle.parquet_scan.proofs.SameFiles.{have_same_scan}
use Rattle.parquet_scan.proofs.laws.same_parts.Goals as goal

pub returns : goal.returns
returns c = have_same_scan (request_of c.args._schema.now c.args._bounds.now c.args._chunk_size c.args._limit) c.args._first.now c.args._second.now
