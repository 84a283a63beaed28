use Rattle.std.proofs.Common.{◌<◌, length, rules}
use Rattle.parquet_scan.proofs.reading.read_if_given.Goals as goal

pub read_group-requires-clause-located : goal.read_group-requires-clause-located
read_group-requires-clause-located g c pruned =
    let some : 0 < length c.args.rows.runs.now = search rules in
    c.requires.located pruned some
