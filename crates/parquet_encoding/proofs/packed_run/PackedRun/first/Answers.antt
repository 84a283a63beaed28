use Rattle.std.proofs.Common.{◌+◌, ◌*◌, ◌∙◌, ap, sym, Some}
use Rattle.parquet_encoding.proofs.BitsLemmas.{first_packed}
use Rattle.parquet_encoding.proofs.packed_run.PackedRun.first.Goals as goal

pub returns : goal.returns
returns c = let run = c.args.self.now in first_packed c.args.bytes.now run.width (8 * run.place + run.bit) run.count c.requires.some ∙ ap Some (sym c.value_at.ensures)
