use Rattle.std.proofs.Common.{All, ap, arith, subst, sym}
use Rattle.std.specs.Prelude.{sum_by}
use Rattle.std.proofs.lemmas.List.Elements.{All-push}
use Rattle.std.proofs.lemmas.List.Sums.{sum_by_push}
use Rattle.columns_core.specs.Chunk.{AreEqualLengths, array_rows}
use Rattle.parquet_scan.proofs.chunks.add_chunk.Goals as goal

pub returns-clause-own_rows : goal.returns-clause-own_rows
returns-clause-own_rows c e = omega (
  arith,
  e,
  c.saturating_add-read.ensures,
  c.len.ensures,
  ap (sum_by array_rows) c.in_ok-push.ensures.items,
  sum_by_push array_rows c.args.read.now.chunks.items c.in_ok-chunk.chunk,
)

pub returns-clause-even : goal.returns-clause-even
returns-clause-even c e =
    subst (λ chunks. All AreEqualLengths chunks) (sym c.in_ok-push.ensures.items)
    (All-push AreEqualLengths c.args.read.now.chunks.items c.in_ok-chunk.chunk e (subst AreEqualLengths (sym c.in_ok-chunk.ensures.chunk) c.requires))
