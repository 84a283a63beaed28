use Rattle.std.proofs.Common.{◌≡◌, ◌+◌, Vec, Global, ℕ, drop, length, map}
use Rattle.std.specs.Prelude.{filter}
use Rattle.parquet_meta.specs.Keeps.{Keeps}
use Rattle.parquet_meta.proofs.EachLemmas.{IsReadingEach}
use Rattle.parquet_page.specs.Lent.{is_wanted}
use Rattle.parquet_read.specs.Asked.{page_length, page_part}
use Rattle.parquet_read.proofs.parts.read_bodies.Given as goal

-- the pages so far are read where they are wanted
abbrev pub invariant-loop-page : goal.invariant-loop-page
invariant-loop-page g l = record {
  keeps : Keeps g.S.Source l.fn.source l.source;
  quiet : g.S.Source.faults l.source ≡ g.S.Source.faults l.fn.source;
  reading : IsReadingEach page_part page_length (g.S.Source.told l.fn.source)
      (filter is_wanted l.pages) (filter is_wanted (drop l.page-index l.pages)) (map (λ (body : Vec ℕ Global). body.items) l.bodies.items)
      (g.S.Source.taken l.fn.source) (g.S.Source.taken l.source);
  count : length l.bodies.items + length (filter is_wanted (drop l.page-index l.pages)) ≡ length (filter is_wanted l.pages);
}
