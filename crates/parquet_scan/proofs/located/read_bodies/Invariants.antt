use Rattle.std.proofs.Common.{◌≡◌, ◌≤◌, ◌+◌, ◌++◌, Some, drop, length, map, take}
use Rattle.std.specs.Prelude.{IfSome, filter, flat_map, sum_by}
use Rattle.parquet_page.specs.Lent.{is_wanted}
use Rattle.parquet_page.specs.declared.page.FilteredPage.{FilteredPage}
use Rattle.parquet_meta.specs.Keeps.{Keeps}
use Rattle.parquet_scan.specs.Located.{entry_causes, entry_part}
use Rattle.parquet_scan.proofs.located.read_bodies.Given as goal

-- what is wrong with the parts of all pages, and what they are, is what is so of those that are left
abbrev pub invariant-loop-page : goal.invariant-loop-page
invariant-loop-page g l =
    let source = g.S.Source in
    record {
      keeps : Keeps source l.fn.source l.source;
      quiet : source.faults l.source ≡ source.faults l.fn.source;
      none : IfSome (source.told l.fn.source) (λ bytes.
          flat_map (entry_causes bytes l.chunk) (filter is_wanted l.pages) ≡ flat_map (entry_causes bytes l.chunk) (filter is_wanted (drop l.page-index l.pages)));
      bodies : IfSome (source.told l.fn.source) (λ bytes.
          map (entry_part bytes l.chunk) (filter is_wanted l.pages) ≡ map (λ body. Some body.items) l.bodies.items ++ map (entry_part bytes l.chunk) (filter is_wanted (drop l.page-index l.pages)));
      taken : source.taken l.source + sum_by (λ (page : FilteredPage). page.length) (filter is_wanted (drop l.page-index l.pages)) ≤ source.taken l.fn.source + sum_by (λ (page : FilteredPage). page.length) (filter is_wanted l.pages);
      count : length l.bodies.items ≡ length (filter is_wanted (take l.page-index l.pages));
    }
