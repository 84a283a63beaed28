use Rattle.std.proofs.Common.{refl}
use Rattle.parquet_page.specs.LocatedLeft.{located_content}
use Rattle.parquet_page.proofs.LendingLemmas.{walk_ends, walk_lends}
use Rattle.parquet_page.proofs.indexed.IndexedPageReaderPages.next.Goals as goal

pub returns-in_default : goal.returns-in_default
returns-in_default g c =
    let s = c.args.self.now in
    let lending = walk_ends (located_content s.type_ s.located.parts s.located.entries.items) c.next.result _ _ _ _ _ _ _ s.lent c.in_ok-page.was c.in_default.is (c.next.ensures.walks s.type_) c.next.ensures.count in
    ((refl, λ _. tt, lending.leaves), record { page = lending.lends; shaped = tt; steps = refl; after = tt })

pub returns : goal.returns
returns g c =
    let s = c.args.self.now in
    let lending =
    walk_lends (located_content s.type_ s.located.parts s.located.entries.items) c.next.result _ c.in-Some.page c.page_in.result _ _ _ _ _ _ s.lent c.saturating_add-self.result c.in_ok-page.was c.in-Some.is (c.next.ensures.walks s.type_)
    (rw (← c.next.ensures.parts, ← c.next.ensures.entries) c.page_in.ensures) c.next.ensures.count c.saturating_add-self.ensures in
    ((refl, λ _. tt, lending.leaves), record { page = lending.lends; shaped = lending.shaped; steps = c.tick.ensures; after = tt })
