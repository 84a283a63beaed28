use Rattle.std.proofs.Common.{None, refl}
use Rattle.parquet_page.specs.Found.{found_content}
use Rattle.parquet_page.proofs.LendingLemmas.{walk_ends, walk_lends}
use Rattle.parquet_page.proofs.reader.PageReaderPages.next.Goals as goal

pub returns-in_default : goal.returns-in_default
returns-in_default g c =
    let s = c.args.self.now in
    let lending = walk_ends (found_content s.type_ None s.cursor.chunk.items) c.next.result _ _ _ _ _ _ _ s.lent c.in_ok-found.was c.in_default.is (c.next.ensures.walks s.type_) c.next.ensures.count in
    ((refl, λ _. tt, lending.leaves), record { page = lending.lends; shaped = tt; steps = refl; after = tt })

pub returns : goal.returns
returns g c =
    let s = c.args.self.now in
    let lending =
    walk_lends (found_content s.type_ None s.cursor.chunk.items) c.next.result _ c.in-Some.found c.page_in.result _ _ _ _ _ _ s.lent c.saturating_add-self.result c.in_ok-found.was c.in-Some.is (c.next.ensures.walks s.type_)
    (rw (← c.next.ensures.chunk) c.page_in.ensures) c.next.ensures.count c.saturating_add-self.ensures in
    ((refl, λ _. tt, lending.leaves), record { page = lending.lends; shaped = lending.shaped; steps = c.tick.ensures; after = tt })
