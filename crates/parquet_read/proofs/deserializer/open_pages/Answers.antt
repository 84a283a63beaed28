use Rattle.std.proofs.Common.{Bool, List, Vec, Global, Option, true, sym, subst}
use Rattle.std.specs.Prelude.{option_map}
use Rattle.parquet_page.specs.declared.page.FilteredPage.{FilteredPage}
use Rattle.parquet_read.specs.Opening.{ChunkBytes, OpensPages}
use Rattle.parquet_read.proofs.OpenLemmas.{nulls_open}
use Rattle.parquet_read.proofs.deserializer.open_pages.Goals as goal

abbrev shown : Option (Vec FilteredPage Global) → Option (List FilteredPage)
shown pages = option_map (λ (all : Vec FilteredPage Global). all.items) pages

pub returns-in-None : goal.returns-in-None
returns-in-None c =
    let chunk : ChunkBytes = (c.args.column.now, c.args.bytes.items) in
    subst (λ (pages : Option (Vec FilteredPage Global)). OpensPages c.args.nulls chunk (shown pages) c.open_whole.result) (sym c.in-None.is) (c.open_whole.ensures c.args.nulls)

pub returns-then-nulls : goal.returns-then-nulls
returns-then-nulls c =
    let chunk : ChunkBytes = (c.args.column.now, c.args.bytes.items) in
    let e = c.open_nulls.ensures in
    subst (λ (nulls : Bool). OpensPages nulls chunk (shown c.args.pages) c.open_nulls.result) (sym c.if-nulls.true)
    (subst (λ (pages : Option (Vec FilteredPage Global)). OpensPages true chunk (shown pages) c.open_nulls.result) (sym c.in-Some.is)
    (nulls_open chunk c.in-Some.pages.items c.open_nulls.result e.typed e.ordered e.rows e.shaped e.err))
