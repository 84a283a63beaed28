use Rattle.std.proofs.Common.{List, Option, subst}
use Rattle.parquet_page.specs.Stored.{Stored}
use Rattle.parquet_plain.specs.Description.{PlainChunk}
use Rattle.put_program.specs.Typed.{AddsColumn, AreStored}
use Rattle.put_program.proofs.ChunkLemmas.{field-chunk}
use Rattle.put_program.proofs.typed.add_typed.Goals as goal

pub returns : goal.returns
returns g c =
    let cells = g.I.Typed.cells c.args.array.now in
    let type = g.I.Items.type_ c.args.array.now in
    let at_most = g.I.Items.at_most c.args.array.now in
    let items : List (Option Stored) = g.I.Items.items c.args.array.now in
    let are : AreStored c.args.field.now.data_type cells type at_most items =
    subst (λ data_type. AreStored data_type cells type at_most items) c.requires.same (g.met.I.Typed.stored c.args.array.now c.requires.own) in
    subst (λ (chunk : PlainChunk). AddsColumn chunk c.args.parts.now c.add_chunk.result c.add_chunk.new.parts)
    (field-chunk c.args.field.now cells type at_most items _ c.args.page_rows c.requires.written are cc)
    (record { adds = c.add_chunk.ensures.adds; told = c.add_chunk.ensures.told; short = c.add_chunk.ensures.short })
