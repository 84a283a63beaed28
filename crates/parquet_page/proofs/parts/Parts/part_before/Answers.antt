use Rattle.std.proofs.Common.{◌≡◌, true, sym, ap, subst, length, arith}
use Rattle.std.proofs.lemmas.List.{length-take-le}
use Rattle.parquet_page.specs.Parts.{hold}
use Rattle.parquet_page.specs.declared.parts.Parts.{Parts}
use Rattle.parquet_page.proofs.PartLemmas.{before_within}
use Rattle.parquet_page.proofs.parts.Parts.part_before.Goals as goal

pub slice_bounds-result-end : goal.slice_bounds-result-end
slice_bounds-result-end c =
    let entries = c.args.entries.now in
    let held = subst (λ (parts : Parts). hold parts entries ≡ true) c.in-Chunk.is c.requires.parts in
    let within = before_within c.in-Chunk.bytes.items c.in-Chunk.first entries c.requires.some held in
    sym (length-take-le c.in-Chunk.first c.deref.result.now (omega (arith, within, ap length c.deref.ensures.value)))
