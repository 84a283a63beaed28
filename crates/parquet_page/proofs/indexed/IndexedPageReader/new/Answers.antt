use Rattle.std.proofs.Common.{◌≡◌, ◌∙◌, sym, ap, subst, refl, length, take, arith}
use Rattle.parquet_page.specs.Parts.{are_shaped}
use Rattle.parquet_page.specs.Lending.{AreOfType, has_data_behind}
use Rattle.parquet_page.specs.Lent.{Lent, are_well_shaped, first_start, lie_within, selected_count}
use Rattle.parquet_page.specs.declared.parts.Parts.TheVariants.{Chunk}
use Rattle.parquet_base.specs.Reading.{given}
use Rattle.parquet_page.proofs.EntryLemmas.{counted_some, lends_chunk, rows_wanted, shaped_wanted}
use Rattle.parquet_page.proofs.ReaderLemmas.{located_ordered, located_pages_are}
use Rattle.parquet_page.proofs.indexed.IndexedPageReader.new.Goals as goal

pub new-requires-clause-shaped : goal.new-requires-clause-shaped
new-requires-clause-shaped c =
    let told = counted_some c.args.pages.items c.in-Some.count (c.in-Some.ensures ∙ ap (λ entries. given (are_well_shaped entries) (selected_count entries)) c.deref.ensures.value) in
    ap are_shaped c.wanted.ensures ∙ shaped_wanted c.args.pages.items told.0

pub new-requires-clause-sum : goal.new-requires-clause-sum
new-requires-clause-sum c =
    let told = counted_some c.args.pages.items c.in-Some.count (c.in-Some.ensures ∙ ap (λ entries. given (are_well_shaped entries) (selected_count entries)) c.deref.ensures.value) in
    told.1 ∙ sym (rows_wanted c.args.pages.items) ∙ sym (ap selected_count c.wanted.ensures)

pub returns-clause-lends : goal.returns-clause-lends
returns-clause-lends c =
    let type = c.args.column.now.descriptor.primitive_type in
    let bytes = c.args.buffer.items in
    let pages = c.args.pages.items in
    let size : length bytes ≡ c.len.result = omega (arith, c.len.ensures, c.args.buffer.ok) in
    let within = ap (λ size. lie_within size pages) size ∙ ap (lie_within c.len.result) (sym c.deref-2.ensures.value) ∙ sym c.lie_within.ensures ∙ c.if-not-lie_within.false in
    let first = c.first_start.ensures ∙ ap first_start c.deref-3.ensures.value in
    rw (c.new.ensures.parts, c.new.ensures.entries, c.new.ensures.next, c.new.ensures.first, c.wanted.ensures)
    (lends_chunk type (Chunk c.args.buffer c.first_start.result) bytes pages (ap (λ n. take n bytes) first) (λ k entry. refl) within)

pub returns-clause-typed : goal.returns-clause-typed
returns-clause-typed c =
    let type = c.args.column.now.descriptor.primitive_type in
    subst (λ (lent : Lent). AreOfType type lent.pages) (sym (returns-clause-lends c)) (located_pages_are (λ page. page.type ≡ type) type (λ page same. same) _ _)

pub returns-clause-ordered : goal.returns-clause-ordered
returns-clause-ordered c = ap (λ (lent : Lent). has_data_behind lent.pages) (returns-clause-lends c) ∙ located_ordered c.args.column.now.descriptor.primitive_type _ _
