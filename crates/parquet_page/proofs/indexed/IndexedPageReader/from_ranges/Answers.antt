use Rattle.std.proofs.Common.{◌≡◌, ◌∙◌, sym, ap, subst, refl, length, map, arith}
use Rattle.std.specs.Prelude.{filter, option_map}
use Rattle.std.proofs.lemmas.List.{length-map}
use Rattle.parquet_page.specs.Parts.{are_shaped}
use Rattle.parquet_page.specs.Lending.{AreOfType, has_data_behind}
use Rattle.parquet_page.specs.Lent.{Lent, are_well_shaped, is_wanted, selected_count}
use Rattle.parquet_page.specs.declared.parts.Parts.TheVariants.{Bodies}
use Rattle.parquet_base.specs.Reading.{given}
use Rattle.parquet_page.proofs.EntryLemmas.{counted_some, lends_parts, or_nothing, rows_wanted, shaped_wanted}
use Rattle.parquet_page.proofs.ReaderLemmas.{located_ordered, located_pages_are}
use Rattle.parquet_page.proofs.indexed.IndexedPageReader.from_ranges.Goals as goal

pub new-requires-2-clause-shaped : goal.new-requires-2-clause-shaped
new-requires-2-clause-shaped c =
    let told = counted_some c.args.pages.items c.in-Some.count (c.in-Some.ensures ∙ ap (λ entries. given (are_well_shaped entries) (selected_count entries)) c.deref.ensures.value) in
    ap are_shaped c.wanted.ensures ∙ shaped_wanted c.args.pages.items told.0

pub new-requires-2-clause-sum : goal.new-requires-2-clause-sum
new-requires-2-clause-sum c =
    let told = counted_some c.args.pages.items c.in-Some.count (c.in-Some.ensures ∙ ap (λ entries. given (are_well_shaped entries) (selected_count entries)) c.deref.ensures.value) in
    told.1 ∙ sym (rows_wanted c.args.pages.items) ∙ sym (ap selected_count c.wanted.ensures)

pub returns-clause-lends : goal.returns-clause-lends
returns-clause-lends c =
    let type = c.args.column.now.descriptor.primitive_type in
    let pages = c.args.pages.items in
    let bodies = map (λ body. body.items) c.args.bodies.items in
    let before = option_map (λ part. part.items) c.args.dictionary in
    let count = c.count_wanted.ensures ∙ ap (λ entries. length (filter is_wanted entries)) c.deref-2.ensures.value in
    let all : length (filter is_wanted pages) ≡ length bodies = omega (arith, count, c.if-len-count_wanted.false, c.len.ensures, c.args.bodies.ok, length-map c.args.bodies.items (λ body. body.items)) in
    rw (c.new-2.ensures.parts, c.new-2.ensures.entries, c.new-2.ensures.next, c.new-2.ensures.first, c.wanted.ensures)
    (lends_parts type (Bodies c.unwrap_or.result c.args.bodies) before bodies pages (ap (λ part. part.items) c.unwrap_or.ensures ∙ or_nothing (λ part. part.items) c.args.dictionary c.new.result c.new.ensures.items) (λ k entry. refl) all)

pub returns-clause-typed : goal.returns-clause-typed
returns-clause-typed c =
    let type = c.args.column.now.descriptor.primitive_type in
    subst (λ (lent : Lent). AreOfType type lent.pages) (sym (returns-clause-lends c)) (located_pages_are (λ page. page.type ≡ type) type (λ page same. same) _ _)

pub returns-clause-ordered : goal.returns-clause-ordered
returns-clause-ordered c = ap (λ (lent : Lent). has_data_behind lent.pages) (returns-clause-lends c) ∙ located_ordered c.args.column.now.descriptor.primitive_type _ _
