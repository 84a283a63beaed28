use Rattle.std.proofs.Common.{◌≡◌, ◌∙◌, ℕ, List, Vec, Global, Option, Some, length, map, true, sym, ap, subst, arith}
use Rattle.std.specs.Prelude.{Err, IfOk, IfSome, filter, nat_le}
use Rattle.std.proofs.lemmas.Bool.{le-leb}
use Rattle.std.proofs.lemmas.List.{length-map}
use Rattle.std.proofs.lemmas.Result.{err_from_is_err_and}
use Rattle.parquet_meta.specs.Chunks.{chunk_range, chunk_start}
use Rattle.parquet_meta.specs.Lists.{all_of}
use Rattle.parquet_meta.specs.Places.{place_end, bytes_at}
use Rattle.parquet_meta.specs.Source.{Finds}
use Rattle.parquet_page.specs.Indexed.{indexed_rows}
use Rattle.parquet_page.specs.Lent.{is_wanted, selected_count}
use Rattle.parquet_page.specs.declared.page.FilteredPage.{FilteredPage}
use Rattle.flat_values.specs.ColumnLeft.{ColumnLeft}
use Rattle.parquet_read.specs.Asked.{left_in_file, page_part, part_in_front}
use Rattle.parquet_read.specs.RowGroup.{iter_left}
use Rattle.parquet_read.proofs.ColumnLemmas.{left_there, located_supply, parts_refused}
use Rattle.parquet_read.proofs.FoundLemmas.{finds_err, finds_err_later, finds_memory, finds_opened, none_told, told_result, told_with}
use Rattle.parquet_read.proofs.OpenLemmas.{counts_same}
use Rattle.parquet_read.proofs.PartLemmas.{before_missing, bodies_missing, bodies_taken, parts_chunk, parts_taken}
use Rattle.parquet_read.proofs.parts.open_parts.Goals as goal

abbrev items : Vec ℕ Global → List ℕ
items body = body.items

abbrev all_items : Vec (Vec ℕ Global) Global → List (List ℕ)
all_items bodies = map items bodies.items

pub returns-in_err-bodies-clause-found : goal.returns-in_err-bodies-clause-found
returns-in_err-bodies-clause-found g c =
    let p = err_from_is_err_and c.from_residual.result c.from_residual.ensures.1 in
    let told = g.S.Source.told c.args.source.now in
    let start = g.S.Source.faults c.args.source.now in
    let pages = c.args.pages.items in
    let column = c.args.column.now in
    let left = left_in_file c.args.data_type c.args.chunk_size c.args.rows (Some pages) column in
    let spelled = λ (file : List ℕ). all_of (page_part file) (filter is_wanted pages) in
    let now = g.S.Source.faults c.read_bodies.new.source in
    let e = c.in_err-bodies.field-0.0 in
    let found = subst (λ (l : List FilteredPage). Finds all_items (λ file. all_of (page_part file) (filter is_wanted l)) told start now (Err e)) c.deref.ensures.value c.in_err-bodies.ensures.found in
    rw (p.1, p.2) (finds_err all_items iter_left spelled left told start start (g.S.Source.faults c.read_bodies.new.source) c.in_err-bodies.field-0.0 (omega arith)
    (none_told told spelled left (λ file there. bodies_missing column file pages c.requires.range (le-leb _ _ there)) c.requires.there) found)

pub returns-in_err-bodies-clause-taken : goal.returns-in_err-bodies-clause-taken
returns-in_err-bodies-clause-taken g c =
    let taken = rw c.deref.ensures.value at c.in_err-bodies.ensures.taken in
    bodies_taken c.args.column.now c.args.pages.items (g.S.Source.taken c.args.source.now) (g.S.Source.taken c.read_bodies.new.source) taken

pub returns-in_err-before-clause-found : goal.returns-in_err-before-clause-found
returns-in_err-before-clause-found g c =
    let p = err_from_is_err_and c.from_residual-in_err-before.result c.from_residual-in_err-before.ensures.1 in
    let told = g.S.Source.told c.args.source.now in
    let pages = c.args.pages.items in
    let column = c.args.column.now in
    let left = left_in_file c.args.data_type c.args.chunk_size c.args.rows (Some pages) column in
    let read = c.len.result in
    let spelled = λ (file : List ℕ). part_in_front file column pages read in
    let all : read ≡ length (filter is_wanted pages) = omega (arith, c.len.ensures, c.in_ok-bodies.ensures.each, ap (λ (l : List FilteredPage). length (filter is_wanted l)) c.deref.ensures.value) in
    let e = c.in_err-before.field-0.0 in
    let found = subst (λ (l : List FilteredPage). Finds items (λ file. part_in_front file column l read) (g.S.Source.told c.read_bodies.new.source) (g.S.Source.faults c.read_bodies.new.source) (g.S.Source.faults c.read_before.new.source) (Err e))
    c.deref-2.ensures.value c.in_err-before.ensures.found in
    rw (p.1, p.2) (finds_err_later items iter_left spelled left told (g.S.Source.told c.read_bodies.new.source) (g.S.Source.faults c.args.source.now) (g.S.Source.faults c.read_bodies.new.source) (g.S.Source.faults c.read_before.new.source)
    c.in_err-before.field-0.0 c.in_ok-bodies.ensures.keeps.later c.in_ok-bodies.ensures.keeps.same
    (none_told told spelled left (λ file there. before_missing column file pages c.requires.range (le-leb _ _ there) read all) c.requires.there) found)

pub returns-in_err-before-clause-taken : goal.returns-in_err-before-clause-taken
returns-in_err-before-clause-taken g c =
    let pages = c.args.pages.items in
    let read = c.len.result in
    let all : read ≡ length (filter is_wanted pages) = omega (arith, c.len.ensures, c.in_ok-bodies.ensures.each, ap (λ (l : List FilteredPage). length (filter is_wanted l)) c.deref.ensures.value) in
    let first = rw c.deref.ensures.value at c.in_ok-bodies.ensures.taken in
    let second = rw c.deref-2.ensures.value at c.in_err-before.ensures.taken in
    parts_taken c.args.column.now pages read (g.S.Source.taken c.args.source.now) (g.S.Source.taken c.read_bodies.new.source) (g.S.Source.taken c.read_before.new.source) all first second

pub returns-in_err-reader-clause-found : goal.returns-in_err-reader-clause-found
returns-in_err-reader-clause-found g c =
    let p = err_from_is_err_and c.from_residual-in_err-reader.result c.from_residual-in_err-reader.ensures.1 in
    let left = left_in_file c.args.data_type c.args.chunk_size c.args.rows (Some c.args.pages.items) c.args.column.now in
    let all = length-map c.in_ok-bodies.bodies.items items ∙ c.in_ok-bodies.ensures.each ∙ ap (λ (l : List FilteredPage). length (filter is_wanted l)) c.deref.ensures.value in
    let memory = parts_refused c.args.column.now c.args.pages.items c.placed_in-placed.result.items (all_items c.in_ok-bodies.bodies) c.in_err-reader.field-0.0 c.placed_in-placed.ensures c.requires.shaped all c.in_err-reader.ensures.refusal in
    rw (p.1, p.2) (finds_memory iter_left left (g.S.Source.told c.args.source.now) (g.S.Source.faults c.args.source.now) (g.S.Source.faults c.read_before.new.source) c.in_err-reader.field-0.0 memory)

pub returns-in_err-reader-clause-taken : goal.returns-in_err-reader-clause-taken
returns-in_err-reader-clause-taken g c =
    let pages = c.args.pages.items in
    let read = c.len.result in
    let all : read ≡ length (filter is_wanted pages) = omega (arith, c.len.ensures, c.in_ok-bodies.ensures.each, ap (λ (l : List FilteredPage). length (filter is_wanted l)) c.deref.ensures.value) in
    let first = rw c.deref.ensures.value at c.in_ok-bodies.ensures.taken in
    let second = rw c.deref-2.ensures.value at c.in_ok-before.ensures.taken in
    parts_taken c.args.column.now pages read (g.S.Source.taken c.args.source.now) (g.S.Source.taken c.read_bodies.new.source) (g.S.Source.taken c.read_before.new.source) all first second

pub open_pages-requires : goal.open_pages-requires
open_pages-requires g c = record { size = c.requires.size; typed = c.in_ok-reader.ensures.typed; ordered = c.in_ok-reader.ensures.ordered; carried = c.requires.carried }

pub returns-clause-found : goal.returns-clause-found
returns-clause-found g c =
    let told = g.S.Source.told c.args.source.now in
    let pages = c.args.pages.items in
    let column = c.args.column.now in
    let size = c.args.chunk_size in
    let rows = c.args.rows in
    let data_type = c.args.data_type in
    let left = left_in_file data_type size rows (Some pages) column in
    let bodies = all_items c.in_ok-bodies.bodies in
    let before = c.in_ok-before.before.items in
    let stored = column.descriptor.primitive_type in
    let reader = c.in_ok-reader.reader in
    let result = c.open_pages.result in
    let read = c.len.result in
    let all : read ≡ length (filter is_wanted pages) = omega (arith, c.len.ensures, c.in_ok-bodies.ensures.each, ap (λ (l : List FilteredPage). length (filter is_wanted l)) c.deref.ensures.value) in
    let each = rw c.deref.ensures.value at c.in_ok-bodies.ensures.found in
    let first = rw c.deref-2.ensures.value at c.in_ok-before.ensures.found in
    let own = subst (λ (told : Option (List ℕ)). IfSome told (λ file. part_in_front file column pages read ≡ Some before)) c.in_ok-bodies.ensures.keeps.same first in
    finds_opened iter_left left told (g.S.Source.faults c.args.source.now) (g.S.Source.faults c.read_before.new.source) result
    (told_result iter_left left told result
    (told_with told (λ file there parts part.
    let fits : nat_le (place_end (chunk_range column)) (length file) ≡ true = le-leb _ _ there in
    let same = parts_chunk column file pages c.requires.range fits stored before bodies read parts all part in
    let supply = located_supply column (bytes_at file (chunk_range column)) before bodies pages c.placed_in-placed.result.items reader c.placed_in-placed.ensures c.in_ok-reader.ensures.lends same c.in_ok-reader.ensures.rows c.in_ok-reader.ensures.lent in
    subst (λ (o : Option ColumnLeft). IfOk result (λ arrays. Some (iter_left arrays) ≡ o)) (sym (left_there data_type size rows (Some pages) column file fits))
    (c.open_pages.ensures.begins (Some pages) (bytes_at file (chunk_range column)) supply)) c.requires.there each own))
    c.open_pages.ensures.memory

pub returns-clause-outline : goal.returns-clause-outline
returns-clause-outline g c = λ there.
    let column = c.args.column.now in
    let pages = c.args.pages.items in
    let counted : indexed_rows c.in_ok-reader.reader ≡ selected_count pages =
    c.in_ok-reader.ensures.rows ∙ ap selected_count c.placed_in-placed.ensures ∙ counts_same (chunk_start column) pages in
    c.open_pages.ensures.outline (omega (arith, there, counted)) c.in_ok-reader.ensures.lent

pub returns-clause-taken : goal.returns-clause-taken
returns-clause-taken g c =
    let pages = c.args.pages.items in
    let read = c.len.result in
    let all : read ≡ length (filter is_wanted pages) = omega (arith, c.len.ensures, c.in_ok-bodies.ensures.each, ap (λ (l : List FilteredPage). length (filter is_wanted l)) c.deref.ensures.value) in
    let first = rw c.deref.ensures.value at c.in_ok-bodies.ensures.taken in
    let second = rw c.deref-2.ensures.value at c.in_ok-before.ensures.taken in
    parts_taken c.args.column.now pages read (g.S.Source.taken c.args.source.now) (g.S.Source.taken c.read_bodies.new.source) (g.S.Source.taken c.read_before.new.source) all first second
