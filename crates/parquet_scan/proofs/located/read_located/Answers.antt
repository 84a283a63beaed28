use Rattle.std.proofs.Common.{◌≡◌, ◌∙◌, ◌+◌, ◌-◌, ◌<◌, ◌≤◌, Bool, List, [], ◌∷◌, ℕ, suc, not, Some, true, false, length, map, take, ap, sym, subst, arith, refl, Vec, Global}
use Rattle.std.specs.Prelude.{◌==◌, vec_len, Err, Option, IfErr, IfSome, filter, flat_map, sum_by, zip, if◌then◌else◌, IfOk, OnOk}
use Rattle.std.proofs.lemmas.Bool.{eqb-true, true≢false}
use Rattle.std.proofs.lemmas.List.{length-map}
use Rattle.std.proofs.lemmas.List.Elements.{All-map}
use Rattle.std.proofs.lemmas.Result.{err_from_is_err_and}
use Rattle.std.proofs.lemmas.Simd.{map-map}
use Rattle.columns_core.specs.Array.{cells}
use Rattle.columns_core.specs.Causes.{Cause}
use Rattle.columns_core.specs.declared.cell.Cell.{Cell}
use Rattle.columns_core.specs.declared.data_type.DataType.{DataType}
use Rattle.parquet_base.specs.Intervals.{is_well_shaped, rows_of}
use Rattle.parquet_base.specs.Pieces.{cut}
use Rattle.parquet_base.specs.declared.interval.Interval.{Interval}
use Rattle.parquet_meta.specs.Chunks.{chunk_causes}
use Rattle.parquet_meta.specs.declared.metadata.ColumnChunkMetaData.{ColumnChunkMetaData}
use Rattle.parquet_meta.specs.declared.metadata.PageLocation.{PageLocation}
use Rattle.parquet_meta.specs.declared.metadata.Place.{Place}
use Rattle.parquet_meta.specs.declared.metadata.RowGroupMetaData.{RowGroupMetaData}
use Rattle.parquet_meta.specs.Reads.{ReadsFile}
use Rattle.parquet_page.specs.Lent.{first_start, is_wanted, located_parts}
use Rattle.parquet_page.specs.declared.page.FilteredPage.{FilteredPage}
use Rattle.parquet_page.specs.Located.{dictionary_in}
use Rattle.page_decoding.specs.Bytes.{IsCausedByChunks, cell_bytes, fits_most}
use Rattle.page_decoding.specs.Outcome.{Given}
use Rattle.page_decoding.specs.Queue.{IsChunkSize}
use Rattle.flat_values.specs.Conversion.{Value}
use Rattle.flat_values.specs.MostBytes.{most_bytes}
use Rattle.parquet_scan.specs.Causes.{causes_of_chunk, chunk_read_causes, given_causes, pair_causes}
use Rattle.parquet_scan.specs.Cells.{Reading, chunk_of, located_item}
use Rattle.parquet_scan.specs.Costs.{lent_of_chunk, with_dictionary_page}
use Rattle.parquet_scan.specs.Decoded.{column_rows, pages_for}
use Rattle.parquet_scan.specs.Located.{entry_causes, entry_part, part_in, place_before}
use Rattle.parquet_scan.specs.Pages.{locations}
use Rattle.parquet_scan.proofs.CallLemmas.{keeps_on, refused, refuses}
use Rattle.parquet_scan.proofs.CostLemmas.{just_told, lent_located, taken_located}
use Rattle.parquet_scan.proofs.LocationLemmas.{selection_fails}
use Rattle.parquet_scan.proofs.OpenedLemmas.{IsRead, IsSelected, before_causes, before_in, bodies_in, entries_shaped, opened_by, read_count, read_fine, read_in, read_items, read_lent, read_tells, reading_of, told_causes, told_parts, within_opened}
use Rattle.parquet_scan.proofs.PageLemmas.{both_if, both_ok, if_err, if_ok, ok_always, ok_if}
use Rattle.parquet_meta.proofs.FailureLemmas.{fails_more}
use Rattle.parquet_scan.proofs.ScanLemmas.{fails_by_memory, fails_chunks}
use Rattle.parquet_scan.proofs.located.read_located.Goals as goal

-- a page is wanted where a part of one was read
wanted_some : {X : Type 0} (wanted : Bool) (bodies : List X) (pages : List FilteredPage) → wanted ≡ not (length bodies == 0) → length bodies ≡ length (filter is_wanted pages) → wanted ≡ true → 0 < length (filter is_wanted pages)
wanted_some wanted [] pages is count yes_wanted = absurd (true≢false (sym yes_wanted ∙ is))
wanted_some wanted (body ∷ bodies) pages is count yes_wanted = omega (arith, count)

some_wanted : {X : Type 0} (wanted : Bool) (bodies : List X) (pages : List FilteredPage) → wanted ≡ not (length bodies == 0) → length bodies ≡ length (filter is_wanted pages) → 0 < length (filter is_wanted pages) → wanted ≡ true
some_wanted wanted [] pages is count some = absurd (omega (arith, count, some))
some_wanted wanted (body ∷ bodies) pages is count some = is ∙ ap not (by (length (body ∷ bodies) == 0) refl) where
  not_none : (n : ℕ) → (suc n == 0) ≡ true → ⊥
  not_none n e = let same : suc n ≡ 0 = eqb-true (suc n) 0 e in omega (arith, same)

  by : (b : Bool) → (length (body ∷ bodies) == 0) ≡ b → (length (body ∷ bodies) == 0) ≡ false
  by true e = absurd (not_none (length bodies) e)
  by false e = e

abbrev body_items : Vec ℕ Global → List ℕ
body_items body = body.items

-- what the calls before the last gave
was_read : (size : Option ℕ) (told at_chunk at_bodies : Option (List ℕ)) (group : RowGroupMetaData) (column : ColumnChunkMetaData) (data_type : DataType) (intervals : List Interval) (chunk : Place) (list : List PageLocation) (entries : List FilteredPage)
    (before : List ℕ) (bodies : List (Vec ℕ Global)) (wanted : Bool) → at_chunk ≡ told → at_bodies ≡ at_chunk → IsChunkSize size → pair_causes column.descriptor.primitive_type data_type ≡ [] → is_well_shaped intervals group.num_rows ≡ true
    → chunk_causes column ≡ [] → IsSelected group intervals list entries → wanted ≡ not (length bodies == 0) → length bodies ≡ length (filter is_wanted entries)
    → IfSome told (λ bytes. chunk_of bytes group column ≡ Some chunk) → IfSome told (λ bytes. locations bytes column ≡ list)
    → IfSome at_chunk (λ bytes. map (entry_part bytes chunk) (filter is_wanted entries) ≡ map (λ body. Some (body_items body)) bodies)
    → (wanted ≡ true → IfSome at_bodies (λ bytes. part_in bytes chunk (place_before chunk entries) ≡ Some before))
    → IsRead told size group column data_type intervals chunk list entries before (map body_items bodies)
was_read size told at_chunk at_bodies group column data_type intervals chunk list entries before bodies wanted same_chunk same_bodies size_some pair shaped none selected wanted_is count placed at each first =
    let parts = told_parts told chunk entries before body_items bodies
    (subst (λ (told : Option (List ℕ)). IfSome told (λ bytes. map (entry_part bytes chunk) (filter is_wanted entries) ≡ map (λ body. Some (body_items body)) bodies)) same_chunk each)
    (λ some. subst (λ (told : Option (List ℕ)). IfSome told (λ bytes. part_in bytes chunk (place_before chunk entries) ≡ Some before)) (same_bodies ∙ same_chunk) (first (some_wanted wanted bodies entries wanted_is count some))) in
    record {
      size_some = size_some;
      pair = pair;
      shaped = shaped;
      none = none;
      selected = selected;
      counted = length-map bodies body_items ∙ count;
      placed = placed;
      at = at;
      parts = parts;
    }

pub returns-in_err-chunk-clause-reads : goal.returns-in_err-chunk-clause-reads
returns-in_err-chunk-clause-reads g c =
    let p = err_from_is_err_and c.from_residual.result c.from_residual.ensures.1 in
    let told = g.S.Source.told c.args.source.now in
    let group = c.args.rows.group.now in
    let column = c.args.typed.column.now in
    let data_type = c.args.typed.data_type.now in
    let intervals = c.args.rows.runs.now in
    let start = g.S.Source.faults c.args.source.now in
    let whole : List ℕ → List Cause = λ bytes. causes_of_chunk true c.args.chunk_size bytes group (rows_of intervals) data_type column in
    rw (p.1, p.2) (refused c.in_err-chunk.ensures.keeps (fails_more told start start (g.S.Source.faults c.place_of_chunk.new.source) (λ bytes. chunk_read_causes bytes group column) whole c.in_err-chunk.field-0.0 (omega arith)
    (read_in told c.args.chunk_size group column data_type (rows_of intervals)) c.in_err-chunk.ensures.fails))

pub returns-in_err-pages-clause-reads : goal.returns-in_err-pages-clause-reads
returns-in_err-pages-clause-reads g c =
    let p = err_from_is_err_and c.from_residual-in_err-pages.result c.from_residual-in_err-pages.ensures.1 in
    let told = g.S.Source.told c.args.source.now in
    let group = c.args.rows.group.now in
    let column = c.args.typed.column.now in
    let data_type = c.args.typed.data_type.now in
    let intervals = c.args.rows.runs.now in
    let start = g.S.Source.faults c.args.source.now in
    let whole : List ℕ → List Cause = λ bytes. causes_of_chunk true c.args.chunk_size bytes group (rows_of intervals) data_type column in
    let refusal = c.in_err-pages.ensures.refusal in
    rw (p.1, p.2) (refused c.in_ok-chunk.ensures.keeps (fails_by_memory told start (g.S.Source.faults c.place_of_chunk.new.source) whole c.in_err-pages.field-0.0
    (selection_fails intervals c.args.typed.locations.now group.num_rows c.in_err-pages.field-0.0 c.requires.located.shape c.requires.shaped refusal)))

pub returns-in_err-bodies-clause-reads : goal.returns-in_err-bodies-clause-reads
returns-in_err-bodies-clause-reads g c =
    let p = err_from_is_err_and c.from_residual-in_err-bodies.result c.from_residual-in_err-bodies.ensures.1 in
    let told = g.S.Source.told c.args.source.now in
    let group = c.args.rows.group.now in
    let column = c.args.typed.column.now in
    let data_type = c.args.typed.data_type.now in
    let intervals = c.args.rows.runs.now in
    let whole : List ℕ → List Cause = λ bytes. causes_of_chunk true c.args.chunk_size bytes group (rows_of intervals) data_type column in
    let chunk = c.in_ok-chunk.chunk in
    let at = c.requires.located.same in
    let list = c.args.typed.locations.now in
    let entries = c.in_ok-pages.pages.items in
    let selected : IsSelected group intervals list entries = record { shape = c.requires.located.shape; are = c.in_ok-pages.ensures.pages } in
    let opened = told_causes group column data_type intervals chunk list entries selected c.args.chunk_size told c.in_ok-chunk.ensures.readable c.in_ok-chunk.ensures.place at in
    let reading : List ℕ → Reading = λ bytes. reading_of bytes column.descriptor.primitive_type data_type chunk entries in
    let items : List ℕ → List Cause = λ bytes. given_causes c.args.chunk_size data_type (located_item bytes group data_type column) (rows_of intervals) in
    let part : List FilteredPage → List ℕ → List Cause = λ entries bytes. flat_map (entry_causes bytes chunk) (filter is_wanted entries) in
    let reads = subst (λ entries. ReadsFile g.S.Source c.place_of_chunk.new.source c.read_bodies.new.source (part entries) (Err c.in_err-bodies.field-0.0)) c.deref.ensures.value c.in_err-bodies.ensures.reads in
    rw (p.1, p.2) (refuses c.in_ok-chunk.ensures.keeps reads
    (within_opened told whole (λ bytes. opened_by bytes (reading bytes) chunk entries) items (part entries) opened (λ bytes. bodies_in bytes (reading bytes) chunk entries)))

pub returns-in_err-before-clause-reads : goal.returns-in_err-before-clause-reads
returns-in_err-before-clause-reads g c =
    let p = err_from_is_err_and c.from_residual-in_err-before.result c.from_residual-in_err-before.ensures.1 in
    let told = g.S.Source.told c.args.source.now in
    let group = c.args.rows.group.now in
    let column = c.args.typed.column.now in
    let data_type = c.args.typed.data_type.now in
    let intervals = c.args.rows.runs.now in
    let whole : List ℕ → List Cause = λ bytes. causes_of_chunk true c.args.chunk_size bytes group (rows_of intervals) data_type column in
    let chunk = c.in_ok-chunk.chunk in
    let at = c.requires.located.same in
    let list = c.args.typed.locations.now in
    let entries = c.in_ok-pages.pages.items in
    let selected : IsSelected group intervals list entries = record { shape = c.requires.located.shape; are = c.in_ok-pages.ensures.pages } in
    let opened = told_causes group column data_type intervals chunk list entries selected c.args.chunk_size told c.in_ok-chunk.ensures.readable c.in_ok-chunk.ensures.place at in
    let count = c.in_ok-bodies.ensures.length ∙ ap (λ pages. length (filter is_wanted pages)) c.deref.ensures.value in
    let wanted = not c.is_empty.result in
    let long : vec_len c.in_ok-bodies.bodies ≡ length c.in_ok-bodies.bodies.items = omega arith in
    let wanted_is : not c.is_empty.result ≡ not (length c.in_ok-bodies.bodies.items == 0) = ap not (c.is_empty.ensures ∙ ap (λ n. n == 0) long) in
    let reading : List ℕ → Reading = λ bytes. reading_of bytes column.descriptor.primitive_type data_type chunk entries in
    let items : List ℕ → List Cause = λ bytes. given_causes c.args.chunk_size data_type (located_item bytes group data_type column) (rows_of intervals) in
    let part : List FilteredPage → List ℕ → List Cause = λ entries bytes. before_causes bytes chunk entries wanted in
    let reads = subst (λ entries. ReadsFile g.S.Source c.read_bodies.new.source c.read_before.new.source (part entries) (Err c.in_err-before.field-0.0)) c.deref-2.ensures.value c.in_err-before.ensures.reads in
    rw (p.1, p.2) (refuses (keeps_on c.in_ok-chunk.ensures.keeps c.in_ok-bodies.ensures.reads.keeps) reads
    (within_opened told whole (λ bytes. opened_by bytes (reading bytes) chunk entries) items (part entries) opened
    (λ bytes o. before_in bytes column.descriptor.primitive_type data_type chunk entries wanted o (wanted_some wanted c.in_ok-bodies.bodies.items entries wanted_is count))))

pub decode_located-requires-clause-shaped : goal.decode_located-requires-clause-shaped
decode_located-requires-clause-shaped g c =
    let group = c.args.rows.group.now in
    let intervals = c.args.rows.runs.now in
    let list = c.args.typed.locations.now in
    let entries = c.in_ok-pages.pages.items in
    let selected : IsSelected group intervals list entries = record { shape = c.requires.located.shape; are = c.in_ok-pages.ensures.pages } in
    entries_shaped group intervals list entries selected c.requires.shaped (omega arith)

pub returns-clause-reads : goal.returns-clause-reads
returns-clause-reads g c =
    let told = g.S.Source.told c.args.source.now in
    let group = c.args.rows.group.now in
    let column = c.args.typed.column.now in
    let data_type = c.args.typed.data_type.now in
    let intervals = c.args.rows.runs.now in
    let entries = c.in_ok-pages.pages.items in
    let bodies = c.in_ok-bodies.bodies.items in
    let selected : IsSelected group intervals c.args.typed.locations.now entries
    = record { shape = c.requires.located.shape; are = c.in_ok-pages.ensures.pages } in
    let long : vec_len c.in_ok-bodies.bodies ≡ length bodies = omega arith in
    let each = subst (λ pages. IfSome (g.S.Source.told c.place_of_chunk.new.source) (λ bytes. map (entry_part bytes c.in_ok-chunk.chunk) (filter is_wanted pages) ≡ map (λ body. Some body.items) bodies)) c.deref.ensures.value c.in_ok-bodies.ensures.bodies in
    let first : not c.is_empty.result ≡ true → IfSome (g.S.Source.told c.read_bodies.new.source) (λ bytes. part_in bytes c.in_ok-chunk.chunk (place_before c.in_ok-chunk.chunk entries) ≡ Some c.in_ok-before.before.items) = λ some.
    subst (λ pages. IfSome (g.S.Source.told c.read_bodies.new.source) (λ bytes. part_in bytes c.in_ok-chunk.chunk (place_before c.in_ok-chunk.chunk pages) ≡ Some c.in_ok-before.before.items)) c.deref-2.ensures.value (c.in_ok-before.ensures.part some) in
    let read = was_read c.args.chunk_size told (g.S.Source.told c.place_of_chunk.new.source) (g.S.Source.told c.read_bodies.new.source) group column data_type intervals c.in_ok-chunk.chunk
    c.args.typed.locations.now entries c.in_ok-before.before.items bodies (not c.is_empty.result) c.in_ok-chunk.ensures.keeps.same c.in_ok-bodies.ensures.reads.keeps.same c.requires.size c.requires.pair c.requires.shaped
    c.in_ok-chunk.ensures.readable selected (ap not (c.is_empty.ensures ∙ ap (λ n. n == 0) long)) (c.in_ok-bodies.ensures.length ∙ ap (λ pages. length (filter is_wanted pages)) c.deref.ensures.value)
    c.in_ok-chunk.ensures.place c.requires.located.same each first in
    let start = g.S.Source.faults c.args.source.now in
    let now = g.S.Source.faults c.read_before.new.source in
    let stored = column.descriptor.primitive_type in
    let lent = located_parts stored (Some c.in_ok-before.before.items) entries (map body_items bodies) in
    let outcomes = column_rows stored data_type lent.pages lent.causes in
    let caused = subst (λ n. IfErr c.decode_located.result (IsCausedByChunks (most_bytes data_type) c.args.chunk_size (take n outcomes))) c.count_of_rows-count.ensures c.decode_located.ensures.cause in
    let chunks = subst (λ n. IfOk c.decode_located.result (λ found. map (λ array. map Given (cells array)) found.0.items ≡ cut c.args.chunk_size (take n outcomes))) c.count_of_rows-count.ensures c.decode_located.ensures.chunks in
    let P : List Cell → Type 0 = λ cells. fits_most (most_bytes data_type) (sum_by cell_bytes cells) ≡ true in
    record {
      keeps = keeps_on (keeps_on c.in_ok-chunk.ensures.keeps c.in_ok-bodies.ensures.reads.keeps) c.in_ok-before.ensures.reads.keeps;
      quiet = ok_always c.decode_located.result (c.in_ok-before.ensures.reads.quiet ∙ c.in_ok-bodies.ensures.reads.quiet ∙ c.in_ok-chunk.ensures.quiet);
      ok = ok_if c.decode_located.result (λ found none. none)
          (both_if {R = λ found. IfSome told (λ bytes. causes_of_chunk true c.args.chunk_size bytes group (rows_of intervals) data_type column ≡ [])} c.decode_located.result
          (λ found e fit. read_fine c.args.chunk_size group column data_type intervals c.in_ok-chunk.chunk c.args.typed.locations.now entries c.in_ok-before.before.items (map body_items bodies) told read (map cells found.0.items) (map-map (map Given) cells found.0.items ∙ e) (All-map P cells found.0.items fit)) chunks c.decode_located.ensures.fits);
      fails = if_err c.decode_located.result
          (λ e one. fails_chunks told start now (most_bytes data_type) c.args.chunk_size (take (length (rows_of intervals)) outcomes) (λ bytes. causes_of_chunk true c.args.chunk_size bytes group (rows_of intervals) data_type column) e
          (read_tells c.args.chunk_size group column data_type intervals c.in_ok-chunk.chunk c.args.typed.locations.now entries c.in_ok-before.before.items (map body_items bodies) told read) one) caused;
    }

pub returns-clause-counts : goal.returns-clause-counts
returns-clause-counts g c =
    let told = g.S.Source.told c.args.source.now in
    let group = c.args.rows.group.now in
    let column = c.args.typed.column.now in
    let data_type = c.args.typed.data_type.now in
    let intervals = c.args.rows.runs.now in
    let entries = c.in_ok-pages.pages.items in
    let bodies = c.in_ok-bodies.bodies.items in
    let selected : IsSelected group intervals c.args.typed.locations.now entries
    = record { shape = c.requires.located.shape; are = c.in_ok-pages.ensures.pages } in
    let long : vec_len c.in_ok-bodies.bodies ≡ length bodies = omega arith in
    let each = subst (λ pages. IfSome (g.S.Source.told c.place_of_chunk.new.source) (λ bytes. map (entry_part bytes c.in_ok-chunk.chunk) (filter is_wanted pages) ≡ map (λ body. Some body.items) bodies)) c.deref.ensures.value c.in_ok-bodies.ensures.bodies in
    let first : not c.is_empty.result ≡ true → IfSome (g.S.Source.told c.read_bodies.new.source) (λ bytes. part_in bytes c.in_ok-chunk.chunk (place_before c.in_ok-chunk.chunk entries) ≡ Some c.in_ok-before.before.items) = λ some.
    subst (λ pages. IfSome (g.S.Source.told c.read_bodies.new.source) (λ bytes. part_in bytes c.in_ok-chunk.chunk (place_before c.in_ok-chunk.chunk pages) ≡ Some c.in_ok-before.before.items)) c.deref-2.ensures.value (c.in_ok-before.ensures.part some) in
    let read = was_read c.args.chunk_size told (g.S.Source.told c.place_of_chunk.new.source) (g.S.Source.told c.read_bodies.new.source) group column data_type intervals c.in_ok-chunk.chunk
    c.args.typed.locations.now entries c.in_ok-before.before.items bodies (not c.is_empty.result) c.in_ok-chunk.ensures.keeps.same c.in_ok-bodies.ensures.reads.keeps.same c.requires.size c.requires.pair c.requires.shaped
    c.in_ok-chunk.ensures.readable selected (ap not (c.is_empty.ensures ∙ ap (λ n. n == 0) long)) (c.in_ok-bodies.ensures.length ∙ ap (λ pages. length (filter is_wanted pages)) c.deref.ensures.value)
    c.in_ok-chunk.ensures.place c.requires.located.same each first in
    let lent = located_parts column.descriptor.primitive_type (Some c.in_ok-before.before.items) entries (map body_items bodies) in
    let chunks = subst (λ n. IfOk c.decode_located.result (λ found. map (λ array. map Given (cells array)) found.0.items ≡ cut c.args.chunk_size (take n (column_rows column.descriptor.primitive_type data_type lent.pages lent.causes)))) c.count_of_rows-count.ensures c.decode_located.ensures.chunks in
    if_ok c.decode_located.result (λ found e. sym (map-map length cells found.0.items) ∙ read_count c.args.chunk_size group column data_type intervals c.in_ok-chunk.chunk c.args.typed.locations.now entries c.in_ok-before.before.items (map body_items bodies) told read (map cells found.0.items) (map-map (map Given) cells found.0.items ∙ e)) chunks

pub returns-clause-cells : goal.returns-clause-cells
returns-clause-cells g c =
    let told = g.S.Source.told c.args.source.now in
    let group = c.args.rows.group.now in
    let column = c.args.typed.column.now in
    let data_type = c.args.typed.data_type.now in
    let intervals = c.args.rows.runs.now in
    let entries = c.in_ok-pages.pages.items in
    let bodies = c.in_ok-bodies.bodies.items in
    let selected : IsSelected group intervals c.args.typed.locations.now entries
    = record { shape = c.requires.located.shape; are = c.in_ok-pages.ensures.pages } in
    let long : vec_len c.in_ok-bodies.bodies ≡ length bodies = omega arith in
    let each = subst (λ pages. IfSome (g.S.Source.told c.place_of_chunk.new.source) (λ bytes. map (entry_part bytes c.in_ok-chunk.chunk) (filter is_wanted pages) ≡ map (λ body. Some body.items) bodies)) c.deref.ensures.value c.in_ok-bodies.ensures.bodies in
    let first : not c.is_empty.result ≡ true → IfSome (g.S.Source.told c.read_bodies.new.source) (λ bytes. part_in bytes c.in_ok-chunk.chunk (place_before c.in_ok-chunk.chunk entries) ≡ Some c.in_ok-before.before.items) = λ some.
    subst (λ pages. IfSome (g.S.Source.told c.read_bodies.new.source) (λ bytes. part_in bytes c.in_ok-chunk.chunk (place_before c.in_ok-chunk.chunk pages) ≡ Some c.in_ok-before.before.items)) c.deref-2.ensures.value (c.in_ok-before.ensures.part some) in
    let read = was_read c.args.chunk_size told (g.S.Source.told c.place_of_chunk.new.source) (g.S.Source.told c.read_bodies.new.source) group column data_type intervals c.in_ok-chunk.chunk
    c.args.typed.locations.now entries c.in_ok-before.before.items bodies (not c.is_empty.result) c.in_ok-chunk.ensures.keeps.same c.in_ok-bodies.ensures.reads.keeps.same c.requires.size c.requires.pair c.requires.shaped
    c.in_ok-chunk.ensures.readable selected (ap not (c.is_empty.ensures ∙ ap (λ n. n == 0) long)) (c.in_ok-bodies.ensures.length ∙ ap (λ pages. length (filter is_wanted pages)) c.deref.ensures.value)
    c.in_ok-chunk.ensures.place c.requires.located.same each first in
    let lent = located_parts column.descriptor.primitive_type (Some c.in_ok-before.before.items) entries (map body_items bodies) in
    let chunks = subst (λ n. IfOk c.decode_located.result (λ found. map (λ array. map Given (cells array)) found.0.items ≡ cut c.args.chunk_size (take n (column_rows column.descriptor.primitive_type data_type lent.pages lent.causes)))) c.count_of_rows-count.ensures c.decode_located.ensures.chunks in
    if_ok c.decode_located.result
    (λ found e. subst (λ shown. IfSome told (λ bytes. shown ≡ map (map (located_item bytes group data_type column)) (cut c.args.chunk_size (rows_of intervals)))) (map-map (map (λ cell. Some (Value cell))) cells found.0.items)
    (read_items c.args.chunk_size group column data_type intervals c.in_ok-chunk.chunk c.args.typed.locations.now entries c.in_ok-before.before.items (map body_items bodies) told read (map cells found.0.items) (map-map (map Given) cells found.0.items ∙ e))) chunks

pub returns-clause-lent : goal.returns-clause-lent
returns-clause-lent g c =
    let told = g.S.Source.told c.args.source.now in
    let group = c.args.rows.group.now in
    let column = c.args.typed.column.now in
    let data_type = c.args.typed.data_type.now in
    let intervals = c.args.rows.runs.now in
    let entries = c.in_ok-pages.pages.items in
    let bodies = c.in_ok-bodies.bodies.items in
    let selected : IsSelected group intervals c.args.typed.locations.now entries
    = record { shape = c.requires.located.shape; are = c.in_ok-pages.ensures.pages } in
    let long : vec_len c.in_ok-bodies.bodies ≡ length bodies = omega arith in
    let each = subst (λ pages. IfSome (g.S.Source.told c.place_of_chunk.new.source) (λ bytes. map (entry_part bytes c.in_ok-chunk.chunk) (filter is_wanted pages) ≡ map (λ body. Some body.items) bodies)) c.deref.ensures.value c.in_ok-bodies.ensures.bodies in
    let first : not c.is_empty.result ≡ true → IfSome (g.S.Source.told c.read_bodies.new.source) (λ bytes. part_in bytes c.in_ok-chunk.chunk (place_before c.in_ok-chunk.chunk entries) ≡ Some c.in_ok-before.before.items) = λ some.
    subst (λ pages. IfSome (g.S.Source.told c.read_bodies.new.source) (λ bytes. part_in bytes c.in_ok-chunk.chunk (place_before c.in_ok-chunk.chunk pages) ≡ Some c.in_ok-before.before.items)) c.deref-2.ensures.value (c.in_ok-before.ensures.part some) in
    let read = was_read c.args.chunk_size told (g.S.Source.told c.place_of_chunk.new.source) (g.S.Source.told c.read_bodies.new.source) group column data_type intervals c.in_ok-chunk.chunk
    c.args.typed.locations.now entries c.in_ok-before.before.items bodies (not c.is_empty.result) c.in_ok-chunk.ensures.keeps.same c.in_ok-bodies.ensures.reads.keeps.same c.requires.size c.requires.pair c.requires.shaped
    c.in_ok-chunk.ensures.readable selected (ap not (c.is_empty.ensures ∙ ap (λ n. n == 0) long)) (c.in_ok-bodies.ensures.length ∙ ap (λ pages. length (filter is_wanted pages)) c.deref.ensures.value)
    c.in_ok-chunk.ensures.place c.requires.located.same each first in
    let lent = located_parts column.descriptor.primitive_type (Some c.in_ok-before.before.items) entries (map body_items bodies) in
    let chunks = subst (λ n. IfOk c.decode_located.result (λ found. map (λ array. map Given (cells array)) found.0.items ≡ cut c.args.chunk_size (take n (column_rows column.descriptor.primitive_type data_type lent.pages lent.causes)))) c.count_of_rows-count.ensures c.decode_located.ensures.chunks in
    let stored = column.descriptor.primitive_type in
    let pages = pages_for stored data_type (length (rows_of intervals)) lent.pages in
    let lends = subst (λ n. OnOk c.decode_located.result (c.decode_located.new.steps ≡ c.args.steps.now + length (pages_for stored data_type n lent.pages))) c.count_of_rows-count.ensures c.decode_located.ensures.lent in
    let parts = zip (filter is_wanted entries) (map body_items bodies) in
    both_ok c.decode_located.result
    (λ found e steps. just_told told c.args.steps.now c.decode_located.new.steps (with_dictionary_page (dictionary_in c.in_ok-before.before.items) (length parts)) (λ bytes. lent_of_chunk true bytes group (rows_of intervals) column)
    (lent_located group column intervals c.args.typed.locations.now entries selected told data_type c.in_ok-chunk.chunk c.in_ok-before.before.items (map body_items bodies) read.placed read.at read.parts read.counted)
    (steps ∙ ap (λ n. c.args.steps.now + n) (read_lent c.args.chunk_size group column data_type intervals c.in_ok-chunk.chunk c.args.typed.locations.now entries c.in_ok-before.before.items (map body_items bodies) told read (map cells found.0.items) (map-map (map Given) cells found.0.items ∙ e)))) chunks lends

pub returns-clause-taken : goal.returns-clause-taken
returns-clause-taken g c =
    let told = g.S.Source.told c.args.source.now in
    let group = c.args.rows.group.now in
    let column = c.args.typed.column.now in
    let intervals = c.args.rows.runs.now in
    let chunk = c.in_ok-chunk.chunk in
    let at = c.requires.located.same in
    let list = c.args.typed.locations.now in
    let entries = c.in_ok-pages.pages.items in
    let selected : IsSelected group intervals list entries = record { shape = c.requires.located.shape; are = c.in_ok-pages.ensures.pages } in
    let count = c.in_ok-bodies.ensures.length ∙ ap (λ pages. length (filter is_wanted pages)) c.deref.ensures.value in
    let wanted = not c.is_empty.result in
    let long : vec_len c.in_ok-bodies.bodies ≡ length c.in_ok-bodies.bodies.items = omega arith in
    let wanted_is : not c.is_empty.result ≡ not (length c.in_ok-bodies.bodies.items == 0) = ap not (c.is_empty.ensures ∙ ap (λ n. n == 0) long) in
    let now = g.S.Source.taken c.read_before.new.source in
    let bodies = subst (λ pages. g.S.Source.taken c.read_bodies.new.source ≤ g.S.Source.taken c.place_of_chunk.new.source + sum_by (λ (page : FilteredPage). page.length) (filter is_wanted pages)) c.deref.ensures.value c.in_ok-bodies.ensures.taken in
    let before = subst (λ pages. now ≤ g.S.Source.taken c.read_bodies.new.source + (if wanted then first_start pages - chunk.offset else 0)) c.deref-2.ensures.value c.in_ok-before.ensures.taken in
    ok_always c.decode_located.result
    (taken_located group column intervals list entries selected told chunk wanted (g.S.Source.taken c.args.source.now) now c.in_ok-chunk.ensures.place at (wanted_some wanted c.in_ok-bodies.bodies.items entries wanted_is count)
    (omega (arith, c.in_ok-chunk.ensures.taken, bodies, before)))
