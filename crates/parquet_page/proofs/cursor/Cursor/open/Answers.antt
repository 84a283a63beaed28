use Rattle.std.proofs.Common.{◌≡◌, ◌∙◌, sym, ap, subst, List, ℕ, arith}
use Rattle.std.specs.Prelude.{ℤ, Bool, true, false}
use Rattle.parquet_page.specs.Cursor.{is_plain_dictionary}
use Rattle.parquet_page.specs.Spelling.{has_plain_entries}
use Rattle.parquet_meta.specs.declared.page_header.PageKind.{PageKind}
use Rattle.parquet_meta.specs.declared.page_header.PageKind.TheVariants.{Dictionary}
use Rattle.parquet_page.specs.Found.{FoundAt}
use Rattle.parquet_page.specs.declared.found.FoundPage.{FoundPage}
use Rattle.parquet_page.proofs.CursorLemmas.{opens_undefined, opens_late_dictionary, opens_other_dictionary, opens_long_page, opens_dictionary, opens_data}
use Rattle.parquet_page.proofs.cursor.Cursor.open.Goals as goal
use Rattle.parquet_page.proofs.cursor.Cursor.open.Goals.{in-Dictionary+else-not-self+else-not-has_readable_entries, in-Data+else-count-self}

-- what was found in the slice is found in the chunk
in_chunk : (slice chunk : List ℕ) (place : ℕ) (found : FoundPage) → slice ≡ chunk → FoundAt slice place found → FoundAt chunk place found
in_chunk slice chunk place found e at = subst (λ (bytes : List ℕ). FoundAt bytes place found) e at

other_entries : (kind : PageKind) (num_values : ℕ) (encoding : ℤ) (result answer : Bool) → kind ≡ Dictionary num_values encoding → result ≡ is_plain_dictionary kind → result ≡ answer → has_plain_entries encoding ≡ answer
other_entries kind num_values encoding result answer is said told = sym (ap is_plain_dictionary is) ∙ sym said ∙ told

pub returns-then-self-len-clause-opens : goal.returns-then-self-len-clause-opens
returns-then-self-len-clause-opens c kind =
    let s = c.args.self.now in
    opens_undefined kind s.is_first s.left s.chunk.items s.place _ c.requires (rw (← c.as_slice.ensures.value) c.in_default.ensures)

pub returns-else-self-len-clause-opens : goal.returns-else-self-len-clause-opens
returns-else-self-len-clause-opens c kind =
    let s = c.args.self.now in
    opens_undefined kind s.is_first s.left s.chunk.items s.place _ c.requires (rw (← c.as_slice.ensures.value) c.in_default.ensures)

pub returns-then-not-self-clause-opens : goal.returns-then-not-self-clause-opens
returns-then-not-self-clause-opens c kind =
    let s = c.args.self.now in
    let at = in_chunk _ s.chunk.items s.place c.in-Some.found c.as_slice.ensures.value c.in-Some.ensures in
    opens_late_dictionary kind s.is_first s.left s.chunk.items s.place c.in-Some.found c.in-Dictionary.num_values c.in-Dictionary.encoding _ c.requires at c.in-Dictionary.is c.if-not-self.true

pub returns-then-not-has_readable_entries-clause-opens : goal.returns-then-not-has_readable_entries-clause-opens
returns-then-not-has_readable_entries-clause-opens c kind =
    let s = c.args.self.now in
    let at = in_chunk _ s.chunk.items s.place c.in-Some.found c.as_slice.ensures.value c.in-Some.ensures in
    opens_other_dictionary kind s.is_first s.left s.chunk.items s.place c.in-Some.found c.in-Dictionary.num_values c.in-Dictionary.encoding _ c.requires at c.in-Dictionary.is c.if-not-self.false (other_entries _ _ _ _ false c.in-Dictionary.is c.has_readable_entries.ensures c.if-not-has_readable_entries.true)

pub returns-then-count-self-clause-opens : goal.returns-then-count-self-clause-opens
returns-then-count-self-clause-opens c kind =
    let s = c.args.self.now in
    let at = in_chunk _ s.chunk.items s.place c.in-Some.found c.as_slice.ensures.value c.in-Some.ensures in
    opens_long_page kind s.is_first s.left s.chunk.items s.place c.in-Some.found c.in-Data.header _ c.requires at c.in-Data.is (omega (arith, c.value_count-count.ensures, c.if-count-self.true))

pub returns-clause-opens : goal.returns-clause-opens
returns-clause-opens c kind =
    let s = c.args.self.now in
    let at = in_chunk _ s.chunk.items s.place c.in-Some.found c.as_slice.ensures.value c.in-Some.ensures in
    elim c.match-found.branch [
      | in-Dictionary+else-not-self+else-not-has_readable_entries w ↦
          rw w.left-is (opens_dictionary kind s.is_first s.count s.left s.chunk.items s.place c.in-Some.found w.in-Dictionary.num_values w.in-Dictionary.encoding c.requires at w.in-Dictionary.is w.if-not-self.false (other_entries _ _ _ _ true w.in-Dictionary.is w.has_readable_entries.ensures w.if-not-has_readable_entries.false))
      | in-Data+else-count-self w ↦
          rw (w.left-is, w.value_count-count.ensures) (opens_data kind s.is_first s.count s.left s.chunk.items s.place c.in-Some.found w.in-Data.header c.requires s.fewer at w.in-Data.is (omega (arith, w.value_count-count.ensures, w.if-count-self.false)))
    ]
