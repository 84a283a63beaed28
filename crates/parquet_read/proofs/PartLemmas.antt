-- Parts of a chunk that are read one by one stand for the chunk.
use Rattle.std.proofs.Common.{◌≡◌, ◌∙◌, ℕ, ◌+◌, ◌-◌, ◌≤◌, Bool, true, false, List, [], ◌∷◌, length, map, take, drop, refl, sym, ap, subst, arith, Option, Some, None}
use Rattle.std.specs.Prelude.{◌&&◌, ◌==◌, nat_le, filter, sum_by, zip, slice_range, if◌then◌else◌}
use Rattle.std.specs.List.{list_all}
use Rattle.std.proofs.lemmas.Bool.{and_parts, eq-eqb, eqb-true, le-leb, leb-true, true≢false}
use Rattle.std.proofs.lemmas.List.{take-take, length-map, length-take-le, length-drop}
use Rattle.parquet_base.specs.Reading.{◌>>=◌}
use Rattle.parquet_encoding.proofs.StepLemmas.{bind_some, some_is}
use Rattle.parquet_meta.specs.Lists.{all_of}
use Rattle.parquet_meta.specs.Chunks.{chunk_range, chunk_start}
use Rattle.parquet_meta.specs.Places.{place_end, bytes_at, part_at}
use Rattle.parquet_meta.specs.declared.metadata.ColumnChunkMetaData.{ColumnChunkMetaData}
use Rattle.parquet_meta.specs.declared.metadata.PrimitiveType.{PrimitiveType}
use Rattle.parquet_meta.proofs.SliceLemmas.{slice_at}
use Rattle.parquet_page.specs.Lent.{first_start, is_wanted, located_chunk, located_lent, located_parts}
use Rattle.parquet_page.specs.Chunk.{Undefined}
use Rattle.parquet_page.specs.Located.{dictionary_in, located_dictionary}
use Rattle.parquet_page.specs.declared.page.FilteredPage.{FilteredPage}
use Rattle.parquet_read.specs.Asked.{are_in_range, length_before, page_length, page_part, part_in_front, parts_length, place_of_before}
use Rattle.parquet_read.specs.Opening.{counted_from, placed_in}
use Rattle.parquet_read.proofs.PlaceLemmas.{lengths_placed, lie_placed, wanted_placed}

pub bytes_there : (file : List ℕ) (start size : ℕ) → start + size ≤ length file → length (take size (drop start file)) ≡ size
bytes_there file start size fits = length-take-le size (drop start file) (omega (arith, fits, length-drop start file))

-- a part that lies in the file is there
part_is : (file part : List ℕ) (offset size : ℕ) → offset + size ≤ length file → part_at file (record { offset = offset; length = size }) ≡ Some part → take size (drop offset file) ≡ part
part_is file part offset size fits there =
    let inside : nat_le (offset + size) (length file) ≡ true = le-leb _ _ fits in
    some_is _ _ (sym (ap (λ (b : Bool). if b then Some (take size (drop offset file)) else None) inside) ∙ there)

-- where a first part is there, all are missing only where the others are
missing : (o : Option (List (List ℕ))) (part : List ℕ) → (o ≡ None → ⊥) → (o >>= λ others. Some (part ∷ others)) ≡ None → ⊥
missing None part there e = there refl
missing (Some others) part there e = let bad : Some (part ∷ others) ≡ None = e in cc

module _ (file : List ℕ) (start size : ℕ) (fits : start + size ≤ length file) where
  abbrev chunk : List ℕ
  chunk = take size (drop start file)

  abbrev in_chunk : FilteredPage → FilteredPage × List ℕ
  in_chunk entry = (entry, slice_range chunk entry.start (entry.start + entry.length))

  abbrev lies : ℕ → FilteredPage → Bool
  lies first entry = nat_le (entry.start - start + entry.length) size && nat_le first size

  body_is : (first : ℕ) (entry : FilteredPage) (body : List ℕ) → nat_le start entry.start ≡ true → lies first entry ≡ true → page_part file entry ≡ Some body
      → body ≡ slice_range chunk (entry.start - start) (entry.start - start + entry.length)
  body_is first entry body behind inside there =
      let place_end : start ≤ entry.start = leb-true _ _ behind in
      let within : entry.start - start + entry.length ≤ size = leb-true _ _ (and_parts _ _ inside).0 in
      let own : start + (entry.start - start) ≡ entry.start = omega (arith, place_end) in
      sym (slice_at file start size (entry.start - start) entry.length within
      ∙ ap (λ (n : ℕ). take entry.length (drop n file)) own
      ∙ part_is file body entry.start entry.length (omega (arith, place_end, within, fits)) there)

  bodies_are : (first : ℕ) (wanted : List FilteredPage) (bodies : List (List ℕ)) → list_all (λ (entry : FilteredPage). nat_le start entry.start) wanted ≡ true → list_all (lies first) wanted ≡ true
      → all_of (page_part file) wanted ≡ Some bodies → zip (map (counted_from start) wanted) bodies ≡ map in_chunk (map (counted_from start) wanted)
  unfolding all_of
  bodies_are first [] bodies behind inside there = refl
  bodies_are first (entry ∷ wanted) bodies behind inside there =
      let front = and_parts _ _ behind in
      let lying = and_parts _ _ inside in
      let one = bind_some (page_part file entry) _ bodies there in
      let others = bind_some (all_of (page_part file) wanted) _ bodies one.2 in
      let made : one.0 ∷ others.0 ≡ bodies = some_is _ _ others.2 in
      let own = body_is first entry one.0 front.0 lying.0 one.1 in
      ap (zip (map (counted_from start) (entry ∷ wanted))) (sym made)
      ∙ ap (λ (l : List (FilteredPage × List ℕ)). (counted_from start entry, one.0) ∷ l) (bodies_are first wanted others.0 front.1 lying.1 others.1)
      ∙ ap (λ (body : List ℕ). let page : FilteredPage × List ℕ = (counted_from start entry, body) in page ∷ map in_chunk (map (counted_from start) wanted)) own

  page_there : (first : ℕ) (entry : FilteredPage) → nat_le start entry.start ≡ true → lies first entry ≡ true → page_part file entry ≡ Some (take entry.length (drop entry.start file))
  page_there first entry behind inside =
      let place_end : start ≤ entry.start = leb-true _ _ behind in
      let within : entry.start - start + entry.length ≤ size = leb-true _ _ (and_parts _ _ inside).0 in
      let there : nat_le (entry.start + entry.length) (length file) ≡ true = le-leb _ _ (omega (arith, place_end, within, fits)) in
      ap (λ (b : Bool). if b then Some (take entry.length (drop entry.start file)) else None) there

  -- each of them is there
  pub pages_there : (first : ℕ) (wanted : List FilteredPage) → list_all (λ (entry : FilteredPage). nat_le start entry.start) wanted ≡ true → list_all (lies first) wanted ≡ true → all_of (page_part file) wanted ≡ None → ⊥
  unfolding all_of
  pages_there first [] behind inside none = let bad : Some [] ≡ None = none in cc
  pages_there first (entry ∷ wanted) behind inside none =
      let front = and_parts _ _ behind in
      let lying = and_parts _ _ inside in
      let own : (all_of (page_part file) wanted >>= λ others. Some (take entry.length (drop entry.start file) ∷ others)) ≡ None =
      sym (ap (λ (o : Option (List ℕ)). o >>= λ body. all_of (page_part file) wanted >>= λ others. Some (body ∷ others)) (page_there first entry front.0 lying.0)) ∙ none in
      missing (all_of (page_part file) wanted) (take entry.length (drop entry.start file)) (λ is. pages_there first wanted front.1 lying.1 is) own

  -- the part before the first page is there
  pub before_there : (first : ℕ) (wanted : List FilteredPage) → list_all (lies first) wanted ≡ true → 1 ≤ length wanted → part_at file (record { offset = start; length = first }) ≡ None → ⊥
  before_there first [] inside some none = omega (arith, some)
  before_there first (entry ∷ wanted) inside some none =
      let within : first ≤ size = leb-true _ _ (and_parts _ _ (and_parts _ _ inside).0).1 in
      let there : nat_le (start + first) (length file) ≡ true = le-leb _ _ (omega (arith, within, fits)) in
      let bad : Some (take first (drop start file)) ≡ None = sym (ap (λ (b : Bool). if b then Some (take first (drop start file)) else None) there) ∙ none in
      cc

  dictionary_same : (type : PrimitiveType) (first : ℕ) (before : List ℕ) (wanted : List FilteredPage) → list_all (lies first) wanted ≡ true
      → (1 ≤ length wanted → part_at file (record { offset = start; length = first }) ≡ Some before)
      → located_lent type (dictionary_in before) (map in_chunk (map (counted_from start) wanted)) ≡ located_lent type (located_dictionary chunk first) (map in_chunk (map (counted_from start) wanted))
  unfolding located_lent
  dictionary_same type first before [] inside there = refl
  dictionary_same type first before (entry ∷ wanted) inside there =
      let within : first ≤ size = leb-true _ _ (and_parts _ _ (and_parts _ _ inside).0).1 in
      let long = bytes_there file start size fits in
      let test : nat_le first (length chunk) ≡ true = le-leb _ _ (omega (arith, within, long)) in
      let part : take first chunk ≡ before =
      take-take first size (drop start file) within ∙ part_is file before start first (omega (arith, within, fits)) (there (omega arith)) in
      ap (λ (bytes : List ℕ). located_lent type (dictionary_in bytes) (map in_chunk (map (counted_from start) (entry ∷ wanted)))) (sym part)
      ∙ sym (ap (λ (b : Bool). located_lent type (if b then dictionary_in (take first chunk) else Undefined) (map in_chunk (map (counted_from start) (entry ∷ wanted)))) test)

  -- what is lent by parts is what is lent of the chunk
  pub parts_lend : (type : PrimitiveType) (entries : List FilteredPage) (before : List ℕ) (bodies : List (List ℕ))
      → list_all (λ (entry : FilteredPage). nat_le start entry.start) (filter is_wanted entries) ≡ true
      → list_all (lies (first_start (map (counted_from start) entries))) (filter is_wanted entries) ≡ true
      → all_of (page_part file) (filter is_wanted entries) ≡ Some bodies
      → (1 ≤ length (filter is_wanted entries) → part_at file (record { offset = start; length = first_start (map (counted_from start) entries) }) ≡ Some before)
      → located_parts type (Some before) (map (counted_from start) entries) bodies ≡ located_chunk type chunk (map (counted_from start) entries)
  parts_lend type entries before bodies behind inside there first_there =
      let first = first_start (map (counted_from start) entries) in
      let wanted = filter is_wanted entries in
      ap (λ (l : List FilteredPage). located_lent type (dictionary_in before) (zip l bodies)) (wanted_placed start entries)
      ∙ ap (located_lent type (dictionary_in before)) (bodies_are first wanted bodies behind inside there)
      ∙ dictionary_same type first before wanted inside first_there
      ∙ sym (ap (λ (l : List FilteredPage). located_lent type (located_dictionary chunk first) (map in_chunk l)) (wanted_placed start entries))

-- ---- by what the metadata allow

module _ (column : ColumnChunkMetaData) (file : List ℕ) (entries : List FilteredPage) (range : are_in_range column entries ≡ true) (fits : nat_le (place_end (chunk_range column)) (length file) ≡ true) where
  abbrev first_place : ℕ
  first_place = first_start (placed_in column entries)

  behind : list_all (λ (entry : FilteredPage). nat_le (chunk_start column) entry.start) (filter is_wanted entries) ≡ true
  behind = (and_parts _ _ range).0

  inside : list_all (λ (entry : FilteredPage). nat_le (entry.start - chunk_start column + entry.length) column.total_compressed_size && nat_le first_place column.total_compressed_size) (filter is_wanted entries) ≡ true
  inside = sym (lie_placed (chunk_start column) column.total_compressed_size entries) ∙ (and_parts _ _ range).1

  pub bodies_missing : all_of (page_part file) (filter is_wanted entries) ≡ None → ⊥
  bodies_missing none = pages_there file (chunk_start column) column.total_compressed_size (leb-true _ _ fits) first_place (filter is_wanted entries) behind inside none

  pub before_missing : (read : ℕ) → read ≡ length (filter is_wanted entries) → part_in_front file column entries read ≡ None → ⊥
  before_missing read all none = go (read == 0) refl (filter is_wanted entries) all inside where
    go : (b : Bool) → (read == 0) ≡ b → (wanted : List FilteredPage) → read ≡ length wanted
        → list_all (λ (entry : FilteredPage). nat_le (entry.start - chunk_start column + entry.length) column.total_compressed_size && nat_le first_place column.total_compressed_size) wanted ≡ true → ⊥
    go true is wanted count lies = let bad : Some [] ≡ None = sym (ap (λ (b : Bool). if b then Some [] else part_at file (place_of_before column entries)) is) ∙ none in cc
    go false is [] count lies = true≢false (sym (eq-eqb read 0 count) ∙ is)
    go false is (entry ∷ wanted) count lies =
        before_there file (chunk_start column) column.total_compressed_size (leb-true _ _ fits) first_place (entry ∷ wanted) lies (omega arith)
        (sym (ap (λ (b : Bool). if b then Some [] else part_at file (place_of_before column entries)) is) ∙ none)

  read_some : (read : ℕ) (before : List ℕ) → read ≡ length (filter is_wanted entries) → part_in_front file column entries read ≡ Some before → 1 ≤ length (filter is_wanted entries) → part_at file (place_of_before column entries) ≡ Some before
  read_some read before all part some = go (read == 0) refl where
    go : (b : Bool) → (read == 0) ≡ b → part_at file (place_of_before column entries) ≡ Some before
    go true is = let none : read ≡ 0 = eqb-true read 0 is in absurd (omega (arith, none, all, some))
    go false is = sym (ap (λ (b : Bool). if b then Some [] else part_at file (place_of_before column entries)) is) ∙ part

  pub parts_chunk : (type : PrimitiveType) (before : List ℕ) (bodies : List (List ℕ)) (read : ℕ) → all_of (page_part file) (filter is_wanted entries) ≡ Some bodies
      → read ≡ length (filter is_wanted entries) → part_in_front file column entries read ≡ Some before
      → located_parts type (Some before) (placed_in column entries) bodies ≡ located_chunk type (bytes_at file (chunk_range column)) (placed_in column entries)
  parts_chunk type before bodies read there all part =
      parts_lend file (chunk_start column) column.total_compressed_size (leb-true _ _ fits) type entries before bodies behind inside there (read_some read before all part)

-- ---- how many bytes are taken

taken_of : (column : ColumnChunkMetaData) (entries placed : List FilteredPage) (read from mid to : ℕ) → read ≡ length placed → mid ≤ from + sum_by page_length placed → to ≤ mid + length_before column entries read
    → to ≤ from + (if length placed == 0 then 0 else first_start (placed_in column entries) + sum_by page_length placed)
taken_of column entries [] read from mid to all first second =
    let none : (read == 0) ≡ true = eq-eqb read 0 all in
    let own : to ≤ mid + 0 = subst (λ (b : Bool). to ≤ mid + (if b then 0 else first_start (placed_in column entries))) none second in
    omega (arith, first, own)
taken_of column entries (entry ∷ placed) read from mid to all first second = go (length (entry ∷ placed) == 0) refl where
  go : (b : Bool) → (length (entry ∷ placed) == 0) ≡ b → to ≤ from + (if b then 0 else first_start (placed_in column entries) + sum_by page_length (entry ∷ placed))
  go true is = let bad : length (entry ∷ placed) ≡ 0 = eqb-true _ 0 is in absurd (omega (arith, bad))
  go false is =
      let some : (read == 0) ≡ false = ap (λ (n : ℕ). n == 0) all ∙ is in
      let own : to ≤ mid + first_start (placed_in column entries) = subst (λ (b : Bool). to ≤ mid + (if b then 0 else first_start (placed_in column entries))) some second in
      omega (arith, first, own)

pub parts_taken : (column : ColumnChunkMetaData) (entries : List FilteredPage) (read from mid to : ℕ) → read ≡ length (filter is_wanted entries) → mid ≤ from + sum_by page_length (filter is_wanted entries)
    → to ≤ mid + length_before column entries read → to ≤ from + parts_length (placed_in column entries)
parts_taken column entries read from mid to all first second =
    let start = chunk_start column in
    let alike = wanted_placed start entries in
    let long : length (filter is_wanted (placed_in column entries)) ≡ length (filter is_wanted entries) = ap length alike ∙ length-map (filter is_wanted entries) (counted_from start) in
    let much : sum_by page_length (filter is_wanted (placed_in column entries)) ≡ sum_by page_length (filter is_wanted entries) = ap (sum_by page_length) alike ∙ lengths_placed start (filter is_wanted entries) in
    taken_of column entries (filter is_wanted (placed_in column entries)) read from mid to (all ∙ sym long) (omega (arith, first, much)) second

-- what is read of pages alone is no more
pub bodies_taken : (column : ColumnChunkMetaData) (entries : List FilteredPage) (from to : ℕ) → to ≤ from + sum_by page_length (filter is_wanted entries) → to ≤ from + parts_length (placed_in column entries)
bodies_taken column entries from to le = parts_taken column entries (length (filter is_wanted entries)) from to to refl le (omega arith)
