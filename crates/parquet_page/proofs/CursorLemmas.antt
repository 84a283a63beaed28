-- Walking a chunk.
use Rattle.std.proofs.Common.{◌≡◌, ℕ, zero, suc, ◌-◌, ◌<◌, ◌≤◌, Bool, true, false, List, [], ◌∷◌, length, map, drop, Option, Some, None, refl, sym, ap, ◌∙◌, arith}
use Rattle.std.specs.Prelude.{ℤ}
use Rattle.std.specs.List.{list_all}
use Rattle.std.specs.Option.{option_map_or}
use Rattle.std.proofs.lemmas.Bool.{le-leb, lt-leb}
use Rattle.std.proofs.lemmas.List.{length-drop}
use Rattle.columns_core.specs.Causes.{NotYetImplemented}
use Rattle.columns_core.specs.declared.error.Part.{Part}
use Rattle.columns_core.specs.declared.error.Error.TheVariants as error
use Rattle.parquet_meta.specs.declared.metadata.PrimitiveType.{PrimitiveType}
use Rattle.parquet_meta.specs.declared.page_header.DataPageHeader.{DataPageHeader}
use Rattle.parquet_meta.specs.declared.page_header.PageKind.TheVariants as kind
use Rattle.parquet_page.specs.Chunk.{ChunkPage, DictionaryPage, PageWalk, page_at, data_page_at, dictionary_at, pages_from, chunk_pages, if_defined, NoDictionary, walk_on}
use Rattle.parquet_page.specs.Content.{Content, header_values, is_data}
use Rattle.parquet_page.specs.Cursor.{lent_behind, lent_from}
use Rattle.parquet_page.specs.Taking.{IsOver, IsRefused, TakesPage}
use Rattle.parquet_page.specs.Found.{FoundAt, found_body, found_content}
use Rattle.parquet_page.specs.Lent.{Lent, damaged, behind_dictionary, chunk_lent, lent_dictionary_of, lent_data, lent_data_of}
use Rattle.parquet_page.specs.Spelling.{has_plain_entries}
use Rattle.parquet_page.specs.declared.found.FoundPage.{FoundPage}
use Rattle.parquet_page.proofs.HeaderLemmas.{data_page_behind, behind_size}

-- ---- what is refused

abbrev pub not_carried : Lent
not_carried = record { pages = []; causes = NotYetImplemented ∷ [] }

pub is_damaged : (old : Lent) (part : Part) → old ≡ damaged → IsRefused old (error.ExternalFormat part)
is_damaged old part e = rw e (record { none = refl; told = (0, omega arith, refl) })

pub is_not_carried : (old : Lent) (part : Part) → old ≡ not_carried → IsRefused old (error.NotYetImplemented part)
is_not_carried old part e = rw e (record { none = refl; told = (0, omega arith, refl) })

no_data : (limit left : ℕ) (bytes : List ℕ) → data_page_at (suc left) bytes ≡ None → pages_from limit (suc left) bytes ≡ record { pages = []; is_whole = false }
unfolding pages_from
no_data zero left bytes e = refl
no_data (suc limit) left bytes e = rw e refl

-- no data page, and no dictionary page that may stand there
lends_nothing : (limit : ℕ) (type : PrimitiveType) (is_first : Bool) (left : ℕ) (bytes : List ℕ) → 0 < left → data_page_at left bytes ≡ None → (is_first ≡ true → dictionary_at bytes ≡ None)
    → lent_from limit type is_first left bytes ≡ damaged
unfolding lent_from
lends_nothing limit type is_first zero bytes positive no_page dictionary = absurd (omega arith)
lends_nothing limit type true (suc left) bytes positive no_page dictionary = rw (dictionary refl, no_data limit left bytes no_page) refl
lends_nothing limit type false (suc left) bytes positive no_page dictionary = rw (no_data limit left bytes no_page) refl

undefined_page : (left : ℕ) (bytes : List ℕ) → page_at bytes ≡ None → (data_page_at left bytes ≡ None) × (dictionary_at bytes ≡ None)
unfolding data_page_at dictionary_at
undefined_page left bytes e = (rw e refl, rw e refl)

-- ---- the kinds of pages

pub page_of_dictionary : (left num_values : ℕ) (encoding : ℤ) (body rest bytes : List ℕ) → page_at bytes ≡ Some (record { kind = kind.Dictionary num_values encoding; body = body }, rest)
    → (data_page_at left bytes ≡ None) × (dictionary_at bytes ≡ Some (record { size = length bytes - length rest; num_values = num_values; encoding = encoding; body = body }, rest))
unfolding data_page_at dictionary_at
page_of_dictionary left num_values encoding body rest bytes e = (rw e refl, rw e refl)

pub page_of_data : (left : ℕ) (header : DataPageHeader) (body rest bytes : List ℕ) → page_at bytes ≡ Some (record { kind = kind.Data header; body = body }, rest)
    → (header_values header ≤ left → data_page_at left bytes ≡ Some (record { size = length bytes - length rest; header = header; body = body }, rest))
    × (left < header_values header → data_page_at left bytes ≡ None)
    × (dictionary_at bytes ≡ None)
unfolding data_page_at dictionary_at
page_of_data left header body rest bytes e = (λ few. rw (e, le-leb _ _ few) refl, λ many. rw (e, lt-leb _ _ many) refl, rw e refl)

-- ---- the dictionary page

lends_no_dictionary : (limit : ℕ) (type : PrimitiveType) (left : ℕ) (bytes : List ℕ) (read : DictionaryPage × List ℕ) → 0 < left → dictionary_at bytes ≡ Some read → has_plain_entries read.0.encoding ≡ false
    → lent_from limit type true left bytes ≡ not_carried
unfolding lent_from
lends_no_dictionary limit type zero bytes read positive e no_encoding = absurd (omega arith)
lends_no_dictionary limit type (suc left) bytes read positive e no_encoding = rw (e, no_encoding) refl

-- a page in front of others
pub record InFront (page : Content) (old new : Lent) : Type 0 where
  pub first : old.pages ≡ page ∷ new.pages
  pub same : old.causes ≡ new.causes

lends_dictionary : (limit : ℕ) (type : PrimitiveType) (left : ℕ) (bytes : List ℕ) (read : DictionaryPage × List ℕ) → 0 < left → dictionary_at bytes ≡ Some read → has_plain_entries read.0.encoding ≡ true
    → InFront (lent_dictionary_of read.0) (lent_from limit type true left bytes) (lent_from limit type false left read.1)
unfolding lent_from
lends_dictionary limit type zero bytes read positive e encoding = absurd (omega arith)
lends_dictionary limit type (suc left) bytes read positive e encoding = rw (e, encoding) (record { first = refl; same = refl })

-- ---- a data page

same_walk_on : (r : Option (ChunkPage × List ℕ)) (f g : ChunkPage → List ℕ → PageWalk) → ((page : ChunkPage) (rest : List ℕ) → r ≡ Some (page, rest) → f page rest ≡ g page rest) → walk_on r f ≡ walk_on r g
same_walk_on None f g h = refl
same_walk_on (Some read) f g h = ap (λ (walk : PageWalk). record { pages = read.0 ∷ walk.pages; is_whole = walk.is_whole }) (h read.0 read.1 refl)

no_bytes : (left : ℕ) (bytes : List ℕ) → length bytes ≤ 0 → data_page_at left bytes ≡ None
no_bytes left bytes h = go (data_page_at left bytes) refl where
  go : (r : Option (ChunkPage × List ℕ)) → data_page_at left bytes ≡ r → data_page_at left bytes ≡ None
  go None e = e
  go (Some read) e = let behind = data_page_behind left bytes read e in absurd (omega (arith, behind.shorter))

-- there are fewer pages than bytes
pub pages-limit : (a b left : ℕ) (bytes : List ℕ) → length bytes ≤ a → length bytes ≤ b → pages_from a left bytes ≡ pages_from b left bytes
unfolding pages_from
pages-limit zero zero zero bytes h k = refl
pages-limit zero (suc b) zero bytes h k = refl
pages-limit (suc a) zero zero bytes h k = refl
pages-limit (suc a) (suc b) zero bytes h k = refl
pages-limit zero zero (suc left) bytes h k = refl
pages-limit zero (suc b) (suc left) bytes h k = rw (no_bytes (suc left) bytes h) refl
pages-limit (suc a) zero (suc left) bytes h k = rw (no_bytes (suc left) bytes k) refl
pages-limit (suc a) (suc b) (suc left) bytes h k =
    same_walk_on (data_page_at (suc left) bytes) _ _ (λ page rest e.
    let behind = data_page_behind (suc left) bytes (page, rest) e in
    pages-limit a b (suc left - header_values page.header) rest (omega (arith, behind.shorter)) (omega (arith, behind.shorter)))

-- the rest is lent as if it were all
lends_rest : (limit : ℕ) (type : PrimitiveType) (left : ℕ) (bytes : List ℕ) → lent_from limit type false left bytes ≡ lent_data type (pages_from limit left bytes)
unfolding lent_from pages_from
lends_rest zero type zero bytes = refl
lends_rest (suc limit) type zero bytes = refl
lends_rest limit type (suc left) bytes = refl

lends_walk : (limit : ℕ) (type : PrimitiveType) (is_first : Bool) (left : ℕ) (bytes : List ℕ) → (is_first ≡ true → dictionary_at bytes ≡ None) → lent_from limit type is_first left bytes ≡ lent_data type (pages_from limit left bytes)
unfolding lent_from pages_from
lends_walk zero type is_first zero bytes dictionary = refl
lends_walk (suc limit) type is_first zero bytes dictionary = refl
lends_walk limit type true (suc left) bytes dictionary = rw (dictionary refl) refl
lends_walk limit type false (suc left) bytes dictionary = refl

walk_step : (limit left : ℕ) (bytes : List ℕ) (page : ChunkPage) (rest : List ℕ) → 0 < left → length bytes ≤ limit → data_page_at left bytes ≡ Some (page, rest)
    → pages_from limit left bytes ≡ walk_on (Some (page, rest)) (λ page rest. pages_from limit (left - header_values page.header) rest)
unfolding pages_from
walk_step limit zero bytes page rest positive h e = absurd (omega arith)
walk_step zero (suc left) bytes page rest positive h e = let behind = data_page_behind (suc left) bytes (page, rest) e in absurd (omega (arith, behind.shorter))
walk_step (suc limit) (suc left) bytes page rest positive h e =
    let behind = data_page_behind (suc left) bytes (page, rest) e in
    rw e (ap (λ (walk : PageWalk). record { pages = page ∷ walk.pages; is_whole = walk.is_whole })
    (pages-limit limit (suc limit) (suc left - header_values page.header) rest (omega (arith, behind.shorter)) (omega (arith, behind.shorter))))

lends_data : (limit : ℕ) (type : PrimitiveType) (is_first : Bool) (left : ℕ) (bytes : List ℕ) (page : ChunkPage) (rest : List ℕ) → 0 < left → length bytes ≤ limit → (is_first ≡ true → dictionary_at bytes ≡ None)
    → data_page_at left bytes ≡ Some (page, rest)
    → InFront (lent_data_of type None page) (lent_from limit type is_first left bytes) (lent_from limit type false (left - header_values page.header) rest)
lends_data limit type is_first left bytes page rest positive h dictionary e =
    let whole = lends_walk limit type is_first left bytes dictionary ∙ ap (lent_data type) (walk_step limit left bytes page rest positive h e) in
    let others = lends_rest limit type (left - header_values page.header) rest in
    record {
      first = ap (λ (lent : Lent). lent.pages) whole ∙ ap (λ (lent : Lent). lent_data_of type None page ∷ lent.pages) (sym others);
      same = ap (λ (lent : Lent). lent.causes) whole ∙ ap (λ (lent : Lent). lent.causes) (sym others);
    }

-- nothing more is lent where no value is wanted
pub lends_none : (limit : ℕ) (type : PrimitiveType) (is_first : Bool) (left : ℕ) (bytes : List ℕ) → left ≡ 0 → IsOver (lent_from limit type is_first left bytes)
unfolding lent_from
lends_none limit type is_first zero bytes e = record { none = refl; ends = refl }
lends_none limit type is_first (suc left) bytes e = absurd (omega arith)

differ : (b : Bool) → b ≡ false → b ≡ true → ⊥
differ b late first = absurd cc

-- behind the first page there are data pages alone
pub data_alone : (type : PrimitiveType) (pages : List ChunkPage) → list_all is_data (map (lent_data_of type None) pages) ≡ true
data_alone type [] = refl
data_alone type (page ∷ pages) = data_alone type pages

pub rest_alone : (limit : ℕ) (type : PrimitiveType) (left : ℕ) (bytes : List ℕ) → list_all is_data (lent_from limit type false left bytes).pages ≡ true
rest_alone limit type left bytes = ap (λ (lent : Lent). list_all is_data lent.pages) (lends_rest limit type left bytes) ∙ data_alone type (pages_from limit left bytes).pages

-- ---- as the cursor stands

-- no page is defined
pub opens_undefined : (type : PrimitiveType) (is_first : Bool) (left : ℕ) (chunk : List ℕ) (place : ℕ) (part : Part) → 0 < left → page_at (drop place chunk) ≡ None
    → IsRefused (lent_from (length chunk) type is_first left (drop place chunk)) (error.ExternalFormat part)
opens_undefined type is_first left chunk place part positive e =
    let undefined = undefined_page left (drop place chunk) e in
    is_damaged _ part (lends_nothing (length chunk) type is_first left (drop place chunk) positive undefined.0 (λ _. undefined.1))

-- a dictionary page stands in another place than the first
pub opens_late_dictionary : (type : PrimitiveType) (is_first : Bool) (left : ℕ) (chunk : List ℕ) (place : ℕ) (found : FoundPage) (num_values : ℕ) (encoding : ℤ) (part : Part) → 0 < left → FoundAt chunk place found
    → found.kind ≡ kind.Dictionary num_values encoding → is_first ≡ false
    → IsRefused (lent_from (length chunk) type is_first left (drop place chunk)) (error.ExternalFormat part)
opens_late_dictionary type is_first left chunk place found num_values encoding part positive at same late =
    let page = page_of_dictionary left num_values encoding (found_body chunk found) (drop found.end chunk) (drop place chunk) (rw (← same) at.value) in
    is_damaged _ part (lends_nothing (length chunk) type is_first left (drop place chunk) positive page.0 (λ first. absurd (differ is_first late first)))

pub opens_other_dictionary : (type : PrimitiveType) (is_first : Bool) (left : ℕ) (chunk : List ℕ) (place : ℕ) (found : FoundPage) (num_values : ℕ) (encoding : ℤ) (part : Part) → 0 < left → FoundAt chunk place found
    → found.kind ≡ kind.Dictionary num_values encoding → is_first ≡ true → has_plain_entries encoding ≡ false
    → IsRefused (lent_from (length chunk) type is_first left (drop place chunk)) (error.NotYetImplemented part)
opens_other_dictionary type is_first left chunk place found num_values encoding part positive at same first no_encoding =
    let page = page_of_dictionary left num_values encoding (found_body chunk found) (drop found.end chunk) (drop place chunk) (rw (← same) at.value) in
    is_not_carried _ part (rw first (lends_no_dictionary (length chunk) type left (drop place chunk) _ positive page.1 no_encoding))

pub opens_long_page : (type : PrimitiveType) (is_first : Bool) (left : ℕ) (chunk : List ℕ) (place : ℕ) (found : FoundPage) (header : DataPageHeader) (part : Part) → 0 < left → FoundAt chunk place found
    → found.kind ≡ kind.Data header → left < header_values header
    → IsRefused (lent_from (length chunk) type is_first left (drop place chunk)) (error.ExternalFormat part)
opens_long_page type is_first left chunk place found header part positive at same many =
    let page = page_of_data left header (found_body chunk found) (drop found.end chunk) (drop place chunk) (rw (← same) at.value) in
    is_damaged _ part (lends_nothing (length chunk) type is_first left (drop place chunk) positive (page.1 many) (λ _. page.2))

pub opens_dictionary : (type : PrimitiveType) (is_first : Bool) (count left : ℕ) (chunk : List ℕ) (place : ℕ) (found : FoundPage) (num_values : ℕ) (encoding : ℤ) → 0 < left → FoundAt chunk place found
    → found.kind ≡ kind.Dictionary num_values encoding → is_first ≡ true → has_plain_entries encoding ≡ true
    → TakesPage (found_content type None chunk found) (lent_from (length chunk) type is_first left (drop place chunk)) (lent_from (length chunk) type false left (drop found.end chunk)) (count - left) (count - left)
opens_dictionary type is_first count left chunk place found num_values encoding positive at same first read =
    let page = page_of_dictionary left num_values encoding (found_body chunk found) (drop found.end chunk) (drop place chunk) (rw (← same) at.value) in
    let lends = lends_dictionary (length chunk) type left (drop place chunk) _ positive page.1 read in
    rw (first, same) (record { first = lends.first; same = lends.same; data_alone = rest_alone (length chunk) type left (drop found.end chunk); shaped = refl; more = omega arith })

pub opens_data : (type : PrimitiveType) (is_first : Bool) (count left : ℕ) (chunk : List ℕ) (place : ℕ) (found : FoundPage) (header : DataPageHeader) → 0 < left → left ≤ count → FoundAt chunk place found
    → found.kind ≡ kind.Data header → header_values header ≤ left
    → TakesPage (found_content type None chunk found) (lent_from (length chunk) type is_first left (drop place chunk)) (lent_from (length chunk) type false (left - header_values header) (drop found.end chunk)) (count - left) (count - (left - header_values header))
opens_data type is_first count left chunk place found header positive fewer at same few =
    let page = page_of_data left header (found_body chunk found) (drop found.end chunk) (drop place chunk) (rw (← same) at.value) in
    let lends = lends_data (length chunk) type is_first left (drop place chunk) _ (drop found.end chunk) positive (omega (arith, length-drop place chunk)) (λ _. page.2) (page.0 few) in
    rw same (record { first = lends.first; same = lends.same; data_alone = rest_alone (length chunk) type (left - header_values header) (drop found.end chunk); shaped = refl; more = omega arith })

-- ---- the whole chunk

pub lends_chunk : (type : PrimitiveType) (num_values : ℕ) (chunk : List ℕ) → lent_from (length chunk) type true num_values chunk ≡ chunk_lent type num_values chunk
unfolding lent_from chunk_lent chunk_pages
lends_chunk type zero chunk = refl
lends_chunk type (suc num_values) chunk = go (dictionary_at chunk) refl where
  go : (read : Option (DictionaryPage × List ℕ)) → dictionary_at chunk ≡ read → lent_behind type read (pages_from (length chunk) (suc num_values)) chunk
      ≡ behind_dictionary (if_defined read NoDictionary) (lent_data type (pages_from (length chunk) (suc num_values) (drop (option_map_or (λ (found : DictionaryPage × List ℕ). found.0.size) read 0) chunk)))
  go None e = refl
  go (Some read) e = ap (λ bytes. behind_dictionary (if_defined (Some read) NoDictionary) (lent_data type (pages_from (length chunk) (suc num_values) bytes))) (sym (behind_size chunk read e))
