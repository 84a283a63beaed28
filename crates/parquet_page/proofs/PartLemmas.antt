-- Pages that fill their parts.
use Rattle.std.proofs.Common.{◌≡◌, ◌≢◌, ℕ, ◌+◌, ◌-◌, ◌<◌, ◌≤◌, leb, Bool, true, false, List, [], ◌∷◌, length, drop, Some, None, refl, sym, ap, ◌∙◌, arith, inl, inr}
use Rattle.std.specs.Prelude.{ℤ, ◌==◌, ◌&&◌, nat_le}
use Rattle.std.specs.List.{list_all}
use Rattle.std.proofs.lemmas.Bool.{and_parts, eq-eqb, leb-true, leb-false}
use Rattle.std.proofs.lemmas.Bool.Decides.{eqb_tells}
use Rattle.std.proofs.lemmas.List.{length-drop}
use Rattle.columns_core.specs.declared.error.Part.{Part}
use Rattle.columns_core.specs.declared.error.Error.TheVariants as error
use Rattle.parquet_meta.specs.declared.page_header.DataPageHeader.{DataPageHeader}
use Rattle.parquet_meta.specs.declared.page_header.PageKind.{PageKind}
use Rattle.parquet_meta.specs.declared.page_header.PageKind.TheVariants as kind
use Rattle.parquet_page.specs.Chunk.{Undefined, Defined, DictionaryPage, page_at, data_page_at, dictionary_at, if_defined}
use Rattle.parquet_page.specs.Content.{header_values}
use Rattle.parquet_page.specs.Cursor.{is_plain_dictionary}
use Rattle.parquet_page.specs.Found.{FoundAt, found_body}
use Rattle.parquet_page.specs.Lent.{Lent, behind_dictionary, wanted_page}
use Rattle.parquet_page.specs.Located.{dictionary_in, page_in}
use Rattle.parquet_page.specs.Parts.{Begins, Fills}
use Rattle.parquet_page.specs.Spelling.{has_plain_entries}
use Rattle.parquet_page.specs.Taking.{IsRefused}
use Rattle.parquet_page.specs.declared.found.FoundPage.{FoundPage}
use Rattle.parquet_page.specs.declared.page.FilteredPage.{FilteredPage}
use Rattle.parquet_page.proofs.CursorLemmas.{is_damaged, is_not_carried, page_of_data, page_of_dictionary}

differs : (a b : ℕ) → a ≢ b → (a == b) ≡ false
differs a b other = elim (eqb_tells a b) [ inl same ↦ absurd (other same.1) | inr apart ↦ apart.0 ]

-- ---- a page in its part

-- a part of the stated length
stated : (entry : FilteredPage) (part : List ℕ) → length part ≡ entry.length → wanted_page entry part ≡ page_in part entry.num_rows
stated entry part same = rw (eq-eqb (length part) entry.length same) refl

no_page : (part : List ℕ) (rows : ℕ) → data_page_at rows part ≡ None → page_in part rows ≡ None
unfolding page_in
no_page part rows e = rw e refl

pub no_wanted_page : (entry : FilteredPage) (part : List ℕ) → length part ≡ entry.length → page_at part ≡ None → wanted_page entry part ≡ None
unfolding data_page_at
no_wanted_page entry part same e = stated entry part same ∙ no_page part entry.num_rows (rw e refl)

pub dictionary_is_no_data : (entry : FilteredPage) (part : List ℕ) (found : FoundPage) (num_values : ℕ) (encoding : ℤ) → length part ≡ entry.length → FoundAt part 0 found → found.kind ≡ kind.Dictionary num_values encoding → wanted_page entry part ≡ None
dictionary_is_no_data entry part found num_values encoding same at is =
    let page = page_of_dictionary entry.num_rows num_values encoding (found_body part found) (drop found.end part) part (rw (← is) at.value) in
    stated entry part same ∙ no_page part entry.num_rows page.0

-- the page is shorter than its part, or has another number of values
fills_not : (entry : FilteredPage) (part : List ℕ) (found : FoundPage) (header : DataPageHeader) → length part ≡ entry.length → FoundAt part 0 found → found.kind ≡ kind.Data header
    → ((length (drop found.end part) == 0) && (header_values header == entry.num_rows)) ≡ false → wanted_page entry part ≡ None
unfolding page_in
fills_not entry part found header same at is apart =
    let page = page_of_data entry.num_rows header (found_body part found) (drop found.end part) part (rw (← is) at.value) in
    stated entry part same ∙ go (leb (header_values header) entry.num_rows) refl page.0 page.1 where
      go : (b : Bool) → leb (header_values header) entry.num_rows ≡ b
          → (header_values header ≤ entry.num_rows → data_page_at entry.num_rows part ≡ Some (record { size = length part - length (drop found.end part); header = header; body = found_body part found }, drop found.end part))
          → (entry.num_rows < header_values header → data_page_at entry.num_rows part ≡ None) → page_in part entry.num_rows ≡ None
      go true e few many = rw (few (leb-true _ _ e), apart) refl
      go false e few many = rw (many (leb-false _ _ e)) refl

pub is_shorter : (entry : FilteredPage) (part : List ℕ) (found : FoundPage) (header : DataPageHeader) → length part ≡ entry.length → FoundAt part 0 found → found.kind ≡ kind.Data header
    → found.end ≢ length part → wanted_page entry part ≡ None
is_shorter entry part found header same at is apart =
    let left : (length (drop found.end part) == 0) ≡ false = differs _ 0 (λ none. apart (omega (arith, none, length-drop found.end part, at.inside.within))) in
    fills_not entry part found header same at is (ap (λ b. b && (header_values header == entry.num_rows)) left)

pub has_other_count : (entry : FilteredPage) (part : List ℕ) (found : FoundPage) (header : DataPageHeader) → length part ≡ entry.length → FoundAt part 0 found → found.kind ≡ kind.Data header
    → header_values header ≢ entry.num_rows → wanted_page entry part ≡ None
has_other_count entry part found header same at is apart = fills_not entry part found header same at is (neither _ _ (differs _ _ apart)) where
  neither : (a b : Bool) → b ≡ false → (a && b) ≡ false
  neither true b e = e
  neither false b e = refl

pub fills : (entry : FilteredPage) (part : List ℕ) (found : FoundPage) (header : DataPageHeader) → length part ≡ entry.length → FoundAt part 0 found → found.kind ≡ kind.Data header
    → found.end ≡ length part → header_values header ≡ entry.num_rows → Fills entry part found
unfolding page_in
fills entry part found header same at is end rows =
    let page = page_of_data entry.num_rows header (found_body part found) (drop found.end part) part (rw (← is) at.value) in
    let none : length (drop found.end part) ≡ 0 = omega (arith, length-drop found.end part, end) in
    let whole : length part - length (drop found.end part) ≡ length part = omega (arith, none) in
    let there : page_in part entry.num_rows ≡ Some (record { size = length part; header = header; body = found_body part found }) = rw (page.0 (omega (arith, rows)), eq-eqb _ _ none, eq-eqb _ _ rows, whole) refl in
    record { is = rw is (stated entry part same ∙ there); inside = at.inside }

-- ---- the dictionary page of a part

abbrev pub not_empty : (part : List ℕ) → Type 0
not_empty part = (length part == 0) ≡ false

part_with : (part : List ℕ) → (length part == 0) ≡ false → dictionary_in part ≡ if_defined (dictionary_at part) Undefined
part_with part e = rw e refl

refused_at : (part : List ℕ) (others : Lent) (where_part : Part) → (length part == 0) ≡ false → dictionary_at part ≡ None → IsRefused (behind_dictionary (dictionary_in part) others) (error.ExternalFormat where_part)
refused_at part others where_part e none = is_damaged _ where_part (ap (λ d. behind_dictionary d others) (part_with part e) ∙ ap (λ o. behind_dictionary (if_defined o Undefined) others) none)

pub no_dictionary : (part : List ℕ) (others : Lent) (where_part : Part) → (length part == 0) ≡ false → page_at part ≡ None → IsRefused (behind_dictionary (dictionary_in part) others) (error.ExternalFormat where_part)
unfolding dictionary_at
no_dictionary part others where_part e none = refused_at part others where_part e (rw none refl)

pub data_is_no_dictionary : (part : List ℕ) (others : Lent) (where_part : Part) (found : FoundPage) (header : DataPageHeader) → (length part == 0) ≡ false → FoundAt part 0 found → found.kind ≡ kind.Data header
    → IsRefused (behind_dictionary (dictionary_in part) others) (error.ExternalFormat where_part)
data_is_no_dictionary part others where_part found header e at is =
    let page = page_of_data 0 header (found_body part found) (drop found.end part) part (rw (← is) at.value) in
    refused_at part others where_part e page.2

defined_at : (part : List ℕ) (others : Lent) (read : DictionaryPage × List ℕ) → (length part == 0) ≡ false → dictionary_at part ≡ Some read → behind_dictionary (dictionary_in part) others ≡ behind_dictionary (Defined read.0) others
defined_at part others read e there = ap (λ d. behind_dictionary d others) (part_with part e) ∙ ap (λ o. behind_dictionary (if_defined o Undefined) others) there

is_dictionary : (k : PageKind) → ((header : DataPageHeader) → k ≡ kind.Data header → ⊥) → (num_values : ℕ) × (encoding : ℤ) × (k ≡ kind.Dictionary num_values encoding)
is_dictionary (kind.Data header) other = absurd (other header refl)
is_dictionary (kind.Dictionary num_values encoding) other = (num_values, encoding, refl)

pub other_entries : (part : List ℕ) (others : Lent) (where_part : Part) (found : FoundPage) → (length part == 0) ≡ false → FoundAt part 0 found → ((header : DataPageHeader) → found.kind ≡ kind.Data header → ⊥)
    → is_plain_dictionary found.kind ≡ false → IsRefused (behind_dictionary (dictionary_in part) others) (error.NotYetImplemented where_part)
other_entries part others where_part found e at other plain =
    let is = is_dictionary found.kind other in
    let page = page_of_dictionary 0 is.0 is.1 (found_body part found) (drop found.end part) part (rw (← is.2) at.value) in
    let encoding : has_plain_entries is.1 ≡ false = sym (ap is_plain_dictionary is.2) ∙ plain in
    is_not_carried _ where_part (defined_at part others _ e page.1 ∙ rw encoding refl)

begins_with : (part : List ℕ) (others : Lent) (found : FoundPage) (num_values : ℕ) (encoding : ℤ) → (length part == 0) ≡ false → FoundAt part 0 found → found.kind ≡ kind.Dictionary num_values encoding
    → has_plain_entries encoding ≡ true → Begins part found others
begins_with part others found num_values encoding e at is plain =
    let page = page_of_dictionary 0 num_values encoding (found_body part found) (drop found.end part) part (rw (← is) at.value) in
    let whole = defined_at part others _ e page.1 in
    record {
      is = rw is tt;
      inside = at.inside;
      pages = λ type. ap (λ (lent : Lent). lent.pages) whole ∙ rw (plain, is) refl;
      causes = ap (λ (lent : Lent). lent.causes) whole ∙ rw plain refl;
    }

pub begins_with_dictionary : (part : List ℕ) (others : Lent) (found : FoundPage) → (length part == 0) ≡ false → FoundAt part 0 found → ((header : DataPageHeader) → found.kind ≡ kind.Data header → ⊥)
    → is_plain_dictionary found.kind ≡ true → Begins part found others
begins_with_dictionary part others found e at other plain =
    let is = is_dictionary found.kind other in
    begins_with part others found is.0 is.1 e at is.2 (sym (ap is_plain_dictionary is.2) ∙ plain)

-- ---- parts of a chunk

pub before_within : (bytes : List ℕ) (first : ℕ) (entries : List FilteredPage) → 0 < length entries
    → list_all (λ entry. nat_le (entry.start + entry.length) (length bytes) && nat_le first (length bytes)) entries ≡ true → first ≤ length bytes
before_within bytes first [] h e = absurd (omega arith)
before_within bytes first (entry ∷ entries) h e = leb-true first (length bytes) (and_parts _ _ (and_parts _ _ e).0).1
