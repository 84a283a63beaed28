-- What is wrong with pages of keys.
use Rattle.std.proofs.Common.{◌≡◌, ℕ, ◌≤◌, Bool, true, false, List, [], ◌∷◌, ◌++◌, ◌-◌, ◌^◌, Option, Some, None, refl, sym, ap, ◌∙◌, subst, arith, append-nil}
use Rattle.std.specs.Prelude.{◌&&◌, ◌||◌, not, min}
use Rattle.std.specs.Option.{option_map_or}
use Rattle.std.proofs.lemmas.List.Elements.{Contains-append_left}
use Rattle.columns_core.specs.Causes.{Cause, ExternalFormat, IsOneOf, NotYetImplemented, OutOfSpec, Overflow, unless}
use Rattle.parquet_base.specs.Reading.{◌>>=◌, given}
use Rattle.parquet_page.specs.Content.{DataContent}
use Rattle.parquet_page.specs.Opened.{goes_on_dictionary, key_causes, page_causes, spelling_causes}
use Rattle.parquet_page.specs.Spelling.{has_readable_levels, header_encoding, is_keys, page_keys}
use Rattle.parquet_page.specs.Values.{Encoding, Plain, Keys, DeltaPacked, DeltaLengths, encoding_of, goes_with, has_key_past}
use Rattle.dictionary_values.proofs.KeyLemmas.{below-both, below-more}

-- ---- keys

-- nothing is wrong with keys that are past neither
pub fine-keys : (most entries : ℕ) (keys : List ℕ) → has_key_past entries keys ≡ false → has_key_past most keys ≡ false → key_causes (Some most) (Some entries) keys ≡ []
fine-keys most entries keys a b = rw (a, b) refl

pub fine-alone : (entries : ℕ) (keys : List ℕ) → has_key_past entries keys ≡ false → key_causes None (Some entries) keys ≡ []
fine-alone entries keys a = rw a refl

-- keys with which nothing is wrong
pub both-below : (most entries : ℕ) (keys : List ℕ) → key_causes (Some most) (Some entries) keys ≡ [] → (has_key_past entries keys ≡ false) × (has_key_past most keys ≡ false)
both-below most entries keys none = go (has_key_past entries keys) (has_key_past most keys) none where
  go : (a b : Bool) → unless (not a) OutOfSpec ++ unless (not b) Overflow ≡ [] → (a ≡ false) × (b ≡ false)
  go false false none = (refl, refl)
  go true b none = absurd cc
  go false true none = absurd cc

pub below-alone : (entries : ℕ) (keys : List ℕ) → key_causes None (Some entries) keys ≡ [] → has_key_past entries keys ≡ false
below-alone entries keys none = go (has_key_past entries keys) none where
  go : (a : Bool) → unless (not a) OutOfSpec ++ unless (not false) Overflow ≡ [] → a ≡ false
  go false none = refl
  go true none = absurd cc

-- what is wrong with keys over entries is wrong with them over entries and a type
pub wrong-more : (most entries : ℕ) (found : Option (List ℕ)) (o : Option Cause) → IsOneOf (option_map_or (key_causes None (Some entries)) found (ExternalFormat ∷ [])) o → IsOneOf (option_map_or (key_causes (Some most) (Some entries)) found (ExternalFormat ∷ [])) o
wrong-more most entries None o wrong = wrong
wrong-more most entries (Some keys) None wrong = absurd wrong
wrong-more most entries (Some keys) (Some cause) wrong =
    let own = unless (not (has_key_past entries keys)) OutOfSpec in
    let P : List Cause → Type 0 = λ causes. IsOneOf causes (Some cause) in
    Contains-append_left own (unless (not (has_key_past most keys)) Overflow) cause (subst P (append-nil own) wrong)

-- ---- pages

-- what is wrong with a page of keys, in a column of keys of a type or in another
pub causes-alone : (entries : Option ℕ) (page : DataContent) → encoding_of (header_encoding page.header) ≡ Some Keys → goes_with Keys page.type.physical_type ≡ true → has_readable_levels page.type.repetition page.header ≡ true
    → page_causes None true entries page ≡ option_map_or (key_causes None entries) (page_keys page) (ExternalFormat ∷ [])
unfolding page_causes
causes-alone entries page named goes readable = rw (named, goes, readable) refl

pub causes-typed : (most : ℕ) (entries : Option ℕ) (page : DataContent) → encoding_of (header_encoding page.header) ≡ Some Keys → has_readable_levels page.type.repetition page.header ≡ true
    → page_causes (Some most) true entries page ≡ option_map_or (key_causes (Some most) entries) (page_keys page) (ExternalFormat ∷ [])
unfolding page_causes
causes-typed most entries page named readable = rw (named, readable) refl

-- a page of another encoding, or one without a dictionary, is not carried
pub not-keys : (most : ℕ) (entries : Option ℕ) (page : DataContent) → is_keys (encoding_of (header_encoding page.header)) ≡ false → page_causes (Some most) true entries page ≡ NotYetImplemented ∷ []
unfolding page_causes
not-keys most entries page other = go (encoding_of (header_encoding page.header)) other where
  go : (o : Option Encoding) → is_keys o ≡ false
      → option_map_or (spelling_causes (Some most) entries page) (o >>= λ encoding. given ((true || goes_with encoding page.type.physical_type) && goes_on_dictionary true true encoding && has_readable_levels page.type.repetition page.header) encoding) (NotYetImplemented ∷ []) ≡ NotYetImplemented ∷ []
  go None other = refl
  go (Some Plain) other = refl
  go (Some Keys) other = absurd cc
  go (Some DeltaPacked) other = refl
  go (Some DeltaLengths) other = refl

pub no-dictionary : (most : ℕ) (entries : Option ℕ) (page : DataContent) → page_causes (Some most) false entries page ≡ NotYetImplemented ∷ []
unfolding page_causes
no-dictionary most entries page = go (encoding_of (header_encoding page.header)) where
  go : (o : Option Encoding)
      → option_map_or (spelling_causes (Some most) entries page) (o >>= λ encoding. given ((true || goes_with encoding page.type.physical_type) && goes_on_dictionary true false encoding && has_readable_levels page.type.repetition page.header) encoding) (NotYetImplemented ∷ []) ≡ NotYetImplemented ∷ []
  go None = refl
  go (Some Plain) = refl
  go (Some Keys) = refl
  go (Some DeltaPacked) = refl
  go (Some DeltaLengths) = refl

-- a page of keys with which nothing is wrong
pub record IsKeyPage (most entries : ℕ) (page : DataContent) : Type 0 where
  pub named : encoding_of (header_encoding page.header) ≡ Some Keys
  pub readable : has_readable_levels page.type.repetition page.header ≡ true
  pub keys : List ℕ
  pub spelled : page_keys page ≡ Some keys
  pub below_entries : has_key_past entries keys ≡ false
  pub below_most : has_key_past most keys ≡ false

pub key-page : (most entries : ℕ) (page : DataContent) → page_causes (Some most) true (Some entries) page ≡ [] → IsKeyPage most entries page
unfolding page_causes
key-page most entries page none = go (encoding_of (header_encoding page.header)) refl none where
  spelled : (readable : Bool) → has_readable_levels page.type.repetition page.header ≡ readable → (found : Option (List ℕ)) → page_keys page ≡ found → encoding_of (header_encoding page.header) ≡ Some Keys
      → option_map_or (λ encoding. option_map_or (key_causes (Some most) (Some entries)) found (ExternalFormat ∷ [])) (given readable Keys) (NotYetImplemented ∷ []) ≡ [] → IsKeyPage most entries page
  spelled false readable found is e none = absurd cc
  spelled true readable None is e none = absurd cc
  spelled true readable (Some keys) is e none =
      let both = both-below most entries keys none in
      record { named = e; readable = readable; keys = keys; spelled = is; below_entries = both.0; below_most = both.1 }

  keyed : (readable : Bool) → has_readable_levels page.type.repetition page.header ≡ readable → encoding_of (header_encoding page.header) ≡ Some Keys
      → option_map_or (spelling_causes (Some most) (Some entries) page) (given readable Keys) (NotYetImplemented ∷ []) ≡ [] → IsKeyPage most entries page
  keyed false readable e none = absurd cc
  keyed true readable e none = spelled true readable (page_keys page) refl e none

  go : (o : Option Encoding) → encoding_of (header_encoding page.header) ≡ o
      → option_map_or (spelling_causes (Some most) (Some entries) page) (o >>= λ encoding. given ((true || goes_with encoding page.type.physical_type) && goes_on_dictionary true true encoding && has_readable_levels page.type.repetition page.header) encoding) (NotYetImplemented ∷ []) ≡ [] → IsKeyPage most entries page
  go None e none = absurd cc
  go (Some Plain) e none = absurd cc
  go (Some Keys) e none = keyed (has_readable_levels page.type.repetition page.header) refl e none
  go (Some DeltaPacked) e none = absurd cc
  go (Some DeltaLengths) e none = absurd cc

-- Nothing is wrong with it over the numbers below both limits.
pub fine-numbers : (most entries : ℕ) (page : DataContent) → goes_with Keys page.type.physical_type ≡ true → IsKeyPage most entries page → page_causes None true (Some (min entries most)) page ≡ []
fine-numbers most entries page goes is =
    causes-alone (Some (min entries most)) page is.named goes is.readable
    ∙ ap (λ o. option_map_or (key_causes None (Some (min entries most))) o (ExternalFormat ∷ [])) is.spelled
    ∙ fine-alone (min entries most) is.keys (below-both entries most is.keys is.below_entries is.below_most)

-- ---- keys that are tested

-- with as many keys of a type as a count of 64 bits tells
module _ (count most entries : ℕ) (told : most ≡ min count (2 ^ 64 - 1)) (found : Option (List ℕ)) (keys : List ℕ) (is : found ≡ Some keys) (alone : option_map_or (key_causes None (Some entries)) found (ExternalFormat ∷ []) ≡ []) where
  entries-below : has_key_past entries keys ≡ false
  entries-below = below-alone entries keys (ap (λ o. option_map_or (key_causes None (Some entries)) o (ExternalFormat ∷ [])) (sym is) ∙ alone)

  pub judged-few : entries ≤ most → option_map_or (key_causes (Some count) (Some entries)) found (ExternalFormat ∷ []) ≡ []
  judged-few few =
      ap (λ o. option_map_or (key_causes (Some count) (Some entries)) o (ExternalFormat ∷ [])) is
      ∙ fine-keys count entries keys entries-below (below-more entries count keys (omega (arith, few, told)) entries-below)
