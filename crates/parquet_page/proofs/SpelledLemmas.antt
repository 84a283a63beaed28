-- Pages with which nothing is wrong are spelled.
use Rattle.std.proofs.Common.{◌≡◌, ℕ, zero, suc, ◌+◌, leb, eqb, ltb, Bool, true, false, List, [], ◌∷◌, ◌++◌, length, Option, Some, None, refl, sym, ap, ◌∙◌, inl, inr, arith}
use Rattle.std.specs.Prelude.{◌||◌, ◌&&◌, not, cond, if◌then◌else◌, replicate, IsSome, option_map, is_some}
use Rattle.std.specs.Option.{option_map_or}
use Rattle.std.proofs.lemmas.List.Sums.{sum_by-cons}
use Rattle.std.proofs.lemmas.List.{length-replicate}
use Rattle.std.proofs.lemmas.Option.{slice_get_cases}
use Rattle.std.proofs.lemmas.Bool.{le-leb}
use Rattle.columns_core.specs.Causes.{Cause, NotYetImplemented, ExternalFormat, OutOfSpec, unless}
use Rattle.parquet_base.specs.Reading.{◌>>=◌, given}
use Rattle.parquet_encoding.specs.Hybrid.{hybrid, runs}
use Rattle.parquet_encoding.proofs.HybridLemmas.{length-runs}
use Rattle.parquet_encoding.proofs.StepLemmas.{bind_some, given_some, is_something, some_is}
use Rattle.parquet_meta.specs.declared.metadata.PhysicalType.{PhysicalType}
use Rattle.parquet_page.specs.Content.{DataContent}
use Rattle.parquet_page.specs.Levels.{placed, present_count}
use Rattle.parquet_page.specs.Opened.{goes_on_dictionary, key_causes, page_causes, spelling_causes}
use Rattle.parquet_page.specs.Spelling.{has_readable_levels, header_encoding, is_keys, page_keys, placed_keys, places_and_values, spelled}
use Rattle.parquet_page.specs.Stored.{Stored}
use Rattle.parquet_page.specs.Values.{Encoding, Plain, Keys, DeltaPacked, DeltaLengths, dictionary_keys, encoding_of, goes_with, has_key_past, named_by, unless_none, values_in}

-- ---- as many keys as are wanted

pub length-hybrid : (width : ℕ) (bytes : List ℕ) (count : ℕ) (values : List ℕ) → hybrid width bytes count ≡ Some values → length values ≡ count
unfolding hybrid
length-hybrid width bytes count values e = go (eqb width 0) (ltb 32 width) e where
  go : (none wide : Bool) → (if none then Some (replicate count 0) else if wide then None else runs (length bytes) width bytes count) ≡ Some values → length values ≡ count
  go true wide e = ap length (sym (some_is _ values e)) ∙ length-replicate count 0
  go false true e = absurd cc
  go false false e = length-runs (length bytes) width bytes count values e

pub length-keys : (bytes : List ℕ) (count : ℕ) (keys : List ℕ) → dictionary_keys bytes count ≡ Some keys → length keys ≡ count
unfolding dictionary_keys
length-keys [] count keys e = absurd cc
length-keys (width ∷ bytes) count keys e = length-hybrid width bytes count keys e

length-stored : (bytes : List ℕ) (count : ℕ) (keys : List ℕ) → unless_none count (dictionary_keys bytes count) ≡ Some keys → length keys ≡ count
length-stored bytes zero keys e = ap length (sym (some_is [] keys e))
length-stored bytes (suc count) keys e = length-keys bytes (suc count) keys e

-- ---- each place takes its value

pub present_suc : (places : List Bool) → present_count (true ∷ places) ≡ suc (present_count places)
present_suc places = let step : present_count (true ∷ places) ≡ 1 + present_count places = sum_by-cons (λ (present : Bool). cond present 1 0) true places in omega (arith, step)

pub absent_same : (places : List Bool) → present_count (false ∷ places) ≡ present_count places
absent_same places = let step : present_count (false ∷ places) ≡ 0 + present_count places = sum_by-cons (λ (present : Bool). cond present 1 0) false places in omega (arith, step)

pub are_placed : {A : Type 0} (places : List Bool) (values : List A) → length values ≡ present_count places → IsSome (placed places values)
are_placed [] [] e = refl
are_placed [] (value ∷ values) e = absurd (omega (arith, e))
are_placed (false ∷ places) values e =
    let others = is_something (placed places values) (are_placed places values (e ∙ absent_same places)) in
    rw others.1 refl
are_placed (true ∷ places) [] e = absurd (omega (arith, e, present_suc places))
are_placed (true ∷ places) (value ∷ values) e =
    let others = is_something (placed places values) (are_placed places values (omega (arith, e, present_suc places))) in
    rw others.1 refl

-- ---- keys that are not past the entries name one each

pub record IsNamed {A : Type 0} (entries : List A) (keys : List ℕ) : Type 0 where
  pub values : List A
  pub are : named_by entries keys ≡ Some values
  pub many : length values ≡ length keys

or_none : (a b : Bool) → (a || b) ≡ false → (a ≡ false) × (b ≡ false)
or_none false b e = (refl, e)
or_none true b e = absurd cc

are_named : {A : Type 0} (entries : List A) (keys : List ℕ) → has_key_past (length entries) keys ≡ false → IsNamed entries keys
are_named entries [] within = record { values = []; are = refl; many = refl }
are_named entries (key ∷ keys) within =
    let none = or_none (leb (length entries) key) (has_key_past (length entries) keys) within in
    let others = are_named entries keys none.1 in
    elim (slice_get_cases entries key).1 [
      | inl here ↦ record { values = here.0 ∷ others.values; are = rw (here.2, others.are) refl; many = ap suc others.many }
      | inr past ↦ absurd (different (sym (le-leb _ _ past.0) ∙ none.0))
    ] where
      different : true ≡ false → ⊥
      different e = absurd cc

-- ---- pages of keys

-- the keys of a page, as many as it has present places
record HasKeys (page : DataContent) (keys : List ℕ) : Type 0 where
  parts : List Bool × List ℕ
  split : places_and_values page ≡ Some parts
  stored : unless_none (present_count parts.0) (dictionary_keys parts.1 (present_count parts.0)) ≡ Some keys
  many : length keys ≡ present_count parts.0

has_keys : (page : DataContent) (keys : List ℕ) → page_keys page ≡ Some keys → HasKeys page keys
unfolding page_keys
has_keys page keys e =
    let read = λ (keys_page : DataContent). places_and_values keys_page >>= λ parts. unless_none (present_count parts.0) (dictionary_keys parts.1 (present_count parts.0)) in
    let own = bind_some (given (is_keys (encoding_of (header_encoding page.header))) page) read keys e in
    let same = (given_some (is_keys (encoding_of (header_encoding page.header))) page own.0 own.1).1 in
    let here : read page ≡ Some keys = ap read same ∙ own.2 in
    let parts = bind_some (places_and_values page) (λ parts. unless_none (present_count parts.0) (dictionary_keys parts.1 (present_count parts.0))) keys here in
    record { parts = parts.0; split = parts.1; stored = parts.2; many = length-stored parts.0.1 (present_count parts.0.0) keys parts.2 }

keys_placed : (page : DataContent) (keys : List ℕ) → page_keys page ≡ Some keys → IsSome (placed_keys page)
unfolding placed_keys
keys_placed page keys e =
    let own = has_keys page keys e in
    rw (own.split, e) (are_placed own.parts.0 keys own.many)

entries_named : (count : ℕ) (places : List Bool) (bytes keys : List ℕ) (entries : List Stored) → count ≡ present_count places → unless_none count (dictionary_keys bytes count) ≡ Some keys → has_key_past (length entries) keys ≡ false
    → IsSome (unless_none count (dictionary_keys bytes count >>= λ keys. named_by entries keys) >>= λ values. placed places values)
entries_named zero places bytes keys entries n e within = are_placed places [] n
entries_named (suc count) places bytes keys entries n e within =
    let named = are_named entries keys within in
    rw (e, named.are) (are_placed places named.values (named.many ∙ length-keys bytes (suc count) keys e ∙ n))

keys_spelled : (page : DataContent) (keys : List ℕ) (entries : List Stored) → encoding_of (header_encoding page.header) ≡ Some Keys → (goes_with Keys page.type.physical_type && has_readable_levels page.type.repetition page.header) ≡ true
    → page_keys page ≡ Some keys → has_key_past (length entries) keys ≡ false → IsSome (spelled page (Some entries))
unfolding spelled
keys_spelled page keys entries encoding carried e within =
    let own = has_keys page keys e in
    rw (encoding, carried, own.split) (entries_named (present_count own.parts.0) own.parts.0 own.parts.1 keys entries refl own.stored within)

-- ---- nothing is wrong

pub no_cause : {A : Type 0} (x : A) (xs : List A) → x ∷ xs ≡ [] → ⊥
no_cause x xs e = absurd cc

first_of_none : (b : Bool) (cause : Cause) (others : List Cause) → unless b cause ++ others ≡ [] → b ≡ true
first_of_none true cause others e = refl
first_of_none false cause others e = absurd cc

pub none_of : (b : Bool) (cause : Cause) → unless b cause ≡ [] → b ≡ true
none_of true cause e = refl
none_of false cause e = absurd cc

not_true : (b : Bool) → not b ≡ true → b ≡ false
not_true false e = refl
not_true true e = absurd cc

-- where keys are read, the entries are told
abbrev pub AreTold : Bool → Option (List Stored) → Type 0
AreTold has_dictionary entries = has_dictionary ≡ true → IsSome entries

-- read as keys of the entries
read_by_keys : (page : DataContent) (entries : List Stored) → encoding_of (header_encoding page.header) ≡ Some Keys → (goes_with Keys page.type.physical_type && has_readable_levels page.type.repetition page.header) ≡ true
    → spelling_causes None (Some (length entries)) page Keys ≡ [] → IsSome (spelled page (Some entries))
read_by_keys page entries encoding carried none = go (page_keys page) refl none where
  go : (o : Option (List ℕ)) → page_keys page ≡ o → option_map_or (key_causes None (Some (length entries))) o (ExternalFormat ∷ []) ≡ [] → IsSome (spelled page (Some entries))
  go None e none = absurd (no_cause ExternalFormat [] none)
  go (Some keys) e none =
      keys_spelled page keys entries encoding carried e (not_true (has_key_past (length entries) keys) (first_of_none (not (has_key_past (length entries) keys)) OutOfSpec [] none))

-- carried, and then spelled
keys_carried : (page : DataContent) (has_dictionary : Bool) (entries : Option (List Stored)) → AreTold has_dictionary entries → encoding_of (header_encoding page.header) ≡ Some Keys
    → (goes readable : Bool) → goes_with Keys page.type.physical_type ≡ goes → has_readable_levels page.type.repetition page.header ≡ readable
    → option_map_or (spelling_causes None (option_map length entries) page) (given (goes && has_dictionary && readable) Keys) (NotYetImplemented ∷ []) ≡ [] → IsSome (spelled page entries)
keys_carried page false entries told encoding false readable g r none = absurd (no_cause NotYetImplemented [] none)
keys_carried page false entries told encoding true readable g r none = absurd (no_cause NotYetImplemented [] none)
keys_carried page true entries told encoding false readable g r none = absurd (no_cause NotYetImplemented [] none)
keys_carried page true entries told encoding true false g r none = absurd (no_cause NotYetImplemented [] none)
keys_carried page true None told encoding true true g r none = absurd (no_entries (told refl)) where
  no_entries : false ≡ true → ⊥
  no_entries e = absurd cc
keys_carried page true (Some entries) told encoding true true g r none = read_by_keys page entries encoding (rw (g, r) refl) none

-- in an encoding that has no use for entries, a page spells the same without them
spelled_alike : (page : DataContent) (entries : Option (List Stored)) (encoding : Encoding) → encoding_of (header_encoding page.header) ≡ Some encoding
    → ((type : PhysicalType) (bytes : List ℕ) (count : ℕ) → values_in encoding type entries bytes count ≡ values_in encoding type None bytes count) → spelled page entries ≡ spelled page None
unfolding spelled
spelled_alike page entries encoding e same = rw e (go (goes_with encoding page.type.physical_type && has_readable_levels page.type.repetition page.header) (places_and_values page)) where
  go : (carried : Bool) (o : Option (List Bool × List ℕ)) →
      (given carried encoding >>= λ encoding. o >>= λ parts. unless_none (present_count parts.0) (values_in encoding page.type.physical_type entries parts.1 (present_count parts.0)) >>= λ values. placed parts.0 values)
      ≡ (given carried encoding >>= λ encoding. o >>= λ parts. unless_none (present_count parts.0) (values_in encoding page.type.physical_type None parts.1 (present_count parts.0)) >>= λ values. placed parts.0 values)
  go false o = refl
  go true None = refl
  go true (Some parts) = ap (λ values. unless_none (present_count parts.0) values >>= λ values. placed parts.0 values) (same page.type.physical_type parts.1 (present_count parts.0))

values_carried : (page : DataContent) (entries : Option (List Stored)) (encoding : Encoding) (carried : Bool) → spelled page entries ≡ spelled page None → spelling_causes None (option_map length entries) page encoding ≡ unless (is_some (spelled page None)) ExternalFormat
    → option_map_or (spelling_causes None (option_map length entries) page) (given carried encoding) (NotYetImplemented ∷ []) ≡ [] → IsSome (spelled page entries)
values_carried page entries encoding false alike is none = absurd (no_cause NotYetImplemented [] none)
values_carried page entries encoding true alike is none = rw alike (none_of (is_some (spelled page None)) ExternalFormat (sym is ∙ none))

pub values_are_spelled : (page : DataContent) (has_dictionary : Bool) (entries : Option (List Stored)) → AreTold has_dictionary entries → page_causes None has_dictionary (option_map length entries) page ≡ [] → IsSome (spelled page entries)
unfolding page_causes
values_are_spelled page has_dictionary entries told none = go (encoding_of (header_encoding page.header)) refl none where
  go : (o : Option Encoding) → encoding_of (header_encoding page.header) ≡ o
      → option_map_or (spelling_causes None (option_map length entries) page) (o >>= λ encoding. given ((false || goes_with encoding page.type.physical_type) && goes_on_dictionary false has_dictionary encoding && has_readable_levels page.type.repetition page.header) encoding) (NotYetImplemented ∷ []) ≡ []
      → IsSome (spelled page entries)
  go None e none = absurd (no_cause NotYetImplemented [] none)
  go (Some Keys) e none = keys_carried page has_dictionary entries told e (goes_with Keys page.type.physical_type) (has_readable_levels page.type.repetition page.header) refl refl none
  go (Some Plain) e none = values_carried page entries Plain (goes_with Plain page.type.physical_type && true && has_readable_levels page.type.repetition page.header) (spelled_alike page entries Plain e (λ type bytes count. refl)) refl none
  go (Some DeltaPacked) e none = values_carried page entries DeltaPacked (goes_with DeltaPacked page.type.physical_type && true && has_readable_levels page.type.repetition page.header) (spelled_alike page entries DeltaPacked e (λ type bytes count. refl)) refl none
  go (Some DeltaLengths) e none = values_carried page entries DeltaLengths (goes_with DeltaLengths page.type.physical_type && true && has_readable_levels page.type.repetition page.header) (spelled_alike page entries DeltaLengths e (λ type bytes count. refl)) refl none

-- ---- nothing is wrong with a page that is read as keys

keys_known : (most : ℕ) (page : DataContent) (entries : Option ℕ) (carried : Bool) → option_map_or (spelling_causes (Some most) entries page) (given carried Keys) (NotYetImplemented ∷ []) ≡ [] → IsSome (placed_keys page)
keys_known most page entries false none = absurd (no_cause NotYetImplemented [] none)
keys_known most page entries true none = go (page_keys page) refl none where
  go : (o : Option (List ℕ)) → page_keys page ≡ o → option_map_or (key_causes (Some most) entries) o (ExternalFormat ∷ []) ≡ [] → IsSome (placed_keys page)
  go None e none = absurd (no_cause ExternalFormat [] none)
  go (Some keys) e none = keys_placed page keys e

pub keys_are_spelled : (most : ℕ) (page : DataContent) (has_dictionary : Bool) (entries : Option ℕ) → page_causes (Some most) has_dictionary entries page ≡ [] → IsSome (placed_keys page)
unfolding page_causes
keys_are_spelled most page has_dictionary entries none = go (encoding_of (header_encoding page.header)) none where
  go : (o : Option Encoding)
      → option_map_or (spelling_causes (Some most) entries page) (o >>= λ encoding. given ((true || goes_with encoding page.type.physical_type) && goes_on_dictionary true has_dictionary encoding && has_readable_levels page.type.repetition page.header) encoding) (NotYetImplemented ∷ []) ≡ []
      → IsSome (placed_keys page)
  go None none = absurd (no_cause NotYetImplemented [] none)
  go (Some Keys) none = keys_known most page entries (has_dictionary && has_readable_levels page.type.repetition page.header) none
  go (Some Plain) none = absurd (no_cause NotYetImplemented [] none)
  go (Some DeltaPacked) none = absurd (no_cause NotYetImplemented [] none)
  go (Some DeltaLengths) none = absurd (no_cause NotYetImplemented [] none)
