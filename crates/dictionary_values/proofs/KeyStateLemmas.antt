-- States of keys that are compared with no entries.
use Rattle.std.proofs.Common.{◌≡◌, ◌⊎◌, ℕ, Bool, true, false, List, [], ◌∷◌, length, Option, Some, None, refl, sym, ap, ◌∙◌, subst, inl, inr}
use Rattle.std.specs.Prelude.{◌&&◌, ◌||◌, is_some}
use Rattle.std.specs.Option.{option_map_or}
use Rattle.std.proofs.lemmas.List.Elements.{Contains-push}
use Rattle.columns_core.specs.Array.{cells}
use Rattle.columns_core.specs.Causes.{Cause, ExternalFormat, IsOneOf, NotYetImplemented, unless}
use Rattle.parquet_base.specs.Reading.{◌>>=◌, given}
use Rattle.parquet_meta.specs.declared.metadata.PhysicalType.TheVariants.{ByteArray}
use Rattle.parquet_page.specs.Content.{DataContent}
use Rattle.parquet_page.specs.Opened.{goes_on_dictionary, key_causes, page_causes}
use Rattle.parquet_page.specs.Spelling.{has_readable_levels, header_encoding, is_keys, page_keys, places_and_values}
use Rattle.parquet_page.specs.Values.{Encoding, Plain, Keys, DeltaPacked, DeltaLengths, encoding_of, goes_with}
use Rattle.flat_values.specs.FlatLeft.{read_encoding}
use Rattle.flat_values.specs.KeysLeft.{IsAmongKeys}
use Rattle.flat_values.specs.OneEncoding.{IsKeyState}
use Rattle.flat_values.specs.declared.flat_decoder.FlatState.{FlatState}
use Rattle.flat_values.specs.declared.keys.KeyPlace.{KeyPlace}
use Rattle.dictionary_values.specs.KeyStates.{IsStateOfKeys, uncompared_causes}
use Rattle.dictionary_values.specs.KeysGiven.{key_limit, keys_given, numbers_below, stored_as}
use Rattle.dictionary_values.proofs.BuildLemmas.{are-keys, built-rows, causes-as, state-of}
use Rattle.dictionary_values.proofs.CauseLemmas.{causes-alone}

-- ---- a page that is not one of keys

other-uncompared : (page : DataContent) → is_keys (encoding_of (header_encoding page.header)) ≡ false → uncompared_causes page ≡ NotYetImplemented ∷ []
other-uncompared page other = go (encoding_of (header_encoding page.header)) other where
  go : (o : Option Encoding) → is_keys o ≡ false
      → option_map_or (λ _. unless (is_some (page_keys page)) ExternalFormat) (o >>= λ encoding. given ((true || goes_with encoding page.type.physical_type) && goes_on_dictionary true true encoding && has_readable_levels page.type.repetition page.header) encoding) (NotYetImplemented ∷ []) ≡ NotYetImplemented ∷ []
  go None other = refl
  go (Some Plain) other = refl
  go (Some Keys) other = absurd cc
  go (Some DeltaPacked) other = refl
  go (Some DeltaLengths) other = refl

pub other-told : (page : DataContent) → false ≡ is_keys (encoding_of (header_encoding page.header)) → IsOneOf (uncompared_causes page) (Some NotYetImplemented)
other-told page other =
    let P : List Cause → Type 0 = λ causes. IsOneOf causes (Some NotYetImplemented) in
    subst P (sym (other-uncompared page (sym other))) (Contains-push [] NotYetImplemented)

-- ---- a page of keys, as one of byte strings

same-keys : (page : DataContent) → encoding_of (header_encoding page.header) ≡ Some Keys → page_keys (stored_as ByteArray page) ≡ page_keys page
unfolding page_keys places_and_values
same-keys page named = rw named refl

unread-alone : (page : DataContent) → encoding_of (header_encoding page.header) ≡ Some Keys → has_readable_levels page.type.repetition page.header ≡ false → page_causes None true None (stored_as ByteArray page) ≡ NotYetImplemented ∷ []
unfolding page_causes
unread-alone page named readable = rw (named, readable) refl

unread-uncompared : (page : DataContent) → encoding_of (header_encoding page.header) ≡ Some Keys → has_readable_levels page.type.repetition page.header ≡ false → uncompared_causes page ≡ NotYetImplemented ∷ []
unread-uncompared page named readable = rw (named, readable) refl

read-uncompared : (page : DataContent) → encoding_of (header_encoding page.header) ≡ Some Keys → has_readable_levels page.type.repetition page.header ≡ true → uncompared_causes page ≡ unless (is_some (page_keys page)) ExternalFormat
read-uncompared page named readable = rw (named, readable) refl

spelled-or : (found : Option (List ℕ)) → option_map_or (key_causes None None) found (ExternalFormat ∷ []) ≡ unless (is_some found) ExternalFormat
spelled-or None = refl
spelled-or (Some keys) = refl

alone-uncompared : (page : DataContent) → encoding_of (header_encoding page.header) ≡ Some Keys → page_causes None true None (stored_as ByteArray page) ≡ uncompared_causes page
alone-uncompared page named = go (has_readable_levels page.type.repetition page.header) refl where
  go : (readable : Bool) → has_readable_levels page.type.repetition page.header ≡ readable → page_causes None true None (stored_as ByteArray page) ≡ uncompared_causes page
  go false readable = unread-alone page named readable ∙ sym (unread-uncompared page named readable)
  go true readable =
      causes-alone None (stored_as ByteArray page) named refl readable
      ∙ ap (λ o. option_map_or (key_causes None None) o (ExternalFormat ∷ [])) (same-keys page named)
      ∙ spelled-or (page_keys page) ∙ sym (read-uncompared page named readable)

read-here : (page : DataContent) → encoding_of (header_encoding page.header) ≡ Some Keys → read_encoding true (stored_as ByteArray page) ≡ Some Keys
read-here page named = rw named refl

-- ---- what the opening of such a page answers

module _ (page here : DataContent) (same : here ≡ stored_as ByteArray page) (keyed : true ≡ is_keys (encoding_of (header_encoding page.header))) where
  named : encoding_of (header_encoding page.header) ≡ Some Keys
  named = are-keys (encoding_of (header_encoding page.header)) (sym keyed)

  causes-here : page_causes None true None here ≡ uncompared_causes page
  causes-here = ap (page_causes None true None) same ∙ alone-uncompared page named

  pub keys-fine : page_causes None true None here ≡ [] → uncompared_causes page ≡ []
  keys-fine none = sym causes-here ∙ none

  pub keys-told : (o : Option Cause) → ((read_encoding true here ≡ Some Keys) × IsOneOf (page_causes None true None here) o) ⊎ ((read_encoding true here ≡ Some Keys → ⊥) × (o ≡ Some NotYetImplemented)) → IsOneOf (uncompared_causes page) o
  keys-told o (inl wrong) = let P : List Cause → Type 0 = λ causes. IsOneOf causes o in subst P causes-here wrong.1
  keys-told o (inr other) = absurd (other.0 (ap (read_encoding true) same ∙ read-here page named))

  pub keys-state : (state : FlatState KeyPlace) → IsKeyState here state → IsStateOfKeys page state
  keys-state state built =
      let P : DataContent → Type 0 = λ p. IsKeyState p state in
      let own : IsKeyState (stored_as ByteArray page) state = subst P same built in
      record {
        is_state = λ most dict. state-of IsAmongKeys (keys_given most dict) ByteArray page state (own.is_state (numbers_below (key_limit most dict)));
        rows = λ most entries none. built-rows most entries page state named (causes-as most (length (cells entries)) ByteArray page named ∙ none) own;
      }
