-- Strings that are joined behind their lengths, and what is wrong with pages of them.
use Rattle.std.proofs.Common.{◌≡◌, ◌∙◌, ℕ, suc, zero, ◌-◌, ◌<◌, ℤ, Bool, true, false, List, [], ◌∷◌, length, Option, Some, None, refl, sym, subst, ap, arith}
use Rattle.std.specs.Prelude.{is_some, IsSome, option_map, unwrap_or}
use Rattle.columns_core.specs.Causes.{ExternalFormat, IsOneOf, cause_of}
use Rattle.columns_core.specs.declared.error.Error.{Error}
use Rattle.parquet_base.specs.Reading.{◌>>=◌}
use Rattle.parquet_encoding.specs.DeltaBinary.{delta_binary}
use Rattle.parquet_encoding.specs.DeltaLength.{delta_length, delta_length_places, strings_of}
use Rattle.parquet_encoding.specs.Places.{places_of}
use Rattle.parquet_page.specs.Content.{DataContent, header_values}
use Rattle.parquet_page.specs.Levels.{Body, body_parts, presence, present_count}
use Rattle.parquet_page.specs.Plan.{Step, plan}
use Rattle.parquet_page.specs.Spelling.{places_and_values}
use Rattle.parquet_page.specs.ValidityLeft.{levels_causes, page_places}
use Rattle.parquet_page.specs.Values.{unless_none}
use Rattle.parquet_page.proofs.ValidityLemmas.{has-places}
use Rattle.page_decoding.specs.FilteredLeft.{stored_values}
use Rattle.page_decoding.proofs.FilteredLemmas.{stored-plan}
use Rattle.flat_values.specs.FlatLeft.{value_bytes}
use Rattle.flat_binary.specs.JoinedStrings.{is_joined, joined_causes, string_places}

there-alike : {A B : Type 0} (f : A → B) (o : Option A) → is_some (option_map f o) ≡ is_some o
there-alike f None = refl
there-alike f (Some x) = refl

-- Strings stand somewhere exactly where they are spelled.
places-alike : (bytes : List ℕ) (count : ℕ) → is_some (delta_length_places bytes count) ≡ is_some (delta_length bytes count)
unfolding delta_length delta_length_places
places-alike bytes count = by (delta_binary count bytes) where
  by : (o : Option (List ℤ × List ℕ)) → is_some (o >>= λ lengths. option_map (places_of 0 (length bytes - length lengths.1)) (strings_of lengths.0 lengths.1)) ≡ is_some (o >>= λ lengths. strings_of lengths.0 lengths.1)
  by None = refl
  by (Some lengths) = there-alike (places_of 0 (length bytes - length lengths.1)) (strings_of lengths.0 lengths.1)

none-there : {A : Type 0} (o : Option A) → is_some o ≡ false → o ≡ None
none-there None e = refl
none-there (Some x) e = absurd cc

some-counted : {A : Type 0} (count : ℕ) (o : Option (List A)) → 0 < count → unless_none count o ≡ o
some-counted zero o some = absurd (omega (arith, some))
some-counted (suc count) o some = refl

-- Where no strings are spelled they stand nowhere.
pub none-spelled : (bytes : List ℕ) (count : ℕ) → 0 < count → is_some (delta_length bytes count) ≡ false → unless_none count (delta_length_places bytes count) ≡ None
none-spelled bytes count some none =
    some-counted count (delta_length_places bytes count) some ∙ none-there (delta_length_places bytes count) (places-alike bytes count ∙ none)

-- The strings of a page whose levels are read stand in these bytes.
pub strings-at : (page : DataContent) (body : Body) (count : ℕ) (steps : List Step) → levels_causes page ≡ [] → body_parts page.type.repetition page.header page.body ≡ Some body
    → steps ≡ plan page.selected (unwrap_or (page_places page) []) → count ≡ stored_values steps → string_places page ≡ unless_none count (delta_length_places body.values count)
unfolding string_places places_and_values
strings-at page body count steps none parts steps_are many = go (presence page.type.repetition body.definition (header_values page.header)) refl (has-places page none) where
  here : (o : Option (List Bool)) → presence page.type.repetition body.definition (header_values page.header) ≡ o → places_and_values page ≡ (o >>= λ places. Some (places, body.values))
  here o e = rw (parts, e) refl

  go : (o : Option (List Bool)) → presence page.type.repetition body.definition (header_values page.header) ≡ o → IsSome (page_places page) → string_places page ≡ unless_none count (delta_length_places body.values count)
  go None e some = let gone = subst (λ (o : Option (List Bool × List ℕ)). IsSome (option_map (λ parts. parts.0) o)) (here None e) some in absurd cc
  go (Some places) e some =
      let split = here (Some places) e in
      let all : steps ≡ plan page.selected places = steps_are ∙ ap (λ o. plan page.selected (unwrap_or (option_map (λ parts. parts.0) o) [])) split in
      let n : count ≡ present_count places = many ∙ ap stored_values all ∙ stored-plan page.selected 0 places in
      ap (λ (o : Option (List Bool × List ℕ)). o >>= λ parts. unless_none (present_count parts.0) (delta_length_places parts.1 (present_count parts.0))) split
      ∙ ap (λ m. unless_none m (delta_length_places body.values m)) (sym n)

-- Nothing is wrong with a page whose strings are spelled.
pub joined-right : (page : DataContent) (strings : List (ℕ × ℕ)) → is_joined page ≡ true → levels_causes page ≡ [] → string_places page ≡ Some strings → joined_causes page ≡ []
joined-right page strings joined levels are = rw (joined, levels, are) refl

-- Otherwise the page is damaged.
pub joined-wrong : (page : DataContent) → is_joined page ≡ true → levels_causes page ≡ [] → string_places page ≡ None → joined_causes page ≡ ExternalFormat ∷ []
joined-wrong page joined levels none = rw (joined, levels, none) refl

pub damaged-told : (page : DataContent) (error : Error) → joined_causes page ≡ ExternalFormat ∷ [] → cause_of error ≡ Some ExternalFormat → IsOneOf (joined_causes page) (cause_of error)
damaged-told page error causes cause = rw (causes, cause) (0, omega arith, refl)

-- the bytes of the values, in a body that is split
pub value-bytes : (page : DataContent) (body : Body) → body_parts page.type.repetition page.header page.body ≡ Some body → value_bytes page ≡ body.values
value-bytes page body parts = rw parts refl
