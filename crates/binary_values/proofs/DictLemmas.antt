-- Stored byte strings that are opened, and those of a dictionary page.
use Rattle.std.proofs.Common.{◌≡◌, ℕ, ◌<◌, ◌≤◌, Bool, true, false, List, [], ◌∷◌, length, map, take, refl, sym, ap, ◌∙◌, subst, inl, inr, arith}
use Rattle.std.specs.Prelude.{is_some, if◌then◌else◌, sum_by, Option, Some, None, option_map, unwrap_or, Result, Ok, Err}
use Rattle.std.specs.Option.{option_map_or}
use Rattle.std.proofs.lemmas.Bool.{le-leb, lt-leb}
use Rattle.std.proofs.lemmas.List.{take_all, length-map}
use Rattle.std.proofs.lemmas.List.Sums.{sum_by-cons}
use Rattle.std.proofs.lemmas.Simd.{map-map}
use Rattle.columns_core.specs.Causes.{Cause, ExternalFormat, Overflow, IsOneOf, cause_of, is_empty, unless}
use Rattle.columns_core.specs.declared.cell.Cell.{Cell}
use Rattle.columns_core.specs.declared.error.Error.{Error}
use Rattle.parquet_encoding.specs.DeltaLength.{delta_length}
use Rattle.parquet_encoding.specs.Places.{bytes_in}
use Rattle.parquet_encoding.specs.Plain.{plain_bytes}
use Rattle.parquet_meta.specs.declared.metadata.PhysicalType.TheVariants.{ByteArray}
use Rattle.parquet_page.specs.Content.{DictContent}
use Rattle.parquet_page.specs.Stored.{Octets}
use Rattle.parquet_page.specs.Values.{delta_length_values, plain_values}
use Rattle.page_decoding.specs.Bytes.{cell_bytes, fits_most, row_bytes}
use Rattle.page_decoding.specs.Outcome.{Outcome, Given, Refused, IsCausedBy, all_given, causes_in, cells_in, refusal_of}
use Rattle.flat_values.specs.Added.{Adds}
use Rattle.flat_values.specs.Encodings.{as_encoding}
use Rattle.flat_values.specs.Outcomes.{dictionary_cells, fitted, stored_outcome, value_causes, value_outcomes}
use Rattle.flat_values.specs.declared.value_decoder.ValueEncoding.{ValueEncoding}
use Rattle.flat_values.specs.declared.value_decoder.ValueEncoding.TheVariants as read
use Rattle.flat_values.proofs.NumberPlaces.{dictionary_read, dictionary_wrong}
use Rattle.binary_values.specs.ByteStrings.{IsCausedByBytes, byte_cell, byte_rule, stored_outcomes}

-- what stands at some places gives
stands : (is_text : Bool) (bytes : List ℕ) (places : List (ℕ × ℕ))
    → map (stored_outcome (byte_rule is_text)) (map Octets (map (bytes_in bytes) places)) ≡ map (λ place. stored_outcome (byte_rule is_text) (Octets (bytes_in bytes place))) places
stands is_text bytes places =
    map-map (stored_outcome (byte_rule is_text)) Octets (map (bytes_in bytes) places) ∙ map-map (λ string. stored_outcome (byte_rule is_text) (Octets string)) (bytes_in bytes) places

module _ (is_text : Bool) (encoding : ValueEncoding) (bytes : List ℕ) (count : ℕ) where
  -- ---- plain strings

  pub plain-outcomes : (entries : Option (List Cell)) (places : List (ℕ × ℕ)) → encoding ≡ read.Plain → plain_bytes bytes count ≡ Some (map (bytes_in bytes) places)
      → value_outcomes (byte_rule is_text) ByteArray entries (as_encoding encoding) bytes count ≡ Some (map (λ place. stored_outcome (byte_rule is_text) (Octets (bytes_in bytes place))) places)
  unfolding value_outcomes plain_values
  plain-outcomes entries places is e =
      ap (λ x. value_outcomes (byte_rule is_text) ByteArray entries (as_encoding x) bytes count) is
      ∙ ap (λ o. option_map (map (stored_outcome (byte_rule is_text))) (option_map (map Octets) o)) e ∙ ap Some (stands is_text bytes places)

  pub plain-fine : (entries : Option ℕ) (values : List (List ℕ)) → encoding ≡ read.Plain → plain_bytes bytes count ≡ Some values → value_causes ByteArray entries (as_encoding encoding) bytes count ≡ []
  unfolding value_causes plain_values
  plain-fine entries values is e = ap (λ x. value_causes ByteArray entries (as_encoding x) bytes count) is ∙ ap (λ o. unless (is_some (option_map (map Octets) o)) ExternalFormat) e

  pub plain-wrong : (entries : Option ℕ) (error : Error) → encoding ≡ read.Plain → (cause_of error ≡ Some ExternalFormat) × (plain_bytes bytes count ≡ None) → IsOneOf (value_causes ByteArray entries (as_encoding encoding) bytes count) (cause_of error)
  unfolding value_causes plain_values
  plain-wrong entries error is h =
      let all = ap (λ x. value_causes ByteArray entries (as_encoding x) bytes count) is ∙ ap (λ o. unless (is_some (option_map (map Octets) o)) ExternalFormat) h.1 in
      rw (all, h.0) (0, omega arith, refl)

  -- ---- joined strings

  pub joined-outcomes : (entries : Option (List Cell)) (places : List (ℕ × ℕ)) → encoding ≡ read.DeltaLengths → delta_length bytes count ≡ Some (map (bytes_in bytes) places)
      → value_outcomes (byte_rule is_text) ByteArray entries (as_encoding encoding) bytes count ≡ Some (map (λ place. stored_outcome (byte_rule is_text) (Octets (bytes_in bytes place))) places)
  unfolding value_outcomes delta_length_values
  joined-outcomes entries places is e =
      ap (λ x. value_outcomes (byte_rule is_text) ByteArray entries (as_encoding x) bytes count) is
      ∙ ap (λ o. option_map (map (stored_outcome (byte_rule is_text))) (option_map (map Octets) o)) e ∙ ap Some (stands is_text bytes places)

  pub joined-fine : (entries : Option ℕ) (values : List (List ℕ)) → encoding ≡ read.DeltaLengths → delta_length bytes count ≡ Some values → value_causes ByteArray entries (as_encoding encoding) bytes count ≡ []
  unfolding value_causes delta_length_values
  joined-fine entries values is e = ap (λ x. value_causes ByteArray entries (as_encoding x) bytes count) is ∙ ap (λ o. unless (is_some (option_map (map Octets) o)) ExternalFormat) e

  pub joined-wrong : (entries : Option ℕ) (error : Error) → encoding ≡ read.DeltaLengths → (cause_of error ≡ Some ExternalFormat) × (delta_length bytes count ≡ None) → IsOneOf (value_causes ByteArray entries (as_encoding encoding) bytes count) (cause_of error)
  unfolding value_causes delta_length_values
  joined-wrong entries error is h =
      let all = ap (λ x. value_causes ByteArray entries (as_encoding x) bytes count) is ∙ ap (λ o. unless (is_some (option_map (map Octets) o)) ExternalFormat) h.1 in
      rw (all, h.0) (0, omega arith, refl)

-- ---- a dictionary page

cells_bytes : (is_text : Bool) (strings : List (List ℕ)) → sum_by cell_bytes (map (byte_cell is_text) strings) ≡ sum_by length strings
cells_bytes is_text [] = refl
cells_bytes is_text (string ∷ strings) =
    omega (arith, sum_by-cons cell_bytes (byte_cell is_text string) (map (byte_cell is_text) strings), sum_by-cons length string strings, one is_text, cells_bytes is_text strings) where
      one : (is_text : Bool) → cell_bytes (byte_cell is_text string) ≡ length string
      one true = refl
      one false = refl

given_bytes : (rows : List Outcome) → sum_by cell_bytes (cells_in rows) ≡ sum_by row_bytes rows
given_bytes [] = refl
given_bytes (Given cell ∷ rows) = omega (arith, sum_by-cons cell_bytes cell (cells_in rows), sum_by-cons row_bytes (Given cell) rows, given_bytes rows)
given_bytes (Refused causes ∷ rows) = omega (arith, sum_by-cons row_bytes (Refused causes) rows, given_bytes rows)

-- what is wrong with entries is wrong with those that have to fit
still-wrong : (most : ℕ) (found : Result (List Cell) (List Cause)) (error : Error) → IsCausedBy (refusal_of found) error → IsCausedBy (refusal_of (fitted (Some most) found)) error
still-wrong most (Err causes) error told = told
still-wrong most (Ok cells) error (inl memory) = inl memory
still-wrong most (Ok cells) error (inr told) = absurd (nothing (cause_of error) told) where
  nothing : (o : Option Cause) → IsOneOf [] o → ⊥
  nothing None h = h
  nothing (Some cause) h = omega (arith, h.1)

too_many : (most : ℕ) (cells : List Cell) (error : Error) → most < sum_by cell_bytes cells → cause_of error ≡ Some Overflow → IsCausedBy (refusal_of (fitted (Some most) (Ok cells))) error
too_many most cells error past is = rw (lt-leb (sum_by cell_bytes cells) most past, is) (inr (0, omega arith, refl))

module _ (is_text : Bool) (most : ℕ) (page : DictContent) (places : Option (List (ℕ × ℕ))) where
  -- all rows of the page
  whole_rows : length (unwrap_or places []) ≡ page.num_values → take page.num_values (stored_outcomes is_text page.body places) ≡ map (stored_outcome (byte_rule is_text)) (map Octets (map (bytes_in page.body) (unwrap_or places [])))
  whole_rows counted =
      take_all page.num_values (stored_outcomes is_text page.body places) (omega (arith, counted, length-map (unwrap_or places []) (λ place. stored_outcome (byte_rule is_text) (Octets (bytes_in page.body place)))))
      ∙ sym (stands is_text page.body (unwrap_or places []))

  spelled : plain_bytes page.body page.num_values ≡ Some (map (bytes_in page.body) (unwrap_or places [])) → plain_values ByteArray page.body page.num_values ≡ Some (map Octets (map (bytes_in page.body) (unwrap_or places [])))
  unfolding plain_values
  spelled e = ap (option_map (map Octets)) e

  pub dict-entries : (entries : List (List ℕ)) → length (unwrap_or places []) ≡ page.num_values → plain_bytes page.body page.num_values ≡ Some (map (bytes_in page.body) (unwrap_or places []))
      → Adds (byte_cell is_text) [] entries (take page.num_values (stored_outcomes is_text page.body places)) → sum_by length entries ≤ most
      → fitted (Some most) (dictionary_cells (byte_rule is_text) ByteArray page) ≡ Ok (map (byte_cell is_text) entries)
  dict-entries entries counted e added fits =
      let cells = map (byte_cell is_text) entries in
      let within : fits_most (Some most) (sum_by cell_bytes cells) ≡ true = le-leb (sum_by cell_bytes cells) most (omega (arith, cells_bytes is_text entries, fits)) in
      ap (fitted (Some most)) (dictionary_read (byte_cell is_text) (byte_rule is_text) ByteArray page (map Octets (map (bytes_in page.body) (unwrap_or places []))) entries (spelled e) (added ∙ whole_rows counted))
      ∙ ap (λ b. if b then Ok cells else Err (Overflow ∷ [])) within

  pub dict-wrong : (error : Error) → length (unwrap_or places []) ≡ page.num_values → plain_bytes page.body page.num_values ≡ Some (map (bytes_in page.body) (unwrap_or places []))
      → IsCausedByBytes most [] (take page.num_values (stored_outcomes is_text page.body places)) error → (cause_of error ≡ Some Overflow → causes_in (take page.num_values (stored_outcomes is_text page.body places)) ≡ [])
      → IsCausedBy (refusal_of (fitted (Some most) (dictionary_cells (byte_rule is_text) ByteArray page))) error
  unfolding dictionary_cells
  dict-wrong error counted e (inl told) given =
      let P : List Outcome → Type 0 = λ rows. IsCausedBy rows error in
      still-wrong most (dictionary_cells (byte_rule is_text) ByteArray page) error
      (dictionary_wrong (byte_rule is_text) ByteArray page (map Octets (map (bytes_in page.body) (unwrap_or places []))) error (spelled e) (subst P (whole_rows counted) told))
  dict-wrong error counted e (inr (is, past)) given =
      let stored = map Octets (map (bytes_in page.body) (unwrap_or places [])) in
      let rows = map (stored_outcome (byte_rule is_text)) stored in
      let same = whole_rows counted in
      let none : causes_in rows ≡ [] = ap causes_in (sym same) ∙ given is in
      let found : dictionary_cells (byte_rule is_text) ByteArray page ≡ Ok (cells_in rows) =
      ap (λ o. option_map_or (λ stored. all_given (map (stored_outcome (byte_rule is_text)) stored)) o (Err (ExternalFormat ∷ []))) (spelled e) ∙ ap (λ causes. if is_empty causes then Ok (cells_in rows) else Err causes) none in
      let Q : Result (List Cell) (List Cause) → Type 0 = λ found. IsCausedBy (refusal_of (fitted (Some most) found)) error in
      subst Q (sym found) (too_many most (cells_in rows) error (omega (arith, past, given_bytes rows, ap (sum_by row_bytes) same)) is)

pub dict-damaged : (is_text : Bool) (most : ℕ) (page : DictContent) (error : Error) → (cause_of error ≡ Some ExternalFormat) × (plain_bytes page.body page.num_values ≡ None)
    → IsCausedBy (refusal_of (fitted (Some most) (dictionary_cells (byte_rule is_text) ByteArray page))) error
unfolding dictionary_cells plain_values
dict-damaged is_text most page error h = rw (h.1, h.0) (inr (0, omega arith, refl))
