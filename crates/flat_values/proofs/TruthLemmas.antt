-- Truth values of a page.
use Rattle.std.proofs.Common.{◌≡◌, ℕ, zero, suc, ◌+◌, ◌*◌, ◌/◌, ◌%◌, ◌^◌, ◌-◌, Bool, true, List, [], ◌∷◌, length, map, take, drop, Option, Some, None, Ok, refl, sym, ap, ◌∙◌, arith}
use Rattle.std.specs.Option.{is_some, option_map}
use Rattle.std.proofs.lemmas.Bool.{false≢true}
use Rattle.std.proofs.lemmas.List.{length-drop, take_all}
use Rattle.std.proofs.lemmas.Simd.{map-map}
use Rattle.columns_core.specs.Bits.{bits_of}
use Rattle.columns_core.specs.Causes.{ExternalFormat, IsOneOf, cause_of, unless}
use Rattle.columns_core.specs.declared.cell.Cell.{Cell, Bool as TruthCell}
use Rattle.columns_core.specs.declared.error.Error.{Error}
use Rattle.columns_core.proofs.BitLemmas.{bits_of-first, no_bits}
use Rattle.parquet_base.specs.Bytes.{little_endian}
use Rattle.parquet_base.proofs.BytesLemmas.{AreBytes}
use Rattle.parquet_encoding.specs.Bits.{packed}
use Rattle.parquet_encoding.specs.Plain.{plain_bits, truth}
use Rattle.parquet_encoding.proofs.BitsLemmas.{packed-drop}
use Rattle.parquet_meta.specs.declared.metadata.PhysicalType.TheVariants.{Boolean}
use Rattle.parquet_page.specs.Stored.{Truth}
use Rattle.parquet_page.specs.Values.{Encoding, Plain, Keys, DeltaPacked, DeltaLengths, goes_with, plain_values}
use Rattle.page_decoding.specs.Outcome.{Outcome, Given, causes_in, refusal_of}
use Rattle.flat_values.specs.Conversion.{Keep}
use Rattle.flat_values.specs.Outcomes.{dictionary_cells, stored_outcome, value_causes, value_outcomes}
use Rattle.flat_values.proofs.OutcomeLemmas.{all_entries, no_entries}
use Rattle.flat_values.proofs.PlainLemmas.{is_some-map}

-- bits from any place on
bits_of-packed : (bytes : List ℕ) (place count : ℕ) → bits_of bytes place count ≡ map truth (packed bytes 1 place count)
unfolding packed
bits_of-packed bytes place zero = no_bits (little_endian bytes / 2 ^ place)
bits_of-packed bytes place (suc count) = bits_of-first bytes place (suc count) count refl ∙ ap (λ bits. (truth (little_endian bytes / 2 ^ place % 2)) ∷ bits) (bits_of-packed bytes (place + 1) count)

-- those in the bytes from a place on
pub bits_behind : (bytes : List ℕ) (place bit width count : ℕ) → AreBytes bytes → width ≡ 1
    → bits_of (take (length bytes - place) (drop place bytes)) bit count ≡ map truth (packed bytes width (8 * place + bit) count)
bits_behind bytes place bit width count fits one =
    ap (λ rest. bits_of rest bit count) (take_all (length bytes - place) (drop place bytes) (omega (arith, length-drop place bytes)))
    ∙ bits_of-packed (drop place bytes) bit count ∙ ap (map truth) (packed-drop bytes place 1 bit count fits ∙ ap (λ w. packed bytes w (8 * place + bit) count) (sym one))

-- what truth values give
abbrev truth_outcome : Bool → Outcome
truth_outcome b = Given (TruthCell b)

module _ (bytes : List ℕ) (count : ℕ) where
  pub truth_outcomes : (entries : Option (List Cell)) (encoding : Encoding) (values : List Bool) → goes_with encoding Boolean ≡ true → plain_bits bytes count ≡ Some values
      → value_outcomes Keep Boolean entries encoding bytes count ≡ Some (map truth_outcome values)
  unfolding value_outcomes plain_values
  truth_outcomes entries Plain values goes e = ap (λ o. option_map (map (stored_outcome Keep)) (option_map (map Truth) o)) e ∙ ap Some (map-map (stored_outcome Keep) Truth values)
  truth_outcomes entries Keys values goes e = absurd (false≢true goes)
  truth_outcomes entries DeltaPacked values goes e = absurd (false≢true goes)
  truth_outcomes entries DeltaLengths values goes e = absurd (false≢true goes)

  truth_causes : (entries : Option ℕ) (encoding : Encoding) → goes_with encoding Boolean ≡ true → value_causes Boolean entries encoding bytes count ≡ unless (is_some (plain_bits bytes count)) ExternalFormat
  unfolding value_causes plain_values
  truth_causes entries Plain goes = ap (λ b. unless b ExternalFormat) (is_some-map (map Truth) (plain_bits bytes count))
  truth_causes entries Keys goes = absurd (false≢true goes)
  truth_causes entries DeltaPacked goes = absurd (false≢true goes)
  truth_causes entries DeltaLengths goes = absurd (false≢true goes)

  pub no_cause : (entries : Option ℕ) (encoding : Encoding) (values : List Bool) → goes_with encoding Boolean ≡ true → plain_bits bytes count ≡ Some values → value_causes Boolean entries encoding bytes count ≡ []
  no_cause entries encoding values goes e = truth_causes entries encoding goes ∙ ap (λ o. unless (is_some o) ExternalFormat) e

  pub one_cause : (entries : Option ℕ) (encoding : Encoding) (error : Error) → goes_with encoding Boolean ≡ true → (cause_of error ≡ Some ExternalFormat) × (plain_bits bytes count ≡ None)
      → IsOneOf (value_causes Boolean entries encoding bytes count) (cause_of error)
  one_cause entries encoding error goes h = rw (truth_causes entries encoding goes, h.1, h.0) (0, omega arith, refl)

  -- the entries of a dictionary
  pub truth_entries : (values : List Bool) → plain_bits bytes count ≡ Some values → dictionary_cells Keep Boolean (record { body = bytes; num_values = count }) ≡ Ok (map TruthCell values)
  unfolding plain_values
  truth_entries values e =
      all_entries Keep Boolean (record { body = bytes; num_values = count }) (map Truth values) (map TruthCell values) (ap (option_map (map Truth)) e)
      (map-map (stored_outcome Keep) Truth values ∙ sym (map-map Given TruthCell values))

  pub no_truth_entries : (error : Error) → (cause_of error ≡ Some ExternalFormat) × (plain_bits bytes count ≡ None)
      → IsOneOf (causes_in (refusal_of (dictionary_cells Keep Boolean (record { body = bytes; num_values = count })))) (cause_of error)
  unfolding plain_values
  no_truth_entries error h = no_entries Keep Boolean (record { body = bytes; num_values = count }) error (ap (option_map (map Truth)) h.1) h.0
