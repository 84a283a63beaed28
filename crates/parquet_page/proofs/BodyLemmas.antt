-- The parts of a body.
use Rattle.std.proofs.Common.{◌≡◌, ℕ, ◌+◌, ◌<◌, ◌≤◌, List, [], length, take, drop, Option, Some, None, refl, sym, ap, ◌∙◌, arith}
use Rattle.std.specs.Prelude.{option_map}
use Rattle.std.proofs.lemmas.Bool.{le-leb, lt-leb}
use Rattle.std.proofs.lemmas.List.{length-take, drop-drop}
use Rattle.std.specs.Int.{w32, from_le_bytes}
use Rattle.parquet_base.specs.Bytes.{little_endian}
use Rattle.parquet_encoding.specs.Plain.{first_string}
use Rattle.parquet_page.specs.Levels.{body_of, parts_of_lengths, prefixed_parts}
use Rattle.parquet_meta.specs.declared.metadata.Repetition.TheVariants.{Required, Optional, Repeated}
use Rattle.parquet_base.proofs.BytesLemmas.{four_bytes}

-- ---- levels behind their length

pub levels_here : (bytes head body : List ℕ) (long : ℕ) → head ≡ take 4 bytes → body ≡ drop 4 bytes → 4 + length body ≡ length bytes → long ≡ from_le_bytes w32 head → long ≤ length body
    → Some (take long body, drop long body) ≡ first_string bytes
unfolding first_string
levels_here bytes head body long front back whole e within =
    let four : length (take 4 bytes) ≡ 4 = omega (arith, length-take 4 bytes, whole) in
    let number : little_endian (take 4 bytes) ≡ long = sym (four_bytes (take 4 bytes) four) ∙ ap (from_le_bytes w32) (sym front) ∙ sym e in
    rw (le-leb 4 (length bytes) (omega (arith, whole)), number, le-leb (4 + long) (length bytes) (omega (arith, whole, within)), ← back) refl

-- ---- the first form

pub no_optional : (body : List ℕ) → first_string body ≡ None → prefixed_parts Optional body ≡ None
unfolding prefixed_parts
no_optional body e = rw e refl

pub optional_here : (body empty definition values : List ℕ) → empty ≡ [] → first_string body ≡ Some (definition, values) → Some (body_of empty definition values) ≡ prefixed_parts Optional body
unfolding prefixed_parts
optional_here body empty definition values none e = rw (e, none) refl

pub no_repetition : (body : List ℕ) → first_string body ≡ None → prefixed_parts Repeated body ≡ None
unfolding prefixed_parts
no_repetition body e = rw e refl

pub no_definition : (body repetition rest : List ℕ) → first_string body ≡ Some (repetition, rest) → first_string rest ≡ None → prefixed_parts Repeated body ≡ None
unfolding prefixed_parts
no_definition body repetition rest e none = rw (e, none) refl

pub repeated_here : (body repetition rest definition values : List ℕ) → first_string body ≡ Some (repetition, rest) → first_string rest ≡ Some (definition, values) → Some (body_of repetition definition values) ≡ prefixed_parts Repeated body
unfolding prefixed_parts
repeated_here body repetition rest definition values e f = rw (e, f) refl

pub required_here : (body empty : List ℕ) → empty ≡ [] → Some (body_of empty empty body) ≡ prefixed_parts Required body
unfolding prefixed_parts
required_here body empty none = rw none refl

-- what is not there is passed on
pub none_on : {X Y : Type 0} (f : X → Y) (result : Option X) (whole : Option Y) → result ≡ None → whole ≡ None → option_map f result ≡ whole
none_on f result whole e none = ap (option_map f) e ∙ sym none

-- ---- the second form

pub long_parts : (repetition definition : ℕ) (body : List ℕ) → length body < repetition + definition → None ≡ parts_of_lengths repetition definition body
unfolding parts_of_lengths
long_parts repetition definition body past = rw (lt-leb _ _ past) refl

pub parts_here : (repetition definition : ℕ) (body : List ℕ) → repetition + definition ≤ length body → Some (body_of (take repetition body) (take definition (drop repetition body)) (drop definition (drop repetition body))) ≡ parts_of_lengths repetition definition body
unfolding parts_of_lengths
parts_here repetition definition body within = rw (le-leb _ _ within, drop-drop definition repetition body) refl
