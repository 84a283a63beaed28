-- Byte strings, one behind the other.
use Rattle.std.proofs.Common.{◌≡◌, ℕ, zero, suc, ◌+◌, ◌-◌, ◌<◌, ◌≤◌, leb, true, false, List, [], ◌∷◌, length, take, drop, Option, Some, None, refl, sym, ap, ◌∙◌, arith}
use Rattle.std.specs.Prelude.{IsSome, IfSome, unwrap_or, slice_get, is_some, option_map}
use Rattle.std.specs.Int.{w32, from_le_bytes}
use Rattle.std.proofs.lemmas.Bool.{le-leb, lt-leb, leb-true}
use Rattle.std.proofs.lemmas.List.{length-drop, length-take, length-take-le, drop-drop}
use Rattle.parquet_base.specs.Bytes.{little_endian}
use Rattle.parquet_base.specs.Reading.{◌>>=◌}
use Rattle.parquet_encoding.specs.Places.{bytes_in, bytes_from, places_of}
use Rattle.parquet_encoding.specs.Plain.{plain_bytes, first_string}
use Rattle.parquet_encoding.specs.PlainLeft.{StringAt}
use Rattle.parquet_base.proofs.BytesLemmas.{four_bytes}
use Rattle.parquet_encoding.proofs.StepLemmas.{bind_some, given_some, is_something, if_some, nothing_is, same_some, something_is, some_is}

-- ---- one string

pub string_is : (bytes head body : List ℕ) (at long : ℕ) → at ≤ length bytes → head ≡ take 4 (drop at bytes) → length body + 4 ≡ length (drop at bytes) → long ≡ from_le_bytes w32 head → long ≤ length body
    → StringAt bytes at (at + 4, long)
unfolding first_string
string_is bytes head body at long inside is-head is-body is-long fits =
    let rest = drop at bytes in
    let four : length (take 4 rest) ≡ 4 = length-take-le 4 rest (omega arith) in
    let value : little_endian (take 4 rest) ≡ long = sym (is-long ∙ ap (from_le_bytes w32) is-head ∙ four_bytes (take 4 rest) four) in
    let there : 4 ≤ length rest = omega arith in
    let enough : 4 + long ≤ length rest = omega arith in
    let size : long ≡ at + 4 + long - (at + 4) = omega arith in
    record {
      read = rw (le-leb 4 (length rest) there, value, le-leb (4 + long) (length rest) enough, drop-drop 4 at bytes, drop-drop long (at + 4) bytes)
          (ap (λ n. Some (take n (drop (at + 4) bytes), drop (at + 4 + long) bytes)) size);
      behind = refl;
      within = omega (arith, length-drop at bytes);
    }

pub no_length : (rest : List ℕ) → length rest < 4 → first_string rest ≡ None
unfolding first_string
no_length rest short = rw (lt-leb 4 (length rest) short) refl

pub no_body : (rest head body : List ℕ) (long : ℕ) → head ≡ take 4 rest → length body + 4 ≡ length rest → long ≡ from_le_bytes w32 head → length body < long → first_string rest ≡ None
unfolding first_string
no_body rest head body long is-head is-body is-long short =
    let four : length (take 4 rest) ≡ 4 = length-take-le 4 rest (omega arith) in
    let value : little_endian (take 4 rest) ≡ long = sym (is-long ∙ ap (from_le_bytes w32) is-head ∙ four_bytes (take 4 rest) four) in
    let there : 4 ≤ length rest = omega arith in
    let missing : length rest < 4 + long = omega arith in
    rw (le-leb 4 (length rest) there, value, lt-leb (4 + long) (length rest) missing) refl

-- ---- a string and those behind it

pub plain_step : (bytes : List ℕ) (count : ℕ) → plain_bytes bytes (suc count) ≡ (first_string bytes >>= λ first. plain_bytes first.1 count >>= λ others. Some (first.0 ∷ others))
unfolding plain_bytes
plain_step [] count = refl
plain_step (byte ∷ bytes) count = refl

plain_none : (bytes : List ℕ) → length bytes ≡ 0 → plain_bytes bytes 0 ≡ Some []
unfolding plain_bytes
plain_none [] e = refl
plain_none (byte ∷ bytes) e = absurd (omega arith)

is_some-with : {A : Type 0} (x : A) (o : Option (List A)) → is_some (o >>= λ others. Some (x ∷ others)) ≡ is_some o
is_some-with x None = refl
is_some-with x (Some others) = refl

-- the walk goes on behind a string
pub walks_on : (bytes : List ℕ) (at left : ℕ) (place : ℕ × ℕ) → 0 < left → StringAt bytes at place → is_some (plain_bytes (drop (place.0 + place.1) bytes) (left - 1)) ≡ is_some (plain_bytes (drop at bytes) left)
walks_on bytes at zero place positive there = absurd (omega arith)
walks_on bytes at (suc left) place positive there =
    let one : suc left - 1 ≡ left = omega arith in
    let rest = drop (place.0 + place.1) bytes in
    let first : (first_string (drop at bytes) >>= λ first. plain_bytes first.1 left >>= λ others. Some (first.0 ∷ others)) ≡ (plain_bytes rest left >>= λ others. Some (bytes_in bytes place ∷ others)) =
    ap (λ o. o >>= λ first. plain_bytes first.1 left >>= λ others. Some (first.0 ∷ others)) there.read in
    ap (λ n. is_some (plain_bytes rest n)) one ∙ sym (ap is_some (plain_step (drop at bytes) left ∙ first) ∙ is_some-with (bytes_in bytes place) (plain_bytes rest left))

-- it stops where no string stands
pub walk_stops : (rest : List ℕ) (left : ℕ) → 0 < left → first_string rest ≡ None → is_some (plain_bytes rest left) ≡ false
walk_stops rest zero positive none = absurd (omega arith)
walk_stops rest (suc left) positive none = ap is_some (plain_step rest left ∙ ap (λ o. o >>= λ first. plain_bytes first.1 left >>= λ others. Some (first.0 ∷ others)) none)

-- it ends at the end of the bytes alone
pub walk_ends : (bytes : List ℕ) (at left : ℕ) → left ≡ 0 → length bytes ≤ at → is_some (plain_bytes (drop at bytes) left) ≡ true
walk_ends bytes at left none end = let empty : length (drop at bytes) ≡ 0 = length-drop at bytes ∙ omega arith in rw none (ap is_some (plain_none (drop at bytes) empty))

pub walk_ends_early : (bytes : List ℕ) (at left : ℕ) → left ≡ 0 → at < length bytes → is_some (plain_bytes (drop at bytes) left) ≡ false
unfolding plain_bytes
walk_ends_early bytes at left none early = rw none (some (drop at bytes) (omega (arith, length-drop at bytes))) where
  some : (rest : List ℕ) → 0 < length rest → is_some (plain_bytes rest 0) ≡ false
  some [] h = absurd (omega arith)
  some (byte ∷ rest) h = refl

-- ---- from a place on

abbrev pub strings_from : ℕ → ℕ → List ℕ → Option (List (ℕ × ℕ))
strings_from next left bytes = bytes_from next bytes >>= λ rest. option_map (places_of 4 next) (plain_bytes rest left)

pub strings_within : (next left : ℕ) (bytes : List ℕ) → IsSome (strings_from next left bytes) → next ≤ length bytes
strings_within next left bytes h =
    let some = is_something _ h in
    let rest = bind_some (bytes_from next bytes) (λ rest. option_map (places_of 4 next) (plain_bytes rest left)) some.0 some.1 in
    leb-true _ _ (given_some (leb next (length bytes)) (drop next bytes) rest.0 rest.1).0

strings_at : (next left : ℕ) (bytes : List ℕ) → next ≤ length bytes → strings_from next left bytes ≡ option_map (places_of 4 next) (plain_bytes (drop next bytes) left)
strings_at next left bytes inside = rw (le-leb next (length bytes) inside) refl

length-bytes_in : (bytes : List ℕ) (place : ℕ × ℕ) → place.0 + place.1 ≤ length bytes → length (bytes_in bytes place) ≡ place.1
length-bytes_in bytes place within = length-take (place.0 + place.1 - place.0) (drop place.0 bytes) ∙ omega (arith, length-drop place.0 bytes)

-- the string at the front, and the others
strings_step : (next left : ℕ) (bytes : List ℕ) (place : ℕ × ℕ) → next ≤ length bytes → 0 < left → StringAt bytes next place
    → strings_from next left bytes ≡ option_map (λ (others : List (ℕ × ℕ)). place ∷ others) (strings_from (place.0 + place.1) (left - 1) bytes)
unfolding places_of
strings_step next zero bytes place inside positive there = absurd (omega arith)
strings_step next (suc left) bytes place inside positive there =
    let one : suc left - 1 ≡ left = omega arith in
    let end = place.0 + place.1 in
    let own = bytes_in bytes place in
    let long = length-bytes_in bytes place there.within in
    strings_at next (suc left) bytes inside
    ∙ ap (option_map (places_of 4 next)) (plain_step (drop next bytes) left ∙ ap (λ o. o >>= λ first. plain_bytes first.1 left >>= λ others. Some (first.0 ∷ others)) there.read)
    ∙ placed own long (plain_bytes (drop end bytes) left)
    ∙ ap (option_map (λ (others : List (ℕ × ℕ)). place ∷ others)) (sym (strings_at end left bytes there.within) ∙ ap (λ n. strings_from end n bytes) (sym one))
  where
    placed : (own : List ℕ) → length own ≡ place.1 → (o : Option (List (List ℕ)))
        → option_map (places_of 4 next) (o >>= λ others. Some (own ∷ others)) ≡ option_map (λ (others : List (ℕ × ℕ)). place ∷ others) (option_map (places_of 4 (place.0 + place.1)) o)
    placed own long None = refl
    placed own long (Some others) = rw (long, ← there.behind) refl

strings_stop : (next left : ℕ) (bytes : List ℕ) → next ≤ length bytes → 0 < left → first_string (drop next bytes) ≡ None → strings_from next left bytes ≡ None
strings_stop next zero bytes inside positive none = absurd (omega arith)
strings_stop next (suc left) bytes inside positive none =
    strings_at next (suc left) bytes inside
    ∙ ap (option_map (places_of 4 next)) (plain_step (drop next bytes) left ∙ ap (λ o. o >>= λ first. plain_bytes first.1 left >>= λ others. Some (first.0 ∷ others)) none)

-- a string stands there
pub has_string : (next left : ℕ) (bytes : List ℕ) → IsSome (strings_from next left bytes) → 0 < left → first_string (drop next bytes) ≡ None → ⊥
has_string next left bytes h positive none =
    let some = is_something _ h in
    nothing_is some.0 (sym (strings_stop next left bytes (strings_within next left bytes h) positive none) ∙ some.1)

pub no_string : (next left : ℕ) (bytes : List ℕ) → left ≡ 0 → IsSome (strings_from next left bytes) → strings_from next left bytes ≡ Some []
unfolding places_of plain_bytes
no_string next left bytes none h =
    let inside = strings_within next left bytes h in
    let at = strings_at next left bytes inside in
    let last = ap (λ n. option_map (places_of 4 next) (plain_bytes (drop next bytes) n)) none in
    at ∙ last ∙ empty (drop next bytes) (same_some _ _ (sym (at ∙ last)) h)
  where
    empty : (rest : List ℕ) → IsSome (option_map (places_of 4 next) (plain_bytes rest 0)) → option_map (places_of 4 next) (plain_bytes rest 0) ≡ Some []
    empty [] h = refl
    empty (byte ∷ rest) h = absurd cc

length-places : (head from : ℕ) (pieces : List (List ℕ)) → length (places_of head from pieces) ≡ length pieces
unfolding places_of
length-places head from [] = refl
length-places head from (piece ∷ pieces) = ap suc (length-places head (from + head + length piece) pieces)

pub length-plain : (bytes : List ℕ) (count : ℕ) (pieces : List (List ℕ)) → plain_bytes bytes count ≡ Some pieces → length pieces ≡ count
unfolding plain_bytes
length-plain bytes zero pieces e = ends bytes pieces e where
  ends : (bytes : List ℕ) (pieces : List (List ℕ)) → plain_bytes bytes 0 ≡ Some pieces → length pieces ≡ 0
  ends [] [] e = refl
  ends [] (piece ∷ pieces) e = absurd cc
  ends (byte ∷ bytes) pieces e = absurd cc
length-plain bytes (suc count) pieces e =
    let first = bind_some (first_string bytes) (λ first. plain_bytes first.1 count >>= λ others. Some (first.0 ∷ others)) pieces (sym (plain_step bytes count) ∙ e) in
    let others = bind_some (plain_bytes first.0.1 count) (λ others. Some (first.0.0 ∷ others)) pieces first.2 in
    let same : first.0.0 ∷ others.0 ≡ pieces = cc in
    ap length (sym same) ∙ ap suc (length-plain first.0.1 count others.0 others.1)

pub length-strings : (next left : ℕ) (bytes : List ℕ) → IfSome (strings_from next left bytes) (λ values. left ≡ length values)
length-strings next left bytes = if_some (strings_from next left bytes) _ (λ values e.
    let inside = strings_within next left bytes (something_is _ values e) in
    counted (plain_bytes (drop next bytes) left) values refl (sym (strings_at next left bytes inside) ∙ e))
  where
    counted : (o : Option (List (List ℕ))) (values : List (ℕ × ℕ)) → plain_bytes (drop next bytes) left ≡ o → option_map (places_of 4 next) o ≡ Some values → left ≡ length values
    counted None values is e = absurd cc
    counted (Some pieces) values is e = sym (ap length (sym (some_is _ values e)) ∙ length-places 4 next pieces ∙ length-plain (drop next bytes) left pieces is)

-- the first of those that are left, and the others
pub first_string_left : (next left : ℕ) (bytes : List ℕ) (place : ℕ × ℕ) → 0 < left → StringAt bytes next place → IsSome (strings_from next left bytes)
    → Some place ≡ slice_get (unwrap_or (strings_from next left bytes) []) 0
first_string_left next left bytes place positive there h =
    let step = strings_step next left bytes place (strings_within next left bytes h) positive there in
    sym (ap (λ o. slice_get (unwrap_or o []) 0) step ∙ front (strings_from (place.0 + place.1) (left - 1) bytes) (same_some _ _ (sym step) h))
  where
    front : (o : Option (List (ℕ × ℕ))) → IsSome (option_map (λ (others : List (ℕ × ℕ)). place ∷ others) o) → slice_get (unwrap_or (option_map (λ (others : List (ℕ × ℕ)). place ∷ others) o) []) 0 ≡ Some place
    front None h = absurd cc
    front (Some others) h = refl

pub others_left : (next left : ℕ) (bytes : List ℕ) (place : ℕ × ℕ) → 0 < left → StringAt bytes next place → IsSome (strings_from next left bytes)
    → strings_from (place.0 + place.1) (left - 1) bytes ≡ Some (drop 1 (unwrap_or (strings_from next left bytes) []))
others_left next left bytes place positive there h =
    let step = strings_step next left bytes place (strings_within next left bytes h) positive there in
    rest (strings_from (place.0 + place.1) (left - 1) bytes) (same_some _ _ (sym step) h) ∙ ap (λ o. Some (drop 1 (unwrap_or o []))) (sym step)
  where
    rest : (o : Option (List (ℕ × ℕ))) → IsSome (option_map (λ (others : List (ℕ × ℕ)). place ∷ others) o) → o ≡ Some (drop 1 (unwrap_or (option_map (λ (others : List (ℕ × ℕ)). place ∷ others) o) []))
    rest None h = absurd cc
    rest (Some others) h = refl

pub begins_strings : (count : ℕ) (bytes : List ℕ) → strings_from 0 count bytes ≡ option_map (places_of 4 0) (plain_bytes bytes count)
begins_strings count bytes = strings_at 0 count bytes (omega arith)

pub begins_somewhere : (count : ℕ) (bytes : List ℕ) → is_some (plain_bytes bytes count) ≡ true → IsSome (strings_from 0 count bytes)
begins_somewhere count bytes e = same_some _ _ (begins_strings count bytes) (mapped (plain_bytes bytes count) e) where
  mapped : (o : Option (List (List ℕ))) → is_some o ≡ true → IsSome (option_map (places_of 4 0) o)
  mapped None e = absurd cc
  mapped (Some pieces) e = refl
