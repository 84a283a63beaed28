-- What stands at the places of pieces.
use Rattle.std.proofs.Common.{◌≡◌, ℕ, zero, suc, ◌+◌, ◌-◌, ◌*◌, ◌≤◌, leb, List, [], ◌∷◌, length, take, drop, map, Option, Some, None, refl, sym, ap, ◌∙◌, arith, ℤ}
use Rattle.std.specs.Prelude.{option_map}
use Rattle.std.specs.Simd.{first_chunks}
use Rattle.std.proofs.lemmas.Bool.{leb-true, eqb-true}
use Rattle.std.proofs.lemmas.List.{length-drop, length-take-le, drop-drop, take_all}
use Rattle.parquet_base.specs.Bytes.{little_endian}
use Rattle.parquet_base.specs.Reading.{◌>>=◌, given}
use Rattle.parquet_encoding.specs.Places.{bytes_in, places_of}
use Rattle.parquet_encoding.specs.Plain.{plain_fixed, first_string, plain_bytes}
use Rattle.parquet_encoding.specs.DeltaBinary.{delta_binary}
use Rattle.parquet_encoding.specs.DeltaLength.{length_of, strings_of, delta_length, delta_length_places}
use Rattle.parquet_encoding.proofs.StepLemmas.{bind_some, given_some, some_is}
use Rattle.parquet_encoding.proofs.FixedLemmas.{places-chunks, chunks_in}
use Rattle.parquet_encoding.proofs.StringLemmas.{plain_step}
use Rattle.parquet_encoding.proofs.EndingLemmas.{Ends, delta_binary-ends}

-- what stands at the places of what may have been read
abbrev pub standing : List ℕ → ℕ → ℕ → Option (List (List ℕ)) → Option (List (List ℕ))
standing bytes head from pieces = option_map (map (bytes_in bytes)) (option_map (places_of head from) pieces)

stand : (bytes : List ℕ) (head from : ℕ) (o : Option (List (List ℕ))) → ((pieces : List (List ℕ)) → o ≡ Some pieces → map (bytes_in bytes) (places_of head from pieces) ≡ pieces) → standing bytes head from o ≡ o
stand bytes head from None all = refl
stand bytes head from (Some pieces) all = ap Some (all pieces refl)

-- a piece stands at its place
piece_stands : (bytes : List ℕ) (start long : ℕ) → long ≤ length (drop start bytes) → bytes_in bytes (start, length (take long (drop start bytes))) ≡ take long (drop start bytes)
piece_stands bytes start long fits =
    let own : start + length (take long (drop start bytes)) - start ≡ long = omega (arith, length-take-le long (drop start bytes) fits) in
    ap (λ n. take n (drop start bytes)) own

pub fixed_stand : (size count : ℕ) (bytes : List ℕ) → standing bytes 0 0 (plain_fixed size bytes count) ≡ plain_fixed size bytes count
unfolding plain_fixed
fixed_stand size count bytes =
    stand bytes 0 0 (plain_fixed size bytes count) (λ pieces e.
    let same = given_some _ (first_chunks size count bytes) pieces e in
    let long = eqb-true (length bytes) (count * size) same.0 in
    ap (λ pieces. map (bytes_in bytes) (places_of 0 0 pieces)) (sym same.1)
    ∙ ap (map (bytes_in bytes)) (places-chunks size count bytes 0 long)
    ∙ sym (chunks_in size count bytes 0)
    ∙ ap (first_chunks size count) (take_all (count * size) bytes (omega arith))
    ∙ same.1)

strings_stand : (bytes : List ℕ) (at count : ℕ) (pieces : List (List ℕ)) → plain_bytes (drop at bytes) count ≡ Some pieces → map (bytes_in bytes) (places_of 4 at pieces) ≡ pieces
unfolding first_string places_of plain_bytes
strings_stand bytes at zero pieces e = none (drop at bytes) pieces e where
  none : (rest : List ℕ) (pieces : List (List ℕ)) → plain_bytes rest 0 ≡ Some pieces → map (bytes_in bytes) (places_of 4 at pieces) ≡ pieces
  none [] [] e = refl
  none [] (piece ∷ pieces) e = absurd cc
  none (byte ∷ rest) pieces e = absurd cc
strings_stand bytes at (suc count) pieces e =
    let rest = drop at bytes in
    let first = bind_some (first_string rest) (λ first. plain_bytes first.1 count >>= λ others. Some (first.0 ∷ others)) pieces (sym (plain_step rest count) ∙ e) in
    let others = bind_some (plain_bytes first.0.1 count) (λ others. Some (first.0.0 ∷ others)) pieces first.2 in
    let long = bind_some (given (leb 4 (length rest)) (little_endian (take 4 rest))) (λ long. given (leb (4 + long) (length rest)) (drop 4 rest) >>= λ body. Some (take long body, drop long body)) first.0 first.1 in
    let body = bind_some (given (leb (4 + long.0) (length rest)) (drop 4 rest)) (λ body. Some (take long.0 body, drop long.0 body)) first.0 long.2 in
    let fits = given_some (leb (4 + long.0) (length rest)) (drop 4 rest) body.0 body.1 in
    let there : body.0 ≡ drop (at + 4) bytes = sym fits.1 ∙ drop-drop 4 at bytes in
    let read = some_is (take long.0 body.0, drop long.0 body.0) first.0 body.2 in
    let own : first.0.0 ≡ take long.0 (drop (at + 4) bytes) = sym (ap (λ read. read.0) read) ∙ ap (take long.0) there in
    let enough : long.0 ≤ length (drop (at + 4) bytes) = omega (arith, leb-true _ _ fits.0, length-drop at bytes, length-drop (at + 4) bytes) in
    let size : length first.0.0 ≡ long.0 = ap length own ∙ length-take-le long.0 (drop (at + 4) bytes) enough in
    let behind : first.0.1 ≡ drop (at + 4 + length first.0.0) bytes = sym (ap (λ read. read.1) read) ∙ ap (drop long.0) there ∙ drop-drop long.0 (at + 4) bytes ∙ ap (λ n. drop (at + 4 + n) bytes) (sym size) in
    let head : bytes_in bytes (at + 4, length first.0.0) ≡ first.0.0 = ap (λ piece. bytes_in bytes (at + 4, length piece)) own ∙ piece_stands bytes (at + 4) long.0 enough ∙ sym own in
    let tail = strings_stand bytes (at + 4 + length first.0.0) count others.0 (sym (ap (λ rest. plain_bytes rest count) behind) ∙ others.1) in
    ap (λ pieces. map (bytes_in bytes) (places_of 4 at pieces)) (sym (some_is (first.0.0 ∷ others.0) pieces others.2))
    ∙ ap (λ piece. piece ∷ map (bytes_in bytes) (places_of 4 (at + 4 + length first.0.0) others.0)) head
    ∙ ap (λ others. first.0.0 ∷ others) tail
    ∙ some_is (first.0.0 ∷ others.0) pieces others.2

pub bytes_stand : (count : ℕ) (bytes : List ℕ) → standing bytes 4 0 (plain_bytes bytes count) ≡ plain_bytes bytes count
bytes_stand count bytes = stand bytes 4 0 (plain_bytes bytes count) (λ pieces e. strings_stand bytes 0 count pieces e)

joined_stand : (bytes : List ℕ) (at : ℕ) (numbers : List ℤ) (pieces : List (List ℕ)) → strings_of numbers (drop at bytes) ≡ Some pieces → map (bytes_in bytes) (places_of 0 at pieces) ≡ pieces
unfolding strings_of places_of
joined_stand bytes at [] pieces e = ap (λ pieces. map (bytes_in bytes) (places_of 0 at pieces)) (sym (some_is [] pieces e)) ∙ some_is [] pieces e
joined_stand bytes at (number ∷ numbers) pieces e =
    let rest = drop at bytes in
    let long = bind_some (length_of number) (λ long. given (leb long (length rest)) (take long rest) >>= λ own. strings_of numbers (drop long rest) >>= λ others. Some (own ∷ others)) pieces e in
    let own = bind_some (given (leb long.0 (length rest)) (take long.0 rest)) (λ own. strings_of numbers (drop long.0 rest) >>= λ others. Some (own ∷ others)) pieces long.2 in
    let others = bind_some (strings_of numbers (drop long.0 rest)) (λ others. Some (own.0 ∷ others)) pieces own.2 in
    let fits = given_some (leb long.0 (length rest)) (take long.0 rest) own.0 own.1 in
    let enough : long.0 ≤ length rest = leb-true _ _ fits.0 in
    let size : length own.0 ≡ long.0 = ap length (sym fits.1) ∙ length-take-le long.0 rest enough in
    let here : at + 0 ≡ at = omega arith in
    let end : at + 0 + length own.0 ≡ at + long.0 = omega arith in
    let head : bytes_in bytes (at + 0, length own.0) ≡ own.0 =
    ap (λ p. bytes_in bytes (p, length own.0)) here ∙ ap (λ piece. bytes_in bytes (at, length piece)) (sym fits.1) ∙ piece_stands bytes at long.0 enough ∙ fits.1 in
    let behind : drop long.0 rest ≡ drop (at + 0 + length own.0) bytes = drop-drop long.0 at bytes ∙ ap (λ n. drop n bytes) (sym end) in
    let tail = joined_stand bytes (at + 0 + length own.0) numbers others.0 (sym (ap (strings_of numbers) behind) ∙ others.1) in
    ap (λ pieces. map (bytes_in bytes) (places_of 0 at pieces)) (sym (some_is (own.0 ∷ others.0) pieces others.2))
    ∙ ap (λ piece. piece ∷ map (bytes_in bytes) (places_of 0 (at + 0 + length own.0) others.0)) head
    ∙ ap (λ others. own.0 ∷ others) tail
    ∙ some_is (own.0 ∷ others.0) pieces others.2

pub lengths_stand : (count : ℕ) (bytes : List ℕ) → option_map (map (bytes_in bytes)) (delta_length_places bytes count) ≡ delta_length bytes count
unfolding delta_length delta_length_places
lengths_stand count bytes = from (delta_binary count bytes) (delta_binary-ends count bytes) where
  from : (o : Option (List ℤ × List ℕ)) → Ends bytes o
      → option_map (map (bytes_in bytes)) (o >>= λ lengths. option_map (places_of 0 (length bytes - length lengths.1)) (strings_of lengths.0 lengths.1)) ≡ (o >>= λ lengths. strings_of lengths.0 lengths.1)
  from None end = refl
  from (Some read) end =
      let at = length bytes - length read.1 in
      let same : read.1 ≡ drop at bytes = sym end.ends in
      stand bytes 0 at (strings_of read.0 read.1) (λ pieces e. joined_stand bytes at read.0 pieces (sym (ap (strings_of read.0) same) ∙ e))
