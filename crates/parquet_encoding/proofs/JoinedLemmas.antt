-- Joined byte strings, and the room that they leave.
use Rattle.std.proofs.Common.{◌≡◌, ℕ, zero, suc, ◌+◌, ◌-◌, ◌≤◌, min, leb, true, false, List, [], ◌∷◌, ◌++◌, length, take, drop, map, Option, Some, None, refl, sym, ap, ◌∙◌, arith, ℤ, pos, negsuc, inl, inr}
use Rattle.std.specs.Prelude.{IsSome, IfSome, unwrap_or, slice_get, is_some, option_map}
use Rattle.std.specs.List.{flat_map}
use Rattle.std.proofs.Math.Seq.{take-add}
use Rattle.std.proofs.lemmas.Bool.{le-leb, lt-leb, leb-true, cases_lt}
use Rattle.std.proofs.lemmas.List.{length-drop, length-take, length-take-le, drop-drop, take-append-drop, take_at, nil_from_length}
use Rattle.parquet_base.specs.Reading.{◌>>=◌, given, after}
use Rattle.parquet_encoding.specs.Places.{bytes_in, bytes_from, places_of}
use Rattle.parquet_encoding.specs.DeltaLength.{length_of, strings_of}
use Rattle.parquet_encoding.specs.JoinedLeft.{length_within, room_left}
use Rattle.parquet_encoding.proofs.StepLemmas.{bind_some, given_some, some_is, if_some, nothing_is}
use Rattle.parquet_encoding.proofs.WalkLemmas.{passes_none}

-- ---- the room that strings leave

pub room_some : (room : ℕ) (number : ℤ) (numbers : List ℤ) (long : ℕ) → length_within room number ≡ Some long → room_left room (number ∷ numbers) ≡ room_left (room - long) numbers
unfolding room_left
room_some room number numbers long e = ap (λ o. o >>= λ long. room_left (room - long) numbers) e

pub room_none : (room : ℕ) (number : ℤ) (numbers : List ℤ) → length_within room number ≡ None → room_left room (number ∷ numbers) ≡ None
unfolding room_left
room_none room number numbers e = ap (λ o. o >>= λ long. room_left (room - long) numbers) e

pub room_is : (room : ℕ) → room_left room [] ≡ Some room
unfolding room_left
room_is room = refl

-- some lengths, and those behind them
room-append : (room : ℕ) (first others : List ℤ) → room_left room (first ++ others) ≡ (room_left room first >>= λ rest. room_left rest others)
unfolding room_left
room-append room [] others = refl
room-append room (number ∷ first) others = cases (length_within room number) (λ long. room-append (room - long) first others)
  where
    cases : (o : Option ℕ) → ((long : ℕ) → room_left (room - long) (first ++ others) ≡ (room_left (room - long) first >>= λ rest. room_left rest others))
        → (o >>= λ long. room_left (room - long) (first ++ others)) ≡ (o >>= λ long. room_left (room - long) first) >>= λ rest. room_left rest others
    cases None step = refl
    cases (Some long) step = step long

-- the strings are there where there is room for them
room_for : (numbers : List ℤ) (bytes : List ℕ) → is_some (strings_of numbers bytes) ≡ is_some (room_left (length bytes) numbers)
unfolding strings_of room_left
room_for [] bytes = refl
room_for (number ∷ numbers) bytes = cases (length_of number) (λ long. room_for numbers (drop long bytes))
  where
    others : (long : ℕ) (o : Option (List (List ℕ))) → is_some (o >>= λ others. Some (take long bytes ∷ others)) ≡ is_some o
    others long None = refl
    others long (Some strings) = refl

    cases : (o : Option ℕ) → ((long : ℕ) → is_some (strings_of numbers (drop long bytes)) ≡ is_some (room_left (length (drop long bytes)) numbers))
        → is_some (o >>= λ long. given (leb long (length bytes)) (take long bytes) >>= λ own. strings_of numbers (drop long bytes) >>= λ others. Some (own ∷ others))
        ≡ is_some ((o >>= λ long. given (leb long (length bytes)) long) >>= λ long. room_left (length bytes - long) numbers)
    cases None step = refl
    cases (Some long) step =
        elim (cases_lt (length bytes) long) [
          | inl short ↦ rw (lt-leb long (length bytes) short) refl
          | inr enough ↦
              rw (le-leb long (length bytes) enough)
              (others long (strings_of numbers (drop long bytes)) ∙ step long ∙ ap (λ n. is_some (room_left n numbers)) (length-drop long bytes))
        ]

-- ---- lengths, some at a time

-- what a chunk is filled with
pub chunk_is : (values before : List ℤ) (chunk : List ℤ) (count many : ℕ) → chunk ≡ take count values ++ drop count before → count ≡ min many (length values) → take count chunk ≡ take count values
chunk_is values before chunk count many is few =
    ap (take count) is ∙ take_at (take count values) (drop count before) count (length-take count values ∙ omega arith)

pub room_goes_on : (room rest count : ℕ) (values own : List ℤ) → own ≡ take count values → room_left room own ≡ Some rest → is_some (room_left rest (drop count values)) ≡ is_some (room_left room values)
room_goes_on room rest count values own is e =
    sym (ap (λ vs. is_some (room_left room vs)) (sym (take-append-drop count values))
    ∙ ap is_some (room-append room (take count values) (drop count values))
    ∙ ap (λ o. is_some (o >>= λ rest. room_left rest (drop count values))) (ap (room_left room) (sym is) ∙ e))

pub room_ends : (room count : ℕ) (values own : List ℤ) → own ≡ take count values → room_left room own ≡ None → is_some (room_left room values) ≡ false
room_ends room count values own is e =
    ap (λ vs. is_some (room_left room vs)) (sym (take-append-drop count values))
    ∙ ap is_some (room-append room (take count values) (drop count values))
    ∙ ap (λ o. is_some (o >>= λ rest. room_left rest (drop count values))) (ap (room_left room) (sym is) ∙ e)

pub room_enough : (room : ℕ) (values : List ℤ) → length values ≡ 0 → is_some (room_left room values) ≡ true
room_enough room values none = ap (λ vs. is_some (room_left room vs)) (nil_from_length values none) ∙ ap is_some (room_is room)

-- ---- from a place on

-- where the strings of these lengths stand
abbrev pub strings_from : ℕ → List ℤ → List ℕ → Option (List (ℕ × ℕ))
strings_from next numbers bytes = bytes_from next bytes >>= λ rest. option_map (places_of 0 next) (strings_of numbers rest)

pub strings_within : (next : ℕ) (numbers : List ℤ) (bytes : List ℕ) (places : List (ℕ × ℕ)) → strings_from next numbers bytes ≡ Some places → next ≤ length bytes
strings_within next numbers bytes places e =
    let rest = bind_some (bytes_from next bytes) (λ rest. option_map (places_of 0 next) (strings_of numbers rest)) places e in
    leb-true _ _ (given_some (leb next (length bytes)) (drop next bytes) rest.0 rest.1).0

strings_at : (next : ℕ) (numbers : List ℤ) (bytes : List ℕ) → next ≤ length bytes → strings_from next numbers bytes ≡ option_map (places_of 0 next) (strings_of numbers (drop next bytes))
strings_at next numbers bytes inside = rw (le-leb next (length bytes) inside) refl

-- a string, its length and those behind it
record First (next : ℕ) (number : ℤ) (numbers : List ℤ) (bytes : List ℕ) (places : List (ℕ × ℕ)) : Type 0 where
  pub long : ℕ
  pub number_is : number ≡ pos long
  pub length_is : length_of number ≡ Some long
  pub within : next + long ≤ length bytes
  pub others : List (ℕ × ℕ)
  pub others_are : strings_from (next + long) numbers bytes ≡ Some others
  pub places_are : (next, long) ∷ others ≡ places

length_is : (number : ℤ) (long : ℕ) → length_of number ≡ Some long → number ≡ pos long
length_is (pos n) long e = ap pos (given_some (leb n 2147483647) n long e).1
length_is (negsuc n) long e = absurd cc

first_of : (next : ℕ) (number : ℤ) (numbers : List ℤ) (bytes : List ℕ) (places : List (ℕ × ℕ)) → strings_from next (number ∷ numbers) bytes ≡ Some places → First next number numbers bytes places
unfolding strings_of places_of
first_of next number numbers bytes places e =
    let inside = strings_within next (number ∷ numbers) bytes places e in
    let rest = drop next bytes in
    let found = mapped (strings_of (number ∷ numbers) rest) (sym (strings_at next (number ∷ numbers) bytes inside) ∙ e) in
    let long = bind_some (length_of number) (λ long. given (leb long (length rest)) (take long rest) >>= λ own. strings_of numbers (drop long rest) >>= λ others. Some (own ∷ others)) found.0 found.1 in
    let own = bind_some (given (leb long.0 (length rest)) (take long.0 rest)) (λ own. strings_of numbers (drop long.0 rest) >>= λ others. Some (own ∷ others)) found.0 long.2 in
    let others = bind_some (strings_of numbers (drop long.0 rest)) (λ others. Some (own.0 ∷ others)) found.0 own.2 in
    let strings = some_is (own.0 ∷ others.0) found.0 others.2 in
    let fits = given_some (leb long.0 (length rest)) (take long.0 rest) own.0 own.1 in
    let within : next + long.0 ≤ length bytes = omega (arith, leb-true _ _ fits.0, length-drop next bytes) in
    let size : length own.0 ≡ long.0 = ap length (sym fits.1) ∙ length-take-le long.0 rest (omega (arith, leb-true _ _ fits.0)) in
    let here : next + 0 ≡ next = omega arith in
    let behind : next + 0 + length own.0 ≡ next + long.0 = omega arith in
    record {
      long = long.0;
      number_is = length_is number long.0 long.1;
      length_is = long.1;
      within = within;
      others = places_of 0 (next + long.0) others.0;
      others_are = strings_at (next + long.0) numbers bytes within ∙ ap (λ r. option_map (places_of 0 (next + long.0)) (strings_of numbers r)) (sym (drop-drop long.0 next bytes)) ∙ ap (option_map (places_of 0 (next + long.0))) others.1;
      places_are = sym (ap (λ p. (p, long.0) ∷ places_of 0 (next + long.0) others.0) here)
          ∙ sym (ap (λ n. (next + 0, n) ∷ places_of 0 (next + long.0) others.0) size)
          ∙ sym (ap (λ p. (next + 0, length own.0) ∷ places_of 0 p others.0) behind)
          ∙ ap (places_of 0 next) strings ∙ found.2;
    }
  where
    mapped : (o : Option (List (List ℕ))) → option_map (places_of 0 next) o ≡ Some places → (strings : List (List ℕ)) × (o ≡ Some strings) × (places_of 0 next strings ≡ places)
    mapped None e = absurd cc
    mapped (Some strings) e = (strings, refl, some_is _ _ e)

-- some strings are taken
pub record Taken (next : ℕ) (numbers : List ℤ) (bytes : List ℕ) (n : ℕ) (places : List (ℕ × ℕ)) : Type 0 where
  pub end : ℕ
  pub room : room_left (length bytes - next) (take n numbers) ≡ Some (length bytes - end)
  pub later : next ≤ end
  pub within : end ≤ length bytes
  pub left : strings_from end (drop n numbers) bytes ≡ Some (drop n places)
  pub lengths : take n numbers ≡ map (λ place. pos place.1) (take n places)
  pub joined : flat_map (bytes_in bytes) (take n places) ≡ take (end - next) (drop next bytes)

taken : (n next : ℕ) (numbers : List ℤ) (bytes : List ℕ) (places : List (ℕ × ℕ)) → n ≤ length numbers → strings_from next numbers bytes ≡ Some places → Taken next numbers bytes n places
unfolding room_left
taken zero next numbers bytes places few e =
    let none : next - next ≡ 0 = omega arith in
    record {
      end = next;
      room = refl;
      later = omega arith;
      within = strings_within next numbers bytes places e;
      left = e;
      lengths = refl;
      joined = sym (ap (λ k. take k (drop next bytes)) none);
    }
taken (suc n) next [] bytes places few e = absurd (omega arith)
taken (suc n) next (number ∷ numbers) bytes places few e =
    let first = first_of next number numbers bytes places e in
    let long = first.long in
    let others = taken n (next + long) numbers bytes first.others (omega arith) first.others_are in
    let fits : long ≤ length bytes - next = omega (arith, first.within) in
    let less : length bytes - next - long ≡ length bytes - (next + long) = omega arith in
    let size : next + long - next ≡ long = omega arith in
    let both : long + (others.end - (next + long)) ≡ others.end - next = omega (arith, others.later) in
    let same = first.places_are in
    record {
      end = others.end;
      room = ap (λ o. o >>= (λ long. given (leb long (length bytes - next)) long) >>= λ long. room_left (length bytes - next - long) (take n numbers)) first.length_is
          ∙ rw (le-leb long (length bytes - next) fits, less) others.room;
      later = omega (arith, others.later);
      within = others.within;
      left = others.left ∙ ap (λ (ps : List (ℕ × ℕ)). Some (drop (suc n) ps)) same;
      lengths = ap (λ (z : ℤ). z ∷ take n numbers) first.number_is ∙ ap (λ (zs : List ℤ). pos long ∷ zs) others.lengths ∙ ap (λ (ps : List (ℕ × ℕ)). map (λ place. pos place.1) (take (suc n) ps)) same;
      joined = sym (ap (λ (ps : List (ℕ × ℕ)). flat_map (bytes_in bytes) (take (suc n) ps)) same)
          ∙ ap (λ k. take k (drop next bytes) ++ flat_map (bytes_in bytes) (take n first.others)) size
          ∙ ap (λ (bs : List ℕ). take long (drop next bytes) ++ bs) (others.joined ∙ ap (take (others.end - (next + long))) (sym (drop-drop long next bytes)))
          ∙ sym (take-add long (others.end - (next + long)) (drop next bytes))
          ∙ ap (λ k. take k (drop next bytes)) both;
    }

none_from : (next : ℕ) (bytes : List ℕ) (places : List (ℕ × ℕ)) → strings_from next [] bytes ≡ Some places → length places ≡ 0
unfolding strings_of places_of
none_from next bytes places e = ap length (some_is places [] (sym e ∙ strings_at next [] bytes (strings_within next [] bytes places e)))

-- there are as many strings as lengths
pub length-strings_from : (next : ℕ) (numbers : List ℤ) (bytes : List ℕ) (places : List (ℕ × ℕ)) → strings_from next numbers bytes ≡ Some places → length places ≡ length numbers
length-strings_from next [] bytes places e = none_from next bytes places e
length-strings_from next (number ∷ numbers) bytes places e =
    let first = first_of next number numbers bytes places e in
    ap length (sym first.places_are) ∙ ap suc (length-strings_from (next + first.long) numbers bytes first.others first.others_are)

-- ---- at a decoder

abbrev pub left_of : Option (List ℤ) → ℕ → List ℕ → Option (List (ℕ × ℕ))
left_of lengths next bytes = lengths >>= λ numbers. strings_from next numbers bytes

pub record Left (lengths : Option (List ℤ)) (next : ℕ) (bytes : List ℕ) : Type 0 where
  pub there : IsSome lengths
  pub strings : strings_from next (unwrap_or lengths []) bytes ≡ Some (unwrap_or (left_of lengths next bytes) [])

pub is_left : (lengths : Option (List ℤ)) (next : ℕ) (bytes : List ℕ) → IsSome (left_of lengths next bytes) → Left lengths next bytes
is_left None next bytes h = absurd cc
is_left (Some numbers) next bytes h = record { there = refl; strings = passes_none (strings_from next numbers bytes) h }

pub length-left : (lengths : Option (List ℤ)) (next : ℕ) (bytes : List ℕ) (count : ℕ) → IfSome lengths (λ numbers. count ≡ length numbers) → IfSome (left_of lengths next bytes) (λ values. count ≡ length values)
length-left None next bytes count long = tt
length-left (Some numbers) next bytes count long = if_some (strings_from next numbers bytes) _ (λ values e. long ∙ sym (length-strings_from next numbers bytes values e))

-- what is left behind some strings
pub left_behind : (after : Option (List ℤ)) (next end : ℕ) (numbers : List ℤ) (bytes : List ℕ) (n : ℕ) (places : List (ℕ × ℕ)) → after ≡ Some (drop n numbers) → (t : Taken next numbers bytes n places) → end ≡ t.end
    → left_of after end bytes ≡ Some (drop n places)
left_behind after next end numbers bytes n places e t same = ap (λ o. left_of o end bytes) e ∙ ap (λ p. strings_from p (drop n numbers) bytes) same ∙ t.left

-- what a decoder takes: the lengths that were written, and the room that they leave
pub record Takes (next : ℕ) (numbers : List ℤ) (bytes : List ℕ) (count : ℕ) (values : List (ℕ × ℕ)) (new before : List ℤ) : Type 0 where
  pub strings : Taken next numbers bytes count values
  pub room : room_left (length bytes - next) (take count new) ≡ Some (length bytes - strings.end)
  pub lengths : new ≡ map (λ place. pos place.1) (take count values) ++ drop count before

pub takes : (lengths : Option (List ℤ)) (next : ℕ) (bytes : List ℕ) (count many : ℕ) (new before : List ℤ) → IsSome (left_of lengths next bytes) → new ≡ take count (unwrap_or lengths []) ++ drop count before
    → count ≡ min many (length (unwrap_or lengths [])) → Takes next (unwrap_or lengths []) bytes count (unwrap_or (left_of lengths next bytes) []) new before
takes lengths next bytes count many new before h is few =
    let numbers = unwrap_or lengths [] in
    let values = unwrap_or (left_of lengths next bytes) [] in
    let left = is_left lengths next bytes h in
    let strings = taken count next numbers bytes values (omega arith) left.strings in
    record {
      strings = strings;
      room = ap (room_left (length bytes - next)) (chunk_is numbers before new count many is few) ∙ strings.room;
      lengths = is ∙ ap (λ (zs : List ℤ). zs ++ drop count before) strings.lengths;
    }

-- where the room ends
pub end_is : (o : Option ℕ) (rest room long end : ℕ) → o ≡ Some rest → o ≡ Some room → room ≡ long - end → end ≤ long → (rest ≤ long) × (long - rest ≡ end)
end_is o rest room long end e f is within =
    let same = some_is rest room (sym e ∙ f) in
    (omega arith, omega arith)

pub no_room : (o : Option ℕ) (room : ℕ) → o ≡ None → o ≡ Some room → ⊥
no_room o room e f = nothing_is room (sym e ∙ f)

-- ---- the next string

-- the place of the next string, whose length is found
pub record Next (lengths : Option (List ℤ)) (next : ℕ) (bytes : List ℕ) (number : ℤ) : Type 0 where
  pub long : ℕ
  pub found : length_within (length bytes - next) number ≡ Some long
  pub within : next + long ≤ length bytes
  pub place : slice_get (unwrap_or (left_of lengths next bytes) []) 0 ≡ Some (next, long)
  pub left : strings_from (next + long) (drop 1 (unwrap_or lengths [])) bytes ≡ Some (drop 1 (unwrap_or (left_of lengths next bytes) []))

pub next_string : (lengths : Option (List ℤ)) (next : ℕ) (bytes : List ℕ) (number : ℤ) → IsSome (left_of lengths next bytes) → slice_get (unwrap_or lengths []) 0 ≡ Some number → Next lengths next bytes number
next_string None next bytes number h e = absurd cc
next_string (Some []) next bytes number h e = absurd cc
next_string (Some (own ∷ numbers)) next bytes number h e =
    let values = unwrap_or (left_of (Some (own ∷ numbers)) next bytes) [] in
    let first = first_of next own numbers bytes values (is_left (Some (own ∷ numbers)) next bytes h).strings in
    let long = first.long in
    let fits : long ≤ length bytes - next = omega (arith, first.within) in
    let same : own ≡ number = cc in
    record {
      long = long;
      found = ap (length_within (length bytes - next)) (sym same) ∙ ap (λ o. o >>= λ long. given (leb long (length bytes - next)) long) first.length_is ∙ rw (le-leb long (length bytes - next) fits) refl;
      within = first.within;
      place = ap (λ (ps : List (ℕ × ℕ)). slice_get ps 0) (sym first.places_are);
      left = first.others_are ∙ ap (λ (ps : List (ℕ × ℕ)). Some (drop 1 ps)) first.places_are;
    }

-- no string is left
pub no_string : (lengths : Option (List ℤ)) (next : ℕ) (bytes : List ℕ) → IsSome (left_of lengths next bytes) → slice_get (unwrap_or lengths []) 0 ≡ None → (lengths ≡ Some []) × (unwrap_or (left_of lengths next bytes) [] ≡ [])
no_string None next bytes h e = absurd cc
no_string (Some []) next bytes h e = (refl, nil_from_length _ (none_from next bytes _ (is_left (Some []) next bytes h).strings))
no_string (Some (own ∷ numbers)) next bytes h e = absurd cc

pub none_behind : (lengths after : Option (List ℤ)) (next : ℕ) (bytes : List ℕ) → IsSome (left_of lengths next bytes) → slice_get (unwrap_or lengths []) 0 ≡ None → after ≡ Some (drop 1 (unwrap_or lengths []))
    → left_of after next bytes ≡ Some (drop 1 (unwrap_or (left_of lengths next bytes) []))
none_behind lengths after next bytes h e is =
    let none = no_string lengths next bytes h e in
    ap (λ o. left_of o next bytes) (is ∙ ap (λ o. Some (drop 1 (unwrap_or o []))) none.0)
    ∙ ap (λ o. left_of o next bytes) (sym none.0)
    ∙ passes_none (left_of lengths next bytes) h
    ∙ ap Some (none.1 ∙ ap (drop 1) (sym none.1))

-- ---- at the first string

-- where the strings begin
begins : (o : Option (List ℤ × List ℕ)) (end : ℕ) (bytes : List ℕ) → after o ≡ Some (drop end bytes) → (numbers : List ℤ) × (o ≡ Some (numbers, drop end bytes))
begins None end bytes e = absurd cc
begins (Some (numbers, rest)) end bytes e = (numbers, ap (λ (bs : List ℕ). Some (numbers, bs)) (some_is rest (drop end bytes) e))

pub joined_is : (o : Option (List ℤ × List ℕ)) (lengths : Option (List ℤ)) (end : ℕ) (bytes : List ℕ) → lengths ≡ option_map (λ read. read.0) o → after o ≡ Some (drop end bytes) → end ≤ length bytes
    → left_of lengths end bytes ≡ (o >>= λ read. option_map (places_of 0 (length bytes - length read.1)) (strings_of read.0 read.1))
joined_is o lengths end bytes is ends within =
    let read = begins o end bytes ends in
    let here : length bytes - length (drop end bytes) ≡ end = omega (arith, length-drop end bytes) in
    ap (λ o. left_of o end bytes) (is ∙ ap (option_map (λ read. read.0)) read.1)
    ∙ strings_at end read.0 bytes within
    ∙ ap (λ n. option_map (places_of 0 n) (strings_of read.0 (drop end bytes))) (sym here)
    ∙ sym (ap (λ o. o >>= λ read. option_map (places_of 0 (length bytes - length read.1)) (strings_of read.0 read.1)) read.1)

pub joined_exact : (o : Option (List ℤ × List ℕ)) (lengths : Option (List ℤ)) (end : ℕ) (bytes : List ℕ) → lengths ≡ option_map (λ read. read.0) o → after o ≡ Some (drop end bytes)
    → is_some (o >>= λ read. strings_of read.0 read.1) ≡ is_some (room_left (length bytes - end) (unwrap_or lengths []))
joined_exact o lengths end bytes is ends =
    let read = begins o end bytes ends in
    ap (λ o. is_some (o >>= λ read. strings_of read.0 read.1)) read.1
    ∙ room_for read.0 (drop end bytes)
    ∙ ap (λ n. is_some (room_left n read.0)) (length-drop end bytes)
    ∙ sym (ap (λ o. is_some (room_left (length bytes - end) (unwrap_or o []))) (is ∙ ap (option_map (λ read. read.0)) read.1))

pub joined_counted : (o : Option (List ℤ × List ℕ)) (lengths : Option (List ℤ)) (end count : ℕ) (bytes : List ℕ) → lengths ≡ option_map (λ read. read.0) o → after o ≡ Some (drop end bytes) → end ≤ length bytes
    → is_some (o >>= λ read. strings_of read.0 read.1) ≡ true → length (unwrap_or lengths []) ≡ count → length (unwrap_or (left_of lengths end bytes) []) ≡ count
joined_counted o lengths end count bytes is ends within exact counted =
    let read = begins o end bytes ends in
    let all : lengths ≡ Some read.0 = is ∙ ap (option_map (λ read. read.0)) read.1 in
    let there = some_of (strings_of read.0 (drop end bytes)) (sym (ap (λ o. is_some (o >>= λ read. strings_of read.0 read.1)) read.1) ∙ exact) in
    let places = strings_at end read.0 bytes within ∙ ap (option_map (places_of 0 end)) there.1 in
    ap (λ o. length (unwrap_or (left_of o end bytes) [])) all
    ∙ ap (λ o. length (unwrap_or o [])) places
    ∙ length-strings_from end read.0 bytes (places_of 0 end there.0) places
    ∙ sym (ap (λ o. length (unwrap_or o [])) all) ∙ counted
  where
    some_of : (o : Option (List (List ℕ))) → is_some o ≡ true → (strings : List (List ℕ)) × (o ≡ Some strings)
    some_of None e = absurd cc
    some_of (Some strings) e = (strings, refl)

pub no_lengths : (o : Option (List ℤ × List ℕ)) → is_some o ≡ false → is_some (o >>= λ read. strings_of read.0 read.1) ≡ false
no_lengths None e = refl
no_lengths (Some read) e = absurd cc
