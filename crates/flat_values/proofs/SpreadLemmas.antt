-- Values that are spread over the places that have one.
use Rattle.std.proofs.Common.{◌≡◌, ℕ, zero, suc, ◌+◌, ◌-◌, ◌<◌, ◌≤◌, ◌%◌, ◌/◌, ◌^◌, Bool, true, false, List, [], ◌∷◌, ◌++◌, length, take, drop, set, get_or, replicate, refl, sym, ap, ap₂, ◌∙◌, inl, inr, arith, subst, append_assoc}
use Rattle.std.specs.Prelude.{◌==◌, bit_and}
use Rattle.std.proofs.lemmas.Bool.{cases_lt}
use Rattle.std.proofs.lemmas.Grind.{get_or-set_at}
use Rattle.std.proofs.lemmas.List.{drop-set, drop-set-lt, drop_more, get_or-drop, get_or_default, get_or-set_other, length-set, set-set, set_comm, get_or-take, length-take-le, take-set-le, take-append-le, take-take, take_all, take_at, drop-append-le, drop_all, length-append, length-drop, length-replicate}
use Rattle.std.proofs.lemmas.List.Sums.{count_by-le-length, count_by_more_no, count_by_more_yes}
use Rattle.std.proofs.lemmas.Nat.{and_mask, shr-shr}
use Rattle.columns_core.specs.Bits.{low_bits}
use Rattle.parquet_page.specs.Levels.{present_count}
use Rattle.parquet_page.proofs.SpelledLemmas.{absent_same, present_suc}
use Rattle.flat_values.specs.Decoded.{spread_over}

-- The places from `row` on are done, and the values of those before it are still at the front.
pub record IsSpreadFrom {T : Type 0} (null : T) (places : List Bool) (row stored : ℕ) (old now : List T) : Type 0 where
  pub counted : stored ≡ present_count (take row places)
  pub kept : take stored now ≡ take stored old
  pub done : drop row now ≡ spread_over null (drop row places) (drop stored old)

count-row : (places : List Bool) (row : ℕ) → row ≤ length places → present_count (take row places) ≤ row
count-row places row within = omega (arith, count_by-le-length (λ (present : Bool). present) (take row places), length-take-le row places within)

module _ {T : Type 0} (null : T) (places : List Bool) (row last stored : ℕ) (old now : List T) (e : row ≡ last + 1) (lt : last < length places) (long : length now ≡ length places) (as_long : length old ≡ length places) (before : IsSpreadFrom null places row stored old now) where
  -- a place that has a value
  counted-value : get_or places last false ≡ true → (0 < stored) × (stored - 1 ≡ present_count (take last places)) × (stored - 1 ≤ last)
  counted-value is =
      let more = count_by_more_yes (λ (present : Bool). present) places last false lt is in
      let same : present_count (take row places) ≡ present_count (take (last + 1) places) = ap (λ n. present_count (take n places)) e in
      let few = count-row places last (omega arith) in
      (omega (arith, before.counted, more, same), omega (arith, before.counted, more, same), omega (arith, before.counted, more, same, few))

  counted-null : get_or places last false ≡ false → (stored ≡ present_count (take last places)) × (stored ≤ last)
  counted-null is =
      let more = count_by_more_no (λ (present : Bool). present) places last false lt is in
      let same : present_count (take row places) ≡ present_count (take (last + 1) places) = ap (λ n. present_count (take n places)) e in
      let few = count-row places last (omega arith) in
      (before.counted ∙ same ∙ more, omega (arith, before.counted, more, same, few))

  spread-value : (value : T) → get_or places last false ≡ true → value ≡ get_or now (stored - 1) value → IsSpreadFrom null places last (stored - 1) old (set now last value)
  spread-value value is read =
      let count = counted-value is in
      let here : last < length now = omega (arith, long) in
      let there : stored - 1 < length old = omega (arith, as_long, count.2) in
      let own : get_or now (stored - 1) value ≡ get_or old (stored - 1) value =
      sym (get_or-take stored now (stored - 1) value (omega (arith, count.0))) ∙ ap (λ xs. get_or xs (stored - 1) value) before.kept ∙ get_or-take stored old (stored - 1) value (omega (arith, count.0)) in
      let rest : drop (last + 1) now ≡ spread_over null (drop (last + 1) places) (drop (stored - 1 + 1) old) =
      ap (λ n. drop n now) (sym e) ∙ before.done ∙ ap₂ (λ n m. spread_over null (drop n places) (drop m old)) e (omega (arith, count.0)) in
      record {
        counted = count.1;
        kept = take-set-le (stored - 1) now last value count.2 ∙ sym (take-take (stored - 1) stored now (omega arith)) ∙ ap (take (stored - 1)) before.kept ∙ take-take (stored - 1) stored old (omega arith);
        done = drop-set now last value here ∙ ap₂ (λ x xs. x ∷ xs) (read ∙ own) rest
            ∙ ap₂ (λ p xs. spread_over null (p ∷ drop (last + 1) places) xs) (sym is) (sym (drop_more old (stored - 1) value there))
            ∙ ap (λ ps. spread_over null ps (drop (stored - 1) old)) (sym (drop_more places last false lt));
      }

  spread-null : (value : T) → get_or places last false ≡ false → value ≡ null → IsSpreadFrom null places last stored old (set now last value)
  spread-null value is read =
      let count = counted-null is in
      let here : last < length now = omega (arith, long) in
      let rest : drop (last + 1) now ≡ spread_over null (drop (last + 1) places) (drop stored old) =
      ap (λ n. drop n now) (sym e) ∙ before.done ∙ ap (λ n. spread_over null (drop n places) (drop stored old)) e in
      record {
        counted = count.0;
        kept = take-set-le stored now last value count.1 ∙ before.kept;
        done = drop-set now last value here ∙ ap₂ (λ x xs. x ∷ xs) read rest
            ∙ ap (λ p. spread_over null (p ∷ drop (last + 1) places) (drop stored old)) (sym is)
            ∙ ap (λ ps. spread_over null ps (drop stored old)) (sym (drop_more places last false lt));
      }

  -- the place is one of a bit
  pub counted-bit : (bit : ℕ) → bit < 2 → get_or places last false ≡ (bit == 1) → (bit ≤ stored) × (stored - bit ≤ last)
  counted-bit zero small is = (omega arith, omega (arith, (counted-null is).1))
  counted-bit (suc zero) small is = (omega (arith, (counted-value is).0), omega (arith, (counted-value is).2))
  counted-bit (suc (suc bit)) small is = absurd (omega arith)

-- What stands between the values at the front and the places that are done is null.
pub record AreSpread {T : Type 0} (null : T) (places : List Bool) (row stored : ℕ) (old now : List T) : Type 0 where
  pub done : IsSpreadFrom null places row stored old now
  pub between : (k : ℕ) → stored ≤ k → k < row → get_or now k null ≡ null

module _ {T : Type 0} (null : T) (places : List Bool) (row last stored : ℕ) (old now : List T) (e : row ≡ last + 1) (lt : last < length places) (long : length now ≡ length places) (as_long : length old ≡ length places) (before : AreSpread null places row stored old now) where
  -- nulls between stay where a value is taken from the front
  between-still : (next : ℕ) (number : T) → next ≤ last → ((k : ℕ) → next < k → k < row → get_or now k null ≡ null) → (k : ℕ) → next ≤ k → k < last → get_or (set (set now next null) last number) k null ≡ null
  between-still next number within rest k from below =
      let other : k ≡ last → ⊥ = λ is. absurd (omega arith) in
      get_or-set_other (set now next null) last k number null other ∙ elim (cases_lt next k) [
        | inl after ↦ let apart : k ≡ next → ⊥ = λ is. absurd (omega arith) in get_or-set_other now next k null null apart ∙ rest k after (omega arith)
        | inr here ↦ get_or-set_at now next k null null (omega arith) (omega (arith, long))
      ]

  value-taken : (number : T) → get_or places last false ≡ true → number ≡ get_or now (stored - 1) number → IsSpreadFrom null places last (stored - 1) old (set (set now (stored - 1) null) last number)
  value-taken number is read =
      let count = counted-value null places row last stored old now e lt long as_long before.done is in
      let value = spread-value null places row last stored old now e lt long as_long before.done number is read in
      let P : List T → Type 0 = λ xs. IsSpreadFrom null places last (stored - 1) old xs in
      elim (cases_lt (stored - 1) last) [
        | inl apart ↦
            let other : stored - 1 ≡ last → ⊥ = λ same. absurd (omega arith) in
            subst P (sym (set_comm now (stored - 1) last null number other)) (record {
              counted = value.counted;
              kept = take-set-le (stored - 1) (set now last number) (stored - 1) null (omega arith) ∙ value.kept;
              done = drop-set-lt last (set now last number) (stored - 1) null apart ∙ value.done;
            })
        | inr same ↦ let here : stored - 1 ≡ last = omega (arith, count.2) in subst P (sym (ap (λ n. set (set now n null) last number) here ∙ set-set now last null number)) value
      ]

  null-kept : (number : T) → get_or places last false ≡ false → number ≡ get_or now last number → IsSpreadFrom null places last stored old (set (set now stored null) last number)
  null-kept number is read =
      let count = counted-null null places row last stored old now e lt long as_long before.done is in
      let own : number ≡ null = read ∙ get_or_default now last number null (omega (arith, long)) ∙ before.between last count.1 (omega arith) in
      let still : IsSpreadFrom null places row stored old (set now stored null) = record {
        counted = before.done.counted;
        kept = take-set-le stored now stored null (omega arith) ∙ before.done.kept;
        done = drop-set-lt row now stored null (omega (arith, count.1)) ∙ before.done.done;
      } in
      spread-null null places row last stored old (set now stored null) e lt (length-set now stored null ∙ long) as_long still number is own

  pub spread-bit : (bit from : ℕ) (number : T) → bit < 2 → get_or places last false ≡ (bit == 1) → (bit ≡ 1 → from ≡ stored - bit) → ((bit ≡ 1 → ⊥) → from ≡ last) → number ≡ get_or now from number → AreSpread null places last (stored - bit) old (set (set now (stored - bit) null) last number)
  spread-bit zero from number small is set_from unset_from read =
      let count = counted-null null places row last stored old now e lt long as_long before.done is in
      let e0 : stored - 0 ≡ stored = omega arith in
      let P : ℕ → Type 0 = λ n. AreSpread null places last n old (set (set now n null) last number) in
      subst P (sym e0) (record {
        done = null-kept number is (read ∙ ap (λ n. get_or now n number) (unset_from (λ one. absurd (omega (arith, one)))));
        between = between-still stored number count.1 (λ k after below. before.between k (omega arith) below);
      })
  spread-bit (suc zero) from number small is set_from unset_from read =
      let count = counted-value null places row last stored old now e lt long as_long before.done is in
      record {
        done = value-taken number is (read ∙ ap (λ n. get_or now n number) (set_from refl));
        between = between-still (stored - 1) number count.2 (λ k after below. before.between k (omega (arith, count.0)) below);
      }
  spread-bit (suc (suc bit)) from number small is set_from unset_from read = absurd (omega arith)

nulls-alone : {T : Type 0} (null : T) (n k : ℕ) → get_or (replicate n null) k null ≡ null
nulls-alone null zero k = refl
nulls-alone null (suc n) zero = refl
nulls-alone null (suc n) (suc k) = nulls-alone null n k

pub spread-begins : {T : Type 0} (null : T) (places : List Bool) (rows stored : ℕ) (old : List T) → length places ≡ rows → length old ≡ rows → stored ≡ present_count places → drop (present_count places) old ≡ replicate (rows - present_count places) null → AreSpread null places rows stored old old
spread-begins null places rows stored old long as_long counted nulls = record {
  done = record {
    counted = counted ∙ ap present_count (sym (take_all rows places (omega (arith, long))));
    kept = refl;
    done = drop_all rows old (omega (arith, as_long)) ∙ ap (λ ps. spread_over null ps (drop stored old)) (sym (drop_all rows places (omega (arith, long))));
  };
  between = λ k from below.
      let first = present_count places in
      let at : first + (k - first) ≡ k = omega (arith, counted) in
      ap (λ n. get_or old n null) (sym at) ∙ sym (get_or-drop first old (k - first) null) ∙ ap (λ xs. get_or xs (k - first) null) nulls ∙ nulls-alone null (rows - first) (k - first);
}

pub spread-ends : {T : Type 0} (null : T) (places : List Bool) (row stored : ℕ) (old now : List T) → row ≤ 0 → AreSpread null places row stored old now → now ≡ spread_over null places old
spread-ends null places row stored old now ended are =
    let is = are.done in
    let none : row ≡ 0 = omega arith in
    let first : stored ≡ 0 = is.counted ∙ ap (λ n. present_count (take n places)) none in
    ap (λ n. drop n now) (sym none) ∙ is.done ∙ ap₂ (λ n m. spread_over null (drop n places) (drop m old)) none first

-- ---- values behind others

pub length-spread : {T : Type 0} (null : T) (places : List Bool) (values : List T) → length (spread_over null places values) ≡ length places
length-spread null [] values = refl
length-spread null (false ∷ places) values = ap suc (length-spread null places values)
length-spread null (true ∷ places) [] = ap suc (length-spread null places [])
length-spread null (true ∷ places) (value ∷ values) = ap suc (length-spread null places values)

-- what stands behind the values of the places is not looked at
spread-front : {T : Type 0} (null : T) (places : List Bool) (values behind : List T) → present_count places ≤ length values → spread_over null places (values ++ behind) ≡ spread_over null places values
spread-front null [] values behind h = refl
spread-front null (false ∷ places) values behind h = ap (λ xs. null ∷ xs) (spread-front null places values behind (omega (arith, absent_same places)))
spread-front null (true ∷ places) [] behind h = absurd (omega (arith, present_suc places))
spread-front null (true ∷ places) (value ∷ values) behind h = ap (λ xs. value ∷ xs) (spread-front null places values behind (omega (arith, present_suc places)))

-- the values behind those that are held
pub spread-behind : {T : Type 0} (null : T) (places : List Bool) (held all more len : ℕ) (old whole part post rest : List T) → length old ≡ held + present_count places → all ≡ held + length places → more ≡ all - length old → whole ≡ take all old ++ replicate more null → len ≡ length whole
    → part ≡ spread_over null places (take (length whole - held) (drop held whole)) → take len ((take held whole ++ (part ++ post)) ++ rest) ≡ take held old ++ spread_over null places (drop held old)
spread-behind null places held all more len old whole part post rest long wide added is counted spread =
    let few = count_by-le-length (λ (present : Bool). present) places in
    let nulls = replicate more null in
    let own : whole ≡ old ++ nulls = is ∙ ap (λ front. front ++ nulls) (take_all all old (omega (arith, long, wide, few))) in
    let size : length whole ≡ all = ap length own ∙ length-append old nulls ∙ omega (arith, length-replicate more null, long, wide, added, few) in
    let front : take held whole ≡ take held old = ap (take held) own ∙ take-append-le held old nulls (omega (arith, long)) in
    let behind : drop held whole ≡ drop held old ++ nulls = ap (drop held) own ∙ drop-append-le held old nulls (omega (arith, long)) in
    let all_behind = take_all (length whole - held) (drop held whole) (omega (arith, length-drop held whole)) in
    let given : part ≡ spread_over null places (drop held old) = spread ∙ ap (spread_over null places) (all_behind ∙ behind) ∙ spread-front null places (drop held old) nulls (omega (arith, length-drop held old, long)) in
    let width : length part ≡ length places = ap length given ∙ length-spread null places (drop held old) in
    let first : length (take held whole) ≡ held = length-take-le held whole (omega (arith, size, wide)) in
    let fits : len ≡ length (take held whole ++ part) = omega (arith, counted, size, wide, length-append (take held whole) part, width, first) in
    ap (take len) (append_assoc (take held whole) (part ++ post) rest ∙ ap (λ xs. take held whole ++ xs) (append_assoc part post rest) ∙ sym (append_assoc (take held whole) part (post ++ rest)))
    ∙ take_at (take held whole ++ part) (post ++ rest) len (sym fits) ∙ ap₂ (λ xs ys. xs ++ ys) front given

-- ---- the bits of a word

get_or-low_bits : (n count i : ℕ) (d : Bool) → i < count → get_or (low_bits n count) i d ≡ (n / 2 ^ i % 2 == 1)
unfolding low_bits
get_or-low_bits n zero i d h = absurd (omega arith)
get_or-low_bits n (suc count) zero d h = let e : n / 2 ^ 0 ≡ n = omega arith in rw e refl
get_or-low_bits n (suc count) (suc i) d h =
    let e : n / 2 / 2 ^ i ≡ n / 2 ^ suc i = shr-shr n 1 i ∙ ap (λ k. n / 2 ^ k) (omega arith) in
    get_or-low_bits (n / 2) count i d (omega arith) ∙ ap (λ m. m % 2 == 1) e

-- the bit of a row
pub bit_of_row : (bits rows row : ℕ) → row < rows → get_or (low_bits bits rows) row false ≡ (bit_and (bits / 2 ^ row) 1 == 1)
bit_of_row bits rows row lt = get_or-low_bits bits rows row false lt ∙ ap (λ t. t == 1) (sym (and_mask (bits / 2 ^ row) 1))

pub bit_is_small : (bits row : ℕ) → bit_and (bits / 2 ^ row) 1 < 2
bit_is_small bits row = omega (arith, and_mask (bits / 2 ^ row) 1)
