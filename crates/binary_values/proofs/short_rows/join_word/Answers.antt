use Rattle.std.proofs.Common.{◌≡◌, ◌∙◌, ◌<◌, ◌-◌, ◌%◌, ◌/◌, ◌^◌, ◌++◌, ◌∷◌, ℕ, ℤ, List, [], add-one, ap, ap₂, arith, length, map, pos, refl, replicate, rules, set, subst, sym, take, to_z, w64, unwrap_or}
use Rattle.std.specs.Str.{IsAscii}
use Rattle.std.proofs.lemmas.Int.{to_z_pos}
use Rattle.std.proofs.lemmas.List.{length-map, length-replicate, length-take-le, map-append}
use Rattle.std.proofs.lemmas.Str.{IsAscii-append, IsAscii-take}
use Rattle.columns_core.specs.Bits.{low_bits}
use Rattle.columns_core.proofs.BitLemmas.{length-low_bits}
use Rattle.parquet_encoding.specs.Places.{bytes_in}
use Rattle.parquet_page.specs.Levels.{present_count}
use Rattle.parquet_page.specs.ValidityParts.{word_places}
use Rattle.flat_values.specs.Decoded.{spread_over}
use Rattle.binary_values.proofs.FirstRowLemmas.{IsTaken, row_of, row-within, some-still, spread-more, spread-none, still, taken}
use Rattle.binary_values.proofs.ShortLemmas.{joined-more, length-of_bytes, one-taken}
use Rattle.binary_values.proofs.WalkLemmas.{found-there, next-left}
use Rattle.binary_values.proofs.short_rows.join_word.Goals as goal
use Rattle.binary_values.proofs.short_rows.join_word.Given.{Over}
use Rattle.binary_values.proofs.short_rows.join_word.Goals.{In-loop}

-- the bits of the rows, counted
rows : (g : Over) (c : In-loop g) → low_bits c.loop.bits (length (word_places c.args.word)) ≡ still c.loop.counter (word_places c.args.word)
rows g c = ap (low_bits c.loop.bits) (length-low_bits c.args.word.bits c.args.word.rows) ∙ c.loop.invariant.bits

-- a row is still to come
some : (g : Over) (c : In-loop g) → c.loop.counter < present_count (word_places c.args.word)
some g c = omega (arith, c.loop-test.true, c.present-end.ensures)

-- the row that is found is that of the next string
found : (g : Over) (c : In-loop g) (row : ℕ) → c.loop.bits % 2 ^ row ≡ 0 → c.loop.bits / 2 ^ row % 2 ≡ 1 → IsTaken c.loop.bits row c.loop.counter (word_places c.args.word)
found g c row null present = taken c.loop.bits row c.loop.counter (word_places c.args.word) (rows g c) (some g c) null present

pub loop-init : goal.loop-init
loop-init g c = record {
  left = search rules;
  bits = refl;
  lengths = c.requires.none ∙ ap (λ n. replicate n (pos 0)) (sym (length-low_bits c.args.word.bits c.args.word.rows)) ∙ sym (spread-none (pos 0) (word_places c.args.word));
  joined = refl;
  room = omega arith;
  counted = omega arith;
  same = refl;
  ascii = λ _ i. omega arith;
}

pub first_row-row-requires : goal.first_row-row-requires
first_row-row-requires g c =
    let at = (goal.at.first_row-row-requires g c).In-loop in
    some-still c.loop.bits c.loop.counter (word_places c.args.word) (rows g at) (some g at)

pub bounds-lengths-row : goal.bounds-lengths-row
bounds-lengths-row g c =
    let at = (goal.at.bounds-lengths-row g c).In-loop in
    let places = word_places c.args.word in
    let own = found g at c.first_row-row.result.0 c.first_row-row.ensures.null c.first_row-row.ensures.present in
    omega (arith, own.own, row-within c.loop.counter places (some g at), length-low_bits c.args.word.bits c.args.word.rows, c.loop.auto.lengths, ap length c.requires.none, length-replicate c.args.word.rows (pos 0))

pub loop-preserved : goal.loop-preserved
loop-preserved g c =
    let at = (goal.at.loop-preserved g c).In-loop in
    let f = bytes_in c.args.bytes.now in
    let number : ℕ × ℕ → ℤ = λ item. pos (length (f item)) in
    let places = word_places c.args.word in
    let all = unwrap_or (g.W.StringWalk.places c.args.walk c.args.bytes.now) [] in
    let i = c.loop.counter in
    let long = c.in_ok-start.long in
    let x : ℕ × ℕ = (c.in_ok-start.start, long) in
    let row = c.first_row-row.result.0 in
    let there = found-there all i _ c.next_string.result x c.loop.invariant.left c.next_string.ensures.value c.in_ok-start.was in
    let size = length-of_bytes c.args.bytes.now c.in_ok-start.start long c.in_ok-start.ensures.within in
    let small : to_z w64 long ≡ pos (length (f x)) = to_z_pos w64 long (omega (arith, c.in_ok-window.ensures.short)) ∙ ap pos (sym size) in
    let own = found g at row c.first_row-row.ensures.null c.first_row-row.ensures.present in
    let counted : length (map number (take i all)) ≡ i = length-map (take i all) number ∙ length-take-le i all c.loop.invariant.counted in
    let rest : c.first_row-row.result.1 ≡ c.loop.bits - 2 ^ row = omega (arith, c.first_row-row.ensures.others) in
    record {
      left = next-left all i _ _ c.loop.invariant.left c.next_string.ensures.rest;
      bits = ap₂ low_bits rest (sym (length-low_bits c.args.word.bits c.args.word.rows)) ∙ own.rest ∙ ap (λ n. still n places) (sym (add-one i));
      lengths = ap₂ (λ (lengths : List ℤ) (n : ℤ). set lengths row n) c.loop.invariant.lengths small
          ∙ ap (λ n. set (spread_over (pos 0) places (map number (take i all))) n (number x)) (own.own ∙ ap (λ n. row_of n places) (sym counted))
          ∙ sym (spread-more (pos 0) places (map number (take i all)) (number x) (omega (arith, counted, some g at)))
          ∙ ap (spread_over (pos 0) places) (sym (ap (map number) (one-taken f all i x there.0 there.1) ∙ map-append number (take i all) (x ∷ [])));
      joined = c.in_ok-window.ensures.written ∙ ap (λ front. front ++ f x) c.loop.invariant.joined ∙ joined-more f all i x there.0 there.1;
      room = omega (arith, c.loop.invariant.room, c.in_ok-window.ensures.short);
      counted = omega (arith, there.0);
      same = c.in_ok-window.ensures.same ∙ c.loop.invariant.same;
      ascii = λ ascii.
          let both = c.both-seen.ensures ascii in
          subst IsAscii (sym c.in_ok-window.ensures.written)
          (IsAscii-append (take c.loop.filled c.loop.block) (f x) (c.loop.invariant.ascii both.0) (subst IsAscii c.in_ok-window.ensures.copied (IsAscii-take c.in_ok-window.window long both.1)));
    }
