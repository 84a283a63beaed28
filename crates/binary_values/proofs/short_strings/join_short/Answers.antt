use Rattle.std.proofs.Common.{◌≡◌, ◌∙◌, ◌+◌, ◌++◌, ℕ, [], ap, arith, pos, refl, slice_set, subst, sym, map, rules, take, to_z, w64, unwrap_or}
use Rattle.std.specs.Prelude.{nat_abs}
use Rattle.std.specs.Str.{IsAscii}
use Rattle.std.proofs.lemmas.Int.{to_z_pos}
use Rattle.std.proofs.lemmas.Str.{IsAscii-append, IsAscii-take}
use Rattle.parquet_encoding.specs.Places.{bytes_in}
use Rattle.binary_values.proofs.ShortLemmas.{joined-more, length-of_bytes, lengths-more}
use Rattle.binary_values.proofs.WalkLemmas.{found-there, next-left}
use Rattle.binary_values.proofs.short_strings.join_short.Goals as goal

pub loop-i-init : goal.loop-i-init
loop-i-init g c = record {
  left = search rules;
  lengths = refl;
  joined = refl;
  room = omega arith;
  wide = refl;
  ascii = λ _ i. omega arith;
  same = refl;
}

pub loop-i-preserved : goal.loop-i-preserved
loop-i-preserved g c =
    let f = bytes_in c.args.bytes.now in
    let all = unwrap_or (g.W.StringWalk.places c.args.walk c.args.bytes.now) [] in
    let i = c.loop-i.i in
    let x : ℕ × ℕ = (c.in_ok-start.start, c.in_ok-start.long) in
    let there = found-there all i _ c.next_string.result x c.loop-i.invariant.left c.next_string.ensures.value c.in_ok-start.was in
    let within = c.in_ok-start.ensures.within in
    let small : to_z w64 c.in_ok-start.long ≡ pos c.in_ok-start.long = to_z_pos w64 c.in_ok-start.long (omega (arith, c.in_ok-window.ensures.short)) in
    record {
      left = next-left all i _ _ c.loop-i.invariant.left c.next_string.ensures.rest;
      lengths = ap (λ n. map nat_abs (take (i + 1) (slice_set c.loop-i.lengths i n))) small
          ∙ lengths-more f all i x there.0 there.1 c.loop-i.lengths c.in_ok-start.long (omega (arith, c.loop-i-test.true, c.loop-i.invariant.same)) c.loop-i.invariant.lengths (length-of_bytes c.args.bytes.now c.in_ok-start.start c.in_ok-start.long within);
      joined = c.in_ok-window.ensures.written ∙ ap (λ front. front ++ f x) c.loop-i.invariant.joined ∙ joined-more f all i x there.0 there.1;
      room = omega (arith, c.loop-i.invariant.room, c.in_ok-window.ensures.short);
      wide = c.in_ok-window.ensures.same ∙ c.loop-i.invariant.wide;
      ascii = λ ascii.
          let seen = c.both-seen.ensures ascii in
          subst IsAscii (sym c.in_ok-window.ensures.written)
          (IsAscii-append (take c.loop-i.filled c.loop-i.block) (f x) (c.loop-i.invariant.ascii seen.0) (subst IsAscii c.in_ok-window.ensures.copied (IsAscii-take c.in_ok-window.window c.in_ok-start.long seen.1)));
      same = search rules;
    }
