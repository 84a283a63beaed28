use Rattle.std.proofs.Common.{◌≡◌, ◌∙◌, [], List, ℕ, arith, map, refl, subst, sym, take, unwrap_or}
use Rattle.std.specs.Prelude.{All, IsUtf8}
use Rattle.std.proofs.lemmas.Bool.{true≢false}
use Rattle.parquet_encoding.specs.Places.{bytes_in}
use Rattle.binary_values.proofs.WalkLemmas.{all-taken, found-there, next-left, none-found, text-among, text-more}
use Rattle.binary_values.proofs.string_walk.are_texts.Goals as goal

pub returns-in_default : goal.returns-in_default
returns-in_default g c =
    let all = unwrap_or (g.W.StringWalk.places c.args.walk c.args.bytes.now) [] in
    let ended = none-found all c.loop.counter _ c.next_string.result c.loop.invariant.left c.next_string.ensures.value c.in_default.is in
    let P : List (List ℕ) → Type 0 = All IsUtf8 in
    (λ _. subst P (all-taken (bytes_in c.args.bytes.now) all c.loop.counter c.args.count ended c.loop.auto.counter-end) c.loop.invariant.texts, λ _. refl)

pub returns-then-not-is_text : goal.returns-then-not-is_text
returns-then-not-is_text g c =
    let all = unwrap_or (g.W.StringWalk.places c.args.walk c.args.bytes.now) [] in
    let x : ℕ × ℕ = (c.in-Some.start, c.in-Some.length) in
    let there = found-there all c.loop.counter _ c.next_string.result x c.loop.invariant.left c.next_string.ensures.value c.in-Some.is in (
      λ t. absurd (true≢false (sym t)),
      λ texts.
          let yes = c.is_text.ensures.1 (text-among (bytes_in c.args.bytes.now) all c.loop.counter c.args.count x (bytes_in c.args.bytes.now x) there.0 c.loop-test.true there.1 refl texts) in
          absurd (true≢false (sym yes ∙ c.if-not-is_text.true)),
    )

pub loop-preserved : goal.loop-preserved
loop-preserved g c =
    let all = unwrap_or (g.W.StringWalk.places c.args.walk c.args.bytes.now) [] in
    let x : ℕ × ℕ = (c.in-Some.start, c.in-Some.length) in
    let there = found-there all c.loop.counter _ c.next_string.result x c.loop.invariant.left c.next_string.ensures.value c.in-Some.is in
    record {
      left = next-left all c.loop.counter _ _ c.loop.invariant.left c.next_string.ensures.rest;
      texts = text-more (bytes_in c.args.bytes.now) all c.loop.counter x (bytes_in c.args.bytes.now x) there.0 there.1 refl c.loop.invariant.texts (c.is_text.ensures.0 c.if-not-is_text.false);
    }

pub returns : goal.returns
returns g c =
    let all = unwrap_or (g.W.StringWalk.places c.args.walk c.args.bytes.now) [] in
    let same : c.loop.counter ≡ c.args.count = omega (arith, c.loop-test.false, c.loop.auto.counter-end) in
    (λ _. subst (λ n. All IsUtf8 (map (bytes_in c.args.bytes.now) (take n all))) same c.loop.invariant.texts, λ _. refl)
