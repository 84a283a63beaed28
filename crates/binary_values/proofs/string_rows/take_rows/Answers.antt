use Rattle.std.proofs.Common.{◌≡◌, ◌≤◌, ◌∙◌, ◌++◌, ℕ, ℤ, pos, List, [], ap, arith, inl, inr, length, map, take, unwrap_or}
use Rattle.std.specs.Prelude.{nat_abs, sum_by}
use Rattle.std.specs.List.{flat_map}
use Rattle.std.proofs.lemmas.List.{length-take, take-replicate}
use Rattle.std.proofs.lemmas.List.Sums.{count_by-le-length, sum_by-append}
use Rattle.columns_core.proofs.BitLemmas.{length-low_bits}
use Rattle.parquet_encoding.specs.Places.{bytes_in}
use Rattle.parquet_page.proofs.RefusalLemmas.{passed_on}
use Rattle.parquet_page.specs.Levels.{present_count}
use Rattle.parquet_page.specs.ValidityParts.{word_places}
use Rattle.parquet_page.specs.declared.validity_part.ValidityWord.{ValidityWord}
use Rattle.flat_values.specs.Decoded.{spread_over}
use Rattle.binary_values.specs.JoinedStrings.{cut_into}
use Rattle.binary_values.proofs.RowLemmas.{sum-rows}
use Rattle.binary_values.proofs.ShortLemmas.{word-rows}
use Rattle.binary_values.proofs.string_rows.take_rows.Goals as goal

few : (word : ValidityWord) → (present_count (word_places word) ≤ word.rows) × (word.rows ≤ 32)
few word = (omega (arith, count_by-le-length (λ present. present) (word_places word), length-low_bits word.bits word.rows), word.few)

rows-facts : (word : ValidityWord) (bytes : List ℕ) (left : List (ℕ × ℕ)) (lengths behind : List ℤ) (joined : List ℕ) → let items = take (present_count (word_places word)) left in
    lengths ≡ spread_over (pos 0) (word_places word) (map (λ item. pos (length (bytes_in bytes item))) items) → joined ≡ flat_map (bytes_in bytes) items
    → (sum_by nat_abs (take word.rows (lengths ++ behind)) ≡ length joined) × (cut_into (map nat_abs (take word.rows (lengths ++ behind))) joined ≡ spread_over [] (word_places word) (map (bytes_in bytes) items)) × (length joined ≡ sum_by length (map (bytes_in bytes) items))
rows-facts word bytes left lengths behind joined is joins =
    let items = take (present_count (word_places word)) left in
    word-rows (bytes_in bytes) (word_places word) items joined word.rows lengths behind (length-low_bits word.bits word.rows) (omega (arith, length-take (present_count (word_places word)) left)) is joins

pub join_word-requires-clause-room : goal.join_word-requires-clause-room
join_word-requires-clause-room g c = let most = few c.args.word in omega (arith, most.0, most.1)

pub join_word-requires-clause-none : goal.join_word-requires-clause-none
join_word-requires-clause-none g c = take-replicate c.args.word.rows 32 (pos 0) (few c.args.word).1

pub push_joined-requires-clause-sum : goal.push_joined-requires-clause-sum
push_joined-requires-clause-sum g c =
    let left = unwrap_or (g.W.StringWalk.places c.args.walk c.args.bytes.now) [] in
    (rows-facts c.args.word c.args.bytes.now left c.join_word.new.lengths _ _ c.in-Some.ensures.lengths c.in-Some.ensures.joined).0

pub returns-in_err-push_joined-in-Some-clause-err : goal.returns-in_err-push_joined-in-Some-clause-err
returns-in_err-push_joined-in-Some-clause-err g c =
    let left = unwrap_or (g.W.StringWalk.places c.args.walk c.args.bytes.now) [] in
    let facts = rows-facts c.args.word c.args.bytes.now left c.join_word.new.lengths [] _ c.in-Some.ensures.lengths c.in-Some.ensures.joined in
    passed_on c.from_residual.result _ _ c.from_residual.ensures.1 (
    elim c.in_err-push_joined-in-Some.ensures.err.1 [
      | inl memory ↦ inl memory
      | inr past ↦ inr (past.0, omega (arith, past.1, facts.2))
    ])

pub returns-in_ok-push_joined-in-Some-clause-added : goal.returns-in_ok-push_joined-in-Some-clause-added
returns-in_ok-push_joined-in-Some-clause-added g c =
    let left = unwrap_or (g.W.StringWalk.places c.args.walk c.args.bytes.now) [] in
    let facts = rows-facts c.args.word c.args.bytes.now left c.join_word.new.lengths _ _ c.in-Some.ensures.lengths c.in-Some.ensures.joined in
    c.in_ok-push_joined-in-Some.ensures.ok ∙ ap (λ more. c.args.strings.now ++ more) facts.1

pub returns-in_ok-push_joined-in-Some-clause-fits : goal.returns-in_ok-push_joined-in-Some-clause-fits
returns-in_ok-push_joined-in-Some-clause-fits g c =
    let left = unwrap_or (g.W.StringWalk.places c.args.walk c.args.bytes.now) [] in
    let f = bytes_in c.args.bytes.now in
    let places = word_places c.args.word in
    let old = c.args.strings.now in
    let facts = rows-facts c.args.word c.args.bytes.now left c.join_word.new.lengths _ _ c.in-Some.ensures.lengths c.in-Some.ensures.joined in
    let rows : List (List ℕ) = spread_over [] places (map f (take (present_count places) left)) in
    let is = c.in_ok-push_joined-in-Some.ensures.ok ∙ ap (λ more. old ++ more) facts.1 in
    omega (arith, c.in_ok-push_joined-in-Some.ensures.fits, ap (sum_by length) is, sum_by-append length old rows, sum-rows f places left, facts.2)
