use Rattle.std.proofs.Common.{◌≡◌, ◌<◌, ◌∙◌, ◌∷◌, ◌/◌, ◌^◌, ◌==◌, ℕ, ◌+◌, [], Some, ap, arith, drop, inl, inr, length, sym, true, unwrap_or}
use Rattle.std.specs.Prelude.{bit_and, is_some, sum_by}
use Rattle.std.proofs.lemmas.List.Sums.{sum_by-append, sum_by-cons}
use Rattle.columns_core.proofs.BitLemmas.{length-low_bits}
use Rattle.parquet_encoding.specs.Places.{bytes_in}
use Rattle.parquet_encoding.proofs.WalkLemmas.{passes_none}
use Rattle.parquet_page.proofs.RefusalLemmas.{passed_on}
use Rattle.parquet_page.specs.ValidityParts.{word_places}
use Rattle.flat_values.proofs.SpreadLemmas.{bit_is_small, bit_of_row}
use Rattle.binary_values.proofs.RowLemmas.{at-row, no-row, null-row, row-past, rows-end, value-row}
use Rattle.binary_values.proofs.string_rows.take_each_row.Goals as goal
use Rattle.binary_values.proofs.string_rows.take_each_row.Goals.{then-word-row-eq1+in-Some+in_ok-push, else-word-row-eq1+in_ok-push_end}

pub unreachable-requires : goal.unreachable-requires
unreachable-requires g c =
    let word = c.args.word in
    let places = word_places word in
    let row = c.loop-row.row in
    let lt : row < length places = omega (arith, c.loop-row-test.true, length-low_bits word.bits word.rows) in
    let set = bit_of_row word.bits word.rows row c.loop-row-test.true ∙ ap (λ n. n == 1) c.if-word-row-eq1.true in
    no-row (bytes_in c.args.bytes.now) c.args.strings.now c.loop-row.strings _ _ places row lt set c.loop-row.invariant.rows (sym c.next_string.ensures.value ∙ c.in_default.is)

pub returns-in_err-push-clause-err : goal.returns-in_err-push-clause-err
returns-in_err-push-clause-err g c =
    let word = c.args.word in
    let places = word_places word in
    let row = c.loop-row.row in
    let f = bytes_in c.args.bytes.now in
    let x : ℕ × ℕ = (c.in-Some.start, c.in-Some.length) in
    let lt : row < length places = omega (arith, c.loop-row-test.true, length-low_bits word.bits word.rows) in
    let set = bit_of_row word.bits word.rows row c.loop-row-test.true ∙ ap (λ n. n == 1) c.if-word-row-eq1.true in
    let here = at-row f c.args.strings.now c.loop-row.strings _ _ places row true lt set c.loop-row.invariant.rows in
    passed_on c.from_residual.result _ _ c.from_residual.ensures.1 (
    elim c.in_err-push.ensures.err.1 [
      | inl memory ↦ inl memory
      | inr past ↦ inr (past.0, row-past f c.args.strings.now c.loop-row.strings _ _ places (drop (row + 1) places) x g.O.Offset.greatest here (sym c.next_string.ensures.value ∙ c.in-Some.is) past.1)
    ])

pub loop-row-preserved : goal.loop-row-preserved
loop-row-preserved g c =
    let word = c.args.word in
    let places = word_places word in
    let row = c.loop-row.row in
    let f = bytes_in c.args.bytes.now in
    let lt : row < length places = omega (arith, c.loop-row-test.true, length-low_bits word.bits word.rows) in
    let bit = bit_of_row word.bits word.rows row c.loop-row-test.true in
    elim c.if-word-row-eq1.branch [
      | then-word-row-eq1+in-Some+in_ok-push w ↦
          let x : ℕ × ℕ = (w.in-Some.start, w.in-Some.length) in
          let behind = w.next_string.ensures.rest in
          let more = w.in_ok-push.ensures.ok in
          rw (w.strings-is, w.walk-is) (record {
            spelled = ap is_some behind;
            rows = value-row f c.args.strings.now c.loop-row.strings w.push.new.self _ _ _ places row x lt (bit ∙ ap (λ n. n == 1) w.if-word-row-eq1.true) c.loop-row.invariant.rows (sym w.next_string.ensures.value ∙ w.in-Some.is) (ap (λ o. unwrap_or o []) behind) more;
            fits = omega (arith, w.in_ok-push.ensures.fits, ap (sum_by length) more, sum_by-append length c.loop-row.strings (f x ∷ []), sum_by-cons length (f x) []);
          })
      | else-word-row-eq1+in_ok-push_end w ↦
          let more = w.in_ok-push_end.ensures.ok in
          let unset : bit_and (word.bits / 2 ^ row) 1 ≡ 0 = omega (arith, bit_is_small word.bits row, w.if-word-row-eq1.false) in
          rw (w.strings-is, w.walk-is) (record {
            spelled = c.loop-row.invariant.spelled;
            rows = null-row f c.args.strings.now c.loop-row.strings w.push_end.new.self _ _ places row lt (bit ∙ ap (λ n. n == 1) unset) c.loop-row.invariant.rows more;
            fits = omega (arith, c.loop-row.invariant.fits, ap (sum_by length) more, sum_by-append length c.loop-row.strings ([] ∷ []), sum_by-cons (length {A = ℕ}) [] []);
          })
    ]

pub returns-clause-added : goal.returns-clause-added
returns-clause-added g c =
    let word = c.args.word in
    (rows-end (bytes_in c.args.bytes.now) c.args.strings.now c.loop-row.strings _ _ (word_places word) c.loop-row.row (omega (arith, c.loop-row-test.false, length-low_bits word.bits word.rows)) c.loop-row.invariant.rows).0

pub returns-clause-rest : goal.returns-clause-rest
returns-clause-rest g c =
    let word = c.args.word in
    passes_none (g.W.StringWalk.places c.loop-row.walk c.args.bytes.now) c.loop-row.invariant.spelled
    ∙ ap Some (rows-end (bytes_in c.args.bytes.now) c.args.strings.now c.loop-row.strings _ _ (word_places word) c.loop-row.row (omega (arith, c.loop-row-test.false, length-low_bits word.bits word.rows)) c.loop-row.invariant.rows).1
