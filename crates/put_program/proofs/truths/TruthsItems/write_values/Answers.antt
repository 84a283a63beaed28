use Rattle.std.proofs.Common.{◌≡◌, ℕ, ◌+◌, ◌*◌, ◌<◌, Bool, List, Option, Some, ◌++◌, ap, arith, length, map, option_map, subst, sym, ◌∙◌}
use Rattle.std.specs.Int.{w8, w32}
use Rattle.std.proofs.lemmas.List.{length-map}
use Rattle.std.proofs.Math.Facts.{Fits-of_lt}
use Rattle.parquet_page.specs.Stored.{Stored, Truth}
use Rattle.parquet_plain.specs.Bodies.{bit, bits_bytes, truth_in, values_bytes}
use Rattle.put_program.proofs.LoopLemmas.{bit-more, no-bit-more, none-stored, rows_stored}
use Rattle.put_program.proofs.PackLemmas.{Holds, holds_as, holds_fits, holds_full, holds_last, holds_more, holds_none, holds_whole, with_bit, without_bit}
use Rattle.put_program.proofs.truths.TruthsItems.write_values.Goals as goal
use Rattle.put_program.proofs.truths.TruthsItems.write_values.Goals.{in-Some+then-weight-eq128+in_ok-push, then-truth, else-truth, in-Some+else-weight-eq128, in_default}

pub loop-row-init : goal.loop-row-init
loop-row-init c =
    let start : List ℕ = c.args.body.now.items in
    subst (λ (rows : List Stored). Holds start start (map truth_in rows) 0 1) (sym (none-stored Truth c.args.self.now.array.now.items c.args.from)) (holds_none start)

pub overflow_add-byte : goal.overflow_add-byte
overflow_add-byte c = Fits-of_lt {w = w32} (omega (arith, (holds_fits _ _ _ _ _ c.loop-row.invariant).0, (holds_fits _ _ _ _ _ c.loop-row.invariant).1))

pub overflow_cast-byte : goal.overflow_cast-byte
overflow_cast-byte c =
    let small = holds_fits _ _ _ _ _ c.loop-row.invariant in
    elim c.if-truth.branch [
      | then-truth w ↦ Fits-of_lt {w = w8} (omega (arith, small.0, small.1, w.byte-is))
      | else-truth w ↦ Fits-of_lt {w = w8} (omega (arith, small.0, small.1, w.byte-is))
    ]

pub loop-row-preserved : goal.loop-row-preserved
loop-row-preserved c =
    let items : List (Option Bool) = c.args.self.now.array.now.items in
    let start : List ℕ = c.args.body.now.items in
    let from : ℕ = c.args.from in
    let row : ℕ = c.loop-row.row in
    let bits : List Bool = map truth_in (rows_stored Truth items from row) in
    let byte : ℕ = c.loop-row.byte in
    let weight : ℕ = c.loop-row.weight in
    let within : row < length items = omega (arith, length-map items (option_map Truth)) in
    elim c.match-get.branch [
      | in-Some+then-weight-eq128+in_ok-push w ↦
          let own : w.if-truth.byte ≡ byte + bit w.in-Some.truth * weight = elim w.if-truth.branch [
            | then-truth w' ↦ with_bit w.in-Some.truth byte weight w.if-truth.byte w'.if-truth.true w'.byte-is
            | else-truth w' ↦ without_bit w.in-Some.truth byte weight w.if-truth.byte w'.if-truth.false w'.byte-is
          ] in
          holds_as start _ _ _ _ 0 1 _ _ (ap (λ b. b.items) w.body-is) (bit-more items from row w.in-Some.truth (omega arith) within (c.get.ensures ∙ ap Some w.in-Some.is)) w.byte-is w.weight-is
          (holds_full start c.loop-row.body.items w.push.new.self.items bits byte weight w.if-truth.byte w.in-Some.truth own (omega arith) w.in_ok-push.ensures.items c.loop-row.invariant)
      | in-Some+else-weight-eq128 w ↦
          let own : w.if-truth.byte ≡ byte + bit w.in-Some.truth * weight = elim w.if-truth.branch [
            | then-truth w' ↦ with_bit w.in-Some.truth byte weight w.if-truth.byte w'.if-truth.true w'.byte-is
            | else-truth w' ↦ without_bit w.in-Some.truth byte weight w.if-truth.byte w'.if-truth.false w'.byte-is
          ] in
          holds_as start _ _ _ _ w.if-truth.byte (2 * weight) _ _ (ap (λ b. b.items) w.body-is) (bit-more items from row w.in-Some.truth (omega arith) within (c.get.ensures ∙ ap Some w.in-Some.is)) w.byte-is
          (omega (arith, w.weight-is)) (holds_more start c.loop-row.body.items bits byte weight w.if-truth.byte w.in-Some.truth own (λ e. omega (arith, e)) c.loop-row.invariant)
      | in_default w ↦ holds_as start _ _ _ _ byte weight _ _ (ap (λ b. b.items) w.body-is) (no-bit-more items from row (omega arith) within (c.get.ensures ∙ ap Some w.in_default.is)) w.byte-is w.weight-is c.loop-row.invariant
    ]

pub overflow_cast-byte-then-weight-gt1 : goal.overflow_cast-byte-then-weight-gt1
overflow_cast-byte-then-weight-gt1 c =
    let small = holds_fits _ _ _ _ _ c.loop-row.invariant in
    Fits-of_lt {w = w8} (omega (arith, small.0, small.1))

pub returns-in_ok-push-2 : goal.returns-in_ok-push-2
unfolding values_bytes
returns-in_ok-push-2 c =
    let end : c.loop-row.row ≡ c.args.to = omega (arith, c.loop-row.auto.row) in
    holds_last c.args.body.now.items c.loop-row.body.items c.push-then-weight-gt1.new.self.items _ c.loop-row.byte c.loop-row.weight (omega arith) c.in_ok-push-2.ensures.items c.loop-row.invariant
    ∙ ap (λ (row : ℕ). c.args.body.now.items ++ bits_bytes (map truth_in (rows_stored Truth c.args.self.now.array.now.items c.args.from row))) end

pub returns-else-weight-gt1 : goal.returns-else-weight-gt1
unfolding values_bytes
returns-else-weight-gt1 c =
    let end : c.loop-row.row ≡ c.args.to = omega (arith, c.loop-row.auto.row) in
    holds_whole c.args.body.now.items c.loop-row.body.items _ c.loop-row.byte c.loop-row.weight (omega arith) c.loop-row.invariant
    ∙ ap (λ (row : ℕ). c.args.body.now.items ++ bits_bytes (map truth_in (rows_stored Truth c.args.self.now.array.now.items c.args.from row))) end
