use Rattle.std.proofs.Common.{◌≡◌, arith, ℕ, ◌+◌, ◌-◌, not, Bool, List, length, sym, ap, ◌∙◌}
use Rattle.std.specs.List.{slice_range}
use Rattle.parquet_plain.specs.Bodies.{bit, number_of_bits}
use Rattle.parquet_plain.proofs.RowLemmas.{rows-all}
use Rattle.parquet_sample.specs.Rows.{are_present}
use Rattle.parquet_sample.specs.Sample.{is_absent}
use Rattle.parquet_sample.proofs.LevelLemmas.{length_present, present_first}
use Rattle.parquet_sample.proofs.levels.level_byte.Goals as goal
use Rattle.parquet_write.proofs.LevelLemmas.{byte_begins, byte_goes_on}

pub loop-left-init : goal.loop-left-init
loop-left-init c = byte_begins (are_present c.args.first c.args.rows) c.args.rows

pub loop-left-preserved : goal.loop-left-preserved
loop-left-preserved c =
    let now : ℕ = c.loop-left.left - 1 in
    byte_goes_on (are_present c.args.first c.args.rows) c.args.rows c.loop-left.byte c.loop-left.left now c.level.result (not (is_absent (c.args.first + now))) (omega arith)
    (present_first c.args.first c.args.rows c.loop-left.left now (omega arith) c.loop-left.invariant.within)
    (c.level.ensures ∙ ap (λ (k : ℕ). bit (not (is_absent (c.args.first + k)))) c.from.ensures) c.loop-left.invariant

pub returns : goal.returns
returns c =
    let bs : List Bool = are_present c.args.first c.args.rows in
    let none : c.loop-left.left ≡ 0 = omega arith in
    let all : c.args.rows ≡ length bs = sym (length_present c.args.first c.args.rows) in
    c.loop-left.invariant.same ∙ ap (λ (k : ℕ). number_of_bits (slice_range bs k c.args.rows)) none ∙ ap (λ (k : ℕ). number_of_bits (slice_range bs 0 k)) all ∙ ap number_of_bits (rows-all bs)
