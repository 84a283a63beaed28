use Rattle.std.proofs.Common.{◌≡◌, ◌+◌, ◌-◌, ◌*◌, ◌/◌, ◌≤◌, ◌∙◌, ◌++◌, refl, sym, ap, arith, FitsSigned, rules}
use Rattle.std.specs.Int.{w64}
use Rattle.std.proofs.lemmas.Nat.{mul-le}
use Rattle.std.proofs.lemmas.Result.{MatchResult-from_err}
use Rattle.parquet_base.specs.Reading.{map_value}
use Rattle.parquet_encoding.specs.Bits.{packed}
use Rattle.parquet_encoding.specs.DeltaBinary.{deltas_of}
use Rattle.parquet_encoding.specs.DeltaWalk.{deltas_behind}
use Rattle.parquet_encoding.proofs.SumLemmas.{same_number}
use Rattle.parquet_encoding.proofs.BlockLemmas.{behind_of, part_opens, part_stops, body_is}
use Rattle.parquet_encoding.proofs.delta_walk.DeltaWalk.open_part.Goals as goal

pub returns-in_err-body-clause-err : goal.returns-in_err-body-clause-err
unfolding deltas_behind
returns-in_err-body-clause-err c =
    let s = c.args.self.now in
    MatchResult-from_err c.from_residual.result _ _ c.from_residual.ensures.0
    (λ _. part_stops s.size s.parts s.run.least s.behind s.widths s.parts_left s.next _ c.args.bytes.now c.requires.within.widths c.requires.within.next c.requires.more c.requires.some refl c.in_err-body.ensures.err)

pub returns-clause-ok : goal.returns-clause-ok
unfolding deltas_behind
returns-clause-ok c =
    let s = c.args.self.now in
    let bytes = c.args.bytes.now in
    let fits : FitsSigned w64 s.run.least = search rules in
    let many = c.min-count.result in
    let width = c.from.result in
    let body = c.in_ok-body.body in
    let size : body ≡ s.size * width / 8 = c.in_ok-body.ensures.size ∙ ap (λ w. s.size * w / 8) (sym c.from.ensures) in
    let narrow : width ≤ 64 = omega (arith, c.in_ok-body.ensures.narrow, c.from.ensures) in
    part_opens s.size s.parts s.run.least s.behind s.widths s.parts_left s.next width body many bytes (λ i. omega (arith, c.type_inv.bytes i))
    c.requires.within.widths c.requires.within.next c.requires.more c.requires.some c.from.ensures narrow size c.in_ok-body.ensures.fits c.min-count.ensures
    ∙ ap (λ least. map_value (λ others. deltas_of least (packed bytes width (8 * s.next + 0) many) ++ others) (behind_of s.size s.parts least (s.behind - many) (s.widths + 1) (s.parts_left - 1) (s.next + body) bytes))
    (sym (same_number s.run.least fits))

pub returns-clause-lies : goal.returns-clause-lies
returns-clause-lies c =
    let s = c.args.self.now in
    let width = c.from.result in
    let size : c.in_ok-body.body ≡ s.size / 8 * width = c.in_ok-body.ensures.size ∙ ap (λ w. s.size * w / 8) (sym c.from.ensures) ∙ sym (body_is s.size width s.whole) in
    let whole : 8 * (s.size / 8) ≡ s.size = omega (arith, s.whole) in
    let bits = ap (λ n. n * width) whole in
    let few = mul-le c.min-count.result width s.size width (omega arith) (omega arith) in
    omega (arith, c.in_ok-body.ensures.fits, c.requires.within.next)
