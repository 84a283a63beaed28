use Rattle.std.proofs.Common.{◌≡◌, ℤ, pos, to_z, of_z, w64, ◌++◌, ◌∷◌, [], ◌∙◌, ap, inr, refl, arith, sym}
use Rattle.std.specs.Prelude.{unwrap_or}
use Rattle.std.proofs.lemmas.Int.{to_z-of_z}
use Rattle.std.proofs.lemmas.Grind.{common_steps}
use Rattle.columns_core.specs.Column.{cell_of}
use Rattle.columns_core.specs.declared.cell.Cell.{Int}
use Rattle.parquet_meta.specs.Lists.{all_of}
use Rattle.put_program.proofs.LineLemmas.{front_grows, front_unspelled, is_left, shorter}
use Rattle.put_program.proofs.lines.column_of_lines.Goals as goal

pub returns-in_default-clause-err : goal.returns-in_default-clause-err
returns-in_default-clause-err c =
    inr (
      refl,
      front_unspelled c.loop-rest.values.items c.loop-rest.there c.loop-rest.rest.now c.args.text.now c.loop-rest.invariant
          (is_left c.loop-rest.rest.now c.is_empty.result c.is_empty.ensures c.loop-rest-test.true) (sym c.in_default.ensures),
    )

pub loop-rest-smaller : goal.loop-rest-smaller
loop-rest-smaller c = shorter c.loop-rest.rest.now (cell_of Int c.in-Some.item, c.in-Some.behind.now) (sym c.in-Some.ensures)

pub loop-rest-preserved : goal.loop-rest-preserved
loop-rest-preserved c =
    let value : ℤ = c.unwrap_or.result in
    let pushed : c.push.new.self.items ≡ c.loop-rest.values.items ++ to_z w64 (of_z w64 value) ∷ [] = c.in_ok-push.ensures.items in
    let same : to_z w64 (of_z w64 value) ≡ unwrap_or c.in-Some.item (pos 0) = to_z-of_z w64 value (record { sfits = c.unwrap_or.type_inv }) ∙ c.unwrap_or.ensures in
    front_grows c.loop-rest.values.items c.loop-rest.there c.loop-rest.rest.now c.args.text.now c.in-Some.item c.in-Some.behind.now c.push.new.self.items c.push-in-loop-rest.new.self
    c.loop-rest.invariant (is_left c.loop-rest.rest.now c.is_empty.result c.is_empty.ensures c.loop-rest-test.true) c.in-Some.ensures (pushed ∙ ap (λ n. c.loop-rest.values.items ++ n ∷ []) same)
    (c.in_ok-push-2.ensures.ok ∙ ap (λ b. c.loop-rest.there ++ b ∷ []) c.is_some.ensures)

pub returns-clause-told : goal.returns-clause-told
unfolding all_of
returns-clause-told c = grind (arith, common_steps)
