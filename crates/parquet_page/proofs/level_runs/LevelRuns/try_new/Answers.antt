use Rattle.std.proofs.Common.{◌≡◌, ◌∙◌, false, None, ap, refl, sym}
use Rattle.std.specs.Prelude.{is_some, nat_le}
use Rattle.std.specs.List.{list_all}
use Rattle.parquet_encoding.specs.Hybrid.{hybrid}
use Rattle.parquet_encoding.specs.HybridLeft.{hybrid_left, hybrid_values}
use Rattle.parquet_page.specs.Levels.{top_level}
use Rattle.parquet_page.specs.LevelsLeft.{level_places}
use Rattle.parquet_page.proofs.LevelLemmas.{all-told, no_levels, none-spelled, presence_is, refused-above}
use Rattle.parquet_page.proofs.level_runs.LevelRuns.try_new.Goals as goal

pub returns-in_default-clause-refusal : goal.returns-in_default-clause-refusal
returns-in_default-clause-refusal c =
    let none : top_level c.args.repetition ≡ None = cc (c.in_default.ensures, c.in_default.is) in
    (refl, no_levels c.args.repetition c.args.levels.now c.args.count none)

pub returns-in_default-try_new-clause-refusal : goal.returns-in_default-try_new-clause-refusal
returns-in_default-try_new-clause-refusal c =
    let top = c.in-Some.top in
    let none : false ≡ is_some (hybrid top c.args.levels.now c.args.count) = c.in_default-try_new.ensures.exact in
    (refl, presence_is c.args.repetition c.args.levels.now c.args.count top c.in-Some.ensures ∙ none-spelled top (hybrid top c.args.levels.now c.args.count) none)

pub returns-then-not-are_at_most-clause-refusal : goal.returns-then-not-are_at_most-clause-refusal
returns-then-not-are_at_most-clause-refusal c =
    let top = c.in-Some.top in
    let above : list_all (λ level. nat_le level top) (hybrid_values c.in-Ok.runs c.args.levels.now) ≡ false = sym c.are_at_most.ensures ∙ c.if-not-are_at_most.true in (
      refl,
      presence_is c.args.repetition c.args.levels.now c.args.count top c.in-Some.ensures
          ∙ sym (ap (level_places top) c.in-Ok.ensures.values)
          ∙ refused-above top (hybrid_left c.in-Ok.runs c.args.levels.now) above,
    )

pub returns-clause-places : goal.returns-clause-places
returns-clause-places c = ap (level_places c.in-Some.top) c.in-Ok.ensures.values ∙ sym (presence_is c.args.repetition c.args.levels.now c.args.count c.in-Some.top c.in-Some.ensures)

pub returns-clause-spelled : goal.returns-clause-spelled
returns-clause-spelled c =
    let left = hybrid_left c.in-Ok.runs c.args.levels.now in
    all-told c.in-Some.top left (ap is_some c.in-Ok.ensures.values ∙ sym c.in-Ok.ensures.exact) (sym c.are_at_most.ensures ∙ c.if-not-are_at_most.false)
