use Rattle.std.proofs.Common.{rules, ◌≡◌, ◌+◌, ◌∙◌, ◌++◌, ◌∷◌, [], Bool, List, true, map, drop, ap, sym, subst, arith}
use Rattle.std.specs.Prelude.{zip}
use Rattle.std.specs.List.{list_all}
use Rattle.parquet_base.specs.Intervals.{is_well_shaped, rows_of}
use Rattle.parquet_base.specs.declared.interval.Interval.{Interval}
use Rattle.parquet_scan.specs.Rows.{first_rows, given_of_kept}
use Rattle.parquet_scan.specs.declared.scanning.GroupKept.{GroupKept}
use Rattle.parquet_scan.proofs.ClippedLemmas.{given_done, given_more}
use Rattle.parquet_scan.proofs.PairLemmas.{all_more, none_beside}
use Rattle.parquet_scan.proofs.given.given_runs.Goals as goal

abbrev has_shape : GroupKept × List Interval → Bool
has_shape group = is_well_shaped group.1 (group.0).rows

pub loop-group-init : goal.loop-group-init
loop-group-init c = record {
  rows = ap (λ (given : List (List Interval)). map rows_of given ++ given_of_kept c.args.limit c.args.kept.now) c.new-given.ensures.items;
  shaped = ap (λ (given : List (List Interval)). list_all has_shape (zip c.args.kept.now given)) c.new-given.ensures.items ∙ none_beside has_shape c.args.kept.now;
  count = search rules;
}

pub loop-group-preserved : goal.loop-group-preserved
loop-group-preserved c =
    let kept = c.args.kept.now in
    let i = c.loop-group.group-index in
    let group = c.group-item.result in
    let given = c.loop-group.given.items in
    let runs = c.in_ok-given_of_group.field-0.items in
    let more : c.push.new.self.items ≡ given ++ runs ∷ [] = c.in_ok-push.ensures.items ∙ ap (λ runs. given ++ runs ∷ []) c.new.ensures in
    record {
      rows = subst (λ (given : List (List Interval)). map rows_of given ++ first_rows c.given_of_group.new.left (map (λ (group : GroupKept). rows_of group.intervals) (drop (i + 1) kept)) ≡ given_of_kept c.args.limit kept) (sym more)
          (given_more given runs c.loop-group.left c.given_of_group.new.left kept i group (given_of_kept c.args.limit kept) c.loop-group-test.true c.group-item.is c.in_ok-given_of_group.ensures.rows c.loop-group.invariant.rows);
      shaped = subst (λ (given : List (List Interval)). list_all has_shape (zip kept given) ≡ true) (sym more)
          (all_more has_shape kept given i group runs c.loop-group.invariant.shaped c.loop-group.invariant.count c.loop-group-test.true c.group-item.is c.in_ok-given_of_group.ensures.shaped);
      count = search rules;
    }

pub returns-clause-rows : goal.returns-clause-rows
returns-clause-rows c =
    given_done c.loop-group.given.items c.loop-group.left c.args.kept.now c.loop-group.group-index (given_of_kept c.args.limit c.args.kept.now) (omega arith) c.loop-group.invariant.rows
