use Rattle.std.proofs.Common.{◌+◌, ◌++◌, ◌∷◌, List, [], length, map, set, refl, sym, ap, subst, arith, length-append}
use Rattle.std.proofs.lemmas.List.{length-map}
use Rattle.std.proofs.lemmas.Result.{err_from_is_err_and}
use Rattle.columns_core.specs.declared.array.Array.{Array}
use Rattle.parquet_read.specs.Rows.{Answer, each_given}
use Rattle.parquet_read.specs.Rows.IsStopped.{Stops, Wants}
use Rattle.parquet_read.proofs.AskLemmas.{IsAsking, asks, asks_none, given_more}
use Rattle.parquet_read.proofs.rows.next_arrays.Goals as goal

pub returns-in_err-arrays : goal.returns-in_err-arrays
returns-in_err-arrays g c =
    let p = err_from_is_err_and c.from_residual.result c.from_residual.ensures.1 in
    let none = asks_none (map g.A.ColumnArrays.left c.args.columns.now) c.args.steps.now in
    rw (p.1, p.2) (record { answers = []; asked = none.asked; given = tt; stopped = Wants [] refl refl })

pub loop-column-init : goal.loop-column-init
loop-column-init g c =
    let olds = map g.A.ColumnArrays.left c.args.columns.now in
    let s = c.args.steps.now in
    record {
      asking = subst (λ (arrays : List Array). IsAsking olds (each_given arrays) olds 0 s s) (sym c.in_ok-arrays.ensures.items) (asks_none olds s);
      count = ap length c.in_ok-arrays.ensures.items;
    }

pub returns-in_err-next_array : goal.returns-in_err-next_array
returns-in_err-next_array g c =
    let l = c.loop-column in
    let p = err_from_is_err_and c.from_residual-in_err-next_array.result c.from_residual-in_err-next_array.ensures.1 in
    let e = c.in_err-next_array.ensures in
    let asking = asks g.A.ColumnArrays.left c.args.columns.now l.columns (each_given l.arrays.items) e.answer l.column-index c.column-item.result c.next_array.new.column
    c.args.steps.now l.steps c.next_array.new.steps l.invariant.asking (omega arith) e.asked in
    rw (p.1, p.2) (record { answers = each_given l.arrays.items ++ e.answer ∷ []; asked = asking.asked; given = tt; stopped = Stops l.arrays.items e.answer refl e.stopped })

pub returns-in_err-push : goal.returns-in_err-push
returns-in_err-push g c =
    let l = c.loop-column in
    let p = err_from_is_err_and c.from_residual-in_err-push.result c.from_residual-in_err-push.ensures.1 in
    let e = c.in_ok-next_array.ensures in
    let left = g.A.ColumnArrays.left in
    let olds = map left c.args.columns.now in
    let news = map left (set l.columns l.column-index c.next_array.new.column) in
    let more = l.arrays.items ++ c.in_ok-next_array.field-0 ∷ [] in
    let asking = subst (λ (answers : List Answer). IsAsking olds answers news (l.column-index + 1) c.args.steps.now c.next_array.new.steps)
    (given_more l.arrays.items more c.in_ok-next_array.field-0 e.answer e.given refl)
    (asks left c.args.columns.now l.columns (each_given l.arrays.items) e.answer l.column-index c.column-item.result c.next_array.new.column
    c.args.steps.now l.steps c.next_array.new.steps l.invariant.asking (omega arith) e.asked) in
    rw (p.1, p.2) (record { answers = each_given more; asked = asking.asked; given = tt; stopped = Wants more refl refl })

pub loop-column-preserved : goal.loop-column-preserved
loop-column-preserved g c =
    let l = c.loop-column in
    let e = c.in_ok-next_array.ensures in
    let left = g.A.ColumnArrays.left in
    let olds = map left c.args.columns.now in
    let news = map left (set l.columns l.column-index c.next_array.new.column) in
    record {
      asking = subst (λ (answers : List Answer). IsAsking olds answers news (l.column-index + 1) c.args.steps.now c.next_array.new.steps)
          (given_more l.arrays.items _ c.in_ok-next_array.field-0 e.answer e.given c.in_ok-push.ensures.items)
          (asks left c.args.columns.now l.columns (each_given l.arrays.items) e.answer l.column-index c.column-item.result c.next_array.new.column
          c.args.steps.now l.steps c.next_array.new.steps l.invariant.asking (omega arith) e.asked);
      count = omega (arith, l.invariant.count, ap length c.in_ok-push.ensures.items, length-append l.arrays.items (c.in_ok-next_array.field-0 ∷ []));
    }

pub returns : goal.returns
returns g c =
    let l = c.loop-column in
    let left = g.A.ColumnArrays.left in
    let asking = l.invariant.asking in
    record {
      answers = each_given l.arrays.items;
      asked = asking.asked;
      given = (
        refl,
        omega (
          arith,
          l.invariant.count,
          asking.counted,
          ap length asking.asked.new,
          length-append asking.asked.asked_now asking.asked.others,
          length-map l.columns left,
          length-map c.args.columns.now left,
        ),
      );
      stopped = tt;
    }
