use Rattle.std.proofs.Common.{◌≡◌, ◌+◌, ◌∙◌, ◌∷◌, map, drop, sym, ap, arith}
use Rattle.std.specs.Prelude.{sum_by}
use Rattle.std.proofs.lemmas.List.{drop_all, drop_more}
use Rattle.std.proofs.lemmas.List.Sums.{sum_by-cons}
use Rattle.flat_values.specs.ColumnLeft.{ColumnLeft}
use Rattle.parquet_read.proofs.rows.pages_lent.Goals as goal

pub loop-column-preserved : goal.loop-column-preserved
loop-column-preserved g c =
    let l = c.loop-column in
    let lent = λ (left : ColumnLeft). left.lent in
    let left = g.A.ColumnArrays.left in
    let own = left c.column-item.result in
    let behind = map left (drop (l.column-index + 1) c.args.columns.now) in
    let others : sum_by lent (map left (drop l.column-index c.args.columns.now)) ≡ own.lent + sum_by lent behind =
    ap (λ columns. sum_by lent (map left columns)) (drop_more c.args.columns.now l.column-index c.column-item.result (omega arith)
    ∙ ap (λ column. column ∷ drop (l.column-index + 1) c.args.columns.now) (sym c.column-item.is)) ∙ sum_by-cons lent own behind in
    record {
      same = omega (arith, others, l.invariant.same, c.lent.ensures, c.saturating_add-lent.ensures);
      fits = omega (arith, c.saturating_add-lent.ensures);
    }

pub returns : goal.returns
returns g c =
    let l = c.loop-column in
    let lent = λ (left : ColumnLeft). left.lent in
    let left = g.A.ColumnArrays.left in
    let none : sum_by lent (map left (drop l.column-index c.args.columns.now)) ≡ 0 =
    ap (λ columns. sum_by lent (map left columns)) (drop_all l.column-index c.args.columns.now c.loop-column-test.false) in
    omega (arith, none, l.invariant.same, l.invariant.fits)
