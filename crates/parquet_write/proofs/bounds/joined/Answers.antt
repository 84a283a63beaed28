use Rattle.std.proofs.Common.{List, Option, Some, ap, subst, sym, ◌∙◌}
use Rattle.parquet_page.specs.Stored.{Stored}
use Rattle.parquet_plain.specs.Bounds.{joined_bounds}
use Rattle.parquet_write.specs.Items.{AreBothThere, bounds_by_rows}
use Rattle.parquet_write.specs.declared.bounds.RowBounds.{RowBounds}
use Rattle.parquet_write.proofs.ItemLemmas.{rows_joined}
use Rattle.parquet_write.proofs.bounds.joined.Goals as goal

pub returns-in-Some-Some-clause-joined : goal.returns-in-Some-Some-clause-joined
returns-in-Some-Some-clause-joined g c =
    let items : List (Option Stored) = g.I.Items.items c.args.items.now in
    let at_most = g.I.Items.at_most c.args.items.now in
    let a : RowBounds = c.in-Some-Some.a in
    let b : RowBounds = c.in-Some-Some.b in
    let rows : RowBounds = record { least = c.earlier.result; greatest = c.later.result } in
    let first : AreBothThere items (Some a) = subst (AreBothThere items) c.in-Some-Some.is-0 c.requires.first in
    let second : AreBothThere items (Some b) = subst (AreBothThere items) c.in-Some-Some.is-1 c.requires.second in
    (rows_joined at_most items a b rows first second c.earlier.ensures c.later.ensures).same
    ∙ ap (λ (o : Option RowBounds). joined_bounds at_most (bounds_by_rows items o) (bounds_by_rows items (Some b))) (sym c.in-Some-Some.is-0)
    ∙ ap (λ (o : Option RowBounds). joined_bounds at_most (bounds_by_rows items c.args.first) (bounds_by_rows items o)) (sym c.in-Some-Some.is-1)
