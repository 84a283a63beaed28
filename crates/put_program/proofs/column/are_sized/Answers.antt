use Rattle.std.proofs.Common.{◌≡◌, List, ℕ, Option, Some, None, ap, arith, length, refl, sym, ◌∙◌}
use Rattle.std.proofs.lemmas.Bool.{eq-eqb, ne_eqb}
use Rattle.std.specs.Prelude.{slice_get, option_copied}
use Rattle.put_program.specs.Request.{is_sized}
use Rattle.put_program.proofs.ListLemmas.{all-more}
use Rattle.put_program.proofs.RequestLemmas.{not_sized}
use Rattle.put_program.proofs.column.are_sized.Goals as goal
use Rattle.put_program.proofs.column.are_sized.Goals.{in-Some+else-bytes-size, in_default-get}

pub returns-then-bytes-size : goal.returns-then-bytes-size
returns-then-bytes-size c =
    let own : slice_get c.args.array.now.items c.loop-row.row ≡ Some (Some c.in-Some.bytes.now) = c.get.ensures ∙ ap (λ r. Some (option_copied r)) c.in-Some.is in
    not_sized c.args.array.now c.in-FixedSizeBinary.size c.loop-row.row c.in-Some.bytes.now (sym c.data_type.ensures ∙ c.in-FixedSizeBinary.is) own
    (ne_eqb (length c.in-Some.bytes.now) c.in-FixedSizeBinary.size (λ e. omega (arith, e, c.if-bytes-size.true)))

pub loop-row-preserved : goal.loop-row-preserved
loop-row-preserved c =
    let items : List (Option (List ℕ)) = c.args.array.now.items in
    elim c.match-get.branch [
      | in-Some+else-bytes-size w ↦ all-more (is_sized c.in-FixedSizeBinary.size) items c.loop-row.row (Some w.in-Some.bytes.now) (c.get.ensures ∙ ap (λ r. Some (option_copied r)) w.in-Some.is)
          (eq-eqb (length w.in-Some.bytes.now) c.in-FixedSizeBinary.size (omega arith)) c.loop-row.invariant
      | in_default-get w ↦ all-more (is_sized c.in-FixedSizeBinary.size) items c.loop-row.row None (c.get.ensures ∙ ap (λ r. Some (option_copied r)) w.in_default-get.is) refl c.loop-row.invariant
    ]
