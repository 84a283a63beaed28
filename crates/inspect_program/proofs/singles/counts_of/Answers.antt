use Rattle.std.proofs.Common.{◌≡◌, ◌∙◌, ◌+◌, ap, arith, length-take, subst, sym, take}
use Rattle.std.specs.Prelude.{option_copied, unwrap_or}
use Rattle.std.proofs.lemmas.List.Sums.{count_by-le-length}
use Rattle.inspect_program.specs.Guess.{is_begun}
use Rattle.inspect_program.specs.Singles.{IsCountOf, begun_count}
use Rattle.inspect_program.proofs.SingleLemmas.{Counts, counts_more, counts_same}
use Rattle.inspect_program.proofs.singles.counts_of.Goals as goal
use Rattle.inspect_program.proofs.singles.counts_of.Goals.{in-Some+in_ok-insert, in_default}

pub overflow_add-count : goal.overflow_add-count
overflow_add-count c =
    let name = c.in-Some.name.now in
    let columns = c.args.columns.now in
    let found : c.unwrap_or-count.result ≡ begun_count c.loop-column.counts name =
    c.unwrap_or-count.ensures ∙ ap (λ o. unwrap_or o 0) (c.copied.ensures ∙ c.get.ensures.value) in
    omega (arith, found, c.loop-column.invariant name, count_by-le-length (is_begun name) (take c.loop-column.column-index columns), length-take c.loop-column.column-index columns)

pub loop-column-preserved : goal.loop-column-preserved
loop-column-preserved c =
    let columns = c.args.columns.now in
    let i = c.loop-column.column-index in
    let column = c.column-item.result in
    elim c.match-first_name.branch [
      | in-Some+in_ok-insert w ↦
          let name = w.in-Some.name in
          let found : w.unwrap_or-count.result ≡ begun_count c.loop-column.counts name.now =
          w.unwrap_or-count.ensures ∙ ap (λ o. unwrap_or o 0) (w.copied.ensures ∙ w.get.ensures.value) in
          subst (λ (counts : Counts). IsCountOf (take (i + 1) columns) counts) (sym w.counts-is)
          (counts_more c.loop-column.counts w.insert.new.self columns i column name c.loop-column-test.true c.column-item.is
          (sym c.first_name.ensures ∙ ap option_copied w.in-Some.is) c.loop-column.invariant
          (rw (← found) w.in_ok-insert.ensures.updates))
      | in_default w ↦
          subst (λ (counts : Counts). IsCountOf (take (i + 1) columns) counts) (sym w.counts-is)
          (counts_same c.loop-column.counts columns i column c.loop-column-test.true c.column-item.is
          (sym c.first_name.ensures ∙ ap option_copied w.in_default.is) c.loop-column.invariant)
    ]
