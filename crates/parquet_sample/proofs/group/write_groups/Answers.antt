use Rattle.std.proofs.Common.{◌≡◌, ℕ, List, ◌+◌, ◌-◌, min, sym, subst, ap, ◌∙◌}
use Rattle.parquet_sample.specs.Parts.{sample_group}
use Rattle.parquet_sample.specs.Sample.{group_rows}
use Rattle.parquet_sample.proofs.GroupLemmas.{IsGrouping, grouping_begins, grouping_ends, grouping_goes_on}
use Rattle.parquet_write.proofs.LevelLemmas.{lesser-is}
use Rattle.parquet_write.specs.Parts.{AddsChunks, group_facts, starts_of}
use Rattle.parquet_write.specs.declared.facts.GroupFacts.{GroupFacts}
use Rattle.parquet_sample.proofs.group.write_groups.Goals as goal

pub loop-row-init : goal.loop-row-init
loop-row-init c =
    subst (λ (facts : List GroupFacts). IsGrouping c.args.parts.now c.args.parts.now c.args.first c.args.rows facts 0) (sym c.new-groups.ensures.items) (grouping_begins c.args.parts.now c.args.first c.args.rows)

pub loop-row-preserved : goal.loop-row-preserved
loop-row-preserved c =
    let count : ℕ = c.min-count.result in
    let least : count ≡ min group_rows (c.args.rows - c.loop-row.row) = c.min-count.ensures ∙ lesser-is group_rows (c.args.rows - c.loop-row.row) in
    let from : c.from.result ≡ c.loop-row.row = c.from.ensures in
    let next = grouping_goes_on c.args.parts.now c.loop-row.parts c.write_group.new.parts c.args.first c.args.rows c.loop-row.groups.items c.loop-row.row count c.in_ok-group.group
    c.loop-row.invariant c.loop-row-test.true least (subst (λ (k : ℕ). AddsChunks c.loop-row.parts c.write_group.new.parts (sample_group (c.args.first + k) count).chunks) from c.in_ok-group.ensures.adds)
    (c.in_ok-group.ensures.told ∙ ap (λ (k : ℕ). group_facts (starts_of c.loop-row.parts) (sample_group (c.args.first + k) count)) from) in
    subst (λ (facts : List GroupFacts). IsGrouping c.args.parts.now c.write_group.new.parts c.args.first c.args.rows facts (c.loop-row.row + count)) (sym c.in_ok-push.ensures.items) next

pub returns-clause-adds : goal.returns-clause-adds
returns-clause-adds c = (grouping_ends c.args.parts.now c.loop-row.parts c.args.first c.args.rows c.loop-row.groups.items c.loop-row.row c.loop-row-test.false c.loop-row.invariant).0

pub returns-clause-told : goal.returns-clause-told
returns-clause-told c = (grouping_ends c.args.parts.now c.loop-row.parts c.args.first c.args.rows c.loop-row.groups.items c.loop-row.row c.loop-row-test.false c.loop-row.invariant).1
