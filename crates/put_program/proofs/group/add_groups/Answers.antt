use Rattle.std.proofs.Common.{ℕ, ◌+◌, List, ◌++◌, ◌∷◌, [], ap, drop, length, subst, sym, take, ◌∙◌}
use Rattle.columns_core.specs.declared.array.Array.{Array}
use Rattle.columns_core.specs.declared.data_type.Field.{Field}
use Rattle.parquet_plain.specs.Description.{PlainGroup}
use Rattle.parquet_plain.specs.File.{chunks_of}
use Rattle.parquet_plain.specs.Short.{are_short_chunks}
use Rattle.parquet_write.specs.declared.facts.GroupFacts.{GroupFacts}
use Rattle.parquet_write.proofs.AnswerLemmas.{overflows, too_large_whole}
use Rattle.put_program.specs.Typed.{put_group, put_groups}
use Rattle.put_program.proofs.GroupLemmas.{GrowsGroups, groups-next, groups-split, groups_more, groups_none, groups_past}
use Rattle.put_program.proofs.ListLemmas.{at-place}
use Rattle.put_program.proofs.group.add_groups.Goals as goal

pub loop-i-init : goal.loop-i-init
loop-i-init c = subst (λ (told : List GroupFacts). GrowsGroups c.args.parts.now c.args.parts.now told []) (sym c.in_ok-groups.ensures.items) (groups_none c.args.parts.now)

pub returns-in_err-add_group-clause-short : goal.returns-in_err-add_group-clause-short
returns-in_err-add_group-clause-short c =
    let i : ℕ = c.loop-i.i in
    let parts = c.args.parts.now in
    let fields : List Field = c.args.fields.now in
    let chunks : List (List Array) = c.args.chunks.now in
    let chunk = at-place chunks i c.index-chunks-i.result c.loop-i-test.true c.index-chunks-i.is in
    let group : PlainGroup = put_group c.args.page_rows fields c.index-chunks-i.result in
    let rest : List PlainGroup = put_groups c.args.page_rows fields (drop (i + 1) chunks) in
    overflows _ c.from_residual-in_err-add_group.result _ c.from_residual-in_err-add_group.ensures.1
    (too_large_whole _ _ _ (λ large. ap (λ (groups : List PlainGroup). are_short_chunks (length parts.chunks.items) (chunks_of groups)) (groups-split c.args.page_rows fields chunks i c.index-chunks-i.result chunk)
    ∙ groups_past parts c.loop-i.parts c.loop-i.groups.items (put_groups c.args.page_rows fields (take i chunks)) rest group c.loop-i.invariant large) c.in_err-add_group.ensures.short.cause)

pub loop-i-preserved : goal.loop-i-preserved
loop-i-preserved c =
    let i : ℕ = c.loop-i.i in
    let fields : List Field = c.args.fields.now in
    let chunks : List (List Array) = c.args.chunks.now in
    let chunk = at-place chunks i c.index-chunks-i.result c.loop-i-test.true c.index-chunks-i.is in
    let group : PlainGroup = put_group c.args.page_rows fields c.index-chunks-i.result in
    subst (λ (told : List GroupFacts). GrowsGroups c.args.parts.now c.add_group.new.parts told (put_groups c.args.page_rows fields (take (i + 1) chunks))) (sym c.in_ok-push.ensures.items)
    (subst (GrowsGroups c.args.parts.now c.add_group.new.parts (c.loop-i.groups.items ++ c.in_ok-add_group.field-0 ∷ [])) (sym (groups-next c.args.page_rows fields chunks i c.index-chunks-i.result chunk))
    (groups_more c.args.parts.now c.loop-i.parts c.add_group.new.parts c.loop-i.groups.items (put_groups c.args.page_rows fields (take i chunks)) c.in_ok-add_group.field-0 group c.loop-i.invariant
    c.in_ok-add_group.ensures.adds c.in_ok-add_group.ensures.told c.in_ok-add_group.ensures.short.fits))
