use Rattle.std.proofs.Common.{◌∙◌, ap, arith, false, get_or, subst, sym}
use Rattle.std.specs.Prelude.{◌&&◌, filter_map}
use Rattle.std.specs.List.{flat_map}
use Rattle.std.proofs.lemmas.List.{take_all}
use Rattle.std.proofs.lemmas.Result.{err_from_is_err_and}
use Rattle.parquet_meta.specs.declared.metadata.RowGroupMetaData.{RowGroupMetaData}
use Rattle.parquet_scan.specs.Causes.{bounded_causes_of_group, bounded_cells}
use Rattle.parquet_scan.proofs.BoundLemmas.{bytes_more, bytes_of, bytes_tell_of_bound, counts_at, counts_done, group_tells, nothing_more, nothing_of_bound}
use Rattle.parquet_scan.proofs.CauseLemmas.{ComesFrom, ok_so, tells_of_all}
use Rattle.parquet_scan.proofs.PageLemmas.{if_err, ok_always}
use Rattle.parquet_scan.proofs.groups.rule_out.Goals as goal

pub loop-i-preserved : goal.loop-i-preserved
loop-i-preserved c =
    let fields = c.args.fields.now in
    let bound = c.args.bound.now in
    let groups = c.args.groups.now in
    let group = c.index-groups-i.result in
    record {
      none = nothing_more (bounded_causes_of_group fields bound) groups c.loop-i.i group c.loop-i-test.true c.index-groups-i.is c.loop-i.invariant.none c.in_ok-keeps.ensures.ok;
      bytes = bytes_more (bounded_cells fields bound) groups c.loop-i.i group c.loop-i.bytes c.group_keeps.new.bytes c.loop-i-test.true c.index-groups-i.is c.loop-i.invariant.bytes c.in_ok-keeps.ensures.bytes;
      counts = counts_at fields bound groups c.args.counts.now c.loop-i.counts c.loop-i.i group c.both.result c.loop-i-test.true (omega arith) c.index-groups-i.is
          (c.both.ensures ∙ ap (λ b. get_or c.loop-i.counts c.loop-i.i false && b) c.in_ok-keeps.ensures.keeps) c.loop-i.invariant.counts;
    }

pub returns-in_err-keeps-clause-cause : goal.returns-in_err-keeps-clause-cause
returns-in_err-keeps-clause-cause c =
    let p = err_from_is_err_and c.from_residual.result c.from_residual.ensures.1 in
    let fields = c.args.fields.now in
    let bound = c.args.bound.now in
    let groups = c.args.groups.now in
    rw (p.1, p.2) (group_tells fields bound groups c.in_err-keeps.field-0.0
    (tells_of_all (bounded_causes_of_group fields bound) groups c.loop-i.i c.index-groups-i.result c.in_err-keeps.field-0.0 c.loop-i-test.true
    (subst (λ (group : RowGroupMetaData). ComesFrom (bounded_causes_of_group fields bound group) c.in_err-keeps.field-0.0) c.index-groups-i.is c.in_err-keeps.ensures.cause)))

pub returns-clause-cause : goal.returns-clause-cause
returns-clause-cause c =
    let fields = c.args.fields.now in
    let bound = c.args.bound.now in
    let groups = c.args.groups.now in
    if_err c.check_bytes.result (λ e tells. bytes_tell_of_bound fields bound groups c.loop-i.bytes e
    (c.loop-i.invariant.bytes ∙ ap (λ groups. bytes_of (filter_map (bounded_cells fields bound) groups)) (take_all c.loop-i.i groups c.loop-i-test.false)) tells) c.check_bytes.ensures.cause

pub returns-clause-ok : goal.returns-clause-ok
returns-clause-ok c =
    let fields = c.args.fields.now in
    let bound = c.args.bound.now in
    let groups = c.args.groups.now in
    let all = take_all c.loop-i.i groups c.loop-i-test.false in
    ok_so c.check_bytes.result (nothing_of_bound fields bound groups c.loop-i.bytes (ap (flat_map (bounded_causes_of_group fields bound)) (sym all) ∙ c.loop-i.invariant.none)
    (c.loop-i.invariant.bytes ∙ ap (λ groups. bytes_of (filter_map (bounded_cells fields bound) groups)) all)) c.check_bytes.ensures.ok

pub returns-clause-counts : goal.returns-clause-counts
returns-clause-counts c =
    ok_always c.check_bytes.result (counts_done c.args.fields.now c.args.bound.now c.args.groups.now c.args.counts.now c.loop-i.counts c.loop-i.i c.loop-i-test.false (omega arith) c.loop-i.invariant.counts)
