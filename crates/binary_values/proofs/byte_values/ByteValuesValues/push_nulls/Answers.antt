use Rattle.std.proofs.lemmas.Result.{on_ok_weaker}
use Rattle.binary_values.proofs.OwnLemmas.{null-cells, null-own}
use Rattle.binary_values.proofs.byte_values.ByteValuesValues.push_nulls.Goals as goal

pub returns-clause-cells : goal.returns-clause-cells
returns-clause-cells g c =
    let old = c.args.decoded.now in
    on_ok_weaker c.mark_nulls.result
    (λ marked. null-cells g.O.Offset.greatest c.args.self.now.is_text old.is_text old.strings old.validity c.requires.own c.push_empty.new.self c.mark_nulls.new.validity c.len-held.result c.args.count c.in_ok-push_empty.ensures.ok c.len-held.ensures marked)
    c.mark_nulls.ensures.ok

pub returns-clause-own : goal.returns-clause-own
returns-clause-own g c =
    let old = c.args.decoded.now in
    on_ok_weaker c.mark_nulls.result
    (λ marked. null-own g.O.Offset.greatest c.args.self.now.is_text old.is_text old.strings old.validity c.requires.own c.push_empty.new.self c.mark_nulls.new.validity c.len-held.result c.args.count c.in_ok-push_empty.ensures.ok c.len-held.ensures marked)
    c.mark_nulls.ensures.ok
