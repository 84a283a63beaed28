use Rattle.std.proofs.Common.{sym, ◌∙◌}
use Rattle.pq_common.proofs.HexLemmas.{one_more}
use Rattle.pq_common.proofs.values.hex_bytes.Goals as goal

pub loop-rest-preserved : goal.loop-rest-preserved
loop-rest-preserved c =
    one_more _ c.loop-rest.bytes.items c.push.new.self.items c.loop-rest.rest.now c.in-Some.byte c.in-len2-up.len_at_least
    (sym c.hex_byte.ensures ∙ c.in-Some.is) c.in_ok-push.ensures.items c.loop-rest.invariant
