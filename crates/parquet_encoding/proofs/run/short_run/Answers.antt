use Rattle.std.proofs.Common.{◌+◌, sym, arith}
use Rattle.std.proofs.lemmas.Option.{IfSome_then}
use Rattle.parquet_encoding.proofs.RunLemmas.{short_header, opens_packed, opens_repeated}
use Rattle.parquet_encoding.proofs.run.short_run.Goals as goal

pub returns-then-header-eq1-clause-opens : goal.returns-then-header-eq1-clause-opens
returns-then-header-eq1-clause-opens c =
    let bytes = c.args.bytes.now in
    let place = c.args.place in
    let header = c.in_ok-header.field-0.now in
    let at = short_header bytes place header c.in_ok-header.ensures.lookup.3.0 (sym (c.in_ok-header.ensures.lookup.3.1 0)) (omega arith) in
    IfSome_then c.whole_packed.result c.whole_packed.ensures.opens (λ opened opens wanted enough.
    opens_packed bytes place c.args.width wanted header (place + 1) opened (λ i. omega (arith, c.type_inv.bytes i)) at c.if-header-eq1.true (opens wanted enough))

pub returns-else-header-eq1-clause-opens : goal.returns-else-header-eq1-clause-opens
returns-else-header-eq1-clause-opens c =
    let bytes = c.args.bytes.now in
    let place = c.args.place in
    let header = c.in_ok-header.field-0.now in
    let at = short_header bytes place header c.in_ok-header.ensures.lookup.3.0 (sym (c.in_ok-header.ensures.lookup.3.1 0)) (omega arith) in
    IfSome_then c.whole_repeated.result c.whole_repeated.ensures.opens (λ opened opens wanted enough.
    opens_repeated bytes place c.args.width wanted header (place + 1) opened (λ i. omega (arith, c.type_inv.bytes i)) at c.if-header-eq1.false (opens wanted enough))
