use Rattle.std.proofs.Common.{◌+◌, ◌-◌, ◌/◌, ◌%◌, ◌^◌, ◌∙◌, length, drop, ap, arith}
use Rattle.std.proofs.lemmas.List.{take_all, length-drop}
use Rattle.parquet_base.specs.Bytes.{little_endian}
use Rattle.columns_core.proofs.BitLemmas.{behind_bytes}
use Rattle.columns_core.proofs.bits.from_bit.Goals as goal

pub returns-clause-same : goal.returns-clause-same
returns-clause-same c n =
    let bytes = c.args.bytes.now in
    let at = c.args.place / 8 in
    let whole = take_all (length bytes - at) (drop at bytes) (omega (arith, length-drop at bytes)) in
    ap (λ rest. little_endian rest / 2 ^ (c.args.place % 8 + n)) whole ∙ behind_bytes bytes c.args.place n (λ i. omega (arith, c.type_inv.bytes i))
