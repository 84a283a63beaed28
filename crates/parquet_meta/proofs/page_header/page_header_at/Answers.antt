use Rattle.std.proofs.Common.{◌≡◌, ◌-◌, ap, length, drop, arith}
use Rattle.std.proofs.lemmas.List.{length-take, length-drop}
use Rattle.parquet_thrift.specs.Cursor.{Cursor}
use Rattle.parquet_meta.specs.PageHeader.{header}
use Rattle.parquet_meta.proofs.StructFronts.{by_struct_rule-shorter}
use Rattle.parquet_meta.proofs.page_header.page_header_at.Goals as goal

pub returns-in-Ok-clause-takes : goal.returns-in-Ok-clause-takes
unfolding header
returns-in-Ok-clause-takes c =
    let rest : c.new-compact.result.rest ≡ c.args.bytes.now = ap (λ (s : Cursor). s.rest) c.new-compact.ensures in
    let whole : c.new-compact.result.whole ≡ c.args.bytes.now = ap (λ (s : Cursor). s.whole) c.new-compact.ensures in
    let shorter = by_struct_rule-shorter header c.new-compact.result.rest (c.in-Ok.header, c.read_header.new.compact.rest) c.in-Ok.ensures.0 in
    let same = ap length c.in-Ok.ensures.1 in
    omega (arith, shorter, c.position.ensures.within, same, ap length rest, ap length whole, length-take (length c.args.bytes.now - c.position.result) (drop c.position.result c.args.bytes.now), length-drop c.position.result c.args.bytes.now)
