use Rattle.std.proofs.Common.{◌≡◌, ap}
use Rattle.parquet_thrift.specs.Cursor.{Cursor}
use Rattle.parquet_thrift.specs.Values.{in_struct}
use Rattle.parquet_meta.specs.Front.{value_in}
use Rattle.parquet_meta.specs.Meaning.{by_rule, made, struct_of}
use Rattle.parquet_meta.proofs.FrontLemmas.{makes-first}
use Rattle.parquet_meta.proofs.front.decode_front.Goals as goal

pub returns : goal.returns
unfolding value_in
returns g c =
    let rest : c.new-compact.result.rest ≡ c.args.bytes.now = ap (λ (s : Cursor). s.rest) c.new-compact.ensures in
    makes-first g.M.Memory.may_want (by_rule in_struct (made (struct_of g.S.Structure.field c.args.start) g.S.Make.make) 12) c.args.bytes.now c.new-compact.result c.decode_made_struct.result c.decode_made_struct.new.compact
    rest (c.decode_made_struct.ensures in_struct)
