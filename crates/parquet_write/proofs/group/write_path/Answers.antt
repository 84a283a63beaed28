use Rattle.std.proofs.Common.{ℕ, List, ◌++◌, ap, ◌∙◌}
use Rattle.compact_write.specs.Written.{binary_bytes}
use Rattle.parquet_write.proofs.ListLemmas.{none_written, one_written, all_written}
use Rattle.parquet_thrift.specs.Values.{binary}
use Rattle.compact_write.specs.Written.{element_bytes}
use Rattle.parquet_write.proofs.group.write_path.Goals as goal

pub loop-name-init : goal.loop-name-init
loop-name-init c = none_written (binary) c.args.out.now.items c.args.path.now

pub loop-name-preserved : goal.loop-name-preserved
unfolding element_bytes
loop-name-preserved c =
    one_written (binary) c.args.out.now.items c.loop-name.out.items _ c.args.path.now c.loop-name.name-index c.name-item.result c.loop-name-test.true c.name-item.is c.loop-name.invariant (c.in_ok-write_binary.ensures.written ∙ ap (λ (bs : List ℕ). c.loop-name.out.items ++ binary_bytes bs) (c.as_bytes.ensures.value ∙ c.as_str.ensures))

pub returns : goal.returns
returns c = record { written = all_written (binary) c.args.out.now.items c.loop-name.out.items c.args.path.now c.loop-name.name-index c.loop-name-test.false c.loop-name.invariant }
