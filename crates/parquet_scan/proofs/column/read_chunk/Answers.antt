use Rattle.std.proofs.Common.{sym, ◌∙◌, subst, ℕ, Vec, Global}
use Rattle.parquet_meta.specs.Places.{part_at}
use Rattle.parquet_meta.specs.Source.{Finds}
use Rattle.parquet_scan.proofs.ReadLemmas.{gives_chunk, fails_by}
use Rattle.parquet_scan.proofs.column.read_chunk.Goals as goal

pub returns-clause-chunk : goal.returns-clause-chunk
returns-clause-chunk g c =
    gives_chunk (λ bytes. bytes.items) (g.S.Source.told c.args.source.now) (g.S.Source.faults c.args.source.now) (g.S.Source.faults c.read_range.new.source) c.args.group.now c.args.column.now c.read_range.result
    c.in_ok-check_chunk.ensures.ok (sym c.has_each_value.ensures ∙ c.if-not-has_each_value.false)
    (subst (λ (range : ℕ × ℕ). Finds (λ (bytes : Vec ℕ Global). bytes.items) (λ file. part_at file (record { offset = range.0; length = range.1 })) (g.S.Source.told c.args.source.now) (g.S.Source.faults c.args.source.now) (g.S.Source.faults c.read_range.new.source) c.read_range.result) c.byte_range-offset.ensures c.read_range.ensures.part)

pub returns-clause-fails : goal.returns-clause-fails
returns-clause-fails g c =
    fails_by (λ bytes. bytes.items) (g.S.Source.told c.args.source.now) (g.S.Source.faults c.args.source.now) (g.S.Source.faults c.read_range.new.source) c.args.group.now c.args.column.now c.read_range.result
    c.in_ok-check_chunk.ensures.ok (sym c.has_each_value.ensures ∙ c.if-not-has_each_value.false)
    (subst (λ (range : ℕ × ℕ). Finds (λ (bytes : Vec ℕ Global). bytes.items) (λ file. part_at file (record { offset = range.0; length = range.1 })) (g.S.Source.told c.args.source.now) (g.S.Source.faults c.args.source.now) (g.S.Source.faults c.read_range.new.source) c.read_range.result) c.byte_range-offset.ensures c.read_range.ensures.part)
