use Rattle.std.proofs.Common.{◌∙◌, sym}
use Rattle.columns_core.specs.declared.error.Part.TheVariants as part
use Rattle.parquet_scan.proofs.CallLemmas.{keeps_itself, refused}
use Rattle.parquet_scan.proofs.ReadLemmas.{part_fails, part_fine, part_found, part_outside_fails}
use Rattle.parquet_scan.proofs.located.read_part.Goals as goal

pub returns-then-not-lies_in-clause-reads : goal.returns-then-not-lies_in-clause-reads
returns-then-not-lies_in-clause-reads g c =
    refused keeps_itself (part_outside_fails (g.S.Source.told c.args.source.now) (g.S.Source.faults c.args.source.now) (g.S.Source.faults c.args.source.now) c.args.chunk c.args.part part.Location (sym c.lies_in.ensures ∙ c.if-not-lies_in.true))

pub returns-clause-part : goal.returns-clause-part
returns-clause-part g c =
    part_found (λ bytes. bytes.items) (g.S.Source.told c.args.source.now) (g.S.Source.faults c.args.source.now) (g.S.Source.faults c.read_exact_at.new.source) c.args.chunk c.args.part c.read_exact_at.result (sym c.lies_in.ensures ∙ c.if-not-lies_in.false) c.read_exact_at.ensures.part

pub returns-clause-reads : goal.returns-clause-reads
returns-clause-reads g c = record {
  keeps = c.read_exact_at.ensures.keeps;
  quiet = c.read_exact_at.ensures.quiet;
  ok = part_fine (λ bytes. bytes.items) (g.S.Source.told c.args.source.now) (g.S.Source.faults c.args.source.now) (g.S.Source.faults c.read_exact_at.new.source) c.args.chunk c.args.part c.read_exact_at.result (sym c.lies_in.ensures ∙ c.if-not-lies_in.false) c.read_exact_at.ensures.part;
  fails = part_fails (λ bytes. bytes.items) (g.S.Source.told c.args.source.now) (g.S.Source.faults c.args.source.now) (g.S.Source.faults c.read_exact_at.new.source) c.args.chunk c.args.part c.read_exact_at.result (sym c.lies_in.ensures ∙ c.if-not-lies_in.false) c.read_exact_at.ensures.part;
}
