use Rattle.std.proofs.Common.{◌<◌, arith}
use Rattle.put_program.specs.Lines.{asked_with}
use Rattle.put_program.proofs.ProgramLemmas.{refuses_lines}
use Rattle.put_program.proofs.program.file_of.Goals as goal

pub returns-clause-refused : goal.returns-clause-refused
returns-clause-refused g c =
    let rows : 0 < c.args.page_rows = omega (arith, c.if-page_rows-eq0.false) in
    refuses_lines (asked_with c.args.name.now c.args.page_rows) (g.S.Source.told c.args.source.now) (g.S.Source.faults c.args.source.now) (g.S.Source.faults c.chunks_in.new.source)
    c.in_ok-schema.schema.fields c.as_slice.result.now c.in_ok-chunks.chunks.items c.put_file-2.result
    c.in_ok-schema.ensures c.as_slice.ensures.value rows c.in_ok-chunks.ensures.held c.put_file-2.ensures.refused
