use Rattle.inspect_program.proofs.CarriedLemmas.{index_carried}
use Rattle.inspect_program.proofs.EndLemmas.{ends_read}
use Rattle.inspect_program.proofs.pages.ends_of_pages.Goals as goal

pub returns-clause-reads : goal.returns-clause-reads
returns-clause-reads g c =
    ends_read c.args.data_type.now c.args.column.now c.in_ok-index.index c.index_ends.result c.in_ok-index.ensures.keeps c.in_ok-index.ensures.quiet
    c.in_ok-index.ensures.found.2 c.index_ends.ensures.ok c.index_ends.ensures.cause

pub returns-clause-carried : goal.returns-clause-carried
returns-clause-carried g c =
    index_carried c.args.column.now.descriptor c.args.data_type.now c.in_ok-index.index c.index_ends.result c.requires c.index_ends.ensures.cause
