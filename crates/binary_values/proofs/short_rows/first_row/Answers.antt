use Rattle.binary_values.proofs.FirstRowLemmas.{lowest}
use Rattle.binary_values.proofs.short_rows.first_row.Goals as goal

pub returns-clause-null : goal.returns-clause-null
returns-clause-null c = (lowest 32 c.args.bits c.requires c.ranges.bits.fits).1.null

pub returns-clause-present : goal.returns-clause-present
returns-clause-present c = (lowest 32 c.args.bits c.requires c.ranges.bits.fits).1.present

pub returns-clause-others : goal.returns-clause-others
returns-clause-others c = (lowest 32 c.args.bits c.requires c.ranges.bits.fits).1.behind
