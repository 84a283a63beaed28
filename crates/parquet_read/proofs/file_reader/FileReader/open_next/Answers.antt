use Rattle.std.proofs.Common.{refl, subst, Some}
use Rattle.parquet_read.specs.GroupReader.{NextGroup}
use Rattle.parquet_read.proofs.file_reader.FileReader.open_next.Goals as goal

pub returns-in-Ok : goal.returns-in-Ok
returns-in-Ok g c = (
  c.in-Ok.group,
  record {
    over = c.requires;
    next = subst (λ found. NextGroup g.S.Source c.args.self.now.groups (Some found) c.next_group.new.self) c.in-Ok.is c.in_ok-group.ensures;
    group = refl;
    lent = c.lent-self.ensures;
  },
)
