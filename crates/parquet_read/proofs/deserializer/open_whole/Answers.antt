use Rattle.parquet_read.proofs.OpenLemmas.{whole_opens}
use Rattle.parquet_read.proofs.deserializer.open_whole.Goals as goal

pub returns : goal.returns
returns c = λ nulls. whole_opens nulls (c.args.column.now, c.args.bytes.items) _ c.in_ok-new.ensures.lends c.in_ok-new.ensures.typed c.in_ok-new.ensures.ordered c.in_ok-new.ensures.rows c.in_ok-new.ensures.lent
