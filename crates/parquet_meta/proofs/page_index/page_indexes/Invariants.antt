use Rattle.parquet_meta.proofs.PageIndexLemmas.{IsTyping}
use Rattle.parquet_meta.proofs.page_index.page_indexes.Given as goal

abbrev pub invariant-loop-page : goal.invariant-loop-page
invariant-loop-page g l = IsTyping (g.F.EndForm.end l.form) l.index l.page l.pages.items
