use Rattle.std.proofs.Common.{◌≡◌, ◌∙◌, ap, subst, sym}
use Rattle.parquet_page.specs.Lending.{AreOfType, has_data_behind}
use Rattle.parquet_page.specs.Lent.{Lent}
use Rattle.parquet_page.proofs.CursorLemmas.{lends_chunk}
use Rattle.parquet_page.proofs.ReaderLemmas.{chunk_ordered, chunk_pages_are}
use Rattle.parquet_page.proofs.reader.PageReader.new.Goals as goal

pub returns-clause-lends : goal.returns-clause-lends
returns-clause-lends c =
    rw (c.new.ensures.chunk, c.new.ensures.place, c.new.ensures.left, c.new.ensures.first)
    (lends_chunk c.args.column.now.descriptor.primitive_type c.args.column.now.num_values c.args.buffer.items)

pub returns-clause-typed : goal.returns-clause-typed
returns-clause-typed c =
    let type = c.args.column.now.descriptor.primitive_type in
    subst (λ (lent : Lent). AreOfType type lent.pages) (sym (returns-clause-lends c)) (chunk_pages_are (λ page. page.type ≡ type) type (λ page same. same) c.args.column.now.num_values c.args.buffer.items)

pub returns-clause-ordered : goal.returns-clause-ordered
returns-clause-ordered c =
    let type = c.args.column.now.descriptor.primitive_type in
    ap (λ (lent : Lent). has_data_behind lent.pages) (returns-clause-lends c) ∙ chunk_ordered type c.args.column.now.num_values c.args.buffer.items
