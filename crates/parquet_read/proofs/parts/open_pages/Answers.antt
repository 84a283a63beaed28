use Rattle.std.proofs.Common.{ℕ, Option, sym, subst}
use Rattle.std.specs.Prelude.{IfSome, is_some}
use Rattle.columns_core.specs.Causes.{NotYetImplemented}
use Rattle.columns_core.specs.DictionaryType.{key_type}
use Rattle.flat_values.specs.Pairs.{conversion}
use Rattle.flat_binary.specs.Left.{Supply}
use Rattle.page_decoding.specs.Queue.{IsChunkSize}
use Rattle.flat_binary.specs.Begun.{BeginsColumn, column_left}
use Rattle.flat_binary.proofs.PageLists.{ordered_for, stored_as}
use Rattle.parquet_read.specs.ColumnPages.{column_pages}
use Rattle.parquet_read.specs.Opening.{chunk_supply, opened_outline, opened_supply, size_within}
use Rattle.parquet_read.specs.RowGroup.{iter_left}
use Rattle.parquet_read.proofs.BeginLemmas.{pages_begin, pages_memory}
use Rattle.parquet_read.proofs.ColumnLemmas.{unless_true}
use Rattle.parquet_read.proofs.OpenLemmas.{size_stays}
use Rattle.parquet_read.proofs.OutlineLemmas.{column_outline, pages_outline}
use Rattle.parquet_read.proofs.parts.open_pages.Goals as goal

pub page_iter_to_arrays-requires : goal.page_iter_to_arrays-requires
page_iter_to_arrays-requires c = record {
  typed = stored_as c.args.column.now.descriptor.primitive_type (column_pages c.args.pages) c.requires.typed;
  ordered = ordered_for (key_type c.args.data_type) (column_pages c.args.pages) c.requires.ordered;
}

pub returns-clause-begins : goal.returns-clause-begins
returns-clause-begins c = λ entries bytes same.
    let stored = c.args.column.now.descriptor.primitive_type in
    let data_type = c.args.data_type in
    let rows = c.args.rows in
    let rule = conversion stored data_type in
    let result = c.page_iter_to_arrays.result in
    let size = size_within rows c.args.chunk_size in
    let own_size = subst IsChunkSize (sym c.size_within.ensures) (size_stays rows c.args.chunk_size c.requires.size) in
    let begins = subst (λ (own : Option ℕ). IfSome rule (λ r. BeginsColumn iter_left (column_left stored.physical_type data_type own rows (opened_supply c.args.pages) r) result)) c.size_within.ensures
    (c.page_iter_to_arrays.ensures.begins own_size) in
    pages_begin iter_left (λ r. column_left stored.physical_type data_type size rows (chunk_supply (c.args.column.now, bytes) entries) r) rule result (unless_true (is_some rule) NotYetImplemented c.requires.carried)
    (subst (λ (supply : Supply). IfSome rule (λ r. BeginsColumn iter_left (column_left stored.physical_type data_type size rows supply r) result)) same begins)

pub returns-clause-memory : goal.returns-clause-memory
returns-clause-memory c =
    let stored = c.args.column.now.descriptor.primitive_type in
    let data_type = c.args.data_type in
    let rows = c.args.rows in
    let rule = conversion stored data_type in
    let own_size = subst IsChunkSize (sym c.size_within.ensures) (size_stays rows c.args.chunk_size c.requires.size) in
    pages_memory iter_left (λ r. column_left stored.physical_type data_type c.size_within.result rows (opened_supply c.args.pages) r) rule c.page_iter_to_arrays.result (unless_true (is_some rule) NotYetImplemented c.requires.carried)
    (c.page_iter_to_arrays.ensures.begins own_size)

pub returns-clause-outline : goal.returns-clause-outline
returns-clause-outline c = λ there none.
    let stored = c.args.column.now.descriptor.primitive_type in
    let data_type = c.args.data_type in
    let rows = c.args.rows in
    let rule = conversion stored data_type in
    let result = c.page_iter_to_arrays.result in
    let size = size_within rows c.args.chunk_size in
    let supply = opened_supply c.args.pages in
    let own_size = subst IsChunkSize (sym c.size_within.ensures) (size_stays rows c.args.chunk_size c.requires.size) in
    let begins = subst (λ (own : Option ℕ). IfSome rule (λ r. BeginsColumn iter_left (column_left stored.physical_type data_type own rows supply r) result)) c.size_within.ensures
    (c.page_iter_to_arrays.ensures.begins own_size) in
    pages_outline iter_left (opened_outline data_type c.args.chunk_size rows) (λ r. column_left stored.physical_type data_type size rows supply r) rule result (unless_true (is_some rule) NotYetImplemented c.requires.carried)
    (λ r. column_outline stored.physical_type data_type size rows supply r there none) begins
