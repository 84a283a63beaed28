use Rattle.std.proofs.Common.{◌≡◌, ◌∙◌, ◌++◌, Bool, List, [], Vec, Global, sym, subst, Option, ℕ}
use Rattle.std.specs.Prelude.{IfSome, option_map}
use Rattle.std.proofs.lemmas.Result.{err_from_is_err_and}
use Rattle.columns_core.specs.DictionaryType.{key_type}
use Rattle.page_decoding.specs.Queue.{IsChunkSize}
use Rattle.flat_values.specs.Pairs.{conversion}
use Rattle.flat_binary.specs.NullType.{is_null_type}
use Rattle.flat_binary.specs.Begun.{BeginsColumn, column_left}
use Rattle.flat_binary.proofs.PageLists.{ordered_for, stored_as}
use Rattle.parquet_page.specs.declared.page.FilteredPage.{FilteredPage}
use Rattle.parquet_read.specs.ColumnPages.{column_pages}
use Rattle.parquet_read.specs.Opening.{AreShaped, ChunkBytes, IsRefusal, chunk_supply, column_causes_of, location_causes, opened_supply, size_within, type_causes}
use Rattle.parquet_read.specs.RowGroup.{iter_left}
use Rattle.parquet_read.proofs.OpenLemmas.{arrays_begin, refusal_left, refusal_right, size_stays, supply_same}
use Rattle.parquet_read.proofs.deserializer.open_chunk.Goals as goal

abbrev shown : Option (Vec FilteredPage Global) → Option (List FilteredPage)
shown pages = option_map (λ (all : Vec FilteredPage Global). all.items) pages

pub returns-in_err-check_column : goal.returns-in_err-check_column
returns-in_err-check_column c =
    let p = err_from_is_err_and c.from_residual.result c.from_residual.ensures.1 in
    let column = c.args.column.now in
    let entries = shown c.args.pages in
    let rest = type_causes c.args.data_type column ++ location_causes (is_null_type c.args.data_type) (column, c.args.bytes.items) entries in
    rw (p.1, p.2) (record { legal = tt; sound = tt; begins = tt; refused = refusal_left (AreShaped entries) (column_causes_of column) rest c.in_err-check_column.field-0.0 c.in_err-check_column.ensures.cause })

pub returns-in_err-opened : goal.returns-in_err-opened
returns-in_err-opened c =
    let p = err_from_is_err_and c.from_residual-in_err-opened.result c.from_residual-in_err-opened.ensures.1 in
    let column = c.args.column.now in
    let chunk : ChunkBytes = (column, c.args.bytes.items) in
    let entries = shown c.args.pages in
    let error = c.in_err-opened.field-0.0 in
    let own = subst (λ (nulls : Bool). IsRefusal (AreShaped entries) (location_causes nulls chunk entries) error) c.is_null-nulls.ensures c.in_err-opened.ensures.refused in
    let locations = location_causes (is_null_type c.args.data_type) chunk entries in
    rw (p.1, p.2) (record {
      legal = tt;
      sound = tt;
      begins = tt;
      refused = refusal_right (AreShaped entries) (column_causes_of column) (type_causes c.args.data_type column ++ locations) error
          (refusal_right (AreShaped entries) (type_causes c.args.data_type column) locations error own);
    })

pub page_iter_to_arrays-requires : goal.page_iter_to_arrays-requires
page_iter_to_arrays-requires c =
    let pages = column_pages c.in_ok-opened.opened in
    record {
      typed = stored_as c.args.column.now.descriptor.primitive_type pages c.in_ok-opened.ensures.typed;
      ordered = ordered_for (key_type c.args.data_type) pages c.in_ok-opened.ensures.ordered;
    }

pub returns : goal.returns
returns c =
    let column = c.args.column.now in
    let chunk : ChunkBytes = (column, c.args.bytes.items) in
    let stored = column.descriptor.primitive_type in
    let entries = shown c.args.pages in
    let data_type = c.args.data_type in
    let rows = c.args.num_rows in
    let opened = c.in_ok-opened.opened in
    let open_ = c.in_ok-opened.ensures in
    let size = size_within rows c.args.chunk_size in
    let result = c.page_iter_to_arrays.result in
    let is = c.is_null-nulls.ensures in
    let begun = c.page_iter_to_arrays.ensures in
    let own_size = subst IsChunkSize (sym c.size_within.ensures) (size_stays rows c.args.chunk_size c.requires) in
    arrays_begin iter_left (AreShaped entries) (column_causes_of column) (location_causes (is_null_type data_type) chunk entries)
    (λ rule. column_left stored.physical_type data_type size rows (opened_supply opened) rule) (λ rule. column_left stored.physical_type data_type size rows (chunk_supply chunk entries) rule)
    (conversion stored data_type) result open_.shaped c.in_ok-check_column.ensures.ok
    (subst (λ (nulls : Bool). location_causes nulls chunk entries ≡ []) is open_.sound)
    (λ rule. supply_same stored.physical_type data_type size rows (opened_supply opened) (chunk_supply chunk entries) rule open_.rows (λ e. open_.supply (is ∙ e)))
    (subst (λ (own : Option ℕ). IfSome (conversion stored data_type) (λ rule. BeginsColumn iter_left (column_left stored.physical_type data_type own rows (opened_supply opened) rule) result)) c.size_within.ensures (begun.begins own_size))
    (begun.refused own_size)
