use Rattle.std.proofs.Common.{Vec, Global, List, length, map, arith}
use Rattle.std.proofs.lemmas.Bool.{and_parts}
use Rattle.std.proofs.lemmas.Result.{err_from_is_err_and}
use Rattle.flat_binary.specs.declared.array_iter.ArrayIter.{ArrayIter}
use Rattle.flat_values.specs.ColumnLeft.{ColumnLeft}
use Rattle.parquet_read.specs.Asked.{are_shaped_pages, asked_fields, fields_left, group_reading, have_one_list, is_chunk_size, is_legal_reading, is_readable, lists_of}
use Rattle.parquet_read.specs.RowGroup.{group_left, iter_left}
use Rattle.parquet_read.specs.declared.column_pages.ColumnPages.{ColumnPages}
use Rattle.parquet_read.specs.declared.row_group.RowGroupDeserializer.{RowGroupDeserializer}
use Rattle.parquet_read.proofs.FoundLemmas.{finds_err, told_all}
use Rattle.parquet_read.proofs.OpenedGroupLemmas.{columns_opened, group_opens, none_made, surely}
use Rattle.parquet_read.proofs.groups.open_group.Goals as goal

abbrev lefts : Vec (ArrayIter ColumnPages) Global → List ColumnLeft
lefts arrays = map iter_left arrays.items

abbrev columns_left : RowGroupDeserializer → List ColumnLeft
columns_left group = (group_left group).columns

pub returns-in_err-columns-clause-opens : goal.returns-in_err-columns-clause-opens
returns-in_err-columns-clause-opens g c =
    let p = err_from_is_err_and c.from_residual.result c.from_residual.ensures.1 in
    let told = g.S.Source.told c.args.source.now in
    let before = g.S.Source.faults c.args.source.now in
    let now = g.S.Source.faults c.read_columns_many.new.source in
    let all = fields_left (group_reading c.args.group.now c.args.chunk_size c.args.limit) (asked_fields c.args.limit c.args.fields.items (lists_of c.args.pages)) in
    let e = c.in_err-columns.field-0.0 in
    rw (p.1, p.2) (record {
      readable = tt;
      columns = tt;
      each = tt;
      typed = tt;
      sized = tt;
      counted = tt;
      fresh = tt;
      rows = tt;
      wanted = tt;
      refused = λ not. (c.in_err-columns.ensures.refused not).1;
      failed = λ readable. finds_err lefts columns_left all all told before before now e (omega arith) (told_all told (λ file none. none)) (c.in_err-columns.ensures.found readable);
    })

pub returns-clause-opens : goal.returns-clause-opens
returns-clause-opens g c =
    let told = g.S.Source.told c.args.source.now in
    let before = g.S.Source.faults c.args.source.now in
    let now = g.S.Source.faults c.read_columns_many.new.source in
    let reading = group_reading c.args.group.now c.args.chunk_size c.args.limit in
    let fields = c.args.fields.items in
    let lists = lists_of c.args.pages in
    let columns = c.in_ok-columns.columns in
    let readable = surely (is_readable reading fields lists) (λ not. (c.in_ok-columns.ensures.refused not).1) in
    let legal = (and_parts (is_legal_reading c.args.chunk_size (length fields) lists) _ readable).0 in
    let shaped = (and_parts (have_one_list (length fields) lists) (are_shaped_pages lists) (and_parts (is_chunk_size c.args.chunk_size) _ legal).1).1 in
    let all = c.in_ok-columns.ensures in
    let opened = columns_opened iter_left reading fields lists columns.items all.each all.typed all.sized all.counted all.fresh in
    group_opens group_left told before now reading fields lists (lefts columns) c.rows_of_group-rows.result c.new.result readable (c.in_ok-columns.ensures.found readable)
    opened c.requires (c.rows_of_group-rows.ensures shaped) c.new.ensures.group (none_made iter_left columns.items c.new.result c.new.ensures.err)
