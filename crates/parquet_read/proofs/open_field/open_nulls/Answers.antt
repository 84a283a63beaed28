use Rattle.std.proofs.Common.{◌≡◌, List, Option, Some, sym, subst}
use Rattle.std.specs.Prelude.{IfOk}
use Rattle.parquet_page.specs.declared.page.FilteredPage.{FilteredPage}
use Rattle.parquet_read.specs.Opening.{opened_left}
use Rattle.parquet_read.specs.RowGroup.{iter_left}
use Rattle.parquet_read.proofs.ColumnLemmas.{nulls_begin}
use Rattle.parquet_read.proofs.open_field.open_nulls.Goals as goal

pub returns-in-Some-clause-begins : goal.returns-in-Some-clause-begins
returns-in-Some-clause-begins c = λ bytes.
    let data_type = c.args.field.data_type in
    let size = c.args.chunk_size in
    let rows = c.args.rows in
    let column = c.args.column.now in
    let result = c.open_listed.result in
    let nothing = c.new-nothing.result.items in
    nulls_begin iter_left data_type size rows c.args.pages column nothing bytes result c.requires.nulls
    (subst (λ (o : Option (List FilteredPage)). IfOk result (λ arrays. Some (iter_left arrays) ≡ opened_left data_type size rows o (column, nothing))) (sym c.in-Some.is) c.open_listed.ensures.begins)

pub returns-in-None-clause-begins : goal.returns-in-None-clause-begins
returns-in-None-clause-begins c = λ bytes.
    let data_type = c.args.field.data_type in
    let size = c.args.chunk_size in
    let rows = c.args.rows in
    let column = c.args.column.now in
    let result = c.open_whole.result in
    let nothing = c.new.result.items in
    nulls_begin iter_left data_type size rows c.args.pages column nothing bytes result c.requires.nulls
    (subst (λ (o : Option (List FilteredPage)). IfOk result (λ arrays. Some (iter_left arrays) ≡ opened_left data_type size rows o (column, nothing))) (sym c.in-None.is) c.open_whole.ensures.begins)
