use Rattle.std.proofs.Common.{◌≡◌, arith}
use Rattle.std.proofs.lemmas.Result.{err_from_is_err_and}
use Rattle.page_decoding.specs.Queue.{IsChunkSize}
use Rattle.flat_values.specs.ColumnLeft.{ColumnLeft}
use Rattle.flat_values.specs.Pairs.{conversion}
use Rattle.flat_binary.specs.Begun.{column_left}
use Rattle.flat_binary.specs.Collected.{Collects}
use Rattle.flat_binary.specs.Layers.{array_left}
use Rattle.flat_binary.specs.Left.{supply_of}
use Rattle.flat_binary.proofs.ColumnLemmas.{as_begun, begun_has, has_size, none_begun, none_lent}
use Rattle.flat_binary.proofs.column.collect_column.Goals as goal

pub collect_counted-requires : goal.collect_counted-requires
collect_counted-requires g c =
    let supply = supply_of g.I.Pages.to_come g.I.Pages.causes g.I.Pages.row_count g.I.Pages.lent_count c.args.pages in
    let left = array_left g.I.Pages.to_come g.I.Pages.causes g.I.Pages.row_count g.I.Pages.lent_count in
    let physical = c.args.type_.now.physical_type in
    let own = column_left physical c.args.data_type c.args.chunk_size c.args.num_rows supply in
    let rule = conversion c.args.type_.now c.args.data_type in
    let begins = c.in_ok-arrays.ensures.begins c.requires.size in
    let refused = c.in_ok-arrays.ensures.refused c.requires.size in
    record {
      size = begun_has left own (λ left. IsChunkSize left.size) rule c.in_ok-arrays.arrays begins refused (λ rule. has_size physical c.args.data_type c.args.chunk_size c.args.num_rows supply rule c.requires.size);
      fresh = begun_has left own (λ left. left.lent ≡ 0) rule c.in_ok-arrays.arrays begins refused (λ rule. none_lent physical c.args.data_type c.args.chunk_size c.args.num_rows supply rule c.requires.fresh);
    }

pub returns-in_err-arrays : goal.returns-in_err-arrays
returns-in_err-arrays g c =
    let p = err_from_is_err_and c.from_residual.result c.from_residual.ensures.1 in
    let supply = supply_of g.I.Pages.to_come g.I.Pages.causes g.I.Pages.row_count g.I.Pages.lent_count c.args.pages in
    let left = array_left g.I.Pages.to_come g.I.Pages.causes g.I.Pages.row_count g.I.Pages.lent_count in
    let own = column_left c.args.type_.now.physical_type c.args.data_type c.args.chunk_size c.args.num_rows supply in
    let rule = conversion c.args.type_.now c.args.data_type in
    rw (p.1, p.2) (record {
      collects = none_begun left own (λ found. found.0.items) (λ found. found.1) rule c.in_err-arrays.field-0.0 c.args.steps.now (c.in_err-arrays.ensures.begins c.requires.size);
      refused = λ none. (c.in_err-arrays.ensures.refused c.requires.size none, omega arith);
    })

pub returns : goal.returns
returns g c =
    let supply = supply_of g.I.Pages.to_come g.I.Pages.causes g.I.Pages.row_count g.I.Pages.lent_count c.args.pages in
    let left = array_left g.I.Pages.to_come g.I.Pages.causes g.I.Pages.row_count g.I.Pages.lent_count in
    let own = column_left c.args.type_.now.physical_type c.args.data_type c.args.chunk_size c.args.num_rows supply in
    let C : ColumnLeft → Type 0 = λ left. Collects (λ found. found.0.items) (λ found. found.1) left c.collect_counted.result c.args.steps.now c.collect_counted.new.steps in
    record {
      collects = as_begun left own C (conversion c.args.type_.now c.args.data_type) c.in_ok-arrays.arrays (c.in_ok-arrays.ensures.begins c.requires.size) c.collect_counted.ensures.collects;
      refused = λ none. absurd (c.in_ok-arrays.ensures.refused c.requires.size none);
    }
