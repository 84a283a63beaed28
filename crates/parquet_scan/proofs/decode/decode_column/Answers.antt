use Rattle.columns_core.specs.DictionaryType.{key_type}
use Rattle.flat_binary.specs.Left.{supply_of}
use Rattle.flat_binary.proofs.PageLists.{ordered_for, stored_as}
use Rattle.parquet_scan.proofs.DecodeLemmas.{is_decoded}
use Rattle.parquet_scan.proofs.decode.decode_column.Goals as goal

pub collect_column-requires-clause-typed : goal.collect_column-requires-clause-typed
collect_column-requires-clause-typed g c = stored_as c.args.stored.now (g.I.Pages.to_come c.args.pages) c.requires.typed

pub collect_column-requires-clause-ordered : goal.collect_column-requires-clause-ordered
collect_column-requires-clause-ordered g c = ordered_for (key_type c.in_ok-own_type.own_type) (g.I.Pages.to_come c.args.pages) c.requires.ordered

pub returns-clause-typed : goal.returns-clause-typed
returns-clause-typed g c =
    let supply = supply_of g.I.Pages.to_come g.I.Pages.causes g.I.Pages.row_count g.I.Pages.lent_count c.args.pages in
    (is_decoded (λ found. found.0.items) (λ found. found.1) c.args.stored.now c.args.data_type.now _ c.args.chunk_size c.args.num_rows supply c.collect_column.result c.args.steps.now c.collect_column.new.steps c.requires.pair c.requires.not_null c.in_ok-own_type.ensures.copy c.collect_column.ensures.collects).typed

pub returns-clause-chunks : goal.returns-clause-chunks
returns-clause-chunks g c =
    let supply = supply_of g.I.Pages.to_come g.I.Pages.causes g.I.Pages.row_count g.I.Pages.lent_count c.args.pages in
    (is_decoded (λ found. found.0.items) (λ found. found.1) c.args.stored.now c.args.data_type.now _ c.args.chunk_size c.args.num_rows supply c.collect_column.result c.args.steps.now c.collect_column.new.steps c.requires.pair c.requires.not_null c.in_ok-own_type.ensures.copy c.collect_column.ensures.collects).chunks

pub returns-clause-fits : goal.returns-clause-fits
returns-clause-fits g c =
    let supply = supply_of g.I.Pages.to_come g.I.Pages.causes g.I.Pages.row_count g.I.Pages.lent_count c.args.pages in
    (is_decoded (λ found. found.0.items) (λ found. found.1) c.args.stored.now c.args.data_type.now _ c.args.chunk_size c.args.num_rows supply c.collect_column.result c.args.steps.now c.collect_column.new.steps c.requires.pair c.requires.not_null c.in_ok-own_type.ensures.copy c.collect_column.ensures.collects).fits

pub returns-clause-cause : goal.returns-clause-cause
returns-clause-cause g c =
    let supply = supply_of g.I.Pages.to_come g.I.Pages.causes g.I.Pages.row_count g.I.Pages.lent_count c.args.pages in
    (is_decoded (λ found. found.0.items) (λ found. found.1) c.args.stored.now c.args.data_type.now _ c.args.chunk_size c.args.num_rows supply c.collect_column.result c.args.steps.now c.collect_column.new.steps c.requires.pair c.requires.not_null c.in_ok-own_type.ensures.copy c.collect_column.ensures.collects).cause

pub returns-clause-later : goal.returns-clause-later
returns-clause-later g c =
    let supply = supply_of g.I.Pages.to_come g.I.Pages.causes g.I.Pages.row_count g.I.Pages.lent_count c.args.pages in
    (is_decoded (λ found. found.0.items) (λ found. found.1) c.args.stored.now c.args.data_type.now _ c.args.chunk_size c.args.num_rows supply c.collect_column.result c.args.steps.now c.collect_column.new.steps c.requires.pair c.requires.not_null c.in_ok-own_type.ensures.copy c.collect_column.ensures.collects).later

pub returns-clause-count : goal.returns-clause-count
returns-clause-count g c =
    let supply = supply_of g.I.Pages.to_come g.I.Pages.causes g.I.Pages.row_count g.I.Pages.lent_count c.args.pages in
    (is_decoded (λ found. found.0.items) (λ found. found.1) c.args.stored.now c.args.data_type.now _ c.args.chunk_size c.args.num_rows supply c.collect_column.result c.args.steps.now c.collect_column.new.steps c.requires.pair c.requires.not_null c.in_ok-own_type.ensures.copy c.collect_column.ensures.collects).counted

pub returns-clause-lent : goal.returns-clause-lent
returns-clause-lent g c =
    let supply = supply_of g.I.Pages.to_come g.I.Pages.causes g.I.Pages.row_count g.I.Pages.lent_count c.args.pages in
    (is_decoded (λ found. found.0.items) (λ found. found.1) c.args.stored.now c.args.data_type.now _ c.args.chunk_size c.args.num_rows supply c.collect_column.result c.args.steps.now c.collect_column.new.steps c.requires.pair c.requires.not_null c.in_ok-own_type.ensures.copy c.collect_column.ensures.collects).lent
