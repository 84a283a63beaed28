use Rattle.std.proofs.Common.{◌∙◌, ap}
use Rattle.std.specs.Prelude.{slice_get}
use Rattle.parquet_meta.specs.Indexes.{field_columns}
use Rattle.inspect_program.proofs.IndexLemmas.{index_found, own_column}
use Rattle.inspect_program.proofs.pages.index_of.Goals as goal

pub returns-in-Some-pop-clause-found : goal.returns-in-Some-pop-clause-found
returns-in-Some-pop-clause-found g c =
    let name = c.in-Some.name.now in
    let column = c.args.column.now in
    let own = own_column name column (c.in-Some.ensures.value ∙ ap (λ path. slice_get path 0) c.as_slice.ensures) in
    index_found (g.S.Source.told c.args.source.now) (field_columns c.as_str.result.now c.from_ref.result.now) column c.in_ok-indexes.indexes.items c.pop.new.self.items c.in-Some-pop.index
    ((λ i. field_columns (c.as_str.ensures i) (c.from_ref.ensures.value i)) ∙ own) c.in-Some-pop.ensures.items c.in_ok-indexes.ensures.found
