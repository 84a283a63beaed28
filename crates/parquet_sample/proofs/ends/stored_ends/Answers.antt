use Rattle.std.proofs.Common.{ℕ, List, Option, Some, sym, ap, ◌∙◌}
use Rattle.parquet_meta.specs.declared.metadata.PhysicalType.{PhysicalType}
use Rattle.parquet_plain.specs.Bodies.{present}
use Rattle.parquet_plain.specs.Columns.{end_bytes}
use Rattle.parquet_plain.specs.Bounds.{stored_bounds}
use Rattle.parquet_sample.specs.Ends.{bounds_at, end_item}
use Rattle.parquet_sample.specs.Writing.{items_from, written_of}
use Rattle.parquet_sample.specs.declared.number_ends.NumberEnds.{NumberEnds}
use Rattle.parquet_plain.proofs.BoundLemmas.{ends-are}
use Rattle.parquet_sample.proofs.ends.stored_ends.Goals as goal

pub returns-in-None : goal.returns-in-None
returns-in-None c =
    let type : PhysicalType = (written_of c.args.column).column.type.physical_type in
    ap (λ (ends : Option NumberEnds). stored_bounds type (bounds_at c.args.column ends)) (sym c.in-None.is)
    ∙ ap (stored_bounds type) c.number_ends.ensures ∙ ends-are type (written_of c.args.column).at_most (present (items_from c.args.column c.args.first c.args.rows))

pub returns-in_ok-greatest-in-Some : goal.returns-in_ok-greatest-in-Some
returns-in_ok-greatest-in-Some c =
    let type : PhysicalType = (written_of c.args.column).column.type.physical_type in
    ap (λ (bytes : List ℕ). Some (record { least = bytes; greatest = (c.in_ok-greatest-in-Some).greatest })) (c.in_ok-least-in-Some).ensures
    ∙ ap (λ (bytes : List ℕ). Some (record { least = end_bytes type (end_item c.args.column c.in-Some.ends.least); greatest = bytes })) (c.in_ok-greatest-in-Some).ensures
    ∙ ap (λ (ends : Option NumberEnds). stored_bounds type (bounds_at c.args.column ends)) (sym c.in-Some.is)
    ∙ ap (stored_bounds type) c.number_ends.ensures ∙ ends-are type (written_of c.args.column).at_most (present (items_from c.args.column c.args.first c.args.rows))
