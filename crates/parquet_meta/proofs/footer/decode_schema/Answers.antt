use Rattle.std.proofs.Common.{true}
use Rattle.std.proofs.lemmas.Result.{err_from_is_err_and}
use Rattle.parquet_thrift.specs.Values.{in_struct}
use Rattle.parquet_meta.specs.Footer.{schema}
use Rattle.parquet_meta.specs.Meaning.{list_of}
use Rattle.parquet_meta.specs.Schema.{element}
use Rattle.parquet_meta.specs.Tree.{leaves}
use Rattle.parquet_meta.proofs.Steps.{made_refuses, made_gives}
use Rattle.parquet_meta.proofs.footer.decode_schema.Goals as goal

pub returns-in_err-elements : goal.returns-in_err-elements
unfolding schema
returns-in_err-elements c =
    let p = err_from_is_err_and c.from_residual.result c.from_residual.ensures.1 in
    rw (p.1, p.2) (made_refuses true in_struct (list_of element) leaves c.args.kind c.args.compact.now.rest _ c.in_err-elements.ensures)

pub returns : goal.returns
unfolding schema
returns c =
    let read = c.in_ok-elements.ensures in
    made_gives true in_struct (list_of element) leaves c.args.kind c.args.compact.now c.in_ok-elements.elements c.decode_list_field.new.compact c.read_leaves.result read.0 read.1
    (rw c.as_slice.ensures at c.read_leaves.ensures)
