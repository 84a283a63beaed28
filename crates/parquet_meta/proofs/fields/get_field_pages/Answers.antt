use Rattle.std.proofs.Common.{inl, inr}
use Rattle.parquet_meta.proofs.FieldLemmas.{all_beside}
use Rattle.parquet_meta.proofs.fields.get_field_pages.Goals as goal

pub returns-clause-found : goal.returns-clause-found
returns-clause-found g c =
    all_beside c.args.field_name.now c.loop-column.column-iterator.a.rest.now c.loop-column.column-iterator.b.rest.now _ _
    (elim c.in-None.ensures.steps [ inl h ↦ inl h.1.0 | inr h ↦ inr h.1.0 ]) c.loop-column.invariant
