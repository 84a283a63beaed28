use Rattle.std.proofs.Common.{◌≡◌, ◌++◌, map}
use Rattle.parquet_meta.specs.Indexes.{field_items}
use Rattle.parquet_meta.proofs.fields.get_field_pages.Given as goal

-- the items so far, and those that are left, are all of them
abbrev pub invariant-loop-column : goal.invariant-loop-column
invariant-loop-column g l = map (λ item. item.now) l.found.items ++ field_items l.field_name l.column-iterator.a.rest.now l.column-iterator.b.rest.now ≡ field_items l.field_name l.columns l.items
