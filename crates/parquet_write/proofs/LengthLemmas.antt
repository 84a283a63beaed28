-- A footer of many columns is long.
use Rattle.std.proofs.Common.{◌≡◌, ℕ, ◌*◌, ◌^◌, ◌≤◌, false, List, [], ◌∷◌, ◌++◌, arith, length, length-append}
use Rattle.std.specs.Prelude.{nat_lt}
use Rattle.std.proofs.lemmas.Bool.{le-ltb}
use Rattle.compact_write.specs.Fields.{values_of}
use Rattle.compact_write.specs.Written.{binary_bytes, element_bytes, elements_bytes, field_header_bytes, fields_bytes, value_bytes}
use Rattle.parquet_meta.specs.declared.metadata.ColumnDescriptor.{ColumnDescriptor}
use Rattle.parquet_meta.specs.declared.metadata.FileMetaData.{FileMetaData}
use Rattle.parquet_plain.specs.Short.{is_short_footer}
use Rattle.parquet_plain.specs.Structs.{element_value, footer_bytes, root_value, schema_values, single_name}
use Rattle.parquet_plain.proofs.ShortLemmas.{and_second}
use Rattle.parquet_write.specs.Elements.{logical_bytes, type_bytes}
use Rattle.parquet_write.proofs.ElementLemmas.{element-is}

-- an element has a header of its name, and an end
element-long : (column : ColumnDescriptor) → 2 ≤ length (element_bytes (element_value column))
unfolding field_header_bytes
element-long column = rw (element-is column) (
    let logical : List ℕ = logical_bytes column.primitive_type.logical_type ++ 0 ∷ [] in
    let name : List ℕ = binary_bytes (single_name column.path_in_schema) in
    omega (
      arith,
      length-append (type_bytes column.primitive_type) (field_header_bytes 3 4 8 ++ (name ++ logical)),
      length-append (field_header_bytes 3 4 8) (name ++ logical),
      length-append name logical,
      length-append (logical_bytes column.primitive_type.logical_type) (0 ∷ []),
    ))

elements-long : (columns : List ColumnDescriptor) → 2 * length columns ≤ length (elements_bytes (values_of element_value columns))
unfolding values_of elements_bytes
elements-long [] = omega arith
elements-long (column ∷ columns) =
    omega (arith, element-long column, elements-long columns, length-append (element_bytes (element_value column)) (elements_bytes (values_of element_value columns)))

schema-long : (columns : List ColumnDescriptor) → 2 * length columns ≤ length (elements_bytes (schema_values columns))
unfolding elements_bytes
schema-long columns = omega (arith, elements-long columns, length-append (element_bytes (root_value (length columns))) (elements_bytes (values_of element_value columns)))

footer-long : (told : FileMetaData) → length (elements_bytes (schema_values told.columns)) ≤ length (footer_bytes told)
unfolding footer_bytes fields_bytes value_bytes
footer-long told = simp length-append (omega arith)

pub many_columns : (told : FileMetaData) → 2 ^ 31 ≤ length told.columns → is_short_footer told ≡ false
many_columns told many =
    let long : 2 ^ 32 ≤ length (footer_bytes told) = omega (arith, schema-long told.columns, footer-long told) in
    and_second (nat_lt told.num_rows (2 ^ 63)) (nat_lt (length (footer_bytes told)) (2 ^ 32)) (le-ltb (length (footer_bytes told)) (2 ^ 32) long)
