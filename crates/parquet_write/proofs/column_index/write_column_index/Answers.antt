use Rattle.std.proofs.Common.{◌≡◌, ℕ, List, ◌++◌, refl, sym, ◌∙◌, length, map}
use Rattle.std.proofs.lemmas.List.{length-map}
use Rattle.parquet_thrift.specs.Values.{Value, binary, number, truth}
use Rattle.compact_write.specs.Fields.{values_of}
use Rattle.compact_write.specs.Written.{elements_bytes, fields_bytes, value_count}
use Rattle.compact_write.proofs.FieldLemmas.{value_count-values}
use Rattle.parquet_plain.specs.Structs.{column_index_bytes, column_index_fields}
use Rattle.parquet_write.specs.Told.{greatest_told, index_told, is_null_page, least_told, nulls_told}
use Rattle.parquet_write.specs.declared.facts.PageFacts.{PageFacts}
use Rattle.parquet_write.proofs.StepLemmas.{ends, list_begins, part, small}
use Rattle.parquet_write.proofs.column_index.write_column_index.Goals as goal

counted : {B : Type 0} (value : B → Value) (f : PageFacts → B) (pages : List PageFacts) → length pages ≡ value_count (values_of value (map f pages))
counted value f pages = sym (value_count-values value (map f pages) ∙ length-map pages f)

pub returns : goal.returns
unfolding column_index_bytes
returns c =
    let pages : List PageFacts = c.args.pages.now in
    let whole : List ℕ = c.args.out.now.items ++ column_index_bytes (index_told pages) in
    let s0 : c.args.out.now.items ++ fields_bytes 0 (column_index_fields (index_told pages)) ≡ whole = refl in
    let s1 = list_begins 0 1 1 (length pages) (values_of truth (map is_null_page pages)) _ _ _ whole (counted truth is_null_page pages) s0 c.in_ok-write_list_start.ensures.written in
    let s2 = part (elements_bytes (values_of truth (map is_null_page pages))) _ _ _ whole s1 c.in_ok-write_null_pages.ensures.written in
    let s3 = list_begins 1 2 8 (length pages) (values_of binary (map least_told pages)) _ _ _ whole (counted binary least_told pages) s2 c.in_ok-write_list_start-2.ensures.written in
    let s4 = part (elements_bytes (values_of binary (map least_told pages))) _ _ _ whole s3 c.in_ok-write_least.ensures.written in
    let s5 = list_begins 2 3 8 (length pages) (values_of binary (map greatest_told pages)) _ _ _ whole (counted binary greatest_told pages) s4 c.in_ok-write_list_start-3.ensures.written in
    let s6 = part (elements_bytes (values_of binary (map greatest_told pages))) _ _ _ whole s5 c.in_ok-write_greatest.ensures.written in
    let s7 = small 3 4 0 0 _ _ _ whole refl s6 c.in_ok-write_count_field.ensures.written in
    let s8 = list_begins 4 5 6 (length pages) (values_of number (map nulls_told pages)) _ _ _ whole (counted number nulls_told pages) s7 c.in_ok-write_list_start-4.ensures.written in
    let s9 = part (elements_bytes (values_of number (map nulls_told pages))) _ _ _ whole s8 c.in_ok-write_null_counts.ensures.written in
    record { written = ends 5 _ _ whole s9 c.in_ok-write_end.ensures.written }
