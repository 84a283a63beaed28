use Rattle.std.proofs.Common.{◌≡◌, ℕ, List, ◌++◌, refl, sym, ◌∙◌, length, map}
use Rattle.std.proofs.lemmas.List.{length-map}
use Rattle.std.proofs.lemmas.List.Elements.{All-nil}
use Rattle.compact_write.specs.Fields.{values_of}
use Rattle.compact_write.specs.Written.{elements_bytes, fields_bytes, value_count}
use Rattle.compact_write.proofs.FieldLemmas.{value_count-values}
use Rattle.parquet_plain.specs.Structs.{offset_index_bytes, offset_index_fields}
use Rattle.parquet_write.specs.declared.facts.PageFacts.{PageFacts}
use Rattle.parquet_write.proofs.StepLemmas.{ends, list_begins, part}
use Rattle.parquet_write.proofs.ListLemmas.{all_have, all_written_of, none_written, one_has, one_written}
use Rattle.compact_write.specs.Written.{element_bytes}
use Rattle.parquet_plain.specs.Structs.{location_value}
use Rattle.parquet_write.specs.Told.{IsTellablePage, location_told}
use Rattle.parquet_write.proofs.offset_index.write_offset_index.Goals as goal

pub loop-page-init : goal.loop-page-init
loop-page-init c = record { written = none_written (λ page. location_value (location_told page)) c.write_list_start.new.out.items c.args.pages.now; few = All-nil IsTellablePage }

pub loop-page-preserved : goal.loop-page-preserved
unfolding element_bytes
loop-page-preserved c =
    record {
      written = one_written (λ page. location_value (location_told page)) c.write_list_start.new.out.items c.loop-page.out.items _ c.args.pages.now c.loop-page.page-index c.page-item.result c.loop-page-test.true c.page-item.is
          c.loop-page.invariant.written c.in_ok-write_location.ensures.written;
      few = one_has IsTellablePage c.args.pages.now c.loop-page.page-index c.page-item.result c.loop-page-test.true c.page-item.is c.loop-page.invariant.few c.in_ok-write_location.ensures.few;
    }

pub returns : goal.returns
unfolding offset_index_bytes
returns c =
    let pages : List PageFacts = c.args.pages.now in
    let whole : List ℕ = c.args.out.now.items ++ offset_index_bytes (map location_told pages) in
    let s0 : c.args.out.now.items ++ fields_bytes 0 (offset_index_fields (map location_told pages)) ≡ whole = refl in
    let count : length pages ≡ value_count (values_of location_value (map location_told pages)) = sym (value_count-values location_value (map location_told pages) ∙ length-map pages location_told) in
    let s1 = list_begins 0 1 12 _ (values_of location_value (map location_told pages)) _ _ _ whole count s0 c.in_ok-write_list_start.ensures.written in
    let s2 = part (elements_bytes (values_of location_value (map location_told pages))) _ _ _ whole s1
    (all_written_of location_value location_told c.write_list_start.new.out.items c.loop-page.out.items pages c.loop-page.page-index c.loop-page-test.false c.loop-page.invariant.written) in
    record { written = ends 1 _ _ whole s2 c.in_ok-write_end.ensures.written; few = all_have IsTellablePage pages c.loop-page.page-index c.loop-page-test.false c.loop-page.invariant.few }
