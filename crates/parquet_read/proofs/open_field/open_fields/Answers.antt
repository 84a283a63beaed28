use Rattle.std.proofs.Common.{◌∙◌, Vec, Global, length, map, sym, ap, rules, arith}
use Rattle.std.proofs.lemmas.Bool.{and_parts}
use Rattle.std.proofs.lemmas.List.{length_push, map_push}
use Rattle.std.proofs.lemmas.Result.{err_from_is_err_and}
use Rattle.flat_binary.specs.declared.array_iter.ArrayIter.{ArrayIter}
use Rattle.parquet_meta.proofs.EachLemmas.{each_ends, each_goes_on, each_refused}
use Rattle.parquet_read.specs.Asked.{GroupReading, asked_causes, asked_left, asked_length, asked_outline, fields_causes}
use Rattle.parquet_read.specs.Opening.{Outline, outline_of}
use Rattle.parquet_read.specs.RowGroup.{iter_left}
use Rattle.parquet_read.specs.declared.column_pages.ColumnPages.{ColumnPages}
use Rattle.parquet_read.proofs.AskedLemmas.{causes_on, no_items}
use Rattle.parquet_read.proofs.FoundLemmas.{nil_parts}
use Rattle.parquet_read.proofs.OutlineLemmas.{all_made, one_more}
use Rattle.parquet_read.proofs.PlaceLemmas.{shaped_pages}
use Rattle.parquet_read.proofs.open_field.open_fields.Goals as goal

abbrev Arrays : Type 0
Arrays = Vec (ArrayIter ColumnPages) Global

abbrev known : ArrayIter ColumnPages → Outline
known own = outline_of (iter_left own)

pub open_field-requires : goal.open_field-requires
open_field-requires g c =
    let reading : GroupReading = record { group = c.args.group.now; size = c.args.chunk_size; limit = c.args.limit } in
    let steps = rw c.in-Some.is at c.next.ensures.steps in
    let others = c.next.new.self.rest.items in
    let shaped = rw steps.0 at c.fields.invariant.shaped in
    let causes = sym (causes_on reading c.fields.field-iterator.rest.items others c.in-Some.field steps.0) ∙ c.fields.invariant.readable in
    record { size = c.requires.size; shaped = shaped_pages c.in-Some.field.1 (and_parts _ _ shaped).0; readable = (nil_parts (asked_causes reading c.in-Some.field) (fields_causes reading others) causes).0 }

pub returns-in_err-open_field-clause-found : goal.returns-in_err-open_field-clause-found
returns-in_err-open_field-clause-found g c =
    let reading : GroupReading = record { group = c.args.group.now; size = c.args.chunk_size; limit = c.args.limit } in
    let steps = rw c.in-Some.is at c.next.ensures.steps in
    let opening = rw steps.0 at c.fields.invariant.opening in
    let p = err_from_is_err_and c.from_residual.result c.from_residual.ensures.1 in
    rw (p.1, p.2)
    (each_refused iter_left (λ (arrays : Arrays). map iter_left arrays.items) (asked_left reading) (asked_length reading) (g.S.Source.told c.args.source.now) (g.S.Source.told c.fields.source)
    c.args.asked.items c.next.new.self.rest.items c.in-Some.field _ _ _ _ _ _ _ opening c.fields.invariant.keeps.later c.fields.invariant.keeps.same c.in_err-open_field.ensures.found)

pub fields-preserved : goal.fields-preserved
fields-preserved g c =
    let reading : GroupReading = record { group = c.args.group.now; size = c.args.chunk_size; limit = c.args.limit } in
    let steps = rw c.in-Some.is at c.next.ensures.steps in
    let others = c.next.new.self.rest.items in
    let opening = rw steps.0 at c.fields.invariant.opening in
    let shaped = rw steps.0 at c.fields.invariant.shaped in
    let each = rw steps.0 at c.fields.invariant.each in
    let outlines = rw steps.0 at c.fields.invariant.outlines in
    let causes = sym (causes_on reading c.fields.field-iterator.rest.items others c.in-Some.field steps.0) ∙ c.fields.invariant.readable in
    let found = rw c.fields.invariant.keeps.same at c.in_ok-open_field.ensures.found in
    record {
      keeps = search rules;
      quiet = c.in_ok-open_field.ensures.quiet ∙ c.fields.invariant.quiet;
      shaped = (and_parts _ _ shaped).1;
      readable = (nil_parts (asked_causes reading c.in-Some.field) (fields_causes reading others) causes).1;
      each = omega (arith, each, ap length c.in_ok-push.ensures.items, length_push c.fields.arrays.items c.in_ok-open_field.field-0);
      outlines = rw (c.in_ok-push.ensures.items, map_push)
          (one_more (map known c.fields.arrays.items) (map (asked_outline reading) others) (map (asked_outline reading) c.args.asked.items) (asked_outline reading c.in-Some.field)
          (known c.in_ok-open_field.field-0) outlines c.in_ok-open_field.ensures.outline);
      opening = rw (c.in_ok-push.ensures.items, map_push)
          (each_goes_on (asked_left reading) (asked_length reading) (g.S.Source.told c.args.source.now) c.args.asked.items others c.in-Some.field _ (iter_left c.in_ok-open_field.field-0) _ _ _
          opening found c.in_ok-open_field.ensures.taken);
    }

pub returns-clause-found : goal.returns-clause-found
returns-clause-found g c =
    let reading : GroupReading = record { group = c.args.group.now; size = c.args.chunk_size; limit = c.args.limit } in
    let none = no_items c.fields.field-iterator.rest.items (sym c.fields.field-iterator.rest.ok.0 ∙ c.in-None.ensures.steps.0) in
    let opening = rw none at c.fields.invariant.opening in
    each_ends (asked_left reading) (asked_length reading) (g.S.Source.told c.args.source.now) c.args.asked.items _ _ _ opening

pub returns-clause-each : goal.returns-clause-each
returns-clause-each g c =
    omega (arith, c.fields.invariant.each, sym c.fields.field-iterator.rest.ok.0 ∙ c.in-None.ensures.steps.0)

pub returns-clause-outlines : goal.returns-clause-outlines
returns-clause-outlines g c =
    let none = no_items c.fields.field-iterator.rest.items (sym c.fields.field-iterator.rest.ok.0 ∙ c.in-None.ensures.steps.0) in
    let reading : GroupReading = record { group = c.args.group.now; size = c.args.chunk_size; limit = c.args.limit } in
    all_made (map known c.fields.arrays.items) (map (asked_outline reading) c.fields.field-iterator.rest.items) (map (asked_outline reading) c.args.asked.items) (ap (map (asked_outline reading)) none) c.fields.invariant.outlines
