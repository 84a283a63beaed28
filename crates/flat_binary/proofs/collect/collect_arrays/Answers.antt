use Rattle.std.proofs.Common.{◌≡◌, ◌∙◌, ℕ, ◌+◌, ◌++◌, ◌-◌, ◌<◌, [], ◌∷◌, List, true, ap, sym, subst, arith, append_assoc, map}
use Rattle.std.specs.Prelude.{All, OnSome, Option, Result, Some, sum_by}
use Rattle.std.proofs.lemmas.List.{map-append}
use Rattle.std.proofs.lemmas.List.Elements.{All-push}
use Rattle.columns_core.specs.Array.{cells, data_type_of}
use Rattle.columns_core.specs.declared.array.Array.{Array}
use Rattle.columns_core.specs.declared.error.Error.{Error}
use Rattle.parquet_base.specs.Pieces.{cut}
use Rattle.page_decoding.specs.Bytes.{cell_bytes, fits_most}
use Rattle.page_decoding.specs.Chunks.{IfGiven, lent_more}
use Rattle.page_decoding.specs.Outcome.{Outcome, Given, causes_in}
use Rattle.page_decoding.specs.Queue.{IsChunkSize}
use Rattle.flat_values.specs.ColumnLeft.{Decoding, wanted}
use Rattle.flat_values.proofs.ArrayLemmas.{calls, nearer}
use Rattle.flat_binary.proofs.CollectLemmas.{array_goes, column_ends, wanted_pages}
use Rattle.flat_binary.proofs.collect.collect_arrays.Goals as goal

pub loop-array-smaller : goal.loop-array-smaller
loop-array-smaller g c =
    let old = g.A.ColumnArrays.left c.loop-array.arrays in
    let new = g.A.ColumnArrays.left c.next_counted.new.self in
    let S : Option (Result Array Error) → Type 0 = λ found. OnSome found (calls new < calls old) in
    subst S c.in-Some.is (nearer data_type_of cells old c.next_counted.result new c.loop-array.steps c.next_counted.new.steps c.next_counted.ensures)

pub loop-array-preserved : goal.loop-array-preserved
loop-array-preserved g c =
    let kept = c.loop-array.invariant in
    let whole = g.A.ColumnArrays.left c.args.arrays.now in
    let old = g.A.ColumnArrays.left c.loop-array.arrays in
    let new = g.A.ColumnArrays.left c.next_counted.new.self in
    let array = c.in_ok-array.field-0 in
    let gives = c.next_counted.ensures in
    let is = c.in-Some.is ∙ ap Some c.in_ok-array.was in
    let some = subst (λ (size : Option ℕ). IsChunkSize size) (sym kept.size) c.requires.size in
    let goes = array_goes old new array c.loop-array.steps c.next_counted.new.steps c.next_counted.result some is gives in
    let found = c.loop-array.found.items in
    let more = c.in_ok-push_back.ensures.items in
    let shown : Array → List Outcome = λ array. map Given (cells array) in
    let T : Array → Type 0 = λ array. data_type_of array ≡ whole.data_type in
    let F : Array → Type 0 = λ array. fits_most whole.decoding.most_bytes (sum_by cell_bytes (cells array)) ≡ true in
    let G : Option (Result Array Error) → Type 0 = λ result. IfGiven result (λ array. data_type_of array ≡ old.data_type) in
    let H : Option (Result Array Error) → Type 0 = λ result. IfGiven result (λ array. fits_most old.decoding.most_bytes (sum_by cell_bytes (cells array)) ≡ true) in
    let D : Decoding → Type 0 = λ decoding. fits_most decoding.most_bytes (sum_by cell_bytes (cells array)) ≡ true in
    let typed : data_type_of array ≡ whole.data_type = subst G is gives.typed ∙ kept.data_type in
    let fits : F array = subst D kept.decoding (subst H is gives.fits) in
    let turned : (c.next_counted.new.steps - c.args.steps.now) ≡ (c.loop-array.steps - c.args.steps.now) + (c.next_counted.new.steps - c.loop-array.steps) = omega (arith, kept.later, goes.later) in
    record {
      size = gives.size ∙ kept.size;
      decoding = gives.decoding ∙ kept.decoding;
      data_type = gives.data_type ∙ kept.data_type;
      chunks =
          ap (λ items. map shown items ++ cut new.size (wanted new)) more
          ∙ ap (λ items. items ++ cut new.size (wanted new)) (map-append shown found (array ∷ []))
          ∙ append_assoc (map shown found) (shown array ∷ []) (cut new.size (wanted new))
          ∙ ap (λ rest. map shown found ++ rest) (sym goes.chunks)
          ∙ kept.chunks;
      typed = subst (λ items. All T items) (sym more) (All-push T found array kept.typed typed);
      fits = subst (λ items. All F items) (sym more) (All-push F found array kept.fits fits);
      causes = goes.causes ∙ kept.causes;
      caused = λ error told. kept.caused error (goes.caused error told);
      due = goes.due_now ∙ kept.due;
      later = omega (arith, kept.later, goes.later);
      lent = goes.lent (c.loop-array.steps - c.args.steps.now) whole.lent kept.lent ∙ ap (lent_more whole.lent) (sym turned);
    }

pub returns-clause-lent : goal.returns-clause-lent
returns-clause-lent g c =
    let kept = c.loop-array.invariant in
    let whole = g.A.ColumnArrays.left c.args.arrays.now in
    let old = g.A.ColumnArrays.left c.loop-array.arrays in
    let new = g.A.ColumnArrays.left c.next_counted.new.self in
    let ends = column_ends old new c.loop-array.steps c.next_counted.new.steps c.next_counted.result c.in_default.is c.next_counted.ensures in
    let right = sym kept.causes ∙ ap causes_in ends.none in
    omega (arith, ends.due_now, kept.due, wanted_pages whole right)
