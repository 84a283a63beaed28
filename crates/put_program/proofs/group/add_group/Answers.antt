use Rattle.std.proofs.Common.{◌≡◌, ℕ, ◌+◌, List, ◌++◌, ◌∷◌, [], ap, arith, length, subst, sym, ◌∙◌}
use Rattle.std.specs.List.{AllZip}
use Rattle.std.proofs.lemmas.Slice.Zip.{AllZip-long}
use Rattle.columns_core.specs.Array.{column_of}
use Rattle.columns_core.specs.declared.array.Array.{Array}
use Rattle.columns_core.specs.declared.data_type.Field.{Field}
use Rattle.parquet_plain.specs.Description.{PlainChunk}
use Rattle.parquet_plain.specs.Columns.{written_chunk}
use Rattle.parquet_plain.specs.Short.{are_short_chunks}
use Rattle.parquet_write.specs.Parts.{AddsChunks, starts_of}
use Rattle.parquet_write.specs.Told.{all_facts}
use Rattle.parquet_write.specs.declared.facts.ChunkFacts.{ChunkFacts}
use Rattle.parquet_write.specs.declared.facts.GroupFacts.{GroupFacts}
use Rattle.parquet_write.proofs.AnswerLemmas.{overflows, too_large_whole}
use Rattle.put_program.specs.Put.{stored_items, written_field}
use Rattle.put_program.specs.Request.{FitsField}
use Rattle.put_program.specs.Typed.{put_group}
use Rattle.put_program.proofs.GroupLemmas.{Grows, behind-front, front, front-all, front-more, front-none, grows_more, grows_none, grows_past, rows-alike}
use Rattle.put_program.proofs.ListLemmas.{at-place, zip-at}
use Rattle.put_program.proofs.group.add_group.Goals as goal

pub loop-i-init : goal.loop-i-init
loop-i-init c =
    let parts = c.args.parts.now in
    let none : front c.args.page_rows c.args.fields.now c.arrays-arrays.result.now 0 ≡ [] = front-none c.args.page_rows c.args.fields.now c.arrays-arrays.result.now in (
      ap length c.arrays-arrays.ensures.arrays ∙ AllZip-long FitsField c.args.fields.now c.args.chunk.now c.requires.fits,
      subst (λ (told : List ChunkFacts). Grows parts parts told (front c.args.page_rows c.args.fields.now c.arrays-arrays.result.now 0)) (sym c.in_ok-chunks.ensures.items)
          (subst (Grows parts parts []) (sym none) (grows_none parts)),
    )

pub add_array-requires-clause-fits : goal.add_array-requires-clause-fits
add_array-requires-clause-fits c =
    let i : ℕ = c.loop-i.i in
    let field = at-place c.args.fields.now i c.index-fields-i.result c.loop-i-test.true c.index-fields-i.is in
    let array = at-place c.arrays-arrays.result.now i c.index-arrays-i.result (omega (arith, c.loop-i-test.true, c.loop-i.invariant.0)) c.index-arrays-i.is in
    zip-at FitsField c.args.fields.now c.arrays-arrays.result.now i c.index-fields-i.result c.index-arrays-i.result field array
    (subst (AllZip FitsField c.args.fields.now) (sym c.arrays-arrays.ensures.arrays) c.requires.fits)

pub returns-in_err-add_array-clause-short : goal.returns-in_err-add_array-clause-short
returns-in_err-add_array-clause-short c =
    let i : ℕ = c.loop-i.i in
    let fields : List Field = c.args.fields.now in
    let arrays : List Array = c.arrays-arrays.result.now in
    let parts = c.args.parts.now in
    let start : ℕ = length parts.chunks.items in
    let field = at-place fields i c.index-fields-i.result c.loop-i-test.true c.index-fields-i.is in
    let array = at-place arrays i c.index-arrays-i.result (omega (arith, c.loop-i-test.true, c.loop-i.invariant.0)) c.index-arrays-i.is in
    let chunk : PlainChunk = written_chunk (written_field c.args.page_rows c.index-fields-i.result) (stored_items (column_of c.index-arrays-i.result)) in
    let rest = behind-front c.args.page_rows fields arrays (i + 1) in
    let whole : (put_group c.args.page_rows fields c.args.chunk.now).chunks ≡ (front c.args.page_rows fields arrays i ++ chunk ∷ []) ++ rest.0 =
    ap (λ (some : List Array). (put_group c.args.page_rows fields some).chunks) (sym c.arrays-arrays.ensures.arrays) ∙ rest.1
    ∙ ap (λ (cs : List PlainChunk). cs ++ rest.0) (front-more c.args.page_rows fields arrays i c.index-fields-i.result c.index-arrays-i.result (sym c.loop-i.invariant.0) field array) in
    overflows _ c.from_residual-in_err-add_array.result _ c.from_residual-in_err-add_array.ensures.1
    (too_large_whole _ _ _ (λ large. ap (are_short_chunks start) whole ∙ grows_past parts c.loop-i.parts c.loop-i.chunks.items (front c.args.page_rows fields arrays i) rest.0 chunk c.loop-i.invariant.1 large)
    c.in_err-add_array.ensures.short.cause)

pub loop-i-preserved : goal.loop-i-preserved
loop-i-preserved c =
    let i : ℕ = c.loop-i.i in
    let fields : List Field = c.args.fields.now in
    let arrays : List Array = c.arrays-arrays.result.now in
    let field = at-place fields i c.index-fields-i.result c.loop-i-test.true c.index-fields-i.is in
    let array = at-place arrays i c.index-arrays-i.result (omega (arith, c.loop-i-test.true, c.loop-i.invariant.0)) c.index-arrays-i.is in
    let chunk : PlainChunk = written_chunk (written_field c.args.page_rows c.index-fields-i.result) (stored_items (column_of c.index-arrays-i.result)) in
    let more = front-more c.args.page_rows fields arrays i c.index-fields-i.result c.index-arrays-i.result (sym c.loop-i.invariant.0) field array in (
      c.loop-i.invariant.0,
      subst (λ (told : List ChunkFacts). Grows c.args.parts.now c.add_array.new.parts told (front c.args.page_rows fields arrays (i + 1))) (sym c.in_ok-push.ensures.items)
          (subst (Grows c.args.parts.now c.add_array.new.parts (c.loop-i.chunks.items ++ c.in_ok-add_array.field-0 ∷ [])) (sym more)
          (grows_more c.args.parts.now c.loop-i.parts c.add_array.new.parts c.loop-i.chunks.items (front c.args.page_rows fields arrays i) c.in_ok-add_array.field-0 chunk c.loop-i.invariant.1
          c.in_ok-add_array.ensures.adds c.in_ok-add_array.ensures.told c.in_ok-add_array.ensures.short.fits)),
    )

pub returns-clause-adds : goal.returns-clause-adds
returns-clause-adds c =
    let fields : List Field = c.args.fields.now in
    let arrays : List Array = c.arrays-arrays.result.now in
    let all = front-all c.args.page_rows fields arrays c.loop-i.i (omega (arith, c.loop-i-test.false)) (omega (arith, c.loop-i-test.false, c.loop-i.invariant.0)) in
    subst (λ (some : List Array). AddsChunks c.args.parts.now c.loop-i.parts (put_group c.args.page_rows fields some).chunks) c.arrays-arrays.ensures.arrays
    (subst (AddsChunks c.args.parts.now c.loop-i.parts) all c.loop-i.invariant.1.adds)

pub returns-clause-told : goal.returns-clause-told
returns-clause-told c =
    let fields : List Field = c.args.fields.now in
    let arrays : List Array = c.arrays-arrays.result.now in
    let at = starts_of c.args.parts.now in
    let all = front-all c.args.page_rows fields arrays c.loop-i.i (omega (arith, c.loop-i-test.false)) (omega (arith, c.loop-i-test.false, c.loop-i.invariant.0)) in
    let made : ℕ → List ChunkFacts → GroupFacts = λ rows chunks. record { rows = rows; chunks = chunks } in
    ap (λ (n : ℕ). made n c.new.result) (c.len.ensures ∙ rows-alike c.args.chunk.now)
    ∙ ap (made _) (c.new.ensures ∙ c.loop-i.invariant.1.facts ∙ ap (all_facts at) (all ∙ ap (λ (some : List Array). (put_group c.args.page_rows fields some).chunks) c.arrays-arrays.ensures.arrays))

pub returns-clause-short : goal.returns-clause-short
returns-clause-short c =
    let fields : List Field = c.args.fields.now in
    let arrays : List Array = c.arrays-arrays.result.now in
    let all = front-all c.args.page_rows fields arrays c.loop-i.i (omega (arith, c.loop-i-test.false)) (omega (arith, c.loop-i-test.false, c.loop-i.invariant.0)) in
    record {
      fits = ap (are_short_chunks (length c.args.parts.now.chunks.items)) (ap (λ (some : List Array). (put_group c.args.page_rows fields some).chunks) (sym c.arrays-arrays.ensures.arrays) ∙ sym all) ∙ c.loop-i.invariant.1.short;
      cause = tt;
    }
