use Rattle.std.proofs.Common.{◌≡◌, ◌∙◌, ◌-◌, ◌<◌, ◌++◌, ◌∷◌, [], ℕ, zero, suc, List, Option, map, replicate, append_assoc, ap, sym, arith, rules}
use Rattle.std.proofs.lemmas.List.{map-append}
use Rattle.columns_core.specs.Array.{column_of}
use Rattle.columns_core.specs.declared.array.Array.{Array}
use Rattle.columns_core.specs.declared.cell.Cell.{Cell, Null}
use Rattle.columns_core.specs.declared.data_type.DataType.{DataType}
use Rattle.columns_core.specs.declared.data_type.DataType as type
use Rattle.parquet_base.specs.Pieces.{cut}
use Rattle.page_decoding.specs.Queue.{IsChunkSize, first_chunk, later_chunks}
use Rattle.page_decoding.proofs.CutLemmas.{cut-first}
use Rattle.parquet_scan.proofs.group_column.null_arrays.Goals as goal

-- nulls are cut by the first piece of them
cut_nulls : (size : Option ℕ) (left piece : ℕ) → IsChunkSize size → 0 < left → first_chunk size (replicate left Null) ≡ replicate piece Null → later_chunks size (replicate left Null) ≡ replicate (left - piece) Null
    → cut size (replicate left Null) ≡ replicate piece Null ∷ cut size (replicate (left - piece) Null)
cut_nulls size zero piece some more first later = absurd (omega (arith, more))
cut_nulls size (suc left) piece some more first later = cut-first size Null (replicate left Null) some ∙ (λ i. first i ∷ cut size (later i))

abbrev columns : List (List Cell) → List (DataType × List Cell)
columns pieces = map (λ nulls. (type.Null, nulls)) pieces

one_more : (size : Option ℕ) (left piece : ℕ) (arrays new : List Array) (array : Array) (whole : List (DataType × List Cell)) → IsChunkSize size → 0 < left → first_chunk size (replicate left Null) ≡ replicate piece Null
    → later_chunks size (replicate left Null) ≡ replicate (left - piece) Null → new ≡ arrays ++ array ∷ [] → column_of array ≡ (type.Null, replicate piece Null)
    → map column_of arrays ++ columns (cut size (replicate left Null)) ≡ whole → map column_of new ++ columns (cut size (replicate (left - piece) Null)) ≡ whole
one_more size left piece arrays new array whole some more first later pushed is so_far =
    let rest = columns (cut size (replicate (left - piece) Null)) in
    ap (λ found. map column_of found ++ rest) pushed
    ∙ ap (λ front. front ++ rest) (map-append column_of arrays (array ∷ []))
    ∙ append_assoc (map column_of arrays) (column_of array ∷ []) rest
    ∙ ap (λ column. map column_of arrays ++ column ∷ rest) is
    ∙ ap (λ pieces. map column_of arrays ++ columns pieces) (sym (cut_nulls size left piece some more first later))
    ∙ so_far

pub loop-left-preserved : goal.loop-left-preserved
loop-left-preserved c = record {
  arrays = one_more c.args.chunk_size c.loop-left.left c.first_rows-piece.result c.loop-left.arrays.items c.push_back.new.self.items _ _ c.requires (omega arith) c.first_rows-piece.ensures.first c.first_rows-piece.ensures.later
      c.in_ok-push_back.ensures.items (search rules) c.loop-left.invariant.arrays;
}
