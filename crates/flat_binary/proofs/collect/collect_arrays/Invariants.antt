use Rattle.std.proofs.Common.{◌≡◌, ◌+◌, ◌++◌, ◌-◌, ◌≤◌, true, length, map}
use Rattle.std.specs.Prelude.{All, sum_by}
use Rattle.columns_core.specs.Array.{cells, data_type_of}
use Rattle.columns_core.specs.declared.error.Error.{Error}
use Rattle.parquet_base.specs.Pieces.{cut}
use Rattle.page_decoding.specs.Bytes.{IsCausedByChunks, cell_bytes, fits_most}
use Rattle.page_decoding.specs.Chunks.{lent_more}
use Rattle.page_decoding.specs.Outcome.{Given, causes_in}
use Rattle.flat_values.specs.ColumnLeft.{wanted}
use Rattle.flat_values.proofs.ArrayLemmas.{calls}
use Rattle.flat_binary.proofs.CollectLemmas.{pages_due}
use Rattle.flat_binary.proofs.collect.collect_arrays.Given as goal

-- The arrays so far stand before those of the rows that are left.
abbrev pub invariant-loop-array : goal.invariant-loop-array
invariant-loop-array g l =
    let left = g.A.ColumnArrays.left l.arrays in
    let whole = g.A.ColumnArrays.left l.fn.arrays in
    record {
      size : left.size ≡ whole.size;
      decoding : left.decoding ≡ whole.decoding;
      data_type : left.data_type ≡ whole.data_type;
      chunks : map (λ array. map Given (cells array)) l.found.items ++ cut left.size (wanted left) ≡ cut whole.size (wanted whole);
      typed : All (λ array. data_type_of array ≡ whole.data_type) l.found.items;
      fits : All (λ array. fits_most whole.decoding.most_bytes (sum_by cell_bytes (cells array)) ≡ true) l.found.items;
      causes : causes_in (wanted left) ≡ causes_in (wanted whole);
      caused : (error : Error) → IsCausedByChunks left.decoding.most_bytes left.size (wanted left) error → IsCausedByChunks whole.decoding.most_bytes whole.size (wanted whole) error;
      due : l.steps + length (pages_due left) ≡ l.fn.steps + length (pages_due whole);
      later : l.fn.steps ≤ l.steps;
      lent : left.lent ≡ lent_more whole.lent (l.steps - l.fn.steps);
    }

abbrev pub decreases-loop-array : goal.decreases-loop-array
decreases-loop-array g l = calls (g.A.ColumnArrays.left l.arrays)
