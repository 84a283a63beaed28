-- Levels of rows of the sample.
use Rattle.std.proofs.Common.{◌≡◌, ℕ, suc, ◌+◌, ◌-◌, ◌≤◌, not, Bool, List, ◌∷◌, sym, ap, ◌∙◌, arith, length}
use Rattle.std.specs.List.{slice_range}
use Rattle.std.proofs.lemmas.List.FromFn.{length-map-range_with_len}
use Rattle.parquet_sample.specs.Rows.{are_present}
use Rattle.parquet_sample.specs.Sample.{is_absent}
use Rattle.parquet_sample.proofs.RangeLemmas.{slice-rows}

pub length_present : (first rows : ℕ) → length (are_present first rows) ≡ rows
length_present first rows = length-map-range_with_len (λ (k : ℕ). not (is_absent k)) first rows

pub present_slice : (first rows row count : ℕ) → row + count ≤ rows → slice_range (are_present first rows) row (row + count) ≡ are_present (first + row) count
present_slice first rows row count le = slice-rows (λ (k : ℕ). not (is_absent k)) first rows row count le

-- the first level of those from a row on
pub present_first : (first rows row now : ℕ) → row ≡ suc now → row ≤ rows → slice_range (are_present first rows) now rows ≡ not (is_absent (first + now)) ∷ slice_range (are_present first rows) row rows
present_first first rows row now e le =
    let own : rows ≡ now + (rows - now) = omega arith in
    let rest : rows ≡ row + (rows - row) = omega arith in
    let more : rows - now ≡ suc (rows - row) = omega arith in
    let behind : first + now + 1 ≡ first + row = omega arith in
    ap (λ (n : ℕ). slice_range (are_present first rows) now n) own ∙ present_slice first rows now (rows - now) (omega arith) ∙ ap (are_present (first + now)) more
    ∙ ap (λ (at : ℕ). not (is_absent (first + now)) ∷ are_present at (rows - row)) behind
    ∙ ap (λ (bs : List Bool). not (is_absent (first + now)) ∷ bs) (sym (ap (λ (n : ℕ). slice_range (are_present first rows) row n) rest ∙ present_slice first rows row (rows - row) (omega arith)))
