-- Rows one after another.
use Rattle.std.proofs.Common.{◌≡◌, ℕ, ◌+◌, ◌-◌, ◌<◌, ◌≤◌, List, ◌++◌, ◌∙◌, ap, arith}
use Rattle.std.specs.List.{flat_map, range_with_len}
use Rattle.std.proofs.lemmas.List.{append-nil}
use Rattle.std.proofs.lemmas.List.Concat.{flat_map-append}
use Rattle.parquet_base.proofs.RangeLemmas.{range-split}

-- the lines of so many rows, and those of the rows behind them
pub rows_left : (f : ℕ → List ℕ) (from count all : ℕ) → from + count ≤ all
    → flat_map f (range_with_len from (all - from)) ≡ flat_map f (range_with_len from count) ++ flat_map f (range_with_len (from + count) (all - (from + count)))
rows_left f from count all within =
    let others = all - (from + count) in
    let both : all - from ≡ count + others = omega (arith, within) in
    ap (λ n. flat_map f (range_with_len from n)) both ∙ ap (flat_map f) (range-split from count others)
    ∙ flat_map-append f (range_with_len from count) (range_with_len (from + count) others)

pub row_left : (f : ℕ → List ℕ) (row all : ℕ) → row < all
    → flat_map f (range_with_len row (all - row)) ≡ f row ++ flat_map f (range_with_len (row + 1) (all - (row + 1)))
row_left f row all within =
    rows_left f row 1 all (omega (arith, within)) ∙ ap (λ first. first ++ flat_map f (range_with_len (row + 1) (all - (row + 1)))) (append-nil (f row))
