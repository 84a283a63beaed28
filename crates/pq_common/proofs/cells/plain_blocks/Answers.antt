use Rattle.std.proofs.Common.{◌≡◌, ◌∙◌, sym, ℕ, ◌+◌, ◌-◌, ◌++◌, List, take, drop, ap, arith}
use Rattle.std.specs.List.{flat_map}
use Rattle.std.proofs.lemmas.Grind.{flat_map-append}
use Rattle.std.proofs.lemmas.List.{drop-take, take-append-drop, take-take}
use Rattle.pq_common.specs.CellText.{quoted_byte}
use Rattle.pq_common.proofs.cells.plain_blocks.Goals as goal

-- the first bytes, and behind them a block
front : (n m : ℕ) (bytes : List ℕ) → take n bytes ++ take m (drop n bytes) ≡ take (n + m) bytes
front n m bytes =
    (λ i. sym (take-take n (n + m) bytes (omega arith)) i ++ sym (drop-take n m bytes) i) ∙ take-append-drop n (take (n + m) bytes)

-- both stand for themselves
joined : (n m : ℕ) (bytes : List ℕ) → flat_map quoted_byte (take n bytes) ≡ take n bytes
    → flat_map quoted_byte (take m (drop n bytes)) ≡ take m (drop n bytes) → flat_map quoted_byte (take (n + m) bytes) ≡ take (n + m) bytes
joined n m bytes first block =
    ap (flat_map quoted_byte) (sym (front n m bytes)) ∙ flat_map-append quoted_byte (take n bytes) (take m (drop n bytes))
    ∙ (λ i. first i ++ block i) ∙ front n m bytes

pub loop-count-preserved : goal.loop-count-preserved
loop-count-preserved c =
    let n = c.loop-count.count in
    let bytes = c.args.bytes.now in
    let length : n + c.args.block - n ≡ c.args.block = omega arith in
    record {
      least = omega (arith, c.loop-count.invariant.least);
      within = omega (arith, c.loop-count-test.true, c.loop-count.invariant.within);
      plain = joined n c.args.block bytes c.loop-count.invariant.plain
          (ap (λ m. flat_map quoted_byte (take m (drop n bytes))) (sym length) ∙ c.are_plain.ensures c.if-are_plain.true ∙ ap (λ m. take m (drop n bytes)) length);
    }
