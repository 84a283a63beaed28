use Rattle.std.proofs.Common.{rules, ◌≡◌, ◌-◌, ◌+◌, ◌^◌, ◌∙◌, ◌++◌, ◌∷◌, [], All, map, take, drop, refl, ap, sym, subst, arith, append_assoc}
use Rattle.std.specs.Prelude.{flat_map, min, sum_by}
use Rattle.std.proofs.lemmas.List.Elements.{All-tail}
use Rattle.std.proofs.lemmas.List.Sums.{sum_by-cons}
use Rattle.columns_core.specs.Chunk.{AreEqualLengths, array_rows as chunk_rows}
use Rattle.parquet_scan.specs.Chunks.{side_by_side, turned}
use Rattle.parquet_scan.proofs.TurnedLemmas.{turned_all, turned_more}
use Rattle.parquet_scan.proofs.chunks.add_chunks.Goals as goal

pub loop-i-init : goal.loop-i-init
loop-i-init c =
    let lists = map (λ column. column.items) c.args.columns.now in
    let all : turned (c.chunk_count-count.result - 0) lists ≡ side_by_side lists = turned_all lists (c.chunk_count-count.result - 0) (omega (arith, c.chunk_count-count.ensures)) in
    record {
      chunks = ap (λ left. c.args.read.now.chunks.items ++ left) all;
      lengths = subst (All AreEqualLengths) (sym all) c.requires;
      rows = ap (λ left. min (c.args.read.now.rows + sum_by chunk_rows left) (2 ^ 64 - 1)) all;
      fits = search rules;
      own_rows = λ e. e;
      even = λ all. all;
      pages = refl;
    }

pub add_chunk-requires : goal.add_chunk-requires
add_chunk-requires c =
    let lists = map (λ column. column.items) c.loop-i.columns in
    let fronts = flat_map (take 1) lists in
    let rest = turned (c.chunk_count-count.result - (c.loop-i.i + 1)) (map (drop 1) lists) in
    let here = turned_more lists (c.chunk_count-count.result - c.loop-i.i) (c.chunk_count-count.result - (c.loop-i.i + 1)) (omega arith) in
    let lengths : All AreEqualLengths (fronts ∷ rest) = subst (All AreEqualLengths) here c.loop-i.invariant.lengths in
    subst AreEqualLengths (sym c.in_ok-arrays.ensures.fronts) (lengths 0 fronts (omega arith))

pub loop-i-preserved : goal.loop-i-preserved
loop-i-preserved c =
    let lists = map (λ column. column.items) c.loop-i.columns in
    let fronts = flat_map (take 1) lists in
    let n = c.chunk_count-count.result - (c.loop-i.i + 1) in
    let rest = turned n (map (drop 1) lists) in
    let here = turned_more lists (c.chunk_count-count.result - c.loop-i.i) n (omega arith) in
    let left : turned n (map (λ column. column.items) c.take_fronts.new.columns) ≡ rest = ap (turned n) c.in_ok-arrays.ensures.rests in
    let lengths : All AreEqualLengths (fronts ∷ rest) = subst (All AreEqualLengths) here c.loop-i.invariant.lengths in
    let rows = ap (sum_by chunk_rows) here in
    record {
      chunks = (λ i. (c.in_ok-add_chunk.ensures.chunks ∙ ap (λ front. c.loop-i.read.chunks.items ++ front ∷ []) c.in_ok-arrays.ensures.fronts) i ++ left i)
          ∙ append_assoc c.loop-i.read.chunks.items (fronts ∷ []) rest ∙ ap (λ more. c.loop-i.read.chunks.items ++ more) (sym here) ∙ c.loop-i.invariant.chunks;
      lengths = subst (All AreEqualLengths) (sym left) (All-tail AreEqualLengths fronts rest lengths);
      rows = omega (
        arith,
        c.loop-i.invariant.rows,
        c.loop-i.invariant.fits,
        c.in_ok-add_chunk.ensures.rows,
        ap chunk_rows c.in_ok-arrays.ensures.fronts,
        rows,
        sum_by-cons chunk_rows fronts rest,
        ap (sum_by chunk_rows) left,
      );
      fits = omega (arith, c.in_ok-add_chunk.ensures.rows);
      own_rows = λ e. c.in_ok-add_chunk.ensures.own_rows (c.loop-i.invariant.own_rows e);
      even = λ all. c.in_ok-add_chunk.ensures.even (c.loop-i.invariant.even all);
      pages = c.in_ok-add_chunk.ensures.pages ∙ c.loop-i.invariant.pages;
    }
