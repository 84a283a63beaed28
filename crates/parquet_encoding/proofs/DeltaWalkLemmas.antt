-- The deltas that are left of a miniblock and behind it.
use Rattle.std.proofs.Common.{◌≡◌, ℕ, zero, suc, ◌+◌, ◌-◌, ◌*◌, ◌/◌, ◌≤◌, min, leb, ◌&&◌, List, [], ◌∷◌, ◌++◌, length, take, drop, Option, Some, None, refl, sym, ap, ◌∙◌, arith, length-append, ℤ}
use Rattle.std.specs.Prelude.{IsSome, IfSome, unwrap_or, option_map}
use Rattle.std.proofs.lemmas.Bool.{le-leb, leb-true}
use Rattle.std.proofs.lemmas.List.{take-append-le, drop-append-le, nil_from_length}
use Rattle.parquet_base.specs.Reading.{◌>>=◌, given, map_value}
use Rattle.parquet_encoding.specs.Bits.{packed}
use Rattle.parquet_encoding.specs.Places.{bytes_from}
use Rattle.parquet_encoding.specs.DeltaBinary.{deltas_of, miniblocks, first_block, blocks}
use Rattle.parquet_encoding.specs.DeltaRun.{DeltasLieIn, run_deltas}
use Rattle.parquet_encoding.specs.declared.delta_run.DeltaRun.{DeltaRun}
use Rattle.parquet_base.specs.Varint.{varint, zigzag}
use Rattle.parquet_encoding.proofs.BitsLemmas.{length-packed}
use Rattle.parquet_encoding.proofs.StepLemmas.{bind_some, given_some, some_is, is_something, if_some, same_some}
use Rattle.parquet_encoding.proofs.BlockLemmas.{behind_of, onward, with_own, length-deltas_of}
use Rattle.parquet_encoding.proofs.DeltaRunLemmas.{packed_deltas, length-deltas}

-- ---- there are as many deltas as wanted

miniblocks-most : (size : ℕ) (least : ℤ) (count : ℕ) (widths body : List ℕ) (own : List ℤ × List ℕ) → miniblocks size least count widths body ≡ Some own → length own.0 ≤ count
unfolding miniblocks
miniblocks-most size least zero widths body own e = let same = some_is ([], body) own e in rw (← same) (omega arith)
miniblocks-most size least (suc count) [] body own e = let same = some_is ([], body) own e in rw (← same) (omega arith)
miniblocks-most size least (suc count) (width ∷ widths) body own e =
    let numbers = bind_some (given (leb width 64 && leb (size * width / 8) (length body)) (packed body width 0 (min size (suc count))))
    (λ numbers. miniblocks size least (suc count - size) widths (drop (size * width / 8) body) >>= with_own (deltas_of least numbers)) own e in
    let others = bind_some (miniblocks size least (suc count - size) widths (drop (size * width / 8) body)) (with_own (deltas_of least numbers.0)) own numbers.2 in
    let same = some_is _ own others.2 in
    let most = miniblocks-most size least (suc count - size) widths (drop (size * width / 8) body) others.0 others.1 in
    let read = given_some (leb width 64 && leb (size * width / 8) (length body)) (packed body width 0 (min size (suc count))) numbers.0 numbers.1 in
    let long : length (deltas_of least numbers.0) ≡ min size (suc count) = length-deltas_of least numbers.0 ∙ ap length (sym read.1) ∙ length-packed body width 0 (min size (suc count)) in
    rw (← same) (omega (arith, length-append (deltas_of least numbers.0) others.0.0))

first_block-most : (size parts count : ℕ) (bytes : List ℕ) (own : List ℤ × List ℕ) → first_block size parts count bytes ≡ Some own → length own.0 ≤ count
unfolding first_block
first_block-most size parts count bytes own e =
    let least = bind_some (varint bytes) (λ least. given (leb parts (length least.1)) (take parts least.1) >>= λ widths. miniblocks size (zigzag least.0) count widths (drop parts least.1)) own e in
    let widths = bind_some (given (leb parts (length least.0.1)) (take parts least.0.1)) (λ widths. miniblocks size (zigzag least.0.0) count widths (drop parts least.0.1)) own least.2 in
    miniblocks-most size (zigzag least.0.0) count widths.0 (drop parts least.0.1) own widths.2

pub length-blocks : (limit size parts count : ℕ) (bytes : List ℕ) (read : List ℤ × List ℕ) → blocks limit size parts count bytes ≡ Some read → length read.0 ≡ count
unfolding blocks
length-blocks zero size parts zero bytes read e = ap (λ r. length r.0) (sym (some_is ([], bytes) read e))
length-blocks (suc limit) size parts zero bytes read e = ap (λ r. length r.0) (sym (some_is ([], bytes) read e))
length-blocks zero size parts (suc count) bytes read e = absurd cc
length-blocks (suc limit) size parts (suc count) bytes read e =
    let first = bind_some (first_block size parts (suc count) bytes) (onward limit size parts (suc count)) read e in
    let others = bind_some (blocks limit size parts (suc count - length first.0.0) first.0.1) (with_own first.0.0) read first.2 in
    let same = some_is _ read others.2 in
    let most = first_block-most size parts (suc count) bytes first.0 first.1 in
    let long = length-blocks limit size parts (suc count - length first.0.0) first.0.1 others.0 others.1 in
    ap (λ r. length r.0) (sym same) ∙ omega (arith, length-append first.0.0 others.0.0)

length-behind : (size parts : ℕ) (least : ℤ) (count widths k next : ℕ) (bytes : List ℕ) (read : List ℤ × List ℕ) → behind_of size parts least count widths k next bytes ≡ Some read → length read.0 ≡ count
length-behind size parts least count widths k next bytes read e =
    let ws = bind_some (given (leb (widths + k) (length bytes)) (take k (drop widths bytes))) (λ own. bytes_from next bytes >>= λ body. miniblocks size least count own body >>= onward (length bytes) size parts count) read e in
    let body = bind_some (bytes_from next bytes) (λ body. miniblocks size least count ws.0 body >>= onward (length bytes) size parts count) read ws.2 in
    let own = bind_some (miniblocks size least count ws.0 body.0) (onward (length bytes) size parts count) read body.2 in
    let others = bind_some (blocks (length bytes) size parts (count - length own.0.0) own.0.1) (with_own own.0.0) read own.2 in
    let same = some_is _ read others.2 in
    let most = miniblocks-most size least count ws.0 body.0 own.0 own.1 in
    let long = length-blocks (length bytes) size parts (count - length own.0.0) own.0.1 others.0 others.1 in
    ap (λ r. length r.0) (sym same) ∙ omega (arith, length-append own.0.0 others.0.0)

-- where they are read, the places lie in the bytes
pub behind_inside : (size parts : ℕ) (least : ℤ) (count widths k next : ℕ) (bytes : List ℕ) (read : List ℤ × List ℕ) → behind_of size parts least count widths k next bytes ≡ Some read
    → (widths + k ≤ length bytes) × (next ≤ length bytes)
behind_inside size parts least count widths k next bytes read e =
    let ws = bind_some (given (leb (widths + k) (length bytes)) (take k (drop widths bytes))) (λ own. bytes_from next bytes >>= λ body. miniblocks size least count own body >>= onward (length bytes) size parts count) read e in
    let body = bind_some (bytes_from next bytes) (λ body. miniblocks size least count ws.0 body >>= onward (length bytes) size parts count) read ws.2 in
    (leb-true _ _ (given_some (leb (widths + k) (length bytes)) (take k (drop widths bytes)) ws.0 ws.1).0, leb-true _ _ (given_some (leb next (length bytes)) (drop next bytes) body.0 body.1).0)

-- ---- a run and those behind it

abbrev pub left_of : DeltaRun → Option (List ℤ × List ℕ) → List ℕ → Option (List ℤ)
left_of run behind bytes = behind >>= λ others. given (leb (8 * run.place + (run.bit + run.count * run.width)) (8 * length bytes)) (run_deltas run bytes ++ others.0)

pub record Parts (run : DeltaRun) (behind : Option (List ℤ × List ℕ)) (bytes : List ℕ) : Type 0 where
  pub lies : DeltasLieIn bytes run
  pub others : List ℤ × List ℕ
  pub has_others : behind ≡ Some others
  pub both : left_of run behind bytes ≡ Some (run_deltas run bytes ++ others.0)

together : (run : DeltaRun) (behind : Option (List ℤ × List ℕ)) (bytes : List ℕ) (others : List ℤ × List ℕ) → DeltasLieIn bytes run → behind ≡ Some others → left_of run behind bytes ≡ Some (run_deltas run bytes ++ others.0)
together run behind bytes others lies e = rw (e, le-leb _ _ lies) refl

pub parts_of : (run : DeltaRun) (behind : Option (List ℤ × List ℕ)) (bytes : List ℕ) → IsSome (left_of run behind bytes) → Parts run behind bytes
parts_of run behind bytes h =
    let some = is_something _ h in
    let others = bind_some behind (λ others. given (leb (8 * run.place + (run.bit + run.count * run.width)) (8 * length bytes)) (run_deltas run bytes ++ others.0)) some.0 some.1 in
    let lies = leb-true _ _ (given_some (leb (8 * run.place + (run.bit + run.count * run.width)) (8 * length bytes)) (run_deltas run bytes ++ others.0.0) some.0 others.2).0 in
    record { lies = lies; others = others.0; has_others = others.1; both = together run behind bytes others.0 lies others.1 }

pub length-run_deltas : (bytes : List ℕ) (run : DeltaRun) → length (run_deltas run bytes) ≡ run.count
length-run_deltas bytes run = length-deltas run.least bytes run.width (8 * run.place + run.bit) run.count

-- a walk that begins has no run
pub begins_left : (least : ℤ) (place bit width : ℕ) (behind : Option (List ℤ × List ℕ)) (bytes : List ℕ) → 8 * place + (bit + 0 * width) ≤ 8 * length bytes
    → (behind >>= λ others. given (leb (8 * place + (bit + 0 * width)) (8 * length bytes)) (packed_deltas least bytes width (8 * place + bit) 0 ++ others.0)) ≡ option_map (λ read. read.0) behind
unfolding packed
begins_left least place bit width None bytes lies = refl
begins_left least place bit width (Some others) bytes lies = rw (le-leb _ _ lies) refl

opened_others : (own : List ℤ) (o : Option (List ℤ × List ℕ)) (found : List ℤ × List ℕ) → map_value (λ others. own ++ others) o ≡ Some found
    → (others : List ℤ × List ℕ) × (o ≡ Some others) × (own ++ others.0 ≡ found.0)
opened_others own None found e = absurd cc
opened_others own (Some others) found e = (others, refl, ap (λ r. r.0) (some_is (own ++ others.0, others.1) found e))

-- the next run is opened
pub walk_opens : (run opened : DeltaRun) (before behind : Option (List ℤ × List ℕ)) (bytes : List ℕ) → run.count ≡ 0 → IsSome (left_of run before bytes)
    → before ≡ map_value (λ others. run_deltas opened bytes ++ others) behind → DeltasLieIn bytes opened → left_of opened behind bytes ≡ left_of run before bytes
walk_opens run opened before behind bytes none h e lies =
    let parts = parts_of run before bytes h in
    let empty : run_deltas run bytes ≡ [] = nil_from_length (run_deltas run bytes) (length-run_deltas bytes run ∙ none) in
    let found = opened_others (run_deltas opened bytes) behind parts.others (sym e ∙ parts.has_others) in
    together opened behind bytes found.0 lies found.1
    ∙ ap Some found.2
    ∙ sym (parts.both ∙ ap (λ (own : List ℤ). Some (own ++ parts.others.0)) empty)

-- the first deltas of the run are the first of all
pub left_front : (run front : DeltaRun) (behind : Option (List ℤ × List ℕ)) (bytes : List ℕ) (n : ℕ) → IsSome (left_of run behind bytes) → n ≤ run.count → run_deltas front bytes ≡ take n (run_deltas run bytes)
    → run_deltas front bytes ≡ take n (unwrap_or (left_of run behind bytes) [])
left_front run front behind bytes n h few is =
    let parts = parts_of run behind bytes h in
    rw parts.both (is ∙ sym (take-append-le n (run_deltas run bytes) parts.others.0 (omega (arith, length-run_deltas bytes run))))

-- and without them the others are left
pub left_behind : (run rest : DeltaRun) (behind : Option (List ℤ × List ℕ)) (bytes : List ℕ) (n : ℕ) → IsSome (left_of run behind bytes) → n ≤ run.count → DeltasLieIn bytes rest → run_deltas rest bytes ≡ drop n (run_deltas run bytes)
    → left_of rest behind bytes ≡ Some (drop n (unwrap_or (left_of run behind bytes) []))
left_behind run rest behind bytes n h few lies is =
    let parts = parts_of run behind bytes h in
    together rest behind bytes parts.others lies parts.has_others
    ∙ ap (λ own. Some (own ++ parts.others.0)) is
    ∙ ap Some (sym (drop-append-le n (run_deltas run bytes) parts.others.0 (omega (arith, length-run_deltas bytes run))) ∙ ap (λ o. drop n (unwrap_or o [])) (sym parts.both))

pub length-left : (run : DeltaRun) (size parts : ℕ) (least : ℤ) (count widths k next : ℕ) (bytes : List ℕ) → IfSome (left_of run (behind_of size parts least count widths k next bytes) bytes) (λ deltas. run.count + count ≡ length deltas)
length-left run size parts least count widths k next bytes = if_some _ _ (λ deltas e.
    let found = parts_of run (behind_of size parts least count widths k next bytes) bytes (same_some _ _ e refl) in
    let same = some_is _ _ (sym found.both ∙ e) in
    let long = ap length same in
    omega (arith, length-append (run_deltas run bytes) found.others.0, length-run_deltas bytes run, length-behind size parts least count widths k next bytes found.others found.has_others))
