-- Bytes of rows and of their chunks.
use Rattle.std.proofs.Common.{◌≡◌, ℕ, ◌+◌, ◌-◌, ◌*◌, ◌≤◌, suc, zero, false, List, [], ◌∷◌, ◌++◌, length, take, drop, map, Option, Some, None, refl, sym, ap, ◌∙◌, subst, inl, inr, arith, append_assoc}
use Rattle.std.specs.Prelude.{sum_by}
use Rattle.std.proofs.lemmas.Bool.{leb-false, lt-leb}
use Rattle.std.proofs.lemmas.List.{map-append, length-map, length-append, length-take, take_all}
use Rattle.std.proofs.lemmas.List.Sums.{sum_by-append}
use Rattle.std.proofs.lemmas.Grind.{common_steps}
use Rattle.std.proofs.Math.Seq.{drop-append_seam}
use Rattle.columns_core.specs.declared.cell.Cell.{Cell}
use Rattle.columns_core.specs.declared.error.Error.{Error}
use Rattle.page_decoding.specs.Bytes.{IsCausedByChunks, SomePasses, chunk_at, fits_most, row_bytes}
use Rattle.page_decoding.specs.Outcome.{Outcome, Given, IsCausedBy}
use Rattle.page_decoding.specs.Queue.{AreFull, FitsChunk, joined}
use Rattle.page_decoding.proofs.RowLemmas.{caused-left, caused-right, take-split}

pub take-append : {A : Type 0} (n : ℕ) (xs ys : List A) → take n (xs ++ ys) ≡ take n xs ++ take (n - length xs) ys
take-append n [] ys = let e : n - 0 ≡ n = omega arith in rw e grind (arith, common_steps)
take-append zero (x ∷ xs) ys = let e : zero - suc (length xs) ≡ zero = omega arith in rw e refl
take-append (suc n) (x ∷ xs) ys = let e : suc n - suc (length xs) ≡ n - length xs = omega arith in rw e (ap (λ zs. x ∷ zs) (take-append n xs ys))

drop-append : {A : Type 0} (n : ℕ) (xs ys : List A) → drop n (xs ++ ys) ≡ drop n xs ++ drop (n - length xs) ys
drop-append n [] ys = let e : n - 0 ≡ n = omega arith in rw e grind (arith, common_steps)
drop-append zero (x ∷ xs) ys = let e : zero - suc (length xs) ≡ zero = omega arith in rw e refl
drop-append (suc n) (x ∷ xs) ys = let e : suc n - suc (length xs) ≡ n - length xs = omega arith in rw e (drop-append n xs ys)

bytes : List Outcome → ℕ
bytes rows = sum_by row_bytes rows

bytes-front : (n : ℕ) (xs ys : List Outcome) → sum_by row_bytes (take n xs) ≤ sum_by row_bytes (take n (xs ++ ys))
bytes-front n xs ys = omega (arith, ap (sum_by row_bytes) (take-append n xs ys) ∙ sum_by-append row_bytes (take n xs) (take (n - length xs) ys))

bytes-chunk : (size : Option ℕ) (k : ℕ) (xs ys : List Outcome) → sum_by row_bytes (chunk_at size k xs) ≤ sum_by row_bytes (chunk_at size k (xs ++ ys))
bytes-chunk None k xs ys = omega (arith, sum_by-append row_bytes xs ys)
bytes-chunk (Some size) k xs ys =
    let rest = drop (k * size - length xs) ys in
    omega (arith, bytes-front size (drop (k * size) xs) rest, ap (λ rows. sum_by row_bytes (take size rows)) (drop-append (k * size) xs ys))

stays-past : (most : Option ℕ) (a b : ℕ) → a ≤ b → fits_most most a ≡ false → fits_most most b ≡ false
stays-past None a b le past = past
stays-past (Some most) a b le past = lt-leb b most (omega (arith, leb-false a most past, le))

-- With more rows behind them the bytes of the same chunk pass.
passes-more : (most size : Option ℕ) (xs ys : List Outcome) → SomePasses most size xs → SomePasses most size (xs ++ ys)
passes-more most size xs ys (k, past) = (k, stays-past most (sum_by row_bytes (chunk_at size k xs)) (sum_by row_bytes (chunk_at size k (xs ++ ys))) (bytes-chunk size k xs ys) past)

pub chunks-left : (most size : Option ℕ) (xs ys : List Outcome) (error : Error) → IsCausedByChunks most size xs error → IsCausedByChunks most size (xs ++ ys) error
chunks-left most size xs ys error (inl told) = inl (caused-left xs ys error told)
chunks-left most size xs ys error (inr (is, passes)) = inr (is, passes-more most size xs ys passes)

-- what is wrong with rows is wrong with those that wait and them
pub chunks-right : (most size : Option ℕ) (xs ys : List Outcome) (error : Error) → IsCausedBy ys error → IsCausedByChunks most size (xs ++ ys) error
chunks-right most size xs ys error told = inl (caused-right xs ys error told)

-- ---- the last item of a queue

-- before the last item stand whole chunks
length-full : {X : Type 0} (shown : X → List Cell) (size : ℕ) (items : List X) → AreFull (Some size) (map shown items) → length (joined (map shown items)) ≡ length items * size
length-full shown size [] full = omega arith
length-full shown size (item ∷ items) full = omega (arith, length-append (shown item) (joined (map shown items)), length-full shown size items full.2, full.1)

given-length : (cells : List Cell) → length (map Given cells) ≡ length cells
given-length cells = simp length-map

-- the rows of the chunk that the last item begins
chunk-last : {X : Type 0} (shown : X → List Cell) (size : Option ℕ) (items : List X) (rows : List Outcome) → AreFull size (map shown items) → chunk_at size (length items) (map Given (joined (map shown items)) ++ rows) ≡ chunk_at size 0 rows
chunk-last shown None [] rows full = refl
chunk-last shown None (item ∷ items) rows full = absurd full.1
chunk-last shown (Some size) items rows full =
    let front = map Given (joined (map shown items)) in
    let long : length items * size ≡ length front = sym (length-full shown size items full) ∙ sym (given-length (joined (map shown items))) in
    let none : 0 * size ≡ 0 = omega arith in
    ap (λ n. take size (drop n (front ++ rows))) long ∙ ap (take size) (drop-append_seam front rows) ∙ sym (ap (λ n. take size (drop n rows)) none)

first-fits : (size : Option ℕ) (rows : List Outcome) → FitsChunk size (length rows) → chunk_at size 0 rows ≡ rows
first-fits None rows fits = refl
first-fits (Some size) rows fits = let none : 0 * size ≡ 0 = omega arith in ap (λ n. take size (drop n rows)) none ∙ take_all size rows fits

fits-less : (size : Option ℕ) (n m : ℕ) → n ≤ m → FitsChunk size m → FitsChunk size n
fits-less None n m le fits = tt
fits-less (Some size) n m le fits = omega (arith, le, fits)

-- An error at the last item of a queue tells of the chunk that it begins.
pub chunks-last : {X : Type 0} (shown : X → List Cell) (most size : Option ℕ) (old : List Cell) (items : List X) (item : List Cell) (k n : ℕ) (left : List Outcome) (error : Error)
    → old ≡ joined (map shown items) ++ item → AreFull size (map shown items) → FitsChunk size (length item + k) → k ≤ n
    → IsCausedByChunks most None (map Given item ++ take k left) error → IsCausedByChunks most size (map Given old ++ take n left) error
chunks-last shown most size old items item k n left error split full fits le (inl told) =
    let before = joined (map shown items) in
    let own = map Given item ++ take k left in
    let P : List Outcome → Type 0 = λ rows. IsCausedBy rows error in
    let whole : map Given old ++ take n left ≡ (map Given before ++ own) ++ take (n - k) (drop k left) =
    ap (λ rows. rows ++ take n left) (ap (map Given) split ∙ map-append Given before item) ∙ append_assoc (map Given before) (map Given item) (take n left)
    ∙ ap (λ rows. map Given before ++ rows) (ap (λ rows. map Given item ++ rows) (take-split k n left le) ∙ sym (append_assoc (map Given item) (take k left) (take (n - k) (drop k left))))
    ∙ sym (append_assoc (map Given before) own (take (n - k) (drop k left))) in
    inl (subst P (sym whole) (caused-left (map Given before ++ own) (take (n - k) (drop k left)) error (caused-right (map Given before) own error told)))
chunks-last shown most size old items item k n left error split full fits le (inr (is, (j, past))) =
    let before = joined (map shown items) in
    let own = map Given item ++ take k left in
    let others = take (n - k) (drop k left) in
    let P : List Outcome → Type 0 = λ rows. SomePasses most size rows in
    let whole : map Given old ++ take n left ≡ (map Given before ++ own) ++ others =
    ap (λ rows. rows ++ take n left) (ap (map Given) split ∙ map-append Given before item) ∙ append_assoc (map Given before) (map Given item) (take n left)
    ∙ ap (λ rows. map Given before ++ rows) (ap (λ rows. map Given item ++ rows) (take-split k n left le) ∙ sym (append_assoc (map Given item) (take k left) (take (n - k) (drop k left))))
    ∙ sym (append_assoc (map Given before) own (take (n - k) (drop k left))) in
    let long : length own ≤ length item + k = omega (arith, length-append (map Given item) (take k left), given-length item, length-take k left) in
    let here : chunk_at size (length items) (map Given before ++ own) ≡ own = chunk-last shown size items own full ∙ first-fits size own (fits-less size (length own) (length item + k) long fits) in
    let Q : List Outcome → Type 0 = λ rows. fits_most most (sum_by row_bytes rows) ≡ false in
    inr (is, subst P (sym whole) (passes-more most size (map Given before ++ own) others (length items, subst Q (sym here) past)))
