-- Items of one size, joined.
use Rattle.std.proofs.Common.{◌≡◌, ℕ, zero, suc, ◌+◌, ◌*◌, ◌/◌, ◌<◌, ◌≤◌, List, [], ◌∷◌, ◌++◌, length, take, drop, replicate, get_or, ◌-◌, refl, sym, ap, ap₂, subst, ◌∙◌, append-nil, append_assoc, arith}
use Rattle.std.specs.Prelude.{◌%◌}
use Rattle.std.specs.List.{concat}
use Rattle.std.specs.Simd.{first_chunks}
use Rattle.std.proofs.Math.Nat.{mul-div_cancel, mul-mod_left}
use Rattle.std.proofs.Math.Seq.{take-length}
use Rattle.std.proofs.lemmas.List.{drop-drop, length-append, length-drop, length-replicate, replicate-append-replicate, take-append-drop, take-append-le, drop-append-le, take_all}
use Rattle.std.proofs.lemmas.List.FromFn.{fill_by_all}
use Rattle.columns_core.specs.Fixed.{fixed_pieces}
use Rattle.flat_values.specs.FixedItems.{FixedItems}

pub length-chunks : (size n : ℕ) (bytes : List ℕ) → length (first_chunks size n bytes) ≡ n
length-chunks size zero bytes = refl
length-chunks size (suc n) bytes = ap suc (length-chunks size n (drop size bytes))

chunk_at : (size n k : ℕ) (bytes : List ℕ) → k < n → get_or (first_chunks size n bytes) k [] ≡ take size (drop (k * size) bytes)
chunk_at size zero k bytes lt = absurd (omega (arith, lt))
chunk_at size (suc n) zero bytes lt = let none : 0 ≡ 0 * size = omega arith in ap (λ place. take size (drop place bytes)) none
chunk_at size (suc n) (suc k) bytes lt =
    let place : size + k * size ≡ suc k * size = omega arith in
    chunk_at size n k (drop size bytes) (omega (arith, lt)) ∙ ap (take size) (drop-drop (k * size) size bytes ∙ ap (λ m. drop m bytes) place)

-- pieces, one behind the other
pub pieces-chunks : (size : ℕ) (bytes : List ℕ) → fixed_pieces size bytes ≡ first_chunks size (length bytes / size) bytes
pieces-chunks size bytes =
    let count = length bytes / size in
    sym (fill_by_all (λ i. take size (drop (i * size) bytes)) (first_chunks size count bytes) count [] (length-chunks size count bytes) (λ k lt. chunk_at size count k bytes lt))

chunks-append : (size m n k : ℕ) (xs ys : List ℕ) → k ≡ m + n → length xs ≡ m * size → first_chunks size k (xs ++ ys) ≡ first_chunks size m xs ++ first_chunks size n ys
chunks-append size zero n k [] ys e long = let same : k ≡ n = omega (arith, e) in ap (λ j. first_chunks size j ys) same
chunks-append size zero n k (x ∷ xs) ys e long = absurd (omega (arith, long))
chunks-append size (suc m) n zero xs ys e long = absurd (omega (arith, e))
chunks-append size (suc m) n (suc k) xs ys e long =
    let whole : suc m * size ≡ size + m * size = omega arith in
    let enough : size ≤ length xs = omega (arith, long, whole) in
    let rest : length (drop size xs) ≡ m * size = length-drop size xs ∙ omega (arith, long, whole) in
    ap₂ (λ x others. x ∷ others) (take-append-le size xs ys enough)
    (ap (first_chunks size k) (drop-append-le size xs ys enough) ∙ chunks-append size m n k (drop size xs) ys (omega (arith, e)) rest)

pub one_chunk : (size : ℕ) (xs : List ℕ) → length xs ≡ size → first_chunks size 1 xs ≡ xs ∷ []
one_chunk size xs long = ap (λ x. x ∷ []) (ap (λ n. take n xs) (sym long) ∙ take-length xs)

chunks-replicate : (size n : ℕ) → first_chunks {X = ℕ} size n (replicate (n * size) 0) ≡ replicate n (replicate size 0)
chunks-replicate size zero = refl
chunks-replicate size (suc n) =
    let whole : size + n * size ≡ suc n * size = omega arith in
    let one : size ≡ 1 * size = omega arith in
    let more : suc n ≡ 1 + n = omega arith in
    let long : length (replicate size 0) ≡ size = length-replicate size 0 in
    ap (first_chunks size (suc n)) (sym (replicate-append-replicate size (n * size) 0 ∙ ap (λ m. replicate m 0) whole))
    ∙ chunks-append size 1 n (suc n) (replicate size 0) (replicate (n * size) 0) more (long ∙ one)
    ∙ ap₂ (λ first others. first ++ others) (one_chunk size (replicate size 0) long) (chunks-replicate size n)

concat-chunks : (size n : ℕ) (xs : List ℕ) → length xs ≡ n * size → concat (first_chunks size n xs) ≡ xs
concat-chunks size zero [] long = refl
concat-chunks size zero (x ∷ xs) long = absurd (omega (arith, long))
concat-chunks size (suc n) xs long =
    let whole : suc n * size ≡ size + n * size = omega arith in
    let rest : length (drop size xs) ≡ n * size = length-drop size xs ∙ omega (arith, long, whole) in
    ap (λ others. take size xs ++ others) (concat-chunks size n (drop size xs) rest) ∙ take-append-drop size xs

-- ---- whole items

-- bytes that are a whole number of items
module _ (size : ℕ) (bytes : List ℕ) (has_size : 0 < size) (whole : length bytes % size ≡ 0) where
  counted : length bytes ≡ length bytes / size * size
  counted = omega (arith, has_size, whole)

  -- joined they are the bytes
  pub joined : concat (fixed_pieces size bytes) ≡ bytes
  joined = ap concat (pieces-chunks size bytes) ∙ concat-chunks size (length bytes / size) bytes counted

  module _ (more : List ℕ) (n : ℕ) (items : length more ≡ n * size) where
    counted_with : length (bytes ++ more) ≡ (length bytes / size + n) * size
    counted_with = length-append bytes more ∙ omega (arith, counted, items)

    pub whole_with : length (bytes ++ more) % size ≡ 0
    whole_with = ap (λ m. m % size) counted_with ∙ mul-mod_left (length bytes / size + n) size

    pieces-append : fixed_pieces size (bytes ++ more) ≡ fixed_pieces size bytes ++ first_chunks size n more
    pieces-append =
        let count : length (bytes ++ more) / size ≡ length bytes / size + n = ap (λ m. m / size) counted_with ∙ mul-div_cancel (length bytes / size + n) has_size in
        pieces-chunks size (bytes ++ more) ∙ chunks-append size (length bytes / size) n (length (bytes ++ more) / size) bytes more count counted
        ∙ ap (λ front. front ++ first_chunks size n more) (sym (pieces-chunks size bytes))

  -- one item more
  pub with_item : (item : List ℕ) → length item ≡ size → fixed_pieces size (bytes ++ item) ≡ fixed_pieces size bytes ++ item ∷ []
  with_item item long =
      let one : size ≡ 1 * size = omega arith in
      pieces-append item 1 (long ∙ one) ∙ ap (λ own. fixed_pieces size bytes ++ own) (one_chunk size item long)

  -- a whole number of items more
  pub with_items : (more : List ℕ) → length more % size ≡ 0 → fixed_pieces size (bytes ++ more) ≡ fixed_pieces size bytes ++ fixed_pieces size more
  with_items more all =
      let count : length more ≡ length more / size * size = omega (arith, has_size, all) in
      pieces-append more (length more / size) count ∙ ap (λ own. fixed_pieces size bytes ++ own) (sym (pieces-chunks size more))

  -- so many items of zero bytes more
  pub with_zeros : (n : ℕ) → fixed_pieces size (bytes ++ replicate (n * size) 0) ≡ fixed_pieces size bytes ++ replicate n (replicate size 0)
  with_zeros n = pieces-append (replicate (n * size) 0) n (length-replicate (n * size) 0) ∙ ap (λ own. fixed_pieces size bytes ++ own) (chunks-replicate size n)

-- the same item once more
pub repeated_more : (item : List ℕ) (n : ℕ) → concat (replicate (n + 1) item) ≡ concat (replicate n item) ++ item
repeated_more item n = let next : n + 1 ≡ suc n = omega arith in ap (λ k. concat (replicate k item)) next ∙ more n where
  more : (n : ℕ) → concat (replicate (suc n) item) ≡ concat (replicate n item) ++ item
  more zero = append-nil item
  more (suc n) = ap (λ rest. item ++ rest) (more n) ∙ sym (append_assoc item (concat (replicate n item)) item)

-- the same item so many times
pub with_repeated : (size : ℕ) (item : List ℕ) → 0 < size → length item ≡ size → (n : ℕ) (bytes : List ℕ) → length bytes % size ≡ 0
    → (fixed_pieces size (bytes ++ concat (replicate n item)) ≡ fixed_pieces size bytes ++ replicate n item) × (length (bytes ++ concat (replicate n item)) % size ≡ 0)
with_repeated size item has_size long zero bytes whole = (ap (fixed_pieces size) (append-nil bytes) ∙ sym (append-nil (fixed_pieces size bytes)), ap (λ l. length l % size) (append-nil bytes) ∙ whole)
with_repeated size item has_size long (suc n) bytes whole =
    let one : size ≡ 1 * size = omega arith in
    let rest = concat (replicate n item) in
    let more : length (bytes ++ item) % size ≡ 0 = whole_with size bytes has_size whole item 1 (long ∙ one) in
    let others = with_repeated size item has_size long n (bytes ++ item) more in
    let split = sym (append_assoc bytes item rest) in (
      ap (fixed_pieces size) split ∙ others.0 ∙ ap (λ front. front ++ replicate n item) (with_item size bytes has_size whole item long) ∙ append_assoc (fixed_pieces size bytes) (item ∷ []) (replicate n item),
      ap (λ l. length l % size) split ∙ others.1,
    )

-- ---- what a contract sees

abbrev shown : ℕ → List ℕ → FixedItems
shown size bytes = record { size = size; items = fixed_pieces size bytes }

pub items_more : (old : FixedItems) (size : ℕ) (bytes new : List ℕ) (own : List (List ℕ)) → shown size bytes ≡ old → fixed_pieces size new ≡ fixed_pieces size bytes ++ own →
    shown size new ≡ record { size = old.size; items = old.items ++ own }
items_more old size bytes new own same more =
    subst (λ (o : FixedItems). shown size new ≡ record { size = o.size; items = o.items ++ own }) same (ap (λ items. record { size = size; items = items }) more)

-- a vector that is filled up with zero bytes
pub filled : (size additional long kept total : ℕ) (bytes new : List ℕ) → long ≡ kept → kept ≡ length bytes → total ≡ long + additional * size → new ≡ take total bytes ++ replicate (total - kept) 0 →
    new ≡ bytes ++ replicate (additional * size) 0
filled size additional long kept total bytes new same whole sum is =
    let more : total - kept ≡ additional * size = omega (arith, same, sum) in
    is ∙ ap₂ (λ front behind. front ++ behind) (take_all total bytes (omega (arith, same, whole, sum))) (ap (λ n. replicate n 0) more)
