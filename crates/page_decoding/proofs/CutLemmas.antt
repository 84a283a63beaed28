-- A list is cut by its first chunk and the chunks of what is left, and the chunks together are the list.
use Rattle.std.proofs.Common.{◌≡◌, ◌∙◌, ℕ, ◌<◌, ◌≤◌, suc, zero, List, [], ◌∷◌, ◌++◌, length, take, drop, Option, Some, None, refl, ap, arith}
use Rattle.std.proofs.lemmas.List.{append-nil, length-drop, take-append-drop}
use Rattle.parquet_base.specs.Pieces.{cut, pieces}
use Rattle.page_decoding.specs.Queue.{IsChunkSize, first_chunk, joined, later_chunks}

-- More turns than the list has items give no more pieces.
pieces-same : {X : Type 0} (turns others size : ℕ) (xs : List X) → 0 < size → length xs ≤ turns → length xs ≤ others → pieces turns size xs ≡ pieces others size xs
pieces-same zero zero size xs some enough more = refl
pieces-same zero (suc others) size [] some enough more = refl
pieces-same zero (suc others) size (x ∷ xs) some enough more = absurd (omega (arith, enough))
pieces-same (suc turns) zero size [] some enough more = refl
pieces-same (suc turns) zero size (x ∷ xs) some enough more = absurd (omega (arith, more))
pieces-same (suc turns) (suc others) size [] some enough more = refl
pieces-same (suc turns) (suc others) size (x ∷ xs) some enough more =
    let rest = drop size (x ∷ xs) in
    let fewer = length-drop size (x ∷ xs) in
    ap (λ pieces. take size (x ∷ xs) ∷ pieces) (pieces-same turns others size rest some (omega (arith, fewer, enough, some)) (omega (arith, fewer, more, some)))

pub cut-first : {X : Type 0} (size : Option ℕ) (x : X) (xs : List X) → IsChunkSize size → cut size (x ∷ xs) ≡ first_chunk size (x ∷ xs) ∷ cut size (later_chunks size (x ∷ xs))
cut-first None x xs some = refl
cut-first (Some size) x xs some =
    let rest = drop size (x ∷ xs) in
    let fewer = length-drop size (x ∷ xs) in
    ap (λ pieces. take size (x ∷ xs) ∷ pieces) (pieces-same (length xs) (length rest) size rest some (omega (arith, fewer, some)) (omega arith))

pieces-joined : {X : Type 0} (turns size : ℕ) (xs : List X) → 0 < size → length xs ≤ turns → joined (pieces turns size xs) ≡ xs
pieces-joined zero size [] some enough = refl
pieces-joined zero size (x ∷ xs) some enough = absurd (omega (arith, enough))
pieces-joined (suc turns) size [] some enough = refl
pieces-joined (suc turns) size (x ∷ xs) some enough =
    ap (λ rest. take size (x ∷ xs) ++ rest) (pieces-joined turns size (drop size (x ∷ xs)) some (omega (arith, length-drop size (x ∷ xs), enough, some)))
    ∙ take-append-drop size (x ∷ xs)

pub cut-joined : {X : Type 0} (size : Option ℕ) (xs : List X) → IsChunkSize size → joined (cut size xs) ≡ xs
cut-joined None [] some = refl
cut-joined None (x ∷ xs) some = append-nil (x ∷ xs)
cut-joined (Some size) xs some = pieces-joined (length xs) size xs some (omega arith)
