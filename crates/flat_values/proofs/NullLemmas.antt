-- Rows that are cut into chunks.
use Rattle.std.proofs.Common.{◌≡◌, ℕ, zero, suc, ◌-◌, ◌/◌, ◌<◌, ◌≤◌, List, [], ◌∷◌, ◌++◌, length, map, take, drop, replicate, refl, sym, ap, ap₂, ◌∙◌, inl, inr, arith}
use Rattle.std.specs.Prelude.{min, Option, Some, None}
use Rattle.std.proofs.Math.Nat.{div-eq-sub-div, div-eq_of_lt, mod-eq-sub-mod, mod-eq_of_lt}
use Rattle.std.proofs.lemmas.Bool.{cases_lt}
use Rattle.std.proofs.lemmas.List.{length-drop, length-take}
use Rattle.parquet_base.specs.Pieces.{cut}
use Rattle.page_decoding.specs.Queue.{IsChunkSize}
use Rattle.page_decoding.proofs.CutLemmas.{cut-first}
use Rattle.flat_values.specs.NullChunks.{cut_rows, rest_chunk}

full_chunk : (size left : ℕ) → 0 < size → size ≤ left → cut_rows (Some size) left ≡ size ∷ cut_rows (Some size) (left - size)
full_chunk size left some enough =
    let more : left / size ≡ suc ((left - size) / size) = div-eq-sub-div some enough ∙ omega arith in
    ap₂ (λ whole rest. replicate whole size ++ rest_chunk rest) more (mod-eq-sub-mod enough)

last_chunk : (size left : ℕ) → 0 < left → left < size → cut_rows (Some size) left ≡ left ∷ cut_rows (Some size) (left - left)
last_chunk size zero some less = absurd (omega (arith, some))
last_chunk size (suc rows) some less =
    let none : suc rows - suc rows ≡ 0 = omega arith in
    let positive : 0 < size = omega (arith, less) in
    ap₂ (λ whole rest. replicate whole size ++ rest_chunk rest) (div-eq_of_lt less) (mod-eq_of_lt less)
    ∙ ap₂ (λ whole rest. suc rows ∷ (replicate whole size ++ rest_chunk rest)) (sym (div-eq_of_lt positive)) (sym (mod-eq_of_lt positive))
    ∙ ap (λ n. suc rows ∷ cut_rows (Some size) n) (sym none)

pub first_chunk : (chunk_size : Option ℕ) (size left rows : ℕ) → IsChunkSize chunk_size → 0 < left → chunk_size ≡ Some size → rows ≡ min size left
    → cut_rows chunk_size left ≡ rows ∷ cut_rows chunk_size (left - rows)
first_chunk None size left rows positive some e is = cc
first_chunk (Some own) size left rows positive some e is =
    let same : own ≡ size = cc in
    elim (cases_lt left own) [
      | inl less ↦ let all : rows ≡ left = omega (arith, less, same, is) in rw all (last_chunk own left some less)
      | inr enough ↦ let full : rows ≡ own = omega (arith, enough, same, is) in rw full (full_chunk own left positive enough)
    ]

-- ---- chunks of nulls are as long as the pieces of a list that is cut

no_rows : (size : ℕ) → 0 < size → [] ≡ cut_rows (Some size) 0
no_rows size some = ap₂ (λ whole rest. replicate whole size ++ rest_chunk rest) (sym (div-eq_of_lt some)) (sym (mod-eq_of_lt some))

sized : {T : Type 0} (turns size : ℕ) (rows : List T) → 0 < size → length rows ≤ turns → map length (cut (Some size) rows) ≡ cut_rows (Some size) (length rows)
sized turns size [] some enough = no_rows size some
sized zero size (row ∷ rows) some enough = absurd (omega (arith, enough))
sized (suc turns) size (row ∷ rows) some enough =
    let all = row ∷ rows in
    let first : length (take size all) ≡ min size (length all) = length-take size all in
    let rest : length (drop size all) ≡ length all - min size (length all) = length-drop size all ∙ omega arith in
    ap (map length) (cut-first (Some size) row rows some)
    ∙ ap₂ (λ n others. n ∷ others) first (sized turns size (drop size all) some (omega (arith, rest, some, enough)) ∙ ap (cut_rows (Some size)) rest)
    ∙ sym (first_chunk (Some size) size (length all) (min size (length all)) some (omega arith) refl refl)

pub cuts_rows : {T : Type 0} (size : Option ℕ) (rows : List T) → IsChunkSize size → map length (cut size rows) ≡ cut_rows size (length rows)
cuts_rows None [] some = refl
cuts_rows None (row ∷ rows) some = refl
cuts_rows (Some size) rows some = sized (length rows) size rows some (omega arith)
