-- Byte strings of the rows of a word that have one, and empty ones of the others.
use Rattle.std.proofs.Common.{◌≡◌, ℕ, ◌+◌, ◌<◌, ◌≤◌, Bool, true, false, List, [], ◌∷◌, ◌++◌, length, get_or, take, drop, map, Some, None, refl, sym, ap, ◌∙◌, subst, arith, append_assoc, append-nil}
use Rattle.std.specs.Prelude.{All, IsUtf8, slice_get, sum_by}
use Rattle.std.proofs.lemmas.List.{drop_all, drop_more, length-map, length-take}
use Rattle.std.proofs.lemmas.List.Elements.{All-cons, All-nil, All-tail}
use Rattle.std.proofs.lemmas.List.Sums.{sum_by-append, sum_by-cons}
use Rattle.std.proofs.lemmas.Str.{IsUtf8-nil}
use Rattle.parquet_page.specs.Levels.{present_count}
use Rattle.parquet_page.proofs.SpelledLemmas.{absent_same, present_suc}
use Rattle.flat_values.specs.Decoded.{spread_over}
use Rattle.binary_values.specs.ByteStrings.{AreJudged}

-- what the rows of these places are, by the strings that are left
abbrev pub rows_of : {A : Type 0} → (A → List ℕ) → List Bool → List A → List (List ℕ)
rows_of f places left = spread_over [] places (map f (take (present_count places) left))

rows-null : {A : Type 0} (f : A → List ℕ) (places : List Bool) (left : List A) → rows_of f (false ∷ places) left ≡ [] ∷ rows_of f places left
rows-null f places left = ap (λ n. spread_over [] (false ∷ places) (map f (take n left))) (absent_same places)

rows-value : {A : Type 0} (f : A → List ℕ) (places : List Bool) (x : A) (left : List A) → rows_of f (true ∷ places) (x ∷ left) ≡ f x ∷ rows_of f places left
rows-value f places x left = ap (λ n. spread_over [] (true ∷ places) (map f (take n (x ∷ left)))) (present_suc places)

-- ---- a row at a time

-- What was appended and what the rows behind give are all rows.
pub record RowsLeft {A : Type 0} (f : A → List ℕ) (old now : List (List ℕ)) (whole left : List A) (places behind : List Bool) : Type 0 where
  pub enough : present_count behind ≤ length left
  pub added : now ++ rows_of f behind left ≡ old ++ rows_of f places whole
  pub rest : drop (present_count behind) left ≡ drop (present_count places) whole

value-taken : {A : Type 0} (f : A → List ℕ) (old now new : List (List ℕ)) (whole left : List A) (places behind : List Bool) (x : A) → RowsLeft f old now whole left places (true ∷ behind) → slice_get left 0 ≡ Some x → new ≡ now ++ f x ∷ []
    → RowsLeft f old new whole (drop 1 left) places behind
value-taken f old now new whole [] places behind x rows found more = absurd (omega (arith, rows.enough, present_suc behind))
value-taken f old now new whole (y ∷ left) places behind x rows found more =
    let same : y ≡ x = cc in
    record {
      enough = omega (arith, rows.enough, present_suc behind);
      added = ap (λ all. all ++ rows_of f behind left) (more ∙ ap (λ z. now ++ f z ∷ []) (sym same)) ∙ append_assoc now (f y ∷ []) (rows_of f behind left)
          ∙ ap (λ own. now ++ own) (sym (rows-value f behind y left)) ∙ rows.added;
      rest = ap (λ n. drop n (y ∷ left)) (sym (present_suc behind)) ∙ rows.rest;
    }

null-taken : {A : Type 0} (f : A → List ℕ) (old now new : List (List ℕ)) (whole left : List A) (places behind : List Bool) → RowsLeft f old now whole left places (false ∷ behind) → new ≡ now ++ [] ∷ [] → RowsLeft f old new whole left places behind
null-taken f old now new whole left places behind rows more = record {
  enough = omega (arith, rows.enough, absent_same behind);
  added = ap (λ all. all ++ rows_of f behind left) more ∙ append_assoc now ([] ∷ []) (rows_of f behind left) ∙ ap (λ own. now ++ own) (sym (rows-null f behind left)) ∙ rows.added;
  rest = ap (λ n. drop n left) (sym (absent_same behind)) ∙ rows.rest;
}

pub at-row : {A : Type 0} (f : A → List ℕ) (old now : List (List ℕ)) (whole left : List A) (places : List Bool) (row : ℕ) (present : Bool) → row < length places → get_or places row false ≡ present → RowsLeft f old now whole left places (drop row places)
    → RowsLeft f old now whole left places (present ∷ drop (row + 1) places)
at-row f old now whole left places row present lt is rows =
    let P : List Bool → Type 0 = λ behind. RowsLeft f old now whole left places behind in
    subst P (drop_more places row false lt ∙ ap (λ bit. bit ∷ drop (row + 1) places) is) rows

-- such a row has one
pub no-row : {A : Type 0} (f : A → List ℕ) (old now : List (List ℕ)) (whole left : List A) (places : List Bool) (row : ℕ) → row < length places → get_or places row false ≡ true → RowsLeft f old now whole left places (drop row places)
    → slice_get left 0 ≡ None → ⊥
no-row f old now whole [] places row lt is rows none = absurd (omega (arith, (at-row f old now whole [] places row true lt is rows).enough, present_suc (drop (row + 1) places)))
no-row f old now whole (x ∷ left) places row lt is rows none = cc

-- a row that has a string
pub value-row : {A : Type 0} (f : A → List ℕ) (old now new : List (List ℕ)) (whole left next : List A) (places : List Bool) (row : ℕ) (x : A) → row < length places → get_or places row false ≡ true → RowsLeft f old now whole left places (drop row places)
    → slice_get left 0 ≡ Some x → next ≡ drop 1 left → new ≡ now ++ f x ∷ [] → RowsLeft f old new whole next places (drop (row + 1) places)
value-row f old now new whole left next places row x lt is rows found behind more =
    let P : List _ → Type 0 = λ xs. RowsLeft f old new whole xs places (drop (row + 1) places) in
    subst P (sym behind) (value-taken f old now new whole left places (drop (row + 1) places) x (at-row f old now whole left places row true lt is rows) found more)

-- a row that is null
pub null-row : {A : Type 0} (f : A → List ℕ) (old now new : List (List ℕ)) (whole left : List A) (places : List Bool) (row : ℕ) → row < length places → get_or places row false ≡ false → RowsLeft f old now whole left places (drop row places) → new ≡ now ++ [] ∷ []
    → RowsLeft f old new whole left places (drop (row + 1) places)
null-row f old now new whole left places row lt is rows more = null-taken f old now new whole left places (drop (row + 1) places) (at-row f old now whole left places row false lt is rows) more

-- where all rows were appended
pub rows-end : {A : Type 0} (f : A → List ℕ) (old now : List (List ℕ)) (whole left : List A) (places : List Bool) (row : ℕ) → length places ≤ row → RowsLeft f old now whole left places (drop row places)
    → (now ≡ old ++ rows_of f places whole) × (left ≡ drop (present_count places) whole)
rows-end f old now whole left places row past rows =
    let P : List Bool → Type 0 = λ behind. RowsLeft f old now whole left places behind in
    let all = subst P (drop_all row places past) rows in
    (sym (append-nil now) ∙ all.added, all.rest)

-- ---- the bytes of rows

few-left : {A : Type 0} (f : A → List ℕ) (n : ℕ) (left : List A) → length (map f (take n left)) ≤ n
few-left f n left = omega (arith, length-map (take n left) f, length-take n left)

sum-spread : (places : List Bool) (strings : List (List ℕ)) → length strings ≤ present_count places → sum_by length (spread_over [] places strings) ≡ sum_by length strings
sum-spread [] [] few = refl
sum-spread [] (string ∷ strings) few = absurd (omega (arith, few))
sum-spread (false ∷ places) strings few = omega (arith, sum_by-cons (length {A = ℕ}) [] (spread_over [] places strings), sum-spread places strings (omega (arith, few, absent_same places)))
sum-spread (true ∷ places) [] few = omega (arith, sum_by-cons (length {A = ℕ}) [] (spread_over [] places []), sum-spread places [] (omega arith))
sum-spread (true ∷ places) (string ∷ strings) few =
    omega (arith, sum_by-cons length string (spread_over [] places strings), sum_by-cons length string strings, sum-spread places strings (omega (arith, few, present_suc places)))

pub sum-rows : {A : Type 0} (f : A → List ℕ) (places : List Bool) (left : List A) → sum_by length (rows_of f places left) ≡ sum_by length (map f (take (present_count places) left))
sum-rows f places left = sum-spread places (map f (take (present_count places) left)) (few-left f (present_count places) left)

-- a string that is one too many
pub row-past : {A : Type 0} (f : A → List ℕ) (old now : List (List ℕ)) (whole left : List A) (places behind : List Bool) (x : A) (most : ℕ) → RowsLeft f old now whole left places (true ∷ behind) → slice_get left 0 ≡ Some x
    → most < sum_by length now + length (f x) → most < sum_by length old + sum_by length (map f (take (present_count places) whole))
row-past f old now whole [] places behind x most rows found past = absurd (omega (arith, rows.enough, present_suc behind))
row-past f old now whole (y ∷ left) places behind x most rows found past =
    let same : y ≡ x = cc in
    let all = sym (sum_by-append length now (rows_of f (true ∷ behind) (y ∷ left))) ∙ ap (sum_by length) rows.added ∙ sum_by-append length old (rows_of f places whole) in
    let own = ap (sum_by length) (rows-value f behind y left) ∙ sum_by-cons length (f y) (rows_of f behind left) in
    omega (arith, past, all, own, ap (λ z. length (f z)) same, sum-rows f places whole)

-- ---- texts

first : (string : List ℕ) (strings : List (List ℕ)) → All IsUtf8 (string ∷ strings) → IsUtf8 string
first string strings all = all 0 [] (omega arith)

texts-spread : (places : List Bool) (strings : List (List ℕ)) → All IsUtf8 strings → All IsUtf8 (spread_over [] places strings)
texts-spread [] strings texts = All-nil IsUtf8
texts-spread (false ∷ places) strings texts = All-cons IsUtf8 [] (spread_over [] places strings) IsUtf8-nil (texts-spread places strings texts)
texts-spread (true ∷ places) [] texts = All-cons IsUtf8 [] (spread_over [] places []) IsUtf8-nil (texts-spread places [] texts)
texts-spread (true ∷ places) (string ∷ strings) texts =
    All-cons IsUtf8 string (spread_over [] places strings) (first string strings texts) (texts-spread places strings (All-tail IsUtf8 string strings texts))

spread-texts : (places : List Bool) (strings : List (List ℕ)) → length strings ≤ present_count places → All IsUtf8 (spread_over [] places strings) → All IsUtf8 strings
spread-texts [] [] few texts = All-nil IsUtf8
spread-texts [] (string ∷ strings) few texts = absurd (omega (arith, few))
spread-texts (false ∷ places) strings few texts = spread-texts places strings (omega (arith, few, absent_same places)) (All-tail IsUtf8 [] (spread_over [] places strings) texts)
spread-texts (true ∷ places) [] few texts = All-nil IsUtf8
spread-texts (true ∷ places) (string ∷ strings) few texts =
    All-cons IsUtf8 string strings (first string (spread_over [] places strings) texts) (spread-texts places strings (omega (arith, few, present_suc places)) (All-tail IsUtf8 string (spread_over [] places strings) texts))

-- The rows are judged where their strings are.
pub judged-rows : {A : Type 0} (is_text : Bool) (f : A → List ℕ) (places : List Bool) (left : List A) → AreJudged is_text (map f (take (present_count places) left)) → AreJudged is_text (rows_of f places left)
judged-rows is_text f places left judged = λ text. texts-spread places (map f (take (present_count places) left)) (judged text)

pub rows-judged : {A : Type 0} (is_text : Bool) (f : A → List ℕ) (places : List Bool) (left : List A) → AreJudged is_text (rows_of f places left) → AreJudged is_text (map f (take (present_count places) left))
rows-judged is_text f places left judged = λ text. spread-texts places (map f (take (present_count places) left)) (few-left f (present_count places) left) (judged text)
