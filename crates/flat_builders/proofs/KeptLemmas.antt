-- Texts or byte strings and their marks, with one more.
use Rattle.std.proofs.Common.{◌≡◌, ℕ, ◌+◌, Bool, true, false, List, [], ◌∷◌, ◌++◌, length, map, Some, None, refl, sym, ap, ap₂, ◌∙◌, subst, inl, inr, arith}
use Rattle.std.specs.Prelude.{◌⊎◌, All, IsTrue, IsUtf8, Option, sum_by, if◌then◌else◌, Result, Ok, Err, IfErr, OnOk}
use Rattle.std.proofs.lemmas.List.{length-append, map-append}
use Rattle.std.proofs.lemmas.List.Elements.{All-append, All-cons, All-nil}
use Rattle.std.proofs.lemmas.List.Sums.{sum_by-append, sum_by-cons}
use Rattle.std.proofs.lemmas.Result.{IfErr-weaker, on_ok_weaker}
use Rattle.std.proofs.lemmas.Str.{is_utf8-from_IsUtf8}
use Rattle.columns_core.specs.Column.{cell_of, where_set}
use Rattle.columns_core.specs.Types.{Layer}
use Rattle.columns_core.specs.declared.cell.Cell.{Cell}
use Rattle.columns_core.specs.declared.error.Error.{Error}
use Rattle.page_decoding.specs.Bytes.{cell_bytes}
use Rattle.flat_values.specs.CellTypes.{is_cell_at}
use Rattle.flat_builders.specs.Strings.{string_cell}
use Rattle.flat_builders.specs.Built.{byte_layer}
use Rattle.flat_builders.specs.Kept.{IsRefusedCell, bytes_fit}
use Rattle.flat_builders.specs.Strings.{AreKept, cells_with}
use Rattle.flat_builders.proofs.MarkLemmas.{marked_more}

-- what a contract sees
abbrev pub Seen : Type 0
Seen = Bool × List (Option (List ℕ))

abbrev seen : Bool → List (Option (List ℕ)) → Seen
seen is_text items = (is_text, items)

-- a string that is there has its own bytes, and one that is not has none
item_bytes : (is_text there : Bool) (string : List ℕ) → IsTrue there ⊎ (string ≡ []) → cell_bytes (cell_of (string_cell is_text) (if there then Some string else None)) ≡ length string
item_bytes true true string h = refl
item_bytes false true string h = refl
item_bytes is_text false string (inl h) = absurd cc
item_bytes is_text false string (inr h) = ap length (sym h)

sum_more : (f : Cell → ℕ) (cells : List Cell) (cell : Cell) → sum_by f (cells ++ cell ∷ []) ≡ sum_by f cells + f cell
sum_more f cells cell = omega (arith, sum_by-append f cells (cell ∷ []), sum_by-cons f cell [])

lengths_more : (strings : List (List ℕ)) (string : List ℕ) → sum_by length (strings ++ string ∷ []) ≡ sum_by length strings + length string
lengths_more strings string = omega (arith, sum_by-append (length {A = ℕ}) strings (string ∷ []), sum_by-cons (length {A = ℕ}) string [])

module _ (is_text : Bool) (strings : List (List ℕ)) (marks : List Bool) (kept : AreKept is_text strings marks) (string : List ℕ) (there : Bool) (empty : IsTrue there ⊎ (string ≡ [])) where
  -- the bytes of all cells are those of all strings
  pub all_bytes : (held : Seen) → seen is_text (where_set strings marks) ≡ held → sum_by cell_bytes (cells_with held there string) ≡ sum_by length strings + length string
  all_bytes held is =
      let own = seen is_text (where_set strings marks) in
      let item = cell_of (string_cell is_text) (if there then Some string else None) in
      ap (λ (h : Seen). sum_by cell_bytes (cells_with h there string)) (sym is)
      ∙ sum_more cell_bytes (map (cell_of (string_cell is_text)) (where_set strings marks)) item
      ∙ ap₂ (λ m n. m + n) kept.counted (item_bytes is_text there string empty)

  module _ (new_strings : List (List ℕ)) (new_marks : List Bool) (v : new_strings ≡ strings ++ string ∷ []) (m : new_marks ≡ marks ++ there ∷ []) where
    items_more : where_set new_strings new_marks ≡ where_set strings marks ++ (if there then Some string else None) ∷ []
    items_more = marked_more string there strings new_strings marks new_marks kept.marked v m

    pub seen_more : (held : Seen) → seen is_text (where_set strings marks) ≡ held → seen is_text (where_set new_strings new_marks) ≡ seen held.0 (held.1 ++ (if there then Some string else None) ∷ [])
    seen_more held is = ap (seen is_text) items_more ∙ ap (λ (h : Seen). seen h.0 (h.1 ++ (if there then Some string else None) ∷ [])) is

    pub kept_more : (IsTrue is_text → IsUtf8 string) → AreKept is_text new_strings new_marks
    kept_more judged =
        let to_cell = cell_of (string_cell is_text) in
        let item = if there then Some string else None in
        let cells : map to_cell (where_set new_strings new_marks) ≡ map to_cell (where_set strings marks) ++ to_cell item ∷ [] =
        ap (map to_cell) items_more ∙ map-append to_cell (where_set strings marks) (item ∷ []) in
        record {
          marked = ap length m ∙ length-append marks (there ∷ []) ∙ ap (λ n. n + 1) kept.marked ∙ sym (length-append strings (string ∷ [])) ∙ sym (ap length v);
          judged = λ text. subst (λ xs. All IsUtf8 xs) (sym v) (All-append IsUtf8 strings (string ∷ []) (kept.judged text) (All-cons IsUtf8 string [] (judged text) (All-nil IsUtf8)));
          counted = ap (sum_by cell_bytes) cells ∙ all_bytes (seen is_text (where_set strings marks)) refl ∙ sym (lengths_more strings string) ∙ sym (ap (sum_by length) v);
        }

-- ---- a cell that is a string

string_typed : (is_text is_large : Bool) (string : List ℕ) → (IsTrue is_text → IsUtf8 string) → is_cell_at (byte_layer is_text is_large) (string_cell is_text string) ≡ true
string_typed true true string judged = is_utf8-from_IsUtf8 string (judged refl)
string_typed true false string judged = is_utf8-from_IsUtf8 string (judged refl)
string_typed false true string judged = refl
string_typed false false string judged = refl

module _ {X : Type 0} (held new : Seen) (cell : Cell) (string : List ℕ) (is_large : Bool) (most : ℕ) (result : Result X Error) (is : cell ≡ string_cell held.0 string) (judged : IsTrue held.0 → IsUtf8 string) where
  abbrev to_cell : Option (List ℕ) → Cell
  to_cell item = cell_of (string_cell held.0) item

  abbrev all : List Cell
  all = map to_cell held.1 ++ cell ∷ []

  with_cell : cells_with held true string ≡ all
  with_cell = ap (λ own. map to_cell held.1 ++ own ∷ []) (sym is)

  abbrev layer : Layer
  layer = byte_layer held.0 is_large

  is_typed : is_cell_at layer cell ≡ true
  is_typed = ap (is_cell_at layer) is ∙ string_typed held.0 is_large string judged

  pub pushed : OnOk result (new ≡ seen held.0 (held.1 ++ Some string ∷ [])) → OnOk result (map to_cell new.1 ≡ all)
  pushed h = on_ok_weaker result (λ e. ap (λ (column : Seen). map to_cell column.1) e ∙ map-append to_cell held.1 (Some string ∷ []) ∙ with_cell) h

  pub same_text : OnOk result (new ≡ seen held.0 (held.1 ++ Some string ∷ [])) → IfErr result (λ _. new ≡ held) → new.0 ≡ held.0
  same_text h k = text result h k where
    text : (r : Result X Error) → OnOk r (new ≡ seen held.0 (held.1 ++ Some string ∷ [])) → IfErr r (λ _. new ≡ held) → new.0 ≡ held.0
    text (Ok x) h k = ap (λ (column : Seen). column.0) h
    text (Err e) h k = ap (λ (column : Seen). column.0) k

  pub typed : OnOk result (new ≡ seen held.0 (held.1 ++ Some string ∷ [])) → OnOk result (is_cell_at layer cell ≡ true)
  typed h = on_ok_weaker result (λ _. is_typed) h

  pub all_fit : OnOk result (bytes_fit most (cells_with held true string) ≡ true) → OnOk result (bytes_fit most all ≡ true)
  all_fit h = on_ok_weaker result (λ e. ap (bytes_fit most) (sym with_cell) ∙ e) h

  pub refused : IfErr result (λ e. IsRefusedCell true (bytes_fit most (cells_with held true string)) e) → IfErr result (λ e. IsRefusedCell (is_cell_at layer cell) (bytes_fit most all) e)
  refused h = IfErr-weaker result (IsRefusedCell true (bytes_fit most (cells_with held true string))) (IsRefusedCell (is_cell_at layer cell) (bytes_fit most all))
      (λ e r. subst (λ b. IsRefusedCell b (bytes_fit most all) e) (sym is_typed) (subst (λ cells. IsRefusedCell true (bytes_fit most cells) e) with_cell r)) h
