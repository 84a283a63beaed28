-- Lines, their cells and the column that they make.
use Rattle.std.proofs.Common.{◌≡◌, ℕ, suc, ◌+◌, ◌-◌, ◌<◌, ◌≤◌, Bool, true, false, List, [], ◌∷◌, ◌++◌, length, map, take, drop, refl, sym, ◌∙◌, ap, ap₂, arith, append_assoc, length-append, length-drop}
use Rattle.std.specs.Prelude.{ℤ, pos, ◌==◌, not, nat_lt, if◌then◌else◌, position, Option, Some, None, option_map, option_and_then, is_some, unwrap_or}
use Rattle.std.specs.List.{position_or_len, before_first, after_first}
use Rattle.std.proofs.lemmas.Bool.{ltb-true, ltb-false, lt-ltb, le-ltb}
use Rattle.std.proofs.lemmas.Grind.{common_steps}
use Rattle.std.proofs.lemmas.List.{map-append, take_all}
use Rattle.columns_core.specs.Column.{cell_of, where_set}
use Rattle.columns_core.specs.declared.cell.Cell.{Cell, Int}
use Rattle.parquet_meta.specs.Lists.{all_of}
use Rattle.pq_common.specs.Spelled.{split_first}
use Rattle.put_program.specs.Lines.{cells_of_text, first_cell, is_line_end, line_cell, lines_told, with_front}

-- ---- where a text is split

abbrev pub Parts : Type 0
Parts = List ℕ × List ℕ

abbrev place : List ℕ → ℕ
place text = position_or_len is_line_end text

abbrev parts_if : List ℕ → Bool → Option Parts
parts_if text b = if b then Some (before_first is_line_end text, after_first is_line_end text) else None

abbrev place_if : List ℕ → Bool → Option ℕ
place_if text b = if b then Some (place text) else None

pub parts_at : (text : List ℕ) (end : ℕ) → position is_line_end text ≡ Some end
    → Some (take end text, take (length text - (end + 1)) (drop (end + 1) text)) ≡ split_first is_line_end text
parts_at text end h = by (nat_lt (place text) (length text)) refl h where
  same : place text ≡ end → Some (take end text, take (length text - (end + 1)) (drop (end + 1) text)) ≡ parts_if text true
  same p =
      ap (λ (n : ℕ). Some (take n text, take (length text - (n + 1)) (drop (n + 1) text))) (sym p)
      ∙ ap (λ rest. Some (before_first is_line_end text, rest)) (take_all (length text - (place text + 1)) (drop (place text + 1) text) (grind (arith, common_steps)))

  by : (b : Bool) → nat_lt (place text) (length text) ≡ b → place_if text (nat_lt (place text) (length text)) ≡ Some end
      → Some (take end text, take (length text - (end + 1)) (drop (end + 1) text)) ≡ parts_if text (nat_lt (place text) (length text))
  by true e h =
      let found : place_if text true ≡ Some end = sym (ap (place_if text) e) ∙ h in
      let at : place text ≡ end = cc in
      same at ∙ sym (ap (parts_if text) e)
  by false e h = let bad : place_if text false ≡ Some end = sym (ap (place_if text) e) ∙ h in cc

-- ---- lines

-- the lines of a text, from where it is split
abbrev lines_of : Option Parts → Option (List (List ℕ))
lines_of parts = option_and_then (λ (it : Parts). option_map (λ lines. it.0 ∷ lines) (lines_told it.1)) parts

abbrev longer : ℕ → Parts → Parts
longer byte parts = (byte ∷ parts.0, parts.1)

-- the parts at a place behind a first byte
abbrev parts_behind : ℕ → List ℕ → ℕ → Bool → Option Parts
parts_behind byte text n b = if b then Some (take n (byte ∷ text), drop (n + 1) (byte ∷ text)) else None

-- the text behind a first byte, by whether that byte ends a line
abbrev split_by : ℕ → List ℕ → Bool → Option Parts
split_by byte text b = let n = if not b then 1 + place text else 0 in parts_behind byte text n (nat_lt n (suc (length text)))

split_here : (byte : ℕ) (text : List ℕ) → is_line_end byte ≡ true → split_first is_line_end (byte ∷ text) ≡ Some ([], text)
split_here byte text e = ap (split_by byte text) e ∙ ap (parts_behind byte text 0) (lt-ltb 0 (suc (length text)) (omega arith))

split_later : (byte : ℕ) (text : List ℕ) → is_line_end byte ≡ false
    → split_first is_line_end (byte ∷ text) ≡ option_map (longer byte) (split_first is_line_end text)
split_later byte text e =
    ap (split_by byte text) e ∙ ap (λ n. parts_behind byte text n (nat_lt n (suc (length text)))) one ∙ by (nat_lt (place text) (length text)) refl where
      one : 1 + place text ≡ suc (place text)
      one = omega arith

      by : (b : Bool) → nat_lt (place text) (length text) ≡ b
          → parts_behind byte text (suc (place text)) (nat_lt (suc (place text)) (suc (length text))) ≡ option_map (longer byte) (parts_if text (nat_lt (place text) (length text)))
      by true e =
          let less : place text < length text = ltb-true (place text) (length text) e in
          let next : suc (place text) + 1 ≡ suc (place text + 1) = omega arith in
          ap (parts_behind byte text (suc (place text))) (lt-ltb (suc (place text)) (suc (length text)) (omega (arith, less)))
          ∙ ap (λ (n : ℕ). Some (take (suc (place text)) (byte ∷ text), drop n (byte ∷ text))) next
          ∙ sym (ap (λ b. option_map (longer byte) (parts_if text b)) e)
      by false e =
          let more : length text ≤ place text = ltb-false (place text) (length text) e in
          ap (parts_behind byte text (suc (place text))) (le-ltb (suc (place text)) (suc (length text)) (omega (arith, more)))
          ∙ sym (ap (λ b. option_map (longer byte) (parts_if text b)) e)

behind_map : {X Y Z : Type 0} (value : Y → Option Z) (f : X → Y) (o : Option X) → option_and_then value (option_map f o) ≡ option_and_then (λ x. value (f x)) o
behind_map value f None = refl
behind_map value f (Some x) = refl

as_map : {X Y : Type 0} (f : X → Y) (o : Option X) → option_and_then (λ x. Some (f x)) o ≡ option_map f o
as_map f None = refl
as_map f (Some x) = refl

lines_longer : (byte : ℕ) (parts : Option Parts) → option_and_then (with_front byte) (lines_of parts) ≡ lines_of (option_map (longer byte) parts)
lines_longer byte None = refl
lines_longer byte (Some parts) =
    behind_map (with_front byte) (λ (lines : List (List ℕ)). parts.0 ∷ lines) (lines_told parts.1)
    ∙ as_map (λ (lines : List (List ℕ)). (byte ∷ parts.0) ∷ lines) (lines_told parts.1)

-- the lines of a text behind a first byte, by whether that byte ends a line
abbrev lines_by : ℕ → List ℕ → Bool → Option (List (List ℕ))
lines_by byte text b = if b then option_map (λ lines. [] ∷ lines) (lines_told text) else option_and_then (with_front byte) (lines_told text)

lines_before : (byte : ℕ) (text : List ℕ) (b : Bool) → is_line_end byte ≡ b
    → option_and_then (with_front byte) (lines_told text) ≡ lines_of (option_map (longer byte) (split_first is_line_end text))
    → lines_told (byte ∷ text) ≡ lines_of (split_first is_line_end (byte ∷ text))
lines_before byte text true e behind = ap (lines_by byte text) e ∙ sym (ap lines_of (split_here byte text e))
lines_before byte text false e behind = ap (lines_by byte text) e ∙ behind ∙ sym (ap lines_of (split_later byte text e))

lines_split : (text : List ℕ) → 0 < length text → lines_told text ≡ lines_of (split_first is_line_end text)
lines_split [] some = absurd (omega arith)
lines_split (byte ∷ []) some = lines_before byte [] (is_line_end byte) refl refl
lines_split (byte ∷ (next ∷ text)) some =
    lines_before byte (next ∷ text) (is_line_end byte) refl
    (ap (option_and_then (with_front byte)) (lines_split (next ∷ text) (grind (arith, common_steps))) ∙ lines_longer byte (split_first is_line_end (next ∷ text)))

-- ---- cells

-- the first line's cell before those of the text behind it
abbrev pub first_before : Option (Cell × List ℕ) → Option (List Cell)
first_before found = option_and_then (λ (it : Cell × List ℕ). option_map (λ cells. it.0 ∷ cells) (cells_of_text it.1)) found

cells_before : (cell : Option Cell) (lines : Option (List (List ℕ)))
    → option_and_then (λ lines. option_and_then (λ cell. option_and_then (λ cells. Some (cell ∷ cells)) (all_of line_cell lines)) cell) lines
    ≡ option_and_then (λ cell. option_map (λ cells. cell ∷ cells) (option_and_then (all_of line_cell) lines)) cell
cells_before None None = refl
cells_before None (Some lines) = refl
cells_before (Some cell) None = refl
cells_before (Some cell) (Some lines) = as_map (λ (cells : List Cell). cell ∷ cells) (all_of line_cell lines)

abbrev first_in : Option Parts → Option (Cell × List ℕ)
first_in parts = option_and_then (λ (it : Parts). option_map (λ cell. (cell, it.1)) (line_cell it.0)) parts

first_of : (parts : Option Parts) → option_and_then (all_of line_cell) (lines_of parts) ≡ first_before (first_in parts)
unfolding all_of
first_of None = refl
first_of (Some parts) =
    behind_map (all_of line_cell) (λ (lines : List (List ℕ)). parts.0 ∷ lines) (lines_told parts.1)
    ∙ cells_before (line_cell parts.0) (lines_told parts.1)
    ∙ sym (behind_map (λ (it : Cell × List ℕ). option_map (λ cells. it.0 ∷ cells) (cells_of_text it.1)) (λ cell. (cell, parts.1)) (line_cell parts.0))

pub cells_step : (text : List ℕ) → 0 < length text → cells_of_text text ≡ first_before (first_cell text)
cells_step text some = ap (option_and_then (all_of line_cell)) (lines_split text some) ∙ first_of (split_first is_line_end text)

pub is_left : (rest : List ℕ) (none : Bool) → none ≡ (length rest == 0) → none ≡ false → 0 < length rest
is_left rest none is some = grind arith

pub shorter : (text : List ℕ) (found : Cell × List ℕ) → first_cell text ≡ Some found → length found.1 < length text
shorter text found h = by (nat_lt (place text) (length text)) refl h where
  less : (cell : Option Cell) → place text < length text → option_map (λ cell. (cell, after_first is_line_end text)) cell ≡ Some found → length found.1 < length text
  less None short h = cc
  less (Some cell) short h =
      let same : after_first is_line_end text ≡ found.1 = cc in
      omega (arith, short, sym (ap length same), length-drop (place text + 1) text)

  by : (b : Bool) → nat_lt (place text) (length text) ≡ b → first_in (parts_if text (nat_lt (place text) (length text))) ≡ Some found → length found.1 < length text
  by true e h = less (line_cell (before_first is_line_end text)) (ltb-true (place text) (length text) e) (sym (ap (λ b. first_in (parts_if text b)) e) ∙ h)
  by false e h = let bad : first_in (parts_if text false) ≡ Some found = sym (ap (λ b. first_in (parts_if text b)) e) ∙ h in cc

-- ---- columns

where_set-more : {T : Type 0} (values : List T) (mask : List Bool) (value : T) (set : Bool) → length mask ≡ length values
    → where_set (values ++ value ∷ []) (mask ++ set ∷ []) ≡ where_set values mask ++ (if set then Some value else None) ∷ []
where_set-more [] [] value set e = refl
where_set-more [] (first ∷ mask) value set e = absurd (omega arith)
where_set-more (first ∷ values) [] value set e = absurd (omega arith)
where_set-more (first ∷ values) (is_there ∷ mask) value set e =
    ap (λ rest. (if is_there then Some first else None) ∷ rest) (where_set-more values mask value set (omega arith))

abbrev pub cells_so_far : List ℤ → List Bool → List Cell
cells_so_far values mask = map (cell_of Int) (where_set values mask)

-- The cells so far, in front of those of the rest, are those of the text.
pub record IsFront (values : List ℤ) (mask : List Bool) (rest text : List ℕ) : Type 0 where
  pub even : length mask ≡ length values
  pub told : option_map (λ more. cells_so_far values mask ++ more) (cells_of_text rest) ≡ cells_of_text text

item_again : (item : Option ℤ) → (if is_some item then Some (unwrap_or item (pos 0)) else None) ≡ item
item_again None = refl
item_again (Some n) = refl

one_more : (values : List ℤ) (mask : List Bool) (item : Option ℤ) → length mask ≡ length values
    → cells_so_far (values ++ unwrap_or item (pos 0) ∷ []) (mask ++ is_some item ∷ []) ≡ cells_so_far values mask ++ cell_of Int item ∷ []
one_more values mask item e =
    ap (map (cell_of Int)) (where_set-more values mask (unwrap_or item (pos 0)) (is_some item) e
    ∙ ap (λ it. where_set values mask ++ it ∷ []) (item_again item))
    ∙ map-append (cell_of Int) (where_set values mask) (item ∷ [])

front_more : (front : List Cell) (cell : Cell) (more : Option (List Cell))
    → option_map (λ more. (front ++ cell ∷ []) ++ more) more ≡ option_map (λ more. front ++ more) (option_map (λ cells. cell ∷ cells) more)
front_more front cell None = refl
front_more front cell (Some more) = ap Some (append_assoc front (cell ∷ []) more)

pub front_grows : (values : List ℤ) (mask : List Bool) (rest text : List ℕ) (item : Option ℤ) (behind : List ℕ) (new : List ℤ) (marked : List Bool)
    → IsFront values mask rest text → 0 < length rest → Some (cell_of Int item, behind) ≡ first_cell rest
    → new ≡ values ++ unwrap_or item (pos 0) ∷ [] → marked ≡ mask ++ is_some item ∷ [] → IsFront new marked behind text
front_grows values mask rest text item behind new marked front some first pushed set = record {
  even = ap length set ∙ simp length-append (omega (arith, front.even)) ∙ sym (ap length pushed);
  told =
      ap₂ (λ values mask. option_map (λ more. cells_so_far values mask ++ more) (cells_of_text behind)) pushed set
      ∙ ap (λ cells. option_map (λ more. cells ++ more) (cells_of_text behind)) (one_more values mask item front.even)
      ∙ front_more (cells_so_far values mask) (cell_of Int item) (cells_of_text behind)
      ∙ ap (λ found. option_map (λ more. cells_so_far values mask ++ more) (first_before found)) first
      ∙ sym (ap (option_map (λ more. cells_so_far values mask ++ more)) (cells_step rest some))
      ∙ front.told;
}

pub front_unspelled : (values : List ℤ) (mask : List Bool) (rest text : List ℕ) → IsFront values mask rest text → 0 < length rest → first_cell rest ≡ None → cells_of_text text ≡ None
front_unspelled values mask rest text front some first =
    sym front.told ∙ ap (option_map (λ more. cells_so_far values mask ++ more)) (cells_step rest some ∙ ap first_before first)
