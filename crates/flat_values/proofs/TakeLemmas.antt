-- Values that are taken in turns.
use Rattle.std.proofs.Common.{◌≡◌, ℕ, ◌-◌, ◌≤◌, List, [], ◌∷◌, ◌++◌, map, take, drop, refl, sym, ap, ap₂, ◌∙◌, subst, arith, append_assoc}
use Rattle.std.specs.Prelude.{◌⊎◌}
use Rattle.std.proofs.lemmas.List.{drop-drop, map-append, take-map}
use Rattle.columns_core.specs.Causes.{Cause, IsOneOf, IsWantOfMemory, cause_of}
use Rattle.columns_core.specs.declared.cell.Cell.{Cell}
use Rattle.columns_core.specs.declared.error.Error.{Error}
use Rattle.page_decoding.specs.Outcome.{Outcome, Given, IsCausedBy, causes_in}
use Rattle.page_decoding.proofs.RowLemmas.{caused-left, caused-right, take-split}
use Rattle.flat_values.specs.Added.{Adds}

abbrev pub given_cells : {T : Type 0} → (T → Cell) → List T → List Outcome
given_cells cell values = map (λ y. Given (cell y)) values

-- of `count` wanted values so many are left, and the others were added
pub record Turn {A T : Type 0} (cell : T → Cell) (f : A → Outcome) (old new : List T) (count left : ℕ) (whole now : List A) : Type 0 where
  pub added : given_cells cell new ++ map f (take left now) ≡ given_cells cell old ++ take count (map f whole)
  pub behind : drop left now ≡ drop count whole

-- the front, and what stands behind it
both : {A : Type 0} (left found : ℕ) (now next own : List A) → own ≡ take found now → found ≤ left → next ≡ drop found now → own ++ take (left - found) next ≡ take left now
both left found now next own is few rest = ap₂ (λ front behind. front ++ take (left - found) behind) is rest ∙ sym (take-split found left now few)

pub turn-begins : {A T : Type 0} (cell : T → Cell) (f : A → Outcome) (old : List T) (count : ℕ) (whole : List A) → Turn cell f old old count count whole whole
turn-begins cell f old count whole = record { added = ap (λ l. given_cells cell old ++ l) (sym (take-map f count whole)); behind = refl }

pub turn-goes : {A T : Type 0} (cell : T → Cell) (f : A → Outcome) (old mid new : List T) (count left found : ℕ) (whole now next own : List A) → Turn cell f old mid count left whole now → found ≤ left → own ≡ take found now → Adds cell mid new (map f own) → next ≡ drop found now
    → Turn cell f old new count (left - found) whole next
turn-goes cell f old mid new count left found whole now next own turn few is added rest = record {
  added = ap (λ l. l ++ map f (take (left - found) next)) added ∙ append_assoc (given_cells cell mid) (map f own) (map f (take (left - found) next))
      ∙ ap (λ l. given_cells cell mid ++ l) (sym (map-append f own (take (left - found) next)) ∙ ap (map f) (both left found now next own is few rest)) ∙ turn.added;
  behind = ap (drop (left - found)) rest ∙ drop-drop (left - found) found now ∙ ap (λ n. drop n now) (omega (arith, few)) ∙ turn.behind;
}

-- ---- what is wrong with them

uncaused : {T : Type 0} (cell : T → Cell) (values : List T) (outcomes : List Outcome) → causes_in (given_cells cell values ++ outcomes) ≡ causes_in outcomes
uncaused cell [] outcomes = refl
uncaused cell (value ∷ values) outcomes = uncaused cell values outcomes

pub turn-caused : {A T : Type 0} (cell : T → Cell) (f : A → Outcome) (old mid : List T) (count left found : ℕ) (whole now own : List A) (error : Error) → Turn cell f old mid count left whole now → found ≤ left → own ≡ take found now → IsCausedBy (map f own) error → IsCausedBy (take count (map f whole)) error
turn-caused cell f old mid count left found whole now own error turn few is cause =
    let P : List Outcome → Type 0 = λ outcomes. IsCausedBy outcomes error in
    let Q : List Cause → Type 0 = λ causes. IsWantOfMemory error ⊎ IsOneOf causes (cause_of error) in
    let whole_front = sym (map-append f own (take (left - found) (drop found now))) ∙ ap (map f) (both left found now (drop found now) own is few refl) in
    let here = subst P whole_front (caused-left (map f own) (map f (take (left - found) (drop found now))) error cause) in
    let all = subst P turn.added (caused-right (given_cells cell mid) (map f (take left now)) error here) in
    subst Q (uncaused cell old (take count (map f whole))) all
