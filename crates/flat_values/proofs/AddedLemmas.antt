-- What is added to numbers, and what is wrong with it.
use Rattle.std.proofs.Common.{◌≡◌, ℕ, zero, suc, ◌+◌, ◌<◌, List, [], ◌∷◌, ◌++◌, length, map, take, get_or, refl, sym, ap, ◌∙◌, subst, inr, arith, append-nil, append_assoc}
use Rattle.std.proofs.lemmas.List.{map-append, map_more}
use Rattle.std.proofs.lemmas.Simd.{map-map}
use Rattle.columns_core.specs.Causes.{Cause, Overflow, IsOneOf, cause_of}
use Rattle.columns_core.specs.declared.cell.Cell.{Cell}
use Rattle.columns_core.specs.declared.error.Error.{Error}
use Rattle.columns_core.specs.declared.error.Error.TheVariants as errors
use Rattle.parquet_page.specs.Stored.{Stored}
use Rattle.flat_values.specs.Added.{Adds}
use Rattle.flat_values.specs.Conversion.{Item, Value, NotInRange}
use Rattle.flat_values.specs.Outcomes.{outcome_of}
use Rattle.page_decoding.specs.Outcome.{Outcome, Given, Refused, IsCausedBy, causes_in}
use Rattle.page_decoding.proofs.RowLemmas.{caused-left, caused-right}

-- an error tells of something that is refused
pub refused_at : {A : Type 0} (f : A → Outcome) (items : List A) (i : ℕ) (d item : A) (causes : List Cause) (error : Error) → i < length items → item ≡ get_or items i d → f item ≡ Refused causes → IsOneOf causes (cause_of error) → IsCausedBy (map f items) error
refused_at f [] i d item causes error lt is refused told = absurd (omega (arith, lt))
refused_at f (x ∷ items) zero d item causes error lt is refused told =
    let P : List Cause → Type 0 = λ found. IsOneOf found (cause_of error) in
    let own : causes_in (f x ∷ []) ≡ causes = ap (λ y. causes_in (f y ∷ [])) (sym is) ∙ ap (λ o. causes_in (o ∷ [])) refused ∙ append-nil causes in
    caused-left (f x ∷ []) (map f items) error (inr (subst P (sym own) told))
refused_at f (x ∷ items) (suc i) d item causes error lt is refused told = caused-right (f x ∷ []) (map f items) error (refused_at f items i d item causes error (omega (arith, lt)) is refused told)

-- a number that is not in range is refused
pub overflow_at : {A : Type 0} (rule : Stored → Item) (spells : A → Stored) (items : List A) (i : ℕ) (d item : A) (stored : Stored) (error : Error) → i < length items → item ≡ get_or items i d → stored ≡ spells item
    → (error ≡ errors.Overflow) × (rule stored ≡ NotInRange) → IsCausedBy (map (λ x. outcome_of (rule (spells x))) items) error
overflow_at rule spells items i d item stored error lt is same refused =
    let P : Error → Type 0 = λ e. IsOneOf (Overflow ∷ []) (cause_of e) in
    refused_at (λ x. outcome_of (rule (spells x))) items i d item (Overflow ∷ []) error lt is (ap (λ x. outcome_of (rule x)) (sym same) ∙ ap outcome_of refused.1) (subst P (sym refused.0) (0, omega arith, refl))

-- numbers that are added by a chain
pub chain_adds : {A T : Type 0} (cell : T → Cell) (item : A → Item) (old new more : List T) (items : List A) → new ≡ old ++ more → map (λ y. Value (cell y)) more ≡ map item items → Adds cell old new (map (λ x. outcome_of (item x)) items)
chain_adds cell item old new more items is e =
    ap (map (λ y. Given (cell y))) is ∙ map-append (λ y. Given (cell y)) old more
    ∙ ap (λ outcomes. map (λ y. Given (cell y)) old ++ outcomes) (sym (map-map outcome_of (λ y. Value (cell y)) more) ∙ ap (map outcome_of) e ∙ map-map outcome_of item items)

-- one number more
pub one_more : {A T : Type 0} (cell : T → Cell) (f : A → Outcome) (old now new : List T) (items : List A) (i : ℕ) (d : A) (y : T) → Adds cell old now (map f (take i items)) → i < length items → new ≡ now ++ y ∷ [] → Given (cell y) ≡ f (get_or items i d)
    → Adds cell old new (map f (take (i + 1) items))
one_more {T = T} cell f old now new items i d y added lt is e =
    let g = λ (y : T). Given (cell y) in
    ap (map g) is ∙ map-append g now (y ∷ []) ∙ ap (λ l. l ++ g y ∷ []) added ∙ append_assoc (map g old) (map f (take i items)) (g y ∷ [])
    ∙ ap (λ l. map g old ++ l) (ap (λ o. map f (take i items) ++ o ∷ []) e ∙ sym (map_more f items i d lt))
