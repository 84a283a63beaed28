-- The only column of a field, and the located pages that are told for it.
use Rattle.std.proofs.Common.{◌≡◌, ◌∙◌, ℕ, true, Vec, Global, List, [], ◌∷◌, length, map, All, refl, sym, ap, subst, inr, arith}
use Rattle.std.specs.Prelude.{Option, Some, None, IfSome, Result, Ok, Err, option_map, option_and_then}
use Rattle.std.specs.Option.{option_map_or}
use Rattle.std.proofs.lemmas.List.{length-map}
use Rattle.std.proofs.lemmas.List.Elements.{All-cons, All-head}
use Rattle.columns_core.specs.Causes.{Cause, IsOneOf, NotYetImplemented, cause_of}
use Rattle.columns_core.specs.declared.data_type.DataType.{DataType}
use Rattle.columns_core.specs.declared.error.Error.{Error}
use Rattle.parquet_page.specs.Lent.{are_well_shaped}
use Rattle.parquet_page.specs.declared.page.FilteredPage.{FilteredPage}
use Rattle.page_decoding.specs.Queue.{IsChunkSize}
use Rattle.flat_values.specs.ColumnLeft.{ColumnLeft}
use Rattle.parquet_read.specs.Opening.{AreShaped, ChunkBytes, IsLegalOpening, IsRefusal, OpensAsked, chunk_causes_for, field_left, lone, opened_left, opening_causes}
use Rattle.parquet_read.proofs.OpenLemmas.{refusal_for}

pub lone-map : {A B : Type 0} (f : A → B) (xs : List A) → lone (map f xs) ≡ option_map f (lone xs)
lone-map f [] = refl
lone-map f (x ∷ []) = refl
lone-map f (x ∷ y ∷ xs) = refl

one_long : {A : Type 0} (xs : List A) (x : A) → lone xs ≡ Some x → length xs ≡ 1
one_long [] x is = absurd (let bad : None ≡ Some x = is in cc)
one_long (y ∷ []) x is = refl
one_long (y ∷ z ∷ xs) x is = absurd (let bad : None ≡ Some x = is in cc)

-- ---- lists of pages

abbrev Shaped : List FilteredPage → Type 0
Shaped entries = are_well_shaped entries ≡ true

pub own_shaped : (lists : Option (List (List FilteredPage))) → IfSome lists (λ all. All Shaped all) → AreShaped (option_and_then lone lists)
own_shaped None all = tt
own_shaped (Some []) all = tt
own_shaped (Some (entries ∷ [])) all = All-head Shaped entries [] all
own_shaped (Some (first ∷ second ∷ others)) all = tt

all_shaped : (lists : Option (List (List FilteredPage))) → IfSome lists (λ all. length all ≡ 1) → AreShaped (option_and_then lone lists) → IfSome lists (λ all. All Shaped all)
all_shaped None one own = tt
all_shaped (Some []) one own = absurd (omega (arith, one))
all_shaped (Some (entries ∷ [])) one own = All-cons Shaped entries [] own (λ k d h. absurd (omega (arith, h)))
all_shaped (Some (first ∷ second ∷ others)) one own = absurd (omega (arith, one))

abbrev pub Lists : Type 0
Lists = Vec (Vec FilteredPage Global) Global

abbrev pub shown : Lists → List (List FilteredPage)
shown all = map (λ (entries : Vec FilteredPage Global). entries.items) all.items

-- as many lists as columns
pub paired_shown : (pages : Option Lists) (columns count : ℕ) → columns ≡ count → IfSome pages (λ all. length all.items ≡ columns) → IfSome (option_map shown pages) (λ all. length all ≡ count)
paired_shown None columns count same paired = tt
paired_shown (Some all) columns count same paired = length-map all.items (λ (entries : Vec FilteredPage Global). entries.items) ∙ paired ∙ same

pub paired_own : (pages : Option Lists) (columns count : ℕ) → columns ≡ count → IfSome (option_map shown pages) (λ all. length all ≡ count) → IfSome pages (λ all. length all.items ≡ columns)
paired_own None columns count same paired = tt
paired_own (Some all) columns count same paired = sym (length-map all.items (λ (entries : Vec FilteredPage Global). entries.items)) ∙ paired ∙ sym same

pub own_list : (pages : Option Lists) (own : Option (Vec FilteredPage Global)) → own ≡ option_and_then (λ (all : Lists). lone all.items) pages
    → option_map (λ (entries : Vec FilteredPage Global). entries.items) own ≡ option_and_then lone (option_map shown pages)
own_list None own is = ap (λ (o : Option (Vec FilteredPage Global)). option_map (λ (entries : Vec FilteredPage Global). entries.items) o) is
own_list (Some all) own is =
    ap (λ (o : Option (Vec FilteredPage Global)). option_map (λ (entries : Vec FilteredPage Global). entries.items) o) is
    ∙ sym (lone-map (λ (entries : Vec FilteredPage Global). entries.items) all.items)

-- ---- the answer

-- no column, or more than one
pub none_lone : {X : Type 0} (left_of : X → ColumnLeft) (data_type : DataType) (size : Option ℕ) (rows : ℕ) (lists : Option (List (List FilteredPage))) (chunks : List ChunkBytes) (error : Error)
    → lone chunks ≡ None → cause_of error ≡ Some NotYetImplemented
    → OpensAsked (IsLegalOpening size (length chunks) lists) (opening_causes data_type lists chunks) left_of (field_left data_type size rows lists chunks) (Err error)
none_lone left_of data_type size rows lists chunks error none cause = record {
  legal = tt;
  sound = tt;
  begins = tt;
  refused =
      let causes : NotYetImplemented ∷ [] ≡ opening_causes data_type lists chunks =
      ap (λ (o : Option ChunkBytes). option_map_or (chunk_causes_for data_type (option_and_then lone lists)) o (NotYetImplemented ∷ [])) (sym none) in
      inr (inr (subst (λ (o : Option Cause). IsOneOf (opening_causes data_type lists chunks) o) (sym cause)
      (subst (λ (all : List Cause). IsOneOf all (Some NotYetImplemented)) causes (0, omega arith, refl))));
}

-- one column
pub one_opens : {X : Type 0} (left_of : X → ColumnLeft) (data_type : DataType) (size : Option ℕ) (rows : ℕ) (lists : Option (List (List FilteredPage))) (chunks : List ChunkBytes) (chunk : ChunkBytes)
    (result : Result X Error) → lone chunks ≡ Some chunk → IsChunkSize size → IfSome lists (λ all. length all ≡ length chunks)
    → OpensAsked (AreShaped (option_and_then lone lists)) (chunk_causes_for data_type (option_and_then lone lists) chunk) left_of (opened_left data_type size rows (option_and_then lone lists) chunk) result
    → OpensAsked (IsLegalOpening size (length chunks) lists) (opening_causes data_type lists chunks) left_of (field_left data_type size rows lists chunks) result
one_opens left_of data_type size rows lists chunks chunk (Ok arrays) one sized paired opens =
    let many : IfSome lists (λ all. length all ≡ 1) = subst (λ (n : ℕ). IfSome lists (λ all. length all ≡ n)) (one_long chunks chunk one) paired in
    record {
      legal = record { sized = sized; paired = paired; shaped = all_shaped lists many opens.legal };
      sound = ap (λ (o : Option ChunkBytes). option_map_or (chunk_causes_for data_type (option_and_then lone lists)) o (NotYetImplemented ∷ [])) one ∙ opens.sound;
      begins = opens.begins ∙ sym (ap (λ (o : Option ChunkBytes). option_and_then (opened_left data_type size rows (option_and_then lone lists)) o) one);
      refused = tt;
    }
one_opens left_of data_type size rows lists chunks chunk (Err error) one sized paired opens =
    let causes : chunk_causes_for data_type (option_and_then lone lists) chunk ≡ opening_causes data_type lists chunks =
    sym (ap (λ (o : Option ChunkBytes). option_map_or (chunk_causes_for data_type (option_and_then lone lists)) o (NotYetImplemented ∷ [])) one) in
    record {
      legal = tt;
      sound = tt;
      begins = tt;
      refused = refusal_for (IsLegalOpening size (length chunks) lists) (AreShaped (option_and_then lone lists)) (λ legal. own_shaped lists legal.shaped) (opening_causes data_type lists chunks) error
          (subst (λ (all : List Cause). IsRefusal (AreShaped (option_and_then lone lists)) all error) causes opens.refused);
    }
