-- What is asked of a group is read, or refused before.
use Rattle.std.proofs.Common.{◌≡◌, ◌∙◌, ◌⊎◌, ℕ, Bool, true, false, List, [], ◌∷◌, length, refl, ap, subst, inl, inr, arith, Option, Some, None}
use Rattle.std.specs.Prelude.{◌&&◌, IsTrue, option_map, zip}
use Rattle.std.proofs.lemmas.Bool.{and_from, and_parts, eqb-true, leb-true}
use Rattle.std.proofs.lemmas.List.{length-map}
use Rattle.columns_core.specs.Causes.{Cause, IsOneOf, IsWantOfMemory, cause_of, is_empty, is_invalid_argument}
use Rattle.columns_core.specs.declared.data_type.Field.{Field}
use Rattle.columns_core.specs.declared.error.Error.{Error}
use Rattle.page_decoding.specs.Queue.{IsChunkSize}
use Rattle.parquet_page.specs.declared.page.FilteredPage.{FilteredPage}
use Rattle.parquet_read.specs.Asked.{AskedField, PageLists, asked_fields, have_one_list, is_chunk_size, pages_within}
use Rattle.parquet_read.specs.Opening.{IsRefusal, lone}
use Rattle.parquet_read.proofs.FoundLemmas.{none_of}

never : {A : Type 0} (b : Bool) → b ≡ true → b ≡ false → A
never true is not = absurd (let bad : true ≡ false = not in cc)
never false is not = absurd (let bad : false ≡ true = is in cc)

pub illegal_refused : (legal : Bool) (causes : List Cause) (e : Error) → IsTrue (is_invalid_argument e) → legal ≡ false → IsRefusal (legal ≡ true) causes e
illegal_refused legal causes e invalid not = inr (inl (invalid, λ is. never legal is not))

pub causes_refused : (Legal : Type 0) (causes : List Cause) (e : Error) → IsWantOfMemory e ⊎ IsOneOf causes (cause_of e) → IsRefusal Legal causes e
causes_refused Legal causes e (inl memory) = inl memory
causes_refused Legal causes e (inr one) = inr (inr one)

pub illegal_unread : {A : Type 0} (legal rest : Bool) → legal ≡ false → (legal && rest) ≡ true → A
illegal_unread legal rest not readable = never legal (and_parts legal rest readable).0 not

pub readable_none : (legal : Bool) (causes : List Cause) → (legal && is_empty causes) ≡ true → causes ≡ []
readable_none legal [] readable = refl
readable_none legal (cause ∷ causes) readable = absurd (let bad : false ≡ true = (and_parts legal false readable).1 in cc)

pub surely_readable : (legal : Bool) (causes : List Cause) → legal ≡ true → causes ≡ [] → (legal && is_empty causes) ≡ true
surely_readable legal causes is none = and_from legal (is_empty causes) is (ap is_empty none)

pub not_unreadable : {A : Type 0} (legal : Bool) (causes : List Cause) → legal ≡ true → causes ≡ [] → (legal && is_empty causes) ≡ false → A
not_unreadable legal causes is none not = never (legal && is_empty causes) (surely_readable legal causes is none) not

pub memory_left : (causes : List Cause) (e : Error) → causes ≡ [] → IsWantOfMemory e ⊎ IsOneOf causes (cause_of e) → IsWantOfMemory e
memory_left causes e none (inl memory) = memory
memory_left causes e none (inr one) = absurd (none_of (cause_of e) (subst (λ (l : List Cause). IsOneOf l (cause_of e)) none one))

pub is_sized : (size : Option ℕ) → is_chunk_size size ≡ true → IsChunkSize size
is_sized None sized = tt
is_sized (Some size) sized = leb-true _ _ sized

zip_count : {A B : Type 0} (xs : List A) (ys : List B) → length ys ≡ length xs → length (zip xs ys) ≡ length xs
zip_count [] ys same = refl
zip_count (x ∷ xs) [] same = absurd (omega (arith, same))
zip_count (x ∷ xs) (y ∷ ys) same = omega (arith, zip_count xs ys (omega (arith, same)))

pub asked_count : (limit : Option ℕ) (fields : List Field) (lists : Option PageLists) → have_one_list (length fields) lists ≡ true → length (asked_fields limit fields lists) ≡ length fields
asked_count limit fields None paired = length-map fields (λ (field : Field). let own : AskedField = (field, None) in own)
asked_count limit fields (Some lists) paired =
    length-map (zip fields lists) (λ (own : Field × List (List FilteredPage)). let asked : AskedField = (own.0, option_map (pages_within limit) (lone own.1)) in asked)
    ∙ zip_count fields lists (eqb-true _ _ (and_parts _ _ paired).0)
