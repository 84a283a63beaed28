-- The dictionary page before located pages.
use Rattle.std.proofs.Common.{◌≡◌, Option, Some, None, List, ℕ, true, false, sym, subst, ◌∙◌, ◌<◌, length, refl}
use Rattle.std.specs.Prelude.{Result, Ok, Err}
use Rattle.columns_core.specs.declared.error.Error.{Error}
use Rattle.parquet_meta.specs.declared.metadata.PrimitiveType.{PrimitiveType}
use Rattle.parquet_page.specs.Content.{Content}
use Rattle.parquet_page.specs.Lent.{Lent, behind_dictionary}
use Rattle.parquet_page.specs.Located.{dictionary_in}
use Rattle.parquet_page.specs.LocatedLeft.{FindsFirst, data_left, located_left}
use Rattle.parquet_page.specs.Parts.{FindsDictionary, part_before}
use Rattle.parquet_page.specs.Taking.{IsRefused, TakesPage}
use Rattle.parquet_page.specs.declared.found.FoundPage.{FoundPage}
use Rattle.parquet_page.specs.declared.located.Located.{Located}
use Rattle.parquet_page.proofs.LocatedLemmas.{left_behind}

finds : (type : PrimitiveType) (located : Located) (part : List ℕ) (result : Result (Option FoundPage) Error) → part ≡ part_before located.parts
    → located_left type located ≡ behind_dictionary (dictionary_in (part_before located.parts)) (data_left type located) → FindsDictionary part (data_left type located) result → FindsFirst type located result
finds type located part (Ok None) same behind found = behind ∙ subst (λ (bytes : List ℕ). behind_dictionary (dictionary_in bytes) (data_left type located) ≡ data_left type located) same found
finds type located part (Ok (Some page)) same behind found = (behind, subst (λ (bytes : List ℕ). FindsDictionary bytes (data_left type located) (Ok (Some page))) same found)
finds type located part (Err error) same behind found =
    subst (λ (lent : Lent). IsRefused lent error) (sym behind) (subst (λ (bytes : List ℕ). FindsDictionary bytes (data_left type located) (Err error)) same found)

pub finds_first : (type : PrimitiveType) (located : Located) (part : List ℕ) (result : Result (Option FoundPage) Error) → part ≡ part_before located.parts → located.is_first ≡ true → located.next < length located.entries.items
    → FindsDictionary part (data_left type located) result → FindsFirst type located result
finds_first type located part result same first h found = finds type located part result same (left_behind type located.parts located.is_first located.next located.entries.items first h) found

pub first_is_over : (type : PrimitiveType) (located : Located) → located.is_first ≡ false → located_left type located ≡ data_left type located
first_is_over type located e = rw e refl

-- ---- what was found

pub found_first : (type : PrimitiveType) (located : Located) (o : Option FoundPage) (found : FoundPage) → o ≡ Some found → FindsFirst type located (Ok o) → FindsFirst type located (Ok (Some found))
found_first type located o found e finds = subst (λ (o : Option FoundPage). FindsFirst type located (Ok o)) e finds

pub none_first : (type : PrimitiveType) (located : Located) (o : Option FoundPage) → o ≡ None → FindsFirst type located (Ok o) → located_left type located ≡ data_left type located
none_first type located o e finds = subst (λ (o : Option FoundPage). FindsFirst type located (Ok o)) e finds

-- what stands at the front of the data pages stands at the front
pub refused_behind : (old others : Lent) (error : Error) → old ≡ others → IsRefused others error → IsRefused old error
refused_behind old others error e refused = subst (λ (lent : Lent). IsRefused lent error) (sym e) refused

pub takes_behind : (page : Content) (old others new : Lent) (given given_now : ℕ) → old ≡ others → TakesPage page others new given given_now → TakesPage page old new given given_now
takes_behind page old others new given given_now e takes = subst (λ (lent : Lent). TakesPage page lent new given given_now) (sym e) takes
