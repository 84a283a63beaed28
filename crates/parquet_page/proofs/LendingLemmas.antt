-- What a reader leaves when it lends a page, or ends.
use Rattle.std.proofs.Common.{◌≡◌, ℕ, ◌+◌, ◌-◌, ◌^◌, min, true, List, [], ◌∷◌, Option, Some, None, refl, sym, ap, subst, ◌∙◌}
use Rattle.std.specs.Prelude.{Result, Ok, Err}
use Rattle.std.specs.List.{list_all}
use Rattle.columns_core.specs.declared.error.Error.{Error}
use Rattle.parquet_page.specs.Content.{Content, content, content_rows, is_data, is_shaped}
use Rattle.parquet_page.specs.Taking.{TakesPage, Walks}
use Rattle.parquet_page.specs.Lending.{GoesOn, Leaves, Lends, LendsShaped}
use Rattle.parquet_page.specs.Lent.{Lent}
use Rattle.parquet_page.specs.declared.page.Page.{Page}

-- all that is said of a call that lends
pub record Lending (result : Result (Option Page) Error) (old new : Lent) (rows rows_now given given_now lent lent_now : ℕ) : Type 0 where
  pub leaves : Leaves result old.pages new.pages old.causes new.causes rows rows_now given given_now lent lent_now
  pub lends : Lends old.pages old.causes result
  pub shaped : LendsShaped result

ends_here : (pages : List Content) → pages ≡ [] → (causes : _) → causes ≡ [] → Lends pages causes (Ok None)
ends_here [] e causes none = none
ends_here (page ∷ pages) e causes none = absurd cc

first_here : (pages rest : List Content) (first : Content) (page : Page) → pages ≡ first ∷ rest → content page ≡ first → (causes : _) → Lends pages causes (Ok (Some page))
first_here [] rest first page e same causes = absurd cc
first_here (next ∷ others) rest first page e same causes = cc

rest_here : (result : Page) (pages rest : List Content) (first : Content) → pages ≡ first ∷ rest → (causes causes_now : _) → causes ≡ causes_now → list_all is_data rest ≡ true → GoesOn (Ok (Some result)) pages rest causes causes_now
rest_here result [] rest first e causes causes_now same data_alone = absurd cc
rest_here result (next ∷ others) rest first e causes causes_now same data_alone = (cc, sym same, data_alone)

pub has_ended : (old new : Lent) (rows rows_now given given_now lent : ℕ) → old.pages ≡ [] → old.causes ≡ [] → new.pages ≡ [] → new.causes ≡ [] → rows_now ≡ rows → given_now ≡ given
    → Lending (Ok None) old new rows rows_now given given_now lent lent
has_ended old new rows rows_now given given_now lent none ends none_now ends_now same same_given = record {
  leaves = record { goes_on = record { none = none_now; ends = ends_now }; same_rows = same; more_rows = same_given; one_more = refl };
  lends = ends_here old.pages none old.causes ends;
  shaped = tt;
}

pub lends_first : (page : Page) (first : Content) (old new : Lent) (rows rows_now given given_now lent lent_now : ℕ) → content page ≡ first → TakesPage first old new given given_now
    → rows_now ≡ rows → lent_now ≡ min (lent + 1) (2 ^ 64 - 1) → Lending (Ok (Some page)) old new rows rows_now given given_now lent lent_now
lends_first page first old new rows rows_now given given_now lent lent_now same_page takes same one_more = record {
  leaves = record {
    goes_on = rest_here page old.pages new.pages first takes.first old.causes new.causes takes.same takes.data_alone;
    same_rows = same;
    more_rows = takes.more ∙ ap (λ (c : Content). given + content_rows c) (sym same_page);
    one_more = one_more;
  };
  lends = first_here old.pages new.pages first page takes.first same_page old.causes;
  shaped = ap is_shaped same_page ∙ takes.shaped;
}

-- ---- over what is walked

pub walk_ends : {X : Type 0} (shown : X → Content) (result : Result (Option X) Error) (o : Option X) (old new : Lent) (rows rows_now given given_now lent : ℕ) → result ≡ Ok o → o ≡ None
    → Walks shown result old new given given_now → rows_now ≡ rows → Lending (Ok None) old new rows rows_now given given_now lent lent
walk_ends shown (Ok None) o old new rows rows_now given given_now lent is none walks same = has_ended old new rows rows_now given given_now lent walks.0.none walks.0.ends walks.1.none walks.1.ends same walks.2
walk_ends shown (Ok (Some found)) o old new rows rows_now given given_now lent is none walks same = absurd cc
walk_ends shown (Err error) o old new rows rows_now given given_now lent is none walks same = absurd cc

taken : {X : Type 0} (shown : X → Content) (result : Result (Option X) Error) (found : X) (old new : Lent) (given given_now : ℕ) → result ≡ Ok (Some found)
    → Walks shown result old new given given_now → TakesPage (shown found) old new given given_now
taken {X = X} shown result found old new given given_now is walks = subst (λ (r : Result (Option X) Error). Walks shown r old new given given_now) is walks

pub walk_lends : {X : Type 0} (shown : X → Content) (result : Result (Option X) Error) (o : Option X) (found : X) (page : Page) (old new : Lent) (rows rows_now given given_now lent lent_now : ℕ) → result ≡ Ok o → o ≡ Some found
    → Walks shown result old new given given_now → content page ≡ shown found → rows_now ≡ rows → lent_now ≡ min (lent + 1) (2 ^ 64 - 1)
    → Lending (Ok (Some page)) old new rows rows_now given given_now lent lent_now
walk_lends shown result o found page old new rows rows_now given given_now lent lent_now is there walks same_page same one_more =
    lends_first page (shown found) old new rows rows_now given given_now lent lent_now same_page (taken shown result found old new given given_now (is ∙ ap Ok there) walks) same one_more
