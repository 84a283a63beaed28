-- What a call that lends the next page answers, and what it leaves.
use Rattle.std.specs.Prelude.{◌≡◌, ℕ, ◌+◌, ◌^◌, ◌-◌, min, Bool, true, List, [], ◌∷◌, Option, Some, None, Result, Ok, Err}
use Rattle.std.specs.List.{list_all}
use Rattle.columns_core.specs.Causes.{Cause, IsOneOf, cause_of}
use Rattle.columns_core.specs.declared.error.Error.{Error}
use Rattle.parquet_meta.specs.declared.metadata.PrimitiveType.{PrimitiveType}
use Rattle.parquet_page.specs.declared.page.Page.{Page}
use Rattle.parquet_page.specs.Content.{Content, DataContent, DataOf, DictOf, content, content_rows, is_data, is_shaped}

-- the first page that is still to come; behind the last one an end, or an error that tells of one of the causes
abbrev pub Lends : List Content → List Cause → Result (Option Page) Error → Type 0
Lends [] causes (Ok (Some page)) = ⊥
Lends (next ∷ rest) causes (Ok (Some page)) = next ≡ content page
Lends [] causes (Ok None) = causes ≡ []
Lends (next ∷ rest) causes (Ok None) = ⊥
Lends [] causes (Err error) = IsOneOf causes (cause_of error)
Lends (next ∷ rest) causes (Err error) = ⊥

-- one step for a page that is lent, and none otherwise
abbrev pub ticks : ℕ → Result (Option Page) Error → ℕ
ticks steps (Ok (Some page)) = steps + 1
ticks steps (Ok None) = steps
ticks steps (Err error) = steps

-- one more, up to the last value of a 64-bit count
abbrev pub count_lent : ℕ → Result (Option Page) Error → ℕ
count_lent count (Ok (Some page)) = min (count + 1) (2 ^ 64 - 1)
count_lent count (Ok None) = count
count_lent count (Err error) = count

abbrev pub rest_of : List Content → List Content
rest_of [] = []
rest_of (next ∷ rest) = rest

-- a condition on the data pages among these
abbrev pub DataPagesAre : (DataContent → Type 0) → List Content → Type 0
DataPagesAre P [] = Unit {0}
DataPagesAre P (DataOf page ∷ pages) = P page × DataPagesAre P pages
DataPagesAre P (DictOf page ∷ pages) = DataPagesAre P pages

-- each data page has this type
abbrev pub AreOfType : PrimitiveType → List Content → Type 0
AreOfType type pages = DataPagesAre (λ page. page.type ≡ type) pages

-- behind the first page there are data pages alone
abbrev pub has_data_behind : List Content → Bool
has_data_behind pages = list_all is_data (rest_of pages)

-- nothing comes any more
pub record HasEnded (pages : List Content) (causes : List Cause) : Type 0 where
  pub none : pages ≡ []
  pub ends : causes ≡ []

-- Behind the first page there is no dictionary page. After the last page or an error nothing comes any more.
abbrev pub GoesOn : Result (Option Page) Error → List Content → List Content → List Cause → List Cause → Type 0
GoesOn (Ok (Some page)) old new causes causes_now = (new ≡ rest_of old) × (causes_now ≡ causes) × (list_all is_data new ≡ true)
GoesOn (Ok None) old new causes causes_now = HasEnded new causes_now
GoesOn (Err error) old new causes causes_now = HasEnded new causes_now

-- The rows given rise by those of the page. After an error nothing is said of them.
abbrev pub GivesRows : Result (Option Page) Error → ℕ → ℕ → Type 0
GivesRows (Ok (Some page)) given given_now = given_now ≡ given + content_rows (content page)
GivesRows (Ok None) given given_now = given_now ≡ given
GivesRows (Err error) given given_now = Unit {0}

pub record Leaves (result : Result (Option Page) Error) (old new : List Content) (causes causes_now : List Cause) (rows rows_now given given_now lent lent_now : ℕ) : Type 0 where
  pub goes_on : GoesOn result old new causes causes_now
  pub same_rows : rows_now ≡ rows
  pub more_rows : GivesRows result given given_now
  pub one_more : lent_now ≡ count_lent lent result

-- the selected rows of a page that is lent are well shaped for its values
abbrev pub LendsShaped : Result (Option Page) Error → Type 0
LendsShaped (Ok (Some page)) = is_shaped (content page) ≡ true
LendsShaped (Ok None) = Unit {0}
LendsShaped (Err error) = Unit {0}
