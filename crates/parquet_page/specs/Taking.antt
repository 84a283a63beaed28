-- One page is taken from the front of those that are lent.
use Rattle.std.specs.Prelude.{◌≡◌, ℕ, ◌+◌, true, [], ◌∷◌, Option, Some, None, Result, Ok, Err}
use Rattle.std.specs.List.{list_all}
use Rattle.columns_core.specs.Causes.{IsOneOf, cause_of}
use Rattle.columns_core.specs.declared.error.Error.{Error}
use Rattle.parquet_page.specs.Content.{Content, content_rows, is_data, is_shaped}
use Rattle.parquet_page.specs.Lending.{HasEnded}
use Rattle.parquet_page.specs.Lent.{Lent}

-- nothing comes any more
abbrev pub IsOver : Lent → Type 0
IsOver lent = HasEnded lent.pages lent.causes

-- a page is taken from the front: behind it data pages alone are still to come
pub record TakesPage (page : Content) (old new : Lent) (given given_now : ℕ) : Type 0 where
  pub first : old.pages ≡ page ∷ new.pages
  pub same : old.causes ≡ new.causes
  pub data_alone : list_all is_data new.pages ≡ true
  pub shaped : is_shaped page ≡ true
  pub more : given_now ≡ given + content_rows page

-- an error stands at the front
pub record IsRefused (lent : Lent) (error : Error) : Type 0 where
  pub none : lent.pages ≡ []
  pub told : IsOneOf lent.causes (cause_of error)

-- one page is taken, or an error stands there
abbrev pub OpensPage : {X : Type 0} → (X → Content) → Result X Error → Lent → Lent → ℕ → ℕ → Type 0
OpensPage shown (Ok found) old new given given_now = TakesPage (shown found) old new given given_now
OpensPage shown (Err error) old new given given_now = IsRefused old error

-- likewise, or nothing comes any more
abbrev pub Walks : {X : Type 0} → (X → Content) → Result (Option X) Error → Lent → Lent → ℕ → ℕ → Type 0
Walks shown (Ok (Some found)) old new given given_now = TakesPage (shown found) old new given given_now
Walks shown (Ok None) old new given given_now = IsOver old × IsOver new × (given_now ≡ given)
Walks shown (Err error) old new given given_now = IsRefused old error × IsOver new
