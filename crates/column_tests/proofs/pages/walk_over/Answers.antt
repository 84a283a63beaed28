use Rattle.std.proofs.Common.{◌≡◌, ◌∙◌, [], ap}
use Rattle.std.specs.Prelude.{IfOk, IsSome, is_some, Result, Ok, Err}
use Rattle.columns_core.specs.declared.error.Error.{Error}
use Rattle.parquet_page.specs.Content.{DataContent, data_content}
use Rattle.parquet_page.specs.ValidityLeft.{levels_causes, optional_left, page_places}
use Rattle.parquet_page.specs.declared.validity.OptionalPageValidity.{OptionalPageValidity}
use Rattle.parquet_page.proofs.ValidityLemmas.{has-places}
use Rattle.column_tests.proofs.pages.walk_over.Goals as goal

told : (page : DataContent) (result : Result OptionalPageValidity Error) → IfOk result (λ walk. optional_left walk page ≡ page_places page) → IfOk result (λ walk. levels_causes page ≡ []) → IfOk result (λ walk. IsSome (optional_left walk page))
told page (Ok walk) places fine = ap is_some places ∙ has-places page fine
told page (Err error) places fine = tt

pub returns : goal.returns
returns c = told (data_content c.args.page.now) c.try_new.result c.try_new.ensures.places c.try_new.ensures.ok
