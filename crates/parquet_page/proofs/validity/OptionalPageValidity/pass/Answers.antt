use Rattle.std.proofs.Common.{◌∙◌, [], Bool, List, Option, ap, drop, sym, take}
use Rattle.std.specs.Prelude.{is_some, unwrap_or}
use Rattle.parquet_page.specs.Content.{data_content}
use Rattle.parquet_page.specs.Levels.{body_of, present_count}
use Rattle.parquet_page.proofs.ValidityLemmas.{left-at}
use Rattle.parquet_page.proofs.validity.OptionalPageValidity.pass.Goals as goal

pub returns-clause-present : goal.returns-clause-present
returns-clause-present c =
    let page = data_content c.args.page.now in
    let body = body_of c.in-Ok.field-0-0.now c.in-Ok.levels.now c.in-Ok.field-0-2.now in
    let old = left-at c.args.self.now.runs page body c.in-Ok.ensures.parts in
    c.pass.ensures.present ∙ ap (λ (o : Option (List Bool)). present_count (take c.args.rows (unwrap_or o []))) (sym old)

pub returns-clause-left : goal.returns-clause-left
returns-clause-left c =
    let page = data_content c.args.page.now in
    let body = body_of c.in-Ok.field-0-0.now c.in-Ok.levels.now c.in-Ok.field-0-2.now in
    let old = left-at c.args.self.now.runs page body c.in-Ok.ensures.parts in
    let new = left-at c.pass.new.self page body c.in-Ok.ensures.parts in
    ap (λ (o : Option (List Bool)). unwrap_or o []) new ∙ c.pass.ensures.left ∙ ap (λ (o : Option (List Bool)). drop c.args.rows (unwrap_or o [])) (sym old)

pub returns-clause-page : goal.returns-clause-page
returns-clause-page c =
    let page = data_content c.args.page.now in
    let body = body_of c.in-Ok.field-0-0.now c.in-Ok.levels.now c.in-Ok.field-0-2.now in
    ap is_some (left-at c.pass.new.self page body c.in-Ok.ensures.parts) ∙ c.pass.ensures.spelled
