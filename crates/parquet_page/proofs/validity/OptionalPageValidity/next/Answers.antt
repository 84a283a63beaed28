use Rattle.std.proofs.Common.{[], Bool, List, Option, ap, sym, subst}
use Rattle.std.specs.Prelude.{unwrap_or}
use Rattle.parquet_page.specs.Content.{data_content}
use Rattle.parquet_page.specs.Levels.{body_of}
use Rattle.parquet_page.specs.LevelsLeft.{places}
use Rattle.parquet_page.specs.ValidityLeft.{page_left}
use Rattle.parquet_page.specs.declared.run.Run.{Run}
use Rattle.parquet_page.proofs.ValidityLemmas.{IsKept, kept-run, left-at, run_of}
use Rattle.parquet_page.proofs.validity.OptionalPageValidity.next.Goals as goal

pub returns-clause-run : goal.returns-clause-run
returns-clause-run c =
    let page = data_content c.args.page.now in
    let levels = c.in-Ok.levels.now in
    let body = body_of c.in-Ok.field-0-0.now levels c.in-Ok.field-0-2.now in
    let old = c.args.self.now.runs in
    let new = c.next.new.self in
    let K : List Bool → List Bool → Run → Type 0 = λ before after run. IsKept c.args.limit before after run in
    let kept : K (places old levels) (places new levels) (run_of c.in_ok-present.present c.in_ok-present.rows) = kept-run c.args.limit c.in_ok-present.rows c.in_ok-present.present (places old levels) (places new levels) c.in_ok-present.ensures.begins c.in_ok-present.ensures.some in
    let run : K (places old levels) (places new levels) c.kept_run.result = subst (K (places old levels) (places new levels)) (sym c.kept_run.ensures) kept in
    let before : K (unwrap_or (page_left old page) []) (places new levels) c.kept_run.result = subst (λ (xs : List Bool). K xs (places new levels) c.kept_run.result) (sym (ap (λ (o : Option (List Bool)). unwrap_or o []) (left-at old page body c.in-Ok.ensures.parts))) run in
    let all : K (unwrap_or (page_left old page) []) (unwrap_or (page_left new page) []) c.kept_run.result = subst (λ (xs : List Bool). K (unwrap_or (page_left old page) []) xs c.kept_run.result) (sym (ap (λ (o : Option (List Bool)). unwrap_or o []) (left-at new page body c.in-Ok.ensures.parts))) before in
    all.gives

pub returns-clause-longest : goal.returns-clause-longest
returns-clause-longest c =
    let page = data_content c.args.page.now in
    let levels = c.in-Ok.levels.now in
    let body = body_of c.in-Ok.field-0-0.now levels c.in-Ok.field-0-2.now in
    let old = c.args.self.now.runs in
    let new = c.next.new.self in
    let K : List Bool → List Bool → Run → Type 0 = λ before after run. IsKept c.args.limit before after run in
    let kept : K (places old levels) (places new levels) (run_of c.in_ok-present.present c.in_ok-present.rows) = kept-run c.args.limit c.in_ok-present.rows c.in_ok-present.present (places old levels) (places new levels) c.in_ok-present.ensures.begins c.in_ok-present.ensures.some in
    let run : K (places old levels) (places new levels) c.kept_run.result = subst (K (places old levels) (places new levels)) (sym c.kept_run.ensures) kept in
    let before : K (unwrap_or (page_left old page) []) (places new levels) c.kept_run.result = subst (λ (xs : List Bool). K xs (places new levels) c.kept_run.result) (sym (ap (λ (o : Option (List Bool)). unwrap_or o []) (left-at old page body c.in-Ok.ensures.parts))) run in
    let all : K (unwrap_or (page_left old page) []) (unwrap_or (page_left new page) []) c.kept_run.result = subst (λ (xs : List Bool). K (unwrap_or (page_left old page) []) xs c.kept_run.result) (sym (ap (λ (o : Option (List Bool)). unwrap_or o []) (left-at new page body c.in-Ok.ensures.parts))) before in
    all.longest
