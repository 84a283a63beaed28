use Rattle.std.proofs.Common.{◌∙◌, ◌+◌, Vec, Global, List, ℕ, drop, map, sym, ap, length, rules, arith}
use Rattle.std.specs.Prelude.{filter}
use Rattle.std.proofs.lemmas.List.{drop_all, length_push, map_push}
use Rattle.std.proofs.lemmas.Result.{err_from_is_err_and}
use Rattle.parquet_meta.proofs.EachLemmas.{each_ends, each_goes_on, each_refused}
use Rattle.parquet_meta.proofs.ListLemmas.{item_and_others}
use Rattle.parquet_page.specs.Lent.{is_wanted}
use Rattle.parquet_read.specs.Asked.{page_length, page_part}
use Rattle.parquet_read.proofs.PlaceLemmas.{wanted_next}
use Rattle.parquet_read.proofs.parts.read_bodies.Goals as goal

abbrev items : Vec ℕ Global → List ℕ
items body = body.items

pub returns-in_err-read_range-clause-found : goal.returns-in_err-read_range-clause-found
returns-in_err-read_range-clause-found g c =
    let others = item_and_others c.args.pages.now c.loop-page.page-index c.page-item.result c.loop-page-test.true c.page-item.is in
    let wanted = wanted_next c.page-item.result _ _ others (sym c.is_wanted.ensures ∙ c.if-not-is_wanted.false) in
    let reading = rw wanted at c.loop-page.invariant.reading in
    let p = err_from_is_err_and c.from_residual.result c.from_residual.ensures.1 in
    rw (p.1, p.2)
    (each_refused items (λ (bodies : Vec (Vec ℕ Global) Global). map items bodies.items) page_part page_length (g.S.Source.told c.args.source.now) (g.S.Source.told c.loop-page.source)
    (filter is_wanted c.args.pages.now) (filter is_wanted (drop (c.loop-page.page-index + 1) c.args.pages.now)) c.page-item.result _ _ _ _ _ _ _ reading c.loop-page.invariant.keeps.later c.loop-page.invariant.keeps.same c.in_err-read_range.ensures.part)

pub loop-page-preserved : goal.loop-page-preserved
loop-page-preserved g c =
    let others = item_and_others c.args.pages.now c.loop-page.page-index c.page-item.result c.loop-page-test.true c.page-item.is in
    let wanted = wanted_next c.page-item.result _ _ others (sym c.is_wanted.ensures ∙ c.if-not-is_wanted.false) in
    let reading = rw wanted at c.loop-page.invariant.reading in
    let found = rw c.loop-page.invariant.keeps.same at c.in_ok-read_range.ensures.part in
    record {
      keeps = search rules;
      quiet = c.in_ok-read_range.ensures.quiet ∙ c.loop-page.invariant.quiet;
      reading = rw (c.in_ok-push.ensures.items, map_push)
          (each_goes_on page_part page_length (g.S.Source.told c.args.source.now) (filter is_wanted c.args.pages.now) (filter is_wanted (drop (c.loop-page.page-index + 1) c.args.pages.now)) c.page-item.result _
          (items c.in_ok-read_range.field-0) _ _ _ reading found c.in_ok-read_range.ensures.taken);
      count = rw c.in_ok-push.ensures.items (omega (arith, c.loop-page.invariant.count, ap length wanted, length_push c.loop-page.bodies.items c.in_ok-read_range.field-0));
    }

pub returns-clause-found : goal.returns-clause-found
returns-clause-found g c =
    let reading = rw (drop_all c.loop-page.page-index c.args.pages.now c.loop-page-test.false) at c.loop-page.invariant.reading in
    each_ends page_part page_length (g.S.Source.told c.args.source.now) (filter is_wanted c.args.pages.now) _ _ _ reading
