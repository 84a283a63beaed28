use Rattle.std.proofs.Common.{rules, ◌≡◌, ◌-◌, ◌<◌, ◌∙◌, ap, subst, List, ◌++◌, length, take, map}
use Rattle.std.specs.Prelude.{Some, Ok, option_map}
use Rattle.std.specs.Option.{option_copied}
use Rattle.parquet_page.specs.Content.{DataOf, DictOf, data_content, dict_content}
use Rattle.parquet_page.specs.declared.page.Page.TheVariants.{Data, Dict}
use Rattle.page_decoding.specs.Bytes.{IsCausedByChunks}
use Rattle.page_decoding.specs.Outcome.{Outcome, Given, refusal_of}
use Rattle.page_decoding.specs.Queue.{joined}
use Rattle.page_decoding.specs.Standing.{FailsBy, standing}
use Rattle.page_decoding.proofs.BytesLemmas.{chunks-right}
use Rattle.page_decoding.proofs.NextLemmas.{is-lent, is-over, opens, fails-end, fails-page, lends-error, lent_shaped, still-advances, wrong_entries}
use Rattle.page_decoding.proofs.StandingLemmas.{passes_entries, passes_rows}
use Rattle.page_decoding.proofs.next_chunk.read_page.Goals as goal

pub returns-in_err-deserialize_dict-in-Some-Dict-clause-pages : goal.returns-in_err-deserialize_dict-in-Some-Dict-clause-pages
returns-in_err-deserialize_dict-in-Some-Dict-clause-pages g c =
    let is = c.in_ok-next.was ∙ ap Ok (c.in-Some-Dict.is ∙ ap Some c.in-Some-Dict.field-0-is) in
    let own = is-lent (Dict c.in-Some-Dict.page) is c.next.follows.holds-at-none c.next.ensures.page in
    opens (0 < c.args.remaining.now) c.args.steps.now c.next.new.steps c.next.result (Dict c.in-Some-Dict.page) c.requires.needed.0 own is c.next.ensures.steps

pub returns-in_ok-deserialize_dict-in-Some-Dict-clause-pages : goal.returns-in_ok-deserialize_dict-in-Some-Dict-clause-pages
returns-in_ok-deserialize_dict-in-Some-Dict-clause-pages g c =
    let is = c.in_ok-next.was ∙ ap Ok (c.in-Some-Dict.is ∙ ap Some c.in-Some-Dict.field-0-is) in
    let own = is-lent (Dict c.in-Some-Dict.page) is c.next.follows.holds-at-none c.next.ensures.page in
    opens (0 < c.args.remaining.now) c.args.steps.now c.next.new.steps c.next.result (Dict c.in-Some-Dict.page) c.requires.needed.0 own is c.next.ensures.steps

pub returns-in_err-add_page-in-Some-Data-clause-pages : goal.returns-in_err-add_page-in-Some-Data-clause-pages
returns-in_err-add_page-in-Some-Data-clause-pages g c =
    let is = c.in_ok-next.was ∙ ap Ok (c.in-Some-Data.is ∙ ap Some c.in-Some-Data.field-0-is) in
    let own = is-lent (Data c.in-Some-Data.page) is c.next.follows.holds-at-none c.next.ensures.page in
    opens (0 < c.args.remaining.now) c.args.steps.now c.next.new.steps c.next.result (Data c.in-Some-Data.page) c.requires.needed.0 own is c.next.ensures.steps

pub returns-in_ok-add_page-in-Some-Data-clause-pages : goal.returns-in_ok-add_page-in-Some-Data-clause-pages
returns-in_ok-add_page-in-Some-Data-clause-pages g c =
    let is = c.in_ok-next.was ∙ ap Ok (c.in-Some-Data.is ∙ ap Some c.in-Some-Data.field-0-is) in
    let own = is-lent (Data c.in-Some-Data.page) is c.next.follows.holds-at-none c.next.ensures.page in
    opens (0 < c.args.remaining.now) c.args.steps.now c.next.new.steps c.next.result (Data c.in-Some-Data.page) c.requires.needed.0 own is c.next.ensures.steps

pub returns-in_err-deserialize_dict-in-Some-Dict-clause-cause : goal.returns-in_err-deserialize_dict-in-Some-Dict-clause-cause
returns-in_err-deserialize_dict-in-Some-Dict-clause-cause g c =
    let is = c.in_ok-next.was ∙ ap Ok (c.in-Some-Dict.is ∙ ap Some c.in-Some-Dict.field-0-is) in
    let own = is-lent (Dict c.in-Some-Dict.page) is c.next.follows.holds-at-none c.next.ensures.page in
    let old = g.I.Pages.to_come c.args.iter.now in
    let new = g.I.Pages.to_come c.next.follows.lender-at-none in
    let causes = g.I.Pages.causes c.args.iter.now in
    let entries = g.D.Decoder.entries c.args.decoder.now in
    let outcomes = g.D.Decoder.outcomes c.args.decoder.now in
    let before = standing g.D.DecodedState.DecodedState.shown (g.D.Decoder.dict_shown c.args.decoder.now) c.args.items.now.items c.args.remaining.now c.args.dict.now in
    let page = dict_content c.in-Some-Dict.page in
    let error = c.in_err-deserialize_dict-in-Some-Dict.field-0.0 in
    let fails : FailsBy entries outcomes (g.D.Decoder.most_bytes c.args.decoder.now) c.args.chunk_size old new causes before error =
    fails-page entries outcomes (g.D.Decoder.most_bytes c.args.decoder.now) c.args.chunk_size (DictOf page) old new causes before error c.requires.needed own.first (chunks-right (g.D.Decoder.most_bytes c.args.decoder.now) c.args.chunk_size before.waiting (take c.args.remaining.now (refusal_of (entries page))) error (wrong_entries c.args.remaining.now (entries page) error c.requires.needed.0 c.in_err-deserialize_dict-in-Some-Dict.ensures.cause)) in
    search rules

pub returns-in_err-add_page-in-Some-Data-clause-cause : goal.returns-in_err-add_page-in-Some-Data-clause-cause
returns-in_err-add_page-in-Some-Data-clause-cause g c =
    let is = c.in_ok-next.was ∙ ap Ok (c.in-Some-Data.is ∙ ap Some c.in-Some-Data.field-0-is) in
    let own = is-lent (Data c.in-Some-Data.page) is c.next.follows.holds-at-none c.next.ensures.page in
    let old = g.I.Pages.to_come c.args.iter.now in
    let new = g.I.Pages.to_come c.next.follows.lender-at-none in
    let causes = g.I.Pages.causes c.args.iter.now in
    let entries = g.D.Decoder.entries c.args.decoder.now in
    let outcomes = g.D.Decoder.outcomes c.args.decoder.now in
    let shown = g.D.Decoder.dict_shown c.args.decoder.now in
    let before = standing g.D.DecodedState.DecodedState.shown shown c.args.items.now.items c.args.remaining.now c.args.dict.now in
    let page = data_content c.in-Some-Data.page in
    let same : outcomes (option_map shown (option_copied c.as_ref.result)) page ≡ outcomes before.dictionary page = ap (λ d. outcomes (option_map shown d) page) c.as_ref.ensures.value in
    let error = c.in_err-add_page-in-Some-Data.field-0.0 in
    let P : List Outcome → Type 0 = λ rows. IsCausedByChunks (g.D.Decoder.most_bytes c.args.decoder.now) c.args.chunk_size (before.waiting ++ take c.args.remaining.now rows) error in
    let fails : FailsBy entries outcomes (g.D.Decoder.most_bytes c.args.decoder.now) c.args.chunk_size old new causes before error = fails-page entries outcomes (g.D.Decoder.most_bytes c.args.decoder.now) c.args.chunk_size (DataOf page) old new causes before error c.requires.needed own.first (subst P same c.in_err-add_page-in-Some-Data.ensures.cause) in
    search rules

pub returns-in_err-next-clause-cause : goal.returns-in_err-next-clause-cause
returns-in_err-next-clause-cause g c =
    let old = g.I.Pages.to_come c.args.iter.now in
    let new = g.I.Pages.to_come c.next.follows.lender-at-none in
    let causes = g.I.Pages.causes c.args.iter.now in
    let entries = g.D.Decoder.entries c.args.decoder.now in
    let outcomes = g.D.Decoder.outcomes c.args.decoder.now in
    let before = standing g.D.DecodedState.DecodedState.shown (g.D.Decoder.dict_shown c.args.decoder.now) c.args.items.now.items c.args.remaining.now c.args.dict.now in
    let error = c.in_err-next.field-0.0 in
    let over = lends-error old causes error c.in_err-next.ensures.page in
    let fails : FailsBy entries outcomes (g.D.Decoder.most_bytes c.args.decoder.now) c.args.chunk_size old new causes before error = fails-end entries outcomes (g.D.Decoder.most_bytes c.args.decoder.now) c.args.chunk_size old new causes before error c.requires.needed over.0 (is-over error c.in_err-next.was c.next.follows.holds-at-none) over.1 in
    search rules

pub returns-in_ok-deserialize_dict-in-Some-Dict-clause-rows : goal.returns-in_ok-deserialize_dict-in-Some-Dict-clause-rows
returns-in_ok-deserialize_dict-in-Some-Dict-clause-rows g c =
    let is = c.in_ok-next.was ∙ ap Ok (c.in-Some-Dict.is ∙ ap Some c.in-Some-Dict.field-0-is) in
    let own = is-lent (Dict c.in-Some-Dict.page) is c.next.follows.holds-at-none c.next.ensures.page in
    let entries = g.D.Decoder.entries c.args.decoder.now in
    let outcomes = g.D.Decoder.outcomes c.args.decoder.now in
    still-advances entries outcomes _ _ _ _ _ _ own.same (
    passes_entries g.D.DecodedState.DecodedState.shown (g.D.Decoder.dict_shown c.args.decoder.now) (g.D.Decoder.entries c.args.decoder.now) (g.D.Decoder.outcomes c.args.decoder.now) c.args.items.now.items c.args.remaining.now c.args.dict.now c.in_ok-deserialize_dict-in-Some-Dict.field-0 (dict_content c.in-Some-Dict.page) (g.I.Pages.to_come c.args.iter.now) (g.I.Pages.to_come c.next.follows.lender-at-none) own.first c.in_ok-deserialize_dict-in-Some-Dict.ensures.entries)

pub returns-in_ok-add_page-in-Some-Data-clause-rows : goal.returns-in_ok-add_page-in-Some-Data-clause-rows
returns-in_ok-add_page-in-Some-Data-clause-rows g c =
    let is = c.in_ok-next.was ∙ ap Ok (c.in-Some-Data.is ∙ ap Some c.in-Some-Data.field-0-is) in
    let own = is-lent (Data c.in-Some-Data.page) is c.next.follows.holds-at-none c.next.ensures.page in
    let outcomes = g.D.Decoder.outcomes c.args.decoder.now in
    let shown = g.D.Decoder.dict_shown c.args.decoder.now in
    let page = data_content c.in-Some-Data.page in
    let before = joined (map g.D.DecodedState.DecodedState.shown c.args.items.now.items) in
    let same : outcomes (option_map shown (option_copied c.as_ref.result)) page ≡ outcomes (option_map shown c.args.dict.now) page = ap (λ d. outcomes (option_map shown d) page) c.as_ref.ensures.value in
    let entries = g.D.Decoder.entries c.args.decoder.now in
    still-advances entries outcomes _ _ _ _ _ _ own.same (
    passes_rows g.D.DecodedState.DecodedState.shown shown (g.D.Decoder.entries c.args.decoder.now) outcomes c.args.items.now.items c.add_page.new.items.items c.args.remaining.now c.add_page.new.remaining c.args.dict.now page (g.I.Pages.to_come c.args.iter.now) (g.I.Pages.to_come c.next.follows.lender-at-none) own.first
    (c.in_ok-add_page-in-Some-Data.ensures.rows ∙ ap (λ xs. map Given before ++ take c.args.remaining.now xs) same) (c.in_ok-add_page-in-Some-Data.ensures.remaining ∙ ap (λ xs. c.args.remaining.now - length xs) same))

pub add_page-requires-clause-shaped : goal.add_page-requires-clause-shaped
add_page-requires-clause-shaped g c = lent_shaped (Data c.in-Some-Data.page) (c.in_ok-next.was ∙ ap Ok (c.in-Some-Data.is ∙ ap Some c.in-Some-Data.field-0-is)) c.next.ensures.shaped

pub returns-in_ok-deserialize_dict-in-Some-Dict-clause-standing : goal.returns-in_ok-deserialize_dict-in-Some-Dict-clause-standing
returns-in_ok-deserialize_dict-in-Some-Dict-clause-standing g c =
    let is = c.in_ok-next.was ∙ ap Ok (c.in-Some-Dict.is ∙ ap Some c.in-Some-Dict.field-0-is) in
    let own = is-lent (Dict c.in-Some-Dict.page) is c.next.follows.holds-at-none c.next.ensures.page in
    passes_entries g.D.DecodedState.DecodedState.shown (g.D.Decoder.dict_shown c.args.decoder.now) (g.D.Decoder.entries c.args.decoder.now) (g.D.Decoder.outcomes c.args.decoder.now) c.args.items.now.items c.args.remaining.now c.args.dict.now c.in_ok-deserialize_dict-in-Some-Dict.field-0 (dict_content c.in-Some-Dict.page) (g.I.Pages.to_come c.args.iter.now) (g.I.Pages.to_come c.next.follows.lender-at-none) own.first c.in_ok-deserialize_dict-in-Some-Dict.ensures.entries

pub returns-in_ok-add_page-in-Some-Data-clause-standing : goal.returns-in_ok-add_page-in-Some-Data-clause-standing
returns-in_ok-add_page-in-Some-Data-clause-standing g c =
    let is = c.in_ok-next.was ∙ ap Ok (c.in-Some-Data.is ∙ ap Some c.in-Some-Data.field-0-is) in
    let own = is-lent (Data c.in-Some-Data.page) is c.next.follows.holds-at-none c.next.ensures.page in
    let outcomes = g.D.Decoder.outcomes c.args.decoder.now in
    let shown = g.D.Decoder.dict_shown c.args.decoder.now in
    let page = data_content c.in-Some-Data.page in
    let before = joined (map g.D.DecodedState.DecodedState.shown c.args.items.now.items) in
    let same : outcomes (option_map shown (option_copied c.as_ref.result)) page ≡ outcomes (option_map shown c.args.dict.now) page = ap (λ d. outcomes (option_map shown d) page) c.as_ref.ensures.value in
    passes_rows g.D.DecodedState.DecodedState.shown shown (g.D.Decoder.entries c.args.decoder.now) outcomes c.args.items.now.items c.add_page.new.items.items c.args.remaining.now c.add_page.new.remaining c.args.dict.now page (g.I.Pages.to_come c.args.iter.now) (g.I.Pages.to_come c.next.follows.lender-at-none) own.first
    (c.in_ok-add_page-in-Some-Data.ensures.rows ∙ ap (λ xs. map Given before ++ take c.args.remaining.now xs) same) (c.in_ok-add_page-in-Some-Data.ensures.remaining ∙ ap (λ xs. c.args.remaining.now - length xs) same)
