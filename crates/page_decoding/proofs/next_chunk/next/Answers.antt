use Rattle.std.proofs.Common.{◌≡◌, ◌<◌, arith, ◌∙◌, ap, sym, refl, inl, inr, [], ◌++◌, take, map}
use Rattle.std.specs.Prelude.{option_map}
use Rattle.page_decoding.specs.Outcome.{Given}
use Rattle.page_decoding.specs.Column.{rows}
use Rattle.page_decoding.specs.Queue.{joined}
use Rattle.page_decoding.specs.NextChunk.{GivesFront}
use Rattle.page_decoding.specs.Standing.{Advances, standing, still_wanted}
use Rattle.page_decoding.proofs.ChunkLemmas.{needed-from}
use Rattle.page_decoding.proofs.FrontLemmas.{front-chunk, front-end, front-items, front-more, front-cause, front-own, front-own_chunk}
use Rattle.page_decoding.proofs.NextLemmas.{moves-since, take-nil}
use Rattle.page_decoding.proofs.next_chunk.next.Goals as goal

pub returns-then-remaining-eq0-clause-chunk : goal.returns-then-remaining-eq0-clause-chunk
returns-then-remaining-eq0-clause-chunk g c =
    let shown = g.D.DecodedState.DecodedState.shown in
    let entries = g.D.Decoder.entries c.args.decoder.now in
    let outcomes = g.D.Decoder.outcomes c.args.decoder.now in
    let dict = option_map (g.D.Decoder.dict_shown c.args.decoder.now) c.args.dict.now in
    let coming = rows entries outcomes dict (g.I.Pages.to_come c.args.iter.now) (g.I.Pages.causes c.args.iter.now) in
    let old = map Given (joined (map shown c.args.items.now.items)) ++ take c.args.remaining.now coming in
    let new = map Given (joined (map shown c.give_front.new.items.items)) ++ take c.args.remaining.now coming in
    let front : GivesFront shown c.args.chunk_size old new c.give_front.result = c.give_front.ensures.chunk (take c.args.remaining.now coming) (inr (ap (λ n. take n coming) c.if-remaining-eq0.true)) in
    front-chunk shown c.args.chunk_size old old new c.give_front.result (refl) front

pub returns-then-remaining-eq0-clause-own : goal.returns-then-remaining-eq0-clause-own
returns-then-remaining-eq0-clause-own g c = front-own (g.D.Decoder.is_own c.args.decoder.now) c.args.items.now.items c.give_front.new.items.items c.give_front.result c.give_front.ensures.items c.requires.own

pub returns-then-remaining-eq0-clause-own_chunk : goal.returns-then-remaining-eq0-clause-own_chunk
returns-then-remaining-eq0-clause-own_chunk g c = front-own_chunk (g.D.Decoder.is_own c.args.decoder.now) c.args.items.now.items c.give_front.new.items.items c.give_front.result c.give_front.ensures.items c.requires.own

pub returns-then-remaining-eq0-clause-cause : goal.returns-then-remaining-eq0-clause-cause
returns-then-remaining-eq0-clause-cause g c =
    let shown = g.D.DecodedState.DecodedState.shown in
    let entries = g.D.Decoder.entries c.args.decoder.now in
    let outcomes = g.D.Decoder.outcomes c.args.decoder.now in
    let dict = option_map (g.D.Decoder.dict_shown c.args.decoder.now) c.args.dict.now in
    let coming = rows entries outcomes dict (g.I.Pages.to_come c.args.iter.now) (g.I.Pages.causes c.args.iter.now) in
    let old = map Given (joined (map shown c.args.items.now.items)) ++ take c.args.remaining.now coming in
    let new = map Given (joined (map shown c.give_front.new.items.items)) ++ take c.args.remaining.now coming in
    let front : GivesFront shown c.args.chunk_size old new c.give_front.result = c.give_front.ensures.chunk (take c.args.remaining.now coming) (inr (ap (λ n. take n coming) c.if-remaining-eq0.true)) in
    front-cause _ shown c.args.chunk_size old new c.give_front.result front

pub returns-then-remaining-eq0-clause-more : goal.returns-then-remaining-eq0-clause-more
returns-then-remaining-eq0-clause-more g c =
    let shown = g.D.DecodedState.DecodedState.shown in
    let entries = g.D.Decoder.entries c.args.decoder.now in
    let outcomes = g.D.Decoder.outcomes c.args.decoder.now in
    let dict = option_map (g.D.Decoder.dict_shown c.args.decoder.now) c.args.dict.now in
    let coming = rows entries outcomes dict (g.I.Pages.to_come c.args.iter.now) (g.I.Pages.causes c.args.iter.now) in
    let old = map Given (joined (map shown c.args.items.now.items)) ++ take c.args.remaining.now coming in
    let new = map Given (joined (map shown c.give_front.new.items.items)) ++ take c.args.remaining.now coming in
    let front : GivesFront shown c.args.chunk_size old new c.give_front.result = c.give_front.ensures.chunk (take c.args.remaining.now coming) (inr (ap (λ n. take n coming) c.if-remaining-eq0.true)) in
    front-more _ shown c.args.chunk_size old new c.give_front.result front

pub returns-then-begins_full-clause-chunk : goal.returns-then-begins_full-clause-chunk
returns-then-begins_full-clause-chunk g c =
    let shown = g.D.DecodedState.DecodedState.shown in
    let entries = g.D.Decoder.entries c.args.decoder.now in
    let outcomes = g.D.Decoder.outcomes c.args.decoder.now in
    let dict = option_map (g.D.Decoder.dict_shown c.args.decoder.now) c.args.dict.now in
    let coming = rows entries outcomes dict (g.I.Pages.to_come c.args.iter.now) (g.I.Pages.causes c.args.iter.now) in
    let old = map Given (joined (map shown c.args.items.now.items)) ++ take c.args.remaining.now coming in
    let new = map Given (joined (map shown c.give_front-then-begins_full.new.items.items)) ++ take c.args.remaining.now coming in
    let front : GivesFront shown c.args.chunk_size old new c.give_front-then-begins_full.result = c.give_front-then-begins_full.ensures.chunk (take c.args.remaining.now coming) (inl (c.begins_full.ensures.full c.if-begins_full.true)) in
    front-chunk shown c.args.chunk_size old old new c.give_front-then-begins_full.result (refl) front

pub returns-then-begins_full-clause-own : goal.returns-then-begins_full-clause-own
returns-then-begins_full-clause-own g c = front-own (g.D.Decoder.is_own c.args.decoder.now) c.args.items.now.items c.give_front-then-begins_full.new.items.items c.give_front-then-begins_full.result c.give_front-then-begins_full.ensures.items c.requires.own

pub returns-then-begins_full-clause-own_chunk : goal.returns-then-begins_full-clause-own_chunk
returns-then-begins_full-clause-own_chunk g c = front-own_chunk (g.D.Decoder.is_own c.args.decoder.now) c.args.items.now.items c.give_front-then-begins_full.new.items.items c.give_front-then-begins_full.result c.give_front-then-begins_full.ensures.items c.requires.own

pub returns-then-begins_full-clause-cause : goal.returns-then-begins_full-clause-cause
returns-then-begins_full-clause-cause g c =
    let shown = g.D.DecodedState.DecodedState.shown in
    let entries = g.D.Decoder.entries c.args.decoder.now in
    let outcomes = g.D.Decoder.outcomes c.args.decoder.now in
    let dict = option_map (g.D.Decoder.dict_shown c.args.decoder.now) c.args.dict.now in
    let coming = rows entries outcomes dict (g.I.Pages.to_come c.args.iter.now) (g.I.Pages.causes c.args.iter.now) in
    let old = map Given (joined (map shown c.args.items.now.items)) ++ take c.args.remaining.now coming in
    let new = map Given (joined (map shown c.give_front-then-begins_full.new.items.items)) ++ take c.args.remaining.now coming in
    let front : GivesFront shown c.args.chunk_size old new c.give_front-then-begins_full.result = c.give_front-then-begins_full.ensures.chunk (take c.args.remaining.now coming) (inl (c.begins_full.ensures.full c.if-begins_full.true)) in
    front-cause _ shown c.args.chunk_size old new c.give_front-then-begins_full.result front

pub returns-then-begins_full-clause-more : goal.returns-then-begins_full-clause-more
returns-then-begins_full-clause-more g c =
    let shown = g.D.DecodedState.DecodedState.shown in
    let entries = g.D.Decoder.entries c.args.decoder.now in
    let outcomes = g.D.Decoder.outcomes c.args.decoder.now in
    let dict = option_map (g.D.Decoder.dict_shown c.args.decoder.now) c.args.dict.now in
    let coming = rows entries outcomes dict (g.I.Pages.to_come c.args.iter.now) (g.I.Pages.causes c.args.iter.now) in
    let old = map Given (joined (map shown c.args.items.now.items)) ++ take c.args.remaining.now coming in
    let new = map Given (joined (map shown c.give_front-then-begins_full.new.items.items)) ++ take c.args.remaining.now coming in
    let front : GivesFront shown c.args.chunk_size old new c.give_front-then-begins_full.result = c.give_front-then-begins_full.ensures.chunk (take c.args.remaining.now coming) (inl (c.begins_full.ensures.full c.if-begins_full.true)) in
    front-more _ shown c.args.chunk_size old new c.give_front-then-begins_full.result front

pub returns-then-begins_full-2-clause-chunk : goal.returns-then-begins_full-2-clause-chunk
returns-then-begins_full-2-clause-chunk g c =
    let shown = g.D.DecodedState.DecodedState.shown in
    let entries = g.D.Decoder.entries c.args.decoder.now in
    let outcomes = g.D.Decoder.outcomes c.args.decoder.now in
    let dict = option_map (g.D.Decoder.dict_shown c.args.decoder.now) c.read_page.new.dict in
    let coming = rows entries outcomes dict (g.I.Pages.to_come c.read_page.new.iter) (g.I.Pages.causes c.read_page.new.iter) in
    let old = map Given (joined (map shown c.read_page.new.items.items)) ++ take c.read_page.new.remaining coming in
    let new = map Given (joined (map shown c.give_front-then-begins_full-2.new.items.items)) ++ take c.read_page.new.remaining coming in
    let front : GivesFront shown c.args.chunk_size old new c.give_front-then-begins_full-2.result = c.give_front-then-begins_full-2.ensures.chunk (take c.read_page.new.remaining coming) (inl (c.begins_full-in-Ok-true.ensures.full c.if-begins_full-2.true)) in
    front-chunk shown c.args.chunk_size (still_wanted entries outcomes (standing shown (g.D.Decoder.dict_shown c.args.decoder.now) c.args.items.now.items c.args.remaining.now c.args.dict.now) (g.I.Pages.to_come c.args.iter.now) (g.I.Pages.causes c.args.iter.now)) old new c.give_front-then-begins_full-2.result (sym c.in-Ok-true.ensures.rows) front

pub returns-then-begins_full-2-clause-own : goal.returns-then-begins_full-2-clause-own
returns-then-begins_full-2-clause-own g c = front-own (g.D.Decoder.is_own c.args.decoder.now) c.read_page.new.items.items c.give_front-then-begins_full-2.new.items.items c.give_front-then-begins_full-2.result c.give_front-then-begins_full-2.ensures.items c.in-Ok-true.ensures.own

pub returns-then-begins_full-2-clause-own_chunk : goal.returns-then-begins_full-2-clause-own_chunk
returns-then-begins_full-2-clause-own_chunk g c = front-own_chunk (g.D.Decoder.is_own c.args.decoder.now) c.read_page.new.items.items c.give_front-then-begins_full-2.new.items.items c.give_front-then-begins_full-2.result c.give_front-then-begins_full-2.ensures.items c.in-Ok-true.ensures.own

pub returns-then-begins_full-2-clause-cause : goal.returns-then-begins_full-2-clause-cause
returns-then-begins_full-2-clause-cause g c =
    let shown = g.D.DecodedState.DecodedState.shown in
    let entries = g.D.Decoder.entries c.args.decoder.now in
    let outcomes = g.D.Decoder.outcomes c.args.decoder.now in
    let dict = option_map (g.D.Decoder.dict_shown c.args.decoder.now) c.read_page.new.dict in
    let coming = rows entries outcomes dict (g.I.Pages.to_come c.read_page.new.iter) (g.I.Pages.causes c.read_page.new.iter) in
    let old = map Given (joined (map shown c.read_page.new.items.items)) ++ take c.read_page.new.remaining coming in
    let new = map Given (joined (map shown c.give_front-then-begins_full-2.new.items.items)) ++ take c.read_page.new.remaining coming in
    let front : GivesFront shown c.args.chunk_size old new c.give_front-then-begins_full-2.result = c.give_front-then-begins_full-2.ensures.chunk (take c.read_page.new.remaining coming) (inl (c.begins_full-in-Ok-true.ensures.full c.if-begins_full-2.true)) in
    front-cause _ shown c.args.chunk_size old new c.give_front-then-begins_full-2.result front

pub returns-in-Ok-false-clause-chunk : goal.returns-in-Ok-false-clause-chunk
returns-in-Ok-false-clause-chunk g c =
    let shown = g.D.DecodedState.DecodedState.shown in
    let entries = g.D.Decoder.entries c.args.decoder.now in
    let outcomes = g.D.Decoder.outcomes c.args.decoder.now in
    let dict = option_map (g.D.Decoder.dict_shown c.args.decoder.now) c.read_page.new.dict in
    let coming = rows entries outcomes dict (g.I.Pages.to_come c.read_page.new.iter) (g.I.Pages.causes c.read_page.new.iter) in
    let over = c.in-Ok-false.ensures.ended c.in-Ok-false.field-0-test in
    let ended : take c.read_page.new.remaining coming ≡ take c.read_page.new.remaining [] = ap (λ pages. take c.read_page.new.remaining (rows entries outcomes dict pages (g.I.Pages.causes c.read_page.new.iter))) over.none ∙ ap (λ causes. take c.read_page.new.remaining (rows entries outcomes dict [] causes)) over.ends in
    let old = map Given (joined (map shown c.read_page.new.items.items)) ++ take c.read_page.new.remaining coming in
    let new = map Given (joined (map shown c.give_front-in-Ok-false.new.items.items)) ++ take c.read_page.new.remaining coming in
    let front : GivesFront shown c.args.chunk_size old new c.give_front-in-Ok-false.result = c.give_front-in-Ok-false.ensures.chunk (take c.read_page.new.remaining coming) (inr (ended ∙ take-nil c.read_page.new.remaining)) in
    front-chunk shown c.args.chunk_size (still_wanted entries outcomes (standing shown (g.D.Decoder.dict_shown c.args.decoder.now) c.args.items.now.items c.args.remaining.now c.args.dict.now) (g.I.Pages.to_come c.args.iter.now) (g.I.Pages.causes c.args.iter.now)) old new c.give_front-in-Ok-false.result (sym c.in-Ok-false.ensures.rows) front

pub returns-in-Ok-false-clause-own : goal.returns-in-Ok-false-clause-own
returns-in-Ok-false-clause-own g c = front-own (g.D.Decoder.is_own c.args.decoder.now) c.read_page.new.items.items c.give_front-in-Ok-false.new.items.items c.give_front-in-Ok-false.result c.give_front-in-Ok-false.ensures.items c.in-Ok-false.ensures.own

pub returns-in-Ok-false-clause-own_chunk : goal.returns-in-Ok-false-clause-own_chunk
returns-in-Ok-false-clause-own_chunk g c = front-own_chunk (g.D.Decoder.is_own c.args.decoder.now) c.read_page.new.items.items c.give_front-in-Ok-false.new.items.items c.give_front-in-Ok-false.result c.give_front-in-Ok-false.ensures.items c.in-Ok-false.ensures.own

pub returns-in-Ok-false-clause-cause : goal.returns-in-Ok-false-clause-cause
returns-in-Ok-false-clause-cause g c =
    let shown = g.D.DecodedState.DecodedState.shown in
    let entries = g.D.Decoder.entries c.args.decoder.now in
    let outcomes = g.D.Decoder.outcomes c.args.decoder.now in
    let dict = option_map (g.D.Decoder.dict_shown c.args.decoder.now) c.read_page.new.dict in
    let coming = rows entries outcomes dict (g.I.Pages.to_come c.read_page.new.iter) (g.I.Pages.causes c.read_page.new.iter) in
    let over = c.in-Ok-false.ensures.ended c.in-Ok-false.field-0-test in
    let ended : take c.read_page.new.remaining coming ≡ take c.read_page.new.remaining [] = ap (λ pages. take c.read_page.new.remaining (rows entries outcomes dict pages (g.I.Pages.causes c.read_page.new.iter))) over.none ∙ ap (λ causes. take c.read_page.new.remaining (rows entries outcomes dict [] causes)) over.ends in
    let old = map Given (joined (map shown c.read_page.new.items.items)) ++ take c.read_page.new.remaining coming in
    let new = map Given (joined (map shown c.give_front-in-Ok-false.new.items.items)) ++ take c.read_page.new.remaining coming in
    let front : GivesFront shown c.args.chunk_size old new c.give_front-in-Ok-false.result = c.give_front-in-Ok-false.ensures.chunk (take c.read_page.new.remaining coming) (inr (ended ∙ take-nil c.read_page.new.remaining)) in
    front-cause _ shown c.args.chunk_size old new c.give_front-in-Ok-false.result front

pub returns-in-Ok-false-clause-more : goal.returns-in-Ok-false-clause-more
returns-in-Ok-false-clause-more g c =
    let shown = g.D.DecodedState.DecodedState.shown in
    let entries = g.D.Decoder.entries c.args.decoder.now in
    let outcomes = g.D.Decoder.outcomes c.args.decoder.now in
    let dict = option_map (g.D.Decoder.dict_shown c.args.decoder.now) c.read_page.new.dict in
    let coming = rows entries outcomes dict (g.I.Pages.to_come c.read_page.new.iter) (g.I.Pages.causes c.read_page.new.iter) in
    let over = c.in-Ok-false.ensures.ended c.in-Ok-false.field-0-test in
    let ended : take c.read_page.new.remaining coming ≡ take c.read_page.new.remaining [] = ap (λ pages. take c.read_page.new.remaining (rows entries outcomes dict pages (g.I.Pages.causes c.read_page.new.iter))) over.none ∙ ap (λ causes. take c.read_page.new.remaining (rows entries outcomes dict [] causes)) over.ends in
    let old = map Given (joined (map shown c.read_page.new.items.items)) ++ take c.read_page.new.remaining coming in
    let new = map Given (joined (map shown c.give_front-in-Ok-false.new.items.items)) ++ take c.read_page.new.remaining coming in
    let front : GivesFront shown c.args.chunk_size old new c.give_front-in-Ok-false.result = c.give_front-in-Ok-false.ensures.chunk (take c.read_page.new.remaining coming) (inr (ended ∙ take-nil c.read_page.new.remaining)) in
    front-more _ shown c.args.chunk_size old new c.give_front-in-Ok-false.result front

pub returns-then-begins_full-clause-end : goal.returns-then-begins_full-clause-end
returns-then-begins_full-clause-end g c = front-end _ c.give_front-then-begins_full.result (c.give_front-then-begins_full.ensures.some (c.begins_full.ensures.full c.if-begins_full.true))

pub returns-then-begins_full-2-clause-end : goal.returns-then-begins_full-2-clause-end
returns-then-begins_full-2-clause-end g c = front-end _ c.give_front-then-begins_full-2.result (c.give_front-then-begins_full-2.ensures.some (c.begins_full-in-Ok-true.ensures.full c.if-begins_full-2.true))

pub returns-then-remaining-eq0-clause-waits : goal.returns-then-remaining-eq0-clause-waits
returns-then-remaining-eq0-clause-waits g c =
    let shown = g.D.DecodedState.DecodedState.shown in
    let entries = g.D.Decoder.entries c.args.decoder.now in
    let outcomes = g.D.Decoder.outcomes c.args.decoder.now in
    let dict = option_map (g.D.Decoder.dict_shown c.args.decoder.now) c.args.dict.now in
    let coming = rows entries outcomes dict (g.I.Pages.to_come c.args.iter.now) (g.I.Pages.causes c.args.iter.now) in
    let old = map Given (joined (map shown c.args.items.now.items)) ++ take c.args.remaining.now coming in
    let new = map Given (joined (map shown c.give_front.new.items.items)) ++ take c.args.remaining.now coming in
    let front : GivesFront shown c.args.chunk_size old new c.give_front.result = c.give_front.ensures.chunk (take c.args.remaining.now coming) (inr (ap (λ n. take n coming) c.if-remaining-eq0.true)) in
    front-more _ shown c.args.chunk_size old new c.give_front.result front

pub returns-then-begins_full-clause-waits : goal.returns-then-begins_full-clause-waits
returns-then-begins_full-clause-waits g c =
    let shown = g.D.DecodedState.DecodedState.shown in
    let entries = g.D.Decoder.entries c.args.decoder.now in
    let outcomes = g.D.Decoder.outcomes c.args.decoder.now in
    let dict = option_map (g.D.Decoder.dict_shown c.args.decoder.now) c.args.dict.now in
    let coming = rows entries outcomes dict (g.I.Pages.to_come c.args.iter.now) (g.I.Pages.causes c.args.iter.now) in
    let old = map Given (joined (map shown c.args.items.now.items)) ++ take c.args.remaining.now coming in
    let new = map Given (joined (map shown c.give_front-then-begins_full.new.items.items)) ++ take c.args.remaining.now coming in
    let front : GivesFront shown c.args.chunk_size old new c.give_front-then-begins_full.result = c.give_front-then-begins_full.ensures.chunk (take c.args.remaining.now coming) (inl (c.begins_full.ensures.full c.if-begins_full.true)) in
    front-more _ shown c.args.chunk_size old new c.give_front-then-begins_full.result front

pub returns-then-begins_full-2-clause-waits : goal.returns-then-begins_full-2-clause-waits
returns-then-begins_full-2-clause-waits g c =
    let shown = g.D.DecodedState.DecodedState.shown in
    let entries = g.D.Decoder.entries c.args.decoder.now in
    let outcomes = g.D.Decoder.outcomes c.args.decoder.now in
    let dict = option_map (g.D.Decoder.dict_shown c.args.decoder.now) c.read_page.new.dict in
    let coming = rows entries outcomes dict (g.I.Pages.to_come c.read_page.new.iter) (g.I.Pages.causes c.read_page.new.iter) in
    let old = map Given (joined (map shown c.read_page.new.items.items)) ++ take c.read_page.new.remaining coming in
    let new = map Given (joined (map shown c.give_front-then-begins_full-2.new.items.items)) ++ take c.read_page.new.remaining coming in
    let front : GivesFront shown c.args.chunk_size old new c.give_front-then-begins_full-2.result = c.give_front-then-begins_full-2.ensures.chunk (take c.read_page.new.remaining coming) (inl (c.begins_full-in-Ok-true.ensures.full c.if-begins_full-2.true)) in
    front-more _ shown c.args.chunk_size old new c.give_front-then-begins_full-2.result front

pub returns-in-Ok-false-clause-waits : goal.returns-in-Ok-false-clause-waits
returns-in-Ok-false-clause-waits g c =
    let shown = g.D.DecodedState.DecodedState.shown in
    let entries = g.D.Decoder.entries c.args.decoder.now in
    let outcomes = g.D.Decoder.outcomes c.args.decoder.now in
    let dict = option_map (g.D.Decoder.dict_shown c.args.decoder.now) c.read_page.new.dict in
    let coming = rows entries outcomes dict (g.I.Pages.to_come c.read_page.new.iter) (g.I.Pages.causes c.read_page.new.iter) in
    let over = c.in-Ok-false.ensures.ended c.in-Ok-false.field-0-test in
    let ended : take c.read_page.new.remaining coming ≡ take c.read_page.new.remaining [] = ap (λ pages. take c.read_page.new.remaining (rows entries outcomes dict pages (g.I.Pages.causes c.read_page.new.iter))) over.none ∙ ap (λ causes. take c.read_page.new.remaining (rows entries outcomes dict [] causes)) over.ends in
    let old = map Given (joined (map shown c.read_page.new.items.items)) ++ take c.read_page.new.remaining coming in
    let new = map Given (joined (map shown c.give_front-in-Ok-false.new.items.items)) ++ take c.read_page.new.remaining coming in
    let front : GivesFront shown c.args.chunk_size old new c.give_front-in-Ok-false.result = c.give_front-in-Ok-false.ensures.chunk (take c.read_page.new.remaining coming) (inr (ended ∙ take-nil c.read_page.new.remaining)) in
    front-more _ shown c.args.chunk_size old new c.give_front-in-Ok-false.result front

pub read_page-requires-clause-needed : goal.read_page-requires-clause-needed
read_page-requires-clause-needed g c =
    let some : 0 < c.args.remaining.now = omega (arith, c.if-remaining-eq0.false) in
    needed-from g.D.DecodedState.DecodedState.shown (g.D.Decoder.dict_shown c.args.decoder.now) c.args.chunk_size c.args.items.now.items c.args.remaining.now c.args.dict.now c.requires.size c.requires.cut some (c.begins_full.ensures.not_full c.if-begins_full.false)

pub returns-in-Err-clause-pages : goal.returns-in-Err-clause-pages
returns-in-Err-clause-pages g c =
    let some : 0 < c.args.remaining.now = omega (arith, c.if-remaining-eq0.false) in
    moves-since (0 < c.args.remaining.now) _
    (needed-from g.D.DecodedState.DecodedState.shown (g.D.Decoder.dict_shown c.args.decoder.now) c.args.chunk_size c.args.items.now.items c.args.remaining.now c.args.dict.now c.requires.size c.requires.cut some (c.begins_full.ensures.not_full c.if-begins_full.false)) c.in-Err.ensures.pages

pub returns-then-begins_full-2-clause-pages : goal.returns-then-begins_full-2-clause-pages
returns-then-begins_full-2-clause-pages g c =
    let some : 0 < c.args.remaining.now = omega (arith, c.if-remaining-eq0.false) in
    moves-since (0 < c.args.remaining.now) _
    (needed-from g.D.DecodedState.DecodedState.shown (g.D.Decoder.dict_shown c.args.decoder.now) c.args.chunk_size c.args.items.now.items c.args.remaining.now c.args.dict.now c.requires.size c.requires.cut some (c.begins_full.ensures.not_full c.if-begins_full.false)) c.in-Ok-true.ensures.pages

pub returns-else-begins_full-2-clause-pages : goal.returns-else-begins_full-2-clause-pages
returns-else-begins_full-2-clause-pages g c =
    let some : 0 < c.args.remaining.now = omega (arith, c.if-remaining-eq0.false) in
    moves-since (0 < c.args.remaining.now) _
    (needed-from g.D.DecodedState.DecodedState.shown (g.D.Decoder.dict_shown c.args.decoder.now) c.args.chunk_size c.args.items.now.items c.args.remaining.now c.args.dict.now c.requires.size c.requires.cut some (c.begins_full.ensures.not_full c.if-begins_full.false)) c.in-Ok-true.ensures.pages

pub returns-then-begins_full-clause-ended : goal.returns-then-begins_full-clause-ended
returns-then-begins_full-clause-ended g c = front-end _ c.give_front-then-begins_full.result (c.give_front-then-begins_full.ensures.some (c.begins_full.ensures.full c.if-begins_full.true))

pub returns-then-begins_full-2-clause-ended : goal.returns-then-begins_full-2-clause-ended
returns-then-begins_full-2-clause-ended g c = front-end _ c.give_front-then-begins_full-2.result (c.give_front-then-begins_full-2.ensures.some (c.begins_full-in-Ok-true.ensures.full c.if-begins_full-2.true))

pub returns-then-begins_full-2-clause-more : goal.returns-then-begins_full-2-clause-more
returns-then-begins_full-2-clause-more g c =
    let shown = g.D.DecodedState.DecodedState.shown in
    let entries = g.D.Decoder.entries c.args.decoder.now in
    let outcomes = g.D.Decoder.outcomes c.args.decoder.now in
    let dict = option_map (g.D.Decoder.dict_shown c.args.decoder.now) c.read_page.new.dict in
    let coming = rows entries outcomes dict (g.I.Pages.to_come c.read_page.new.iter) (g.I.Pages.causes c.read_page.new.iter) in
    let old = map Given (joined (map shown c.read_page.new.items.items)) ++ take c.read_page.new.remaining coming in
    let new = map Given (joined (map shown c.give_front-then-begins_full-2.new.items.items)) ++ take c.read_page.new.remaining coming in
    let front : GivesFront shown c.args.chunk_size old new c.give_front-then-begins_full-2.result = c.give_front-then-begins_full-2.ensures.chunk (take c.read_page.new.remaining coming) (inl (c.begins_full-in-Ok-true.ensures.full c.if-begins_full-2.true)) in
    front-more _ shown c.args.chunk_size old new c.give_front-then-begins_full-2.result front

pub returns-then-begins_full-2-clause-standing : goal.returns-then-begins_full-2-clause-standing
returns-then-begins_full-2-clause-standing g c =
    let shown = g.D.DecodedState.DecodedState.shown in
    let dict_shown = g.D.Decoder.dict_shown c.args.decoder.now in
    let before = standing shown dict_shown c.args.items.now.items c.args.remaining.now c.args.dict.now in
    let P : _ → Type 0 = λ items.
    Advances (g.D.Decoder.entries c.args.decoder.now) (g.D.Decoder.outcomes c.args.decoder.now) (g.I.Pages.to_come c.args.iter.now) (g.I.Pages.to_come c.read_page.new.iter) before (standing shown dict_shown items c.read_page.new.remaining c.read_page.new.dict) in
    front-items P c.read_page.new.items.items c.give_front-then-begins_full-2.new.items.items c.give_front-then-begins_full-2.result c.give_front-then-begins_full-2.ensures.items c.in-Ok-true.ensures.standing
