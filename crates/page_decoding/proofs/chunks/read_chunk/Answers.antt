use Rattle.std.proofs.Common.{◌∙◌, refl, None, List, subst}
use Rattle.columns_core.specs.Causes.{Cause}
use Rattle.page_decoding.specs.NextChunk.{IfFault}
use Rattle.page_decoding.specs.Standing.{FailsBy, IsNeeded, standing}
use Rattle.page_decoding.specs.declared.queue.MaybeNext.TheVariants as next
use Rattle.page_decoding.proofs.ChunkLemmas.{cut-next, failed-awaited, gives-next, moves-same, none-next, own-next, own_chunk-next, own_dict-next, reads-next, reads-on}
use Rattle.page_decoding.proofs.chunks.read_chunk.Goals as goal

pub loop-chunk-preserved : goal.loop-chunk-preserved
loop-chunk-preserved g c =
    let shown = g.D.DecodedState.DecodedState.shown in
    let decoder = c.args.decoder.now in
    let before = c.loop-chunk.invariant in
    let needs = IsNeeded c.args.chunk_size (standing shown (g.D.Decoder.dict_shown decoder) c.loop-chunk.items.items c.loop-chunk.remaining c.loop-chunk.dict) in
    record {
      rows = c.in-More.ensures.chunk ∙ before.rows;
      pages = reads-on shown (g.D.Decoder.entries decoder) (g.D.Decoder.outcomes decoder) (g.D.Decoder.most_bytes c.args.decoder.now) c.args.chunk_size {result = None} needs before.pages c.in-More.ensures.pages c.in-More.ensures.standing (λ need. need) refl (λ lent_pages. tt);
      causes = moves-same c.in-More.ensures.pages c.in-More.ensures.more ∙ before.causes;
      row_count = c.in-More.ensures.row_count ∙ before.row_count;
      takes = c.in-More.ensures.takes;
      own_dict = c.in-More.ensures.own_dict;
      cut = c.in-More.ensures.cut;
      own = c.in-More.ensures.own;
    }

pub returns-in-None-clause-pages : goal.returns-in-None-clause-pages
returns-in-None-clause-pages g c =
    let shown = g.D.DecodedState.DecodedState.shown in
    let decoder = c.args.decoder.now in
    let needs = IsNeeded c.args.chunk_size (standing shown (g.D.Decoder.dict_shown decoder) c.loop-chunk.items.items c.loop-chunk.remaining c.loop-chunk.dict) in
    reads-on shown (g.D.Decoder.entries decoder) (g.D.Decoder.outcomes decoder) (g.D.Decoder.most_bytes c.args.decoder.now) c.args.chunk_size {result = None} needs c.loop-chunk.invariant.pages c.in-None.ensures.pages c.in-None.ensures.standing (λ need. need) refl (λ lent_pages. tt)

pub returns-in-Some-clause-chunk : goal.returns-in-Some-clause-chunk
returns-in-Some-clause-chunk g c =
    let decoder = c.args.decoder.now in
    gives-next g.D.DecodedState.DecodedState.shown (g.D.Decoder.dict_shown decoder) (g.D.Decoder.entries decoder) (g.D.Decoder.outcomes decoder) (g.D.Decoder.most_bytes c.args.decoder.now) c.args.chunk_size c.in-Some.chunk _ _ _ _ _ _ _ _ (g.I.Pages.to_come c.next.new.iter) (g.I.Pages.causes c.loop-chunk.iter) (g.I.Pages.causes c.next.new.iter) _
    c.end_after_error.ensures.items c.end_after_error.ensures.remaining c.end_after_error.ensures.dict c.loop-chunk.invariant.rows c.in-Some.ensures.chunk c.in-Some.ensures.cause

pub returns-in-Some-clause-pages : goal.returns-in-Some-clause-pages
returns-in-Some-clause-pages g c =
    let shown = g.D.DecodedState.DecodedState.shown in
    let decoder = c.args.decoder.now in
    let entries = g.D.Decoder.entries decoder in
    let outcomes = g.D.Decoder.outcomes decoder in
    let before = c.loop-chunk.invariant in
    let now = standing shown (g.D.Decoder.dict_shown decoder) c.loop-chunk.items.items c.loop-chunk.remaining c.loop-chunk.dict in
    let needs = IsNeeded c.args.chunk_size now in
    let F : List Cause → Type 0 = λ causes. IfFault (next.Some c.in-Some.chunk) (FailsBy entries outcomes (g.D.Decoder.most_bytes c.args.decoder.now) c.args.chunk_size (g.I.Pages.to_come c.loop-chunk.iter) (g.I.Pages.to_come c.next.new.iter) causes now) in
    reads-next shown (g.D.Decoder.dict_shown decoder) entries outcomes (g.D.Decoder.most_bytes c.args.decoder.now) c.args.chunk_size needs c.in-Some.chunk _ _ _ _ _ _
    c.end_after_error.ensures.items c.end_after_error.ensures.remaining c.end_after_error.ensures.dict before.pages c.in-Some.ensures.pages c.in-Some.ensures.standing (λ need. need) (subst F before.causes c.in-Some.ensures.cause)

pub returns-in-Some-clause-ended : goal.returns-in-Some-clause-ended
returns-in-Some-clause-ended g c empty none =
    let shown = g.D.DecodedState.DecodedState.shown in
    let dict_shown = g.D.Decoder.dict_shown c.args.decoder.now in
    let entries = g.D.Decoder.entries c.args.decoder.now in
    let outcomes = g.D.Decoder.outcomes c.args.decoder.now in
    let before = c.loop-chunk.invariant in
    let now = standing shown dict_shown c.loop-chunk.items.items c.loop-chunk.remaining c.loop-chunk.dict in
    let F : List Cause → Type 0 = λ causes. IfFault (next.Some c.in-Some.chunk) (FailsBy entries outcomes (g.D.Decoder.most_bytes c.args.decoder.now) c.args.chunk_size (g.I.Pages.to_come c.loop-chunk.iter) (g.I.Pages.to_come c.next.new.iter) causes now) in
    let gives = gives-next shown dict_shown entries outcomes (g.D.Decoder.most_bytes c.args.decoder.now) c.args.chunk_size c.in-Some.chunk _ _ _ _ _ _ now (g.I.Pages.to_come c.loop-chunk.iter) (g.I.Pages.to_come c.next.new.iter) (g.I.Pages.causes c.loop-chunk.iter) (g.I.Pages.causes c.next.new.iter) _
    c.end_after_error.ensures.items c.end_after_error.ensures.remaining c.end_after_error.ensures.dict before.rows c.in-Some.ensures.chunk c.in-Some.ensures.cause in
    none-next shown dict_shown entries outcomes (g.D.Decoder.most_bytes c.args.decoder.now) c.args.chunk_size c.in-Some.chunk (g.I.Pages.to_come c.next.new.iter) _ before.pages (subst F before.causes c.in-Some.ensures.cause) gives empty none

pub returns-in-Some-clause-awaited : goal.returns-in-Some-clause-awaited
returns-in-Some-clause-awaited g c =
    let shown = g.D.DecodedState.DecodedState.shown in
    let dict_shown = g.D.Decoder.dict_shown c.args.decoder.now in
    let entries = g.D.Decoder.entries c.args.decoder.now in
    let outcomes = g.D.Decoder.outcomes c.args.decoder.now in
    let most = g.D.Decoder.most_bytes c.args.decoder.now in
    let before = c.loop-chunk.invariant in
    let now = standing shown dict_shown c.loop-chunk.items.items c.loop-chunk.remaining c.loop-chunk.dict in
    let new = g.I.Pages.to_come c.next.new.iter in
    let F : List Cause → Type 0 = λ causes. IfFault (next.Some c.in-Some.chunk) (FailsBy entries outcomes most c.args.chunk_size (g.I.Pages.to_come c.loop-chunk.iter) new causes now) in
    failed-awaited shown dict_shown entries outcomes most c.args.chunk_size c.in-Some.chunk new before.pages (subst F before.causes c.in-Some.ensures.cause)

pub returns-in-Some-clause-own_chunk : goal.returns-in-Some-clause-own_chunk
returns-in-Some-clause-own_chunk g c = own_chunk-next (g.D.Decoder.is_own c.args.decoder.now) c.in-Some.chunk c.in-Some.ensures.own_chunk

pub returns-in-Some-clause-own_dict : goal.returns-in-Some-clause-own_dict
returns-in-Some-clause-own_dict g c = own_dict-next (g.D.Decoder.is_own_dict c.args.decoder.now) c.in-Some.chunk _ _ c.end_after_error.ensures.dict c.in-Some.ensures.own_dict

pub returns-in-Some-clause-cut : goal.returns-in-Some-clause-cut
returns-in-Some-clause-cut g c =
    let decoder = c.args.decoder.now in
    cut-next g.D.DecodedState.DecodedState.shown (g.D.Decoder.dict_shown decoder) (g.D.Decoder.entries decoder) (g.D.Decoder.outcomes decoder) (g.D.Decoder.most_bytes c.args.decoder.now) c.args.chunk_size c.in-Some.chunk _ _ c.end_after_error.ensures.items c.in-Some.ensures.cut

pub returns-in-Some-clause-own : goal.returns-in-Some-clause-own
returns-in-Some-clause-own g c = own-next (g.D.Decoder.is_own c.args.decoder.now) c.in-Some.chunk _ _ c.end_after_error.ensures.items c.in-Some.ensures.own
