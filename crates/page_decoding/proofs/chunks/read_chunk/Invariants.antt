use Rattle.std.proofs.Common.{◌≡◌, All, length, map, None, IfSome}
use Rattle.page_decoding.specs.Chunks.{ReadsChunks}
use Rattle.page_decoding.specs.Column.{DataPagesAre}
use Rattle.page_decoding.specs.Queue.{IsCut}
use Rattle.page_decoding.specs.Standing.{standing, still_wanted}
use Rattle.page_decoding.proofs.chunks.read_chunk.Given as goal

abbrev pub invariant-loop-chunk : goal.invariant-loop-chunk
invariant-loop-chunk g l =
    let shown = g.D.DecodedState.DecodedState.shown in
    let dict_shown = g.D.Decoder.dict_shown l.decoder in
    let entries = g.D.Decoder.entries l.decoder in
    let outcomes = g.D.Decoder.outcomes l.decoder in
    let to_come = g.I.Pages.to_come in
    record {
      rows : still_wanted entries outcomes (standing shown dict_shown l.items.items l.remaining l.dict) (to_come l.iter) (g.I.Pages.causes l.iter) ≡ still_wanted entries outcomes (standing shown dict_shown l.initial.items.items l.initial.remaining l.initial.dict) (to_come l.initial.iter) (g.I.Pages.causes l.initial.iter);
      pages : ReadsChunks shown entries outcomes (g.D.Decoder.most_bytes l.decoder) l.chunk_size None (to_come l.initial.iter) (to_come l.iter) (g.I.Pages.causes l.initial.iter) (standing shown dict_shown l.initial.items.items l.initial.remaining l.initial.dict) (standing shown dict_shown l.items.items l.remaining l.dict) l.initial.steps l.steps (g.I.Pages.lent_count l.initial.iter) (g.I.Pages.lent_count l.iter);
      causes : g.I.Pages.causes l.iter ≡ g.I.Pages.causes l.initial.iter;
      row_count : g.I.Pages.row_count l.iter ≡ g.I.Pages.row_count l.initial.iter;
      takes : DataPagesAre (g.D.Decoder.takes l.decoder) (to_come l.iter);
      own_dict : IfSome l.dict (g.D.Decoder.is_own_dict l.decoder);
      cut : IsCut l.chunk_size (map shown l.items.items);
      own : All (g.D.Decoder.is_own l.decoder) l.items.items;
    }

abbrev pub decreases-loop-chunk : goal.decreases-loop-chunk
decreases-loop-chunk g l = length (g.I.Pages.to_come l.iter)
