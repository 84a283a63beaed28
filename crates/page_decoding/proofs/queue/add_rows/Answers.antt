use Rattle.std.proofs.Common.{rules, ap, ◌∙◌, ◌≤◌, length, map, take, arith, subst, ℕ, ◌+◌, ◌++◌}
use Rattle.std.specs.Option.{option_copied}
use Rattle.parquet_page.specs.Content.{data_content}
use Rattle.page_decoding.specs.Bytes.{IsCausedByChunks}
use Rattle.page_decoding.specs.Outcome.{Given}
use Rattle.page_decoding.specs.Queue.{joined, FitsChunk}
use Rattle.page_decoding.proofs.BytesLemmas.{chunks-last}
use Rattle.page_decoding.proofs.QueueLemmas.{joined-popped}
use Rattle.page_decoding.proofs.RowLemmas.{added-rows, added-IsCut}
use Rattle.page_decoding.proofs.queue.add_rows.Goals as goal

pub returns-in_err-extend_from_state-clause-cause : goal.returns-in_err-extend_from_state-clause-cause
returns-in_err-extend_from_state-clause-cause g c =
    let shown = g.D.DecodedState.DecodedState.shown in
    let items = c.open_item.new.items.items in
    let item = c.in_ok-item.item in
    let xs = g.D.Decoder.left c.args.decoder.now (option_copied c.args.dict) (data_content c.args.page.now) c.args.state.now in
    let F : ℕ → Type 0 = λ n. FitsChunk c.args.chunk_size (n + c.room-taken.result) in
    let most = g.D.Decoder.most_bytes c.args.decoder.now in
    let before = joined (map shown c.args.items.now.items) in
    let error = c.in_err-extend_from_state.field-0.0 in
    let cause : IsCausedByChunks most c.args.chunk_size (map Given before ++ take c.args.wanted xs) error =
    chunks-last shown most c.args.chunk_size before items (shown item) c.room-taken.result c.args.wanted xs error
    c.in_ok-item.ensures.rows c.in_ok-item.ensures.full (subst F c.len.ensures c.room-taken.ensures.fits) c.room-taken.ensures.within c.in_err-extend_from_state.ensures.cause in
    search rules

pub returns-clause-rows : goal.returns-clause-rows
returns-clause-rows g c =
    let shown = g.D.DecodedState.DecodedState.shown in
    let items = c.open_item.new.items.items in
    let item = c.in_ok-item.item in
    let more = c.extend_from_state.new.decoded in
    ap (map Given) (joined-popped shown c.push_back.new.self.items items more c.in_ok-push_back.ensures.items)
    ∙ added-rows (joined (map shown c.args.items.now.items)) (joined (map shown items)) (shown item) (shown more) (take c.room-taken.result (g.D.Decoder.left c.args.decoder.now (option_copied c.args.dict) (data_content c.args.page.now) c.args.state.now)) c.in_ok-item.ensures.rows c.in_ok-extend_from_state.ensures.rows

pub returns-clause-cut : goal.returns-clause-cut
returns-clause-cut g c =
    let shown = g.D.DecodedState.DecodedState.shown in
    let xs = g.D.Decoder.left c.args.decoder.now (option_copied c.args.dict) (data_content c.args.page.now) c.args.state.now in
    let within : c.room-taken.result ≤ length xs = omega (arith, c.room-taken.ensures.within, c.requires.wanted) in
    let F : ℕ → Type 0 = λ n. FitsChunk c.args.chunk_size (n + c.room-taken.result) in
    added-IsCut shown c.args.chunk_size c.open_item.new.items.items c.push_back.new.self.items c.extend_from_state.new.decoded (shown c.in_ok-item.item) c.room-taken.result xs c.in_ok-push_back.ensures.items c.in_ok-item.ensures.full c.in_ok-extend_from_state.ensures.rows within c.room-taken.ensures.some (subst F c.len.ensures c.room-taken.ensures.fits)
