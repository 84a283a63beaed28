use Rattle.std.proofs.Common.{rules, ◌≤◌, take, inr, arith, map, ◌++◌}
use Rattle.std.specs.Prelude.{option_map}
use Rattle.std.specs.Option.{option_copied}
use Rattle.parquet_page.specs.Content.{data_content}
use Rattle.page_decoding.specs.Bytes.{IsCausedByChunks}
use Rattle.page_decoding.specs.Outcome.{Given, IsCausedBy}
use Rattle.page_decoding.specs.Queue.{joined}
use Rattle.page_decoding.proofs.BytesLemmas.{chunks-right}
use Rattle.page_decoding.proofs.RowLemmas.{caused-take}
use Rattle.page_decoding.proofs.next_chunk.add_page.Goals as goal

pub returns-in_err-state-clause-cause : goal.returns-in_err-state-clause-cause
returns-in_err-state-clause-cause g c =
    let xs = g.D.Decoder.outcomes c.args.decoder.now (option_map (g.D.Decoder.dict_shown c.args.decoder.now) (option_copied c.args.dict)) (data_content c.args.page.now) in
    let error = c.in_err-state.field-0.0 in
    let some : 1 ≤ c.args.remaining.now = omega (arith, c.requires.some) in
    let cause : IsCausedBy (take c.args.remaining.now xs) error = caused-take 1 c.args.remaining.now xs error some (inr c.in_err-state.ensures.cause) in
    let most = g.D.Decoder.most_bytes c.args.decoder.now in
    let before = joined (map g.D.DecodedState.DecodedState.shown c.args.items.now.items) in
    let told : IsCausedByChunks most c.args.chunk_size (map Given before ++ take c.args.remaining.now xs) error = chunks-right most c.args.chunk_size (map Given before) (take c.args.remaining.now xs) error cause in
    search rules
