use Rattle.std.proofs.Common.{◌≡◌, ℕ, List, [], ◌++◌, ◌∷◌, sym, ap, ◌∙◌, length}
use Rattle.std.specs.List.{range_with_len}
use Rattle.std.proofs.lemmas.List.FromFn.{length-range_with_len}
use Rattle.parquet_plain.specs.Columns.{written_chunks}
use Rattle.parquet_plain.specs.Description.{PlainChunk}
use Rattle.parquet_plain.specs.File.{Starts, behind}
use Rattle.parquet_sample.specs.Parts.{sample_chunk}
use Rattle.parquet_sample.specs.declared.column.SampleColumn.TheVariants.{Id, Qty, Name}
use Rattle.parquet_write.proofs.PartLemmas.{adds_more, starts-behind}
use Rattle.parquet_write.specs.Parts.{starts_of}
use Rattle.parquet_write.specs.Told.{facts_of}
use Rattle.parquet_write.specs.declared.facts.ChunkFacts.{ChunkFacts}
use Rattle.parquet_write.specs.declared.facts.GroupFacts.{GroupFacts}
use Rattle.parquet_sample.proofs.group.write_group.Goals as goal

pub returns-clause-adds : goal.returns-clause-adds
unfolding written_chunks
returns-clause-adds c =
    let a : PlainChunk = sample_chunk Id c.args.first c.args.rows in
    let b : PlainChunk = sample_chunk Qty c.args.first c.args.rows in
    let d : PlainChunk = sample_chunk Name c.args.first c.args.rows in
    let two = adds_more c.args.parts.now c.write_chunk.new.parts c.write_chunk-2.new.parts (a ∷ []) (b ∷ []) c.in_ok-id.ensures.adds c.in_ok-qty.ensures.adds in
    adds_more c.args.parts.now c.write_chunk-2.new.parts c.write_chunk-3.new.parts (a ∷ b ∷ []) (d ∷ []) two c.in_ok-name.ensures.adds

three : (xs ys zs us : List ChunkFacts) (a b d : ChunkFacts) → xs ≡ [] → ys ≡ xs ++ a ∷ [] → zs ≡ ys ++ b ∷ [] → us ≡ zs ++ d ∷ [] → us ≡ a ∷ b ∷ d ∷ []
three xs ys zs us a b d none one two all = all ∙ ap (λ (cs : List ChunkFacts). cs ++ d ∷ []) (two ∙ ap (λ (cs : List ChunkFacts). cs ++ b ∷ []) (one ∙ ap (λ (cs : List ChunkFacts). cs ++ a ∷ []) none))

pub returns-clause-told : goal.returns-clause-told
unfolding written_chunks
returns-clause-told c =
    let a : PlainChunk = sample_chunk Id c.args.first c.args.rows in
    let b : PlainChunk = sample_chunk Qty c.args.first c.args.rows in
    let d : PlainChunk = sample_chunk Name c.args.first c.args.rows in
    let at : Starts = starts_of c.args.parts.now in
    let second : starts_of c.write_chunk.new.parts ≡ behind at a = starts-behind c.args.parts.now c.write_chunk.new.parts (a ∷ []) c.in_ok-id.ensures.adds in
    let third : starts_of c.write_chunk-2.new.parts ≡ behind (behind at a) b =
    starts-behind c.write_chunk.new.parts c.write_chunk-2.new.parts (b ∷ []) c.in_ok-qty.ensures.adds ∙ ap (λ (s : Starts). behind s b) second in
    let own : c.new.result ≡ c.in_ok-id.id ∷ c.in_ok-qty.qty ∷ c.in_ok-name.name ∷ [] =
    c.new.ensures ∙ three _ _ _ _ c.in_ok-id.id c.in_ok-qty.qty c.in_ok-name.name c.new-chunks.ensures.items c.in_ok-push.ensures.items c.in_ok-push-2.ensures.items c.in_ok-push-3.ensures.items in
    let made : ℕ → List ChunkFacts → GroupFacts = λ rows chunks. record { rows = rows; chunks = chunks } in
    ap (made c.from.result) own ∙ ap (λ (n : ℕ). made n (c.in_ok-id.id ∷ c.in_ok-qty.qty ∷ c.in_ok-name.name ∷ [])) (c.from.ensures ∙ sym (length-range_with_len c.args.first c.args.rows))
    ∙ ap (λ (f : ChunkFacts). made (length (range_with_len c.args.first c.args.rows)) (f ∷ c.in_ok-qty.qty ∷ c.in_ok-name.name ∷ [])) c.in_ok-id.ensures.told
    ∙ ap (λ (f : ChunkFacts). made (length (range_with_len c.args.first c.args.rows)) (facts_of at a ∷ f ∷ c.in_ok-name.name ∷ [])) (c.in_ok-qty.ensures.told ∙ ap (λ (s : Starts). facts_of s b) second)
    ∙ ap (λ (f : ChunkFacts). made (length (range_with_len c.args.first c.args.rows)) (facts_of at a ∷ facts_of (behind at a) b ∷ f ∷ [])) (c.in_ok-name.ensures.told ∙ ap (λ (s : Starts). facts_of s d) third)
