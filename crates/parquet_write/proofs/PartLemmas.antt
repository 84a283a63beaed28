-- Chunks behind chunks, and what is told of groups.
use Rattle.std.proofs.Common.{◌≡◌, ℕ, ◌+◌, Bool, ◌&&◌, List, [], ◌∷◌, ◌++◌, refl, sym, ap, ◌∙◌, arith, length, append_assoc, append-nil, length-append}
use Rattle.std.proofs.Math.Bool.{and_assoc}
use Rattle.std.proofs.lemmas.List.Concat.{flat_map-append}
use Rattle.parquet_plain.specs.Description.{PlainChunk, PlainGroup, chunk_bytes}
use Rattle.parquet_plain.specs.File.{Starts, all_locations_bytes, behind, behind_all, chunk_index_bytes, chunk_locations_bytes, chunks_of, data_bytes, indexes_bytes}
use Rattle.parquet_plain.specs.Short.{are_short_chunks, is_short_chunk}
use Rattle.parquet_write.specs.Parts.{AddsChunks, group_facts, groups_facts, starts_of}
use Rattle.parquet_write.specs.Told.{all_facts, facts_of}
use Rattle.parquet_write.specs.declared.facts.ChunkFacts.{ChunkFacts}
use Rattle.parquet_write.specs.declared.facts.GroupFacts.{GroupFacts}
use Rattle.parquet_write.specs.declared.parts.Parts.{Parts}

pub starts_alike : {a a' b b' d d' : ℕ} → a ≡ a' → b ≡ b' → d ≡ d' → ◌≡◌ {A = Starts} record { chunk = a; index = b; locations = d } record { chunk = a'; index = b'; locations = d' }
starts_alike a b d = cc

locations-append : (start : ℕ) (xs ys : List PlainChunk) → all_locations_bytes start (xs ++ ys) ≡ all_locations_bytes start xs ++ all_locations_bytes (start + length (data_bytes xs)) ys
unfolding all_locations_bytes
locations-append start [] ys =
    let here : start ≡ start + 0 = omega arith in
    ap (λ (at : ℕ). all_locations_bytes at ys) here
locations-append start (x ∷ xs) ys =
    let there : start + length (chunk_bytes x) + length (data_bytes xs) ≡ start + length (data_bytes (x ∷ xs)) = omega (arith, length-append (chunk_bytes x) (data_bytes xs)) in
    ap (λ (bs : List ℕ). chunk_locations_bytes start x ++ bs) (locations-append (start + length (chunk_bytes x)) xs ys)
    ∙ sym (append_assoc (chunk_locations_bytes start x) (all_locations_bytes (start + length (chunk_bytes x)) xs) (all_locations_bytes (start + length (chunk_bytes x) + length (data_bytes xs)) ys))
    ∙ ap (λ (at : ℕ). (chunk_locations_bytes start x ++ all_locations_bytes (start + length (chunk_bytes x)) xs) ++ all_locations_bytes at ys) there

-- what stands behind chunks begins at the ends of their bytes
behind-all : (at : Starts) (xs : List PlainChunk) →
    behind_all at xs ≡ record { chunk = at.chunk + length (data_bytes xs); index = at.index + length (indexes_bytes xs); locations = at.locations + length (all_locations_bytes at.chunk xs) }
unfolding all_locations_bytes
behind-all at [] = starts_alike (omega arith) (omega arith) (omega arith)
behind-all at (x ∷ xs) =
    behind-all (behind at x) xs
    ∙ starts_alike (omega (arith, length-append (chunk_bytes x) (data_bytes xs))) (omega (arith, length-append (chunk_index_bytes x) (indexes_bytes xs)))
    (omega (arith, length-append (chunk_locations_bytes at.chunk x) (all_locations_bytes (at.chunk + length (chunk_bytes x)) xs)))

pub starts-behind : (old new : Parts) (xs : List PlainChunk) → AddsChunks old new xs → starts_of new ≡ behind_all (starts_of old) xs
starts-behind old new xs adds =
    starts_alike (ap length adds.pages ∙ length-append old.chunks.items (data_bytes xs)) (ap length adds.indexes ∙ length-append old.indexes.items (indexes_bytes xs))
    (ap length adds.locations ∙ length-append old.locations.items (all_locations_bytes (length old.chunks.items) xs))
    ∙ sym (behind-all (starts_of old) xs)

behind-both : (x y z a b : List ℕ) → y ≡ x ++ a → z ≡ y ++ b → z ≡ x ++ (a ++ b)
behind-both x y z a b first second = second ∙ ap (λ (bs : List ℕ). bs ++ b) first ∙ append_assoc x a b

pub adds_none : (parts : Parts) → AddsChunks parts parts []
unfolding all_locations_bytes
adds_none parts = record { pages = sym (append-nil parts.chunks.items); indexes = sym (append-nil parts.indexes.items); locations = sym (append-nil parts.locations.items) }

pub adds_more : (old mid new : Parts) (xs ys : List PlainChunk) → AddsChunks old mid xs → AddsChunks mid new ys → AddsChunks old new (xs ++ ys)
adds_more old mid new xs ys first second =
    let start : ℕ = length old.chunks.items in
    let at : length mid.chunks.items ≡ start + length (data_bytes xs) = ap length first.pages ∙ length-append old.chunks.items (data_bytes xs) in
    record {
      pages = behind-both _ _ _ (data_bytes xs) (data_bytes ys) first.pages second.pages ∙ ap (λ (bs : List ℕ). old.chunks.items ++ bs) (sym (flat_map-append chunk_bytes xs ys));
      indexes = behind-both _ _ _ (indexes_bytes xs) (indexes_bytes ys) first.indexes second.indexes ∙ ap (λ (bs : List ℕ). old.indexes.items ++ bs) (sym (flat_map-append chunk_index_bytes xs ys));
      locations = behind-both _ _ _ (all_locations_bytes start xs) (all_locations_bytes (length mid.chunks.items) ys) first.locations second.locations
          ∙ ap (λ (n : ℕ). old.locations.items ++ (all_locations_bytes start xs ++ all_locations_bytes n ys)) at
          ∙ ap (λ (bs : List ℕ). old.locations.items ++ bs) (sym (locations-append start xs ys));
    }

-- ---- chunks one after another

-- one chunk more
pub facts-more : (at : Starts) (done : List PlainChunk) (chunk : PlainChunk) → all_facts at (done ++ chunk ∷ []) ≡ all_facts at done ++ facts_of (behind_all at done) chunk ∷ []
facts-more at [] chunk = refl
facts-more at (first ∷ done) chunk = ap (λ (facts : List ChunkFacts). facts_of at first ∷ facts) (facts-more (behind at first) done chunk)

pub short-append : (start : ℕ) (xs ys : List PlainChunk) → are_short_chunks start (xs ++ ys) ≡ (are_short_chunks start xs && are_short_chunks (start + length (data_bytes xs)) ys)
short-append start [] ys =
    let here : start ≡ start + 0 = omega arith in
    ap (λ (at : ℕ). are_short_chunks at ys) here
short-append start (x ∷ xs) ys =
    let there : start + length (chunk_bytes x) + length (data_bytes xs) ≡ start + length (data_bytes (x ∷ xs)) = omega (arith, length-append (chunk_bytes x) (data_bytes xs)) in
    ap (λ (b : Bool). is_short_chunk start x && b) (short-append (start + length (chunk_bytes x)) xs ys)
    ∙ sym (and_assoc (is_short_chunk start x) (are_short_chunks (start + length (chunk_bytes x)) xs) (are_short_chunks (start + length (chunk_bytes x) + length (data_bytes xs)) ys))
    ∙ ap (λ (at : ℕ). (is_short_chunk start x && are_short_chunks (start + length (chunk_bytes x)) xs) && are_short_chunks at ys) there

-- ---- groups

behind_all-append : (at : Starts) (xs ys : List PlainChunk) → behind_all at (xs ++ ys) ≡ behind_all (behind_all at xs) ys
behind_all-append at [] ys = refl
behind_all-append at (x ∷ xs) ys = behind_all-append (behind at x) xs ys

-- one group more
pub groups-more : (at : Starts) (done : List PlainGroup) (group : PlainGroup) → groups_facts at (done ++ group ∷ []) ≡ groups_facts at done ++ group_facts (behind_all at (chunks_of done)) group ∷ []
groups-more at [] group = refl
groups-more at (first ∷ done) group =
    ap (λ (facts : List GroupFacts). group_facts at first ∷ facts) (groups-more (behind_all at first.chunks) done group)
    ∙ ap (λ (s : Starts). (group_facts at first ∷ groups_facts (behind_all at first.chunks) done) ++ group_facts s group ∷ []) (sym (behind_all-append at first.chunks (chunks_of done)))
