-- Chunks behind chunks, and groups behind groups.
use Rattle.std.proofs.Common.{◌≡◌, ℕ, zero, suc, ◌+◌, ◌≤◌, Bool, true, false, ◌&&◌, List, [], ◌∷◌, ◌++◌, Option, Some, refl, sym, ap, ◌∙◌, arith, length, map, take, drop, subst, append_assoc, append-nil, length-append}
use Rattle.std.specs.Prelude.{slice_get}
use Rattle.std.proofs.lemmas.List.{length-map, map-append, take_all, take-append-drop, take-map}
use Rattle.columns_core.specs.Array.{column_of}
use Rattle.columns_core.specs.Chunk.{array_rows}
use Rattle.columns_core.specs.declared.array.Array.{Array}
use Rattle.columns_core.specs.declared.data_type.Field.{Field}
use Rattle.parquet_page.specs.Stored.{Stored}
use Rattle.parquet_plain.specs.Columns.{Written, written_chunk, written_chunks}
use Rattle.parquet_plain.specs.Description.{PlainChunk, PlainGroup}
use Rattle.parquet_plain.specs.File.{chunks_of, data_bytes}
use Rattle.parquet_plain.specs.Short.{are_short_chunks, is_short_chunk}
use Rattle.parquet_write.specs.Parts.{AddsChunks, group_facts, groups_facts, starts_of}
use Rattle.parquet_write.specs.Told.{all_facts, facts_of}
use Rattle.parquet_write.specs.declared.facts.ChunkFacts.{ChunkFacts}
use Rattle.parquet_write.specs.declared.facts.GroupFacts.{GroupFacts}
use Rattle.parquet_write.specs.declared.parts.Parts.{Parts}
use Rattle.parquet_write.proofs.PartLemmas.{adds_more, adds_none, facts-more, groups-more, short-append, starts-behind}
use Rattle.put_program.proofs.ListLemmas.{take-next}
use Rattle.put_program.specs.Put.{first_column_length, stored_items, written_field}
use Rattle.put_program.specs.Typed.{put_group, put_groups}

-- ---- lists

pub length-take-equal : {X Y : Type 0} (xs : List X) (ys : List Y) (i : ℕ) → length xs ≡ length ys → length (take i xs) ≡ length (take i ys)
length-take-equal [] [] zero e = refl
length-take-equal [] [] (suc i) e = refl
length-take-equal [] (y ∷ ys) i e = absurd cc
length-take-equal (x ∷ xs) [] i e = absurd cc
length-take-equal (x ∷ xs) (y ∷ ys) zero e = refl
length-take-equal (x ∷ xs) (y ∷ ys) (suc i) e = ap suc (length-take-equal xs ys i (omega (arith, e)))

-- ---- chunks of a group

chunks-last : (columns : List Written) (rows : List (List (Option Stored))) (to : Written) (items : List (Option Stored)) → length columns ≡ length rows →
    written_chunks (columns ++ to ∷ []) (rows ++ items ∷ []) ≡ written_chunks columns rows ++ written_chunk to items ∷ []
unfolding written_chunks
chunks-last [] [] to items e = refl
chunks-last [] (r ∷ rows) to items e = absurd cc
chunks-last (c ∷ columns) [] to items e = absurd cc
chunks-last (c ∷ columns) (r ∷ rows) to items e = ap (λ (chunks : List PlainChunk). written_chunk c r ∷ chunks) (chunks-last columns rows to items (omega (arith, e)))

-- the chunks of the first columns
abbrev pub front : ℕ → List Field → List Array → ℕ → List PlainChunk
front page_rows fields arrays i = (put_group page_rows (take i fields) (take i arrays)).chunks

pub front-more : (page_rows : ℕ) (fields : List Field) (arrays : List Array) (i : ℕ) (field : Field) (array : Array) → length fields ≡ length arrays → slice_get fields i ≡ Some field → slice_get arrays i ≡ Some array →
    front page_rows fields arrays (i + 1) ≡ front page_rows fields arrays i ++ written_chunk (written_field page_rows field) (stored_items (column_of array)) ∷ []
front-more page_rows fields arrays i field array e own other =
    let cells : List Array → List (List (Option Stored)) = λ some. map stored_items (map column_of some) in
    ap (λ (fs : List Field). written_chunks (map (written_field page_rows) fs) (cells (take (i + 1) arrays))) (take-next fields i field own)
    ∙ ap (λ (some : List Array). written_chunks (map (written_field page_rows) (take i fields ++ field ∷ [])) (cells some)) (take-next arrays i array other)
    ∙ ap (λ (cs : List Written). written_chunks cs (cells (take i arrays ++ array ∷ []))) (map-append (written_field page_rows) (take i fields) (field ∷ []))
    ∙ ap (λ (rs : List (List (Option Stored))). written_chunks (map (written_field page_rows) (take i fields) ++ written_field page_rows field ∷ []) rs)
    (ap (map stored_items) (map-append column_of (take i arrays) (array ∷ [])) ∙ map-append stored_items (map column_of (take i arrays)) (column_of array ∷ []))
    ∙ chunks-last (map (written_field page_rows) (take i fields)) (cells (take i arrays)) (written_field page_rows field) (stored_items (column_of array))
    (length-map (take i fields) (written_field page_rows) ∙ length-take-equal fields arrays i e ∙ sym (length-map (take i arrays) column_of) ∙ sym (length-map (map column_of (take i arrays)) stored_items))

-- ---- parts that grow by chunks

pub record Grows (old now : Parts) (told : List ChunkFacts) (chunks : List PlainChunk) : Type 0 where
  pub adds : AddsChunks old now chunks
  pub facts : told ≡ all_facts (starts_of old) chunks
  pub short : are_short_chunks (length old.chunks.items) chunks ≡ true

pub grows_none : (parts : Parts) → Grows parts parts [] []
grows_none parts = record { adds = adds_none parts; facts = refl; short = refl }

-- where the next chunk begins
place : (old mid : Parts) (chunks : List PlainChunk) → AddsChunks old mid chunks → length mid.chunks.items ≡ length old.chunks.items + length (data_bytes chunks)
place old mid chunks adds = ap length adds.pages ∙ length-append old.chunks.items (data_bytes chunks)

one-short : (start : ℕ) (chunk : PlainChunk) → are_short_chunks start (chunk ∷ []) ≡ is_short_chunk start chunk
one-short start chunk = and-true (is_short_chunk start chunk)
  where
    and-true : (b : Bool) → (b && true) ≡ b
    and-true true = refl
    and-true false = refl

short-next : (old mid : Parts) (told : List ChunkFacts) (chunks : List PlainChunk) (chunk : PlainChunk) → Grows old mid told chunks →
    are_short_chunks (length old.chunks.items) (chunks ++ chunk ∷ []) ≡ is_short_chunk (length mid.chunks.items) chunk
short-next old mid told chunks chunk grows =
    short-append (length old.chunks.items) chunks (chunk ∷ [])
    ∙ ap (λ (b : Bool). b && are_short_chunks (length old.chunks.items + length (data_bytes chunks)) (chunk ∷ [])) grows.short
    ∙ one-short (length old.chunks.items + length (data_bytes chunks)) chunk ∙ ap (λ (at : ℕ). is_short_chunk at chunk) (sym (place old mid chunks grows.adds))

pub grows_more : (old mid new : Parts) (told : List ChunkFacts) (chunks : List PlainChunk) (fact : ChunkFacts) (chunk : PlainChunk) → Grows old mid told chunks →
    AddsChunks mid new (chunk ∷ []) → fact ≡ facts_of (starts_of mid) chunk → is_short_chunk (length mid.chunks.items) chunk ≡ true → Grows old new (told ++ fact ∷ []) (chunks ++ chunk ∷ [])
grows_more old mid new told chunks fact chunk grows adds own short = record {
  adds = adds_more old mid new chunks (chunk ∷ []) grows.adds adds;
  facts = ap (λ (facts : List ChunkFacts). facts ++ fact ∷ []) grows.facts ∙ ap (λ (f : ChunkFacts). all_facts (starts_of old) chunks ++ f ∷ []) (own ∙ ap (λ s. facts_of s chunk) (starts-behind old mid chunks grows.adds))
      ∙ sym (facts-more (starts_of old) chunks chunk);
  short = short-next old mid told chunks chunk grows ∙ short;
}

-- a chunk that is too large makes the whole too large
pub grows_past : (old mid : Parts) (told : List ChunkFacts) (chunks rest : List PlainChunk) (chunk : PlainChunk) → Grows old mid told chunks →
    is_short_chunk (length mid.chunks.items) chunk ≡ false → are_short_chunks (length old.chunks.items) ((chunks ++ chunk ∷ []) ++ rest) ≡ false
grows_past old mid told chunks rest chunk grows large =
    short-append (length old.chunks.items) (chunks ++ chunk ∷ []) rest
    ∙ ap (λ (b : Bool). b && are_short_chunks (length old.chunks.items + length (data_bytes (chunks ++ chunk ∷ []))) rest) (short-next old mid told chunks chunk grows ∙ large)

-- ---- parts that grow by groups

pub record GrowsGroups (old now : Parts) (told : List GroupFacts) (groups : List PlainGroup) : Type 0 where
  pub adds : AddsChunks old now (chunks_of groups)
  pub facts : told ≡ groups_facts (starts_of old) groups
  pub short : are_short_chunks (length old.chunks.items) (chunks_of groups) ≡ true

pub groups_none : (parts : Parts) → GrowsGroups parts parts [] []
groups_none parts = record { adds = adds_none parts; facts = refl; short = refl }

chunks-last-group : (groups : List PlainGroup) (group : PlainGroup) → chunks_of (groups ++ group ∷ []) ≡ chunks_of groups ++ group.chunks
chunks-last-group [] group = append-nil group.chunks
chunks-last-group (g ∷ groups) group = ap (λ (cs : List PlainChunk). g.chunks ++ cs) (chunks-last-group groups group) ∙ sym (append_assoc g.chunks (chunks_of groups) group.chunks)

short-group : (old mid : Parts) (told : List GroupFacts) (groups : List PlainGroup) (group : PlainGroup) → GrowsGroups old mid told groups →
    are_short_chunks (length old.chunks.items) (chunks_of (groups ++ group ∷ [])) ≡ are_short_chunks (length mid.chunks.items) group.chunks
short-group old mid told groups group grows =
    ap (are_short_chunks (length old.chunks.items)) (chunks-last-group groups group) ∙ short-append (length old.chunks.items) (chunks_of groups) group.chunks
    ∙ ap (λ (b : Bool). b && are_short_chunks (length old.chunks.items + length (data_bytes (chunks_of groups))) group.chunks) grows.short
    ∙ ap (λ (at : ℕ). are_short_chunks at group.chunks) (sym (place old mid (chunks_of groups) grows.adds))

pub groups_more : (old mid new : Parts) (told : List GroupFacts) (groups : List PlainGroup) (fact : GroupFacts) (group : PlainGroup) → GrowsGroups old mid told groups →
    AddsChunks mid new group.chunks → fact ≡ group_facts (starts_of mid) group → are_short_chunks (length mid.chunks.items) group.chunks ≡ true → GrowsGroups old new (told ++ fact ∷ []) (groups ++ group ∷ [])
groups_more old mid new told groups fact group grows adds own short = record {
  adds = subst (AddsChunks old new) (sym (chunks-last-group groups group)) (adds_more old mid new (chunks_of groups) group.chunks grows.adds adds);
  facts = ap (λ (facts : List GroupFacts). facts ++ fact ∷ []) grows.facts
      ∙ ap (λ (f : GroupFacts). groups_facts (starts_of old) groups ++ f ∷ []) (own ∙ ap (λ s. group_facts s group) (starts-behind old mid (chunks_of groups) grows.adds))
      ∙ sym (groups-more (starts_of old) groups group);
  short = short-group old mid told groups group grows ∙ short;
}

pub groups_past : (old mid : Parts) (told : List GroupFacts) (groups rest : List PlainGroup) (group : PlainGroup) → GrowsGroups old mid told groups →
    are_short_chunks (length mid.chunks.items) group.chunks ≡ false → are_short_chunks (length old.chunks.items) (chunks_of ((groups ++ group ∷ []) ++ rest)) ≡ false
groups_past old mid told groups rest group grows large =
    ap (are_short_chunks (length old.chunks.items)) (chunks-join (groups ++ group ∷ []) rest)
    ∙ short-append (length old.chunks.items) (chunks_of (groups ++ group ∷ [])) (chunks_of rest)
    ∙ ap (λ (b : Bool). b && are_short_chunks (length old.chunks.items + length (data_bytes (chunks_of (groups ++ group ∷ [])))) (chunks_of rest)) (short-group old mid told groups group grows ∙ large)
  where
    chunks-join : (some others : List PlainGroup) → chunks_of (some ++ others) ≡ chunks_of some ++ chunks_of others
    chunks-join [] others = refl
    chunks-join (g ∷ some) others = ap (λ (cs : List PlainChunk). g.chunks ++ cs) (chunks-join some others) ∙ sym (append_assoc g.chunks (chunks_of some) (chunks_of others))

-- ---- fronts and what is left

front-rest : (columns : List Written) (rows : List (List (Option Stored))) (i : ℕ) → written_chunks (take i columns) (take i rows) ++ written_chunks (drop i columns) (drop i rows) ≡ written_chunks columns rows
unfolding written_chunks
front-rest columns rows zero = refl
front-rest [] rows (suc i) = refl
front-rest (c ∷ columns) [] (suc i) = none (drop i columns)
  where
    none : (cs : List Written) → written_chunks cs [] ≡ []
    none [] = refl
    none (c ∷ cs) = refl
front-rest (c ∷ columns) (r ∷ rows) (suc i) = ap (λ (chunks : List PlainChunk). written_chunk c r ∷ chunks) (front-rest columns rows i)

-- all chunks are those of the first columns, and others behind them
pub behind-front : (page_rows : ℕ) (fields : List Field) (arrays : List Array) (i : ℕ) →
    (rest : List PlainChunk) × ((put_group page_rows fields arrays).chunks ≡ front page_rows fields arrays i ++ rest)
behind-front page_rows fields arrays i =
    let columns : List Written = map (written_field page_rows) fields in
    let rows : List (List (Option Stored)) = map stored_items (map column_of arrays) in (
      written_chunks (drop i columns) (drop i rows),
      sym (front-rest columns rows i)
          ∙ ap (λ (cs : List Written). written_chunks cs (take i rows) ++ written_chunks (drop i columns) (drop i rows)) (take-map (written_field page_rows) i fields)
          ∙ ap (λ (rs : List (List (Option Stored))). written_chunks (map (written_field page_rows) (take i fields)) rs ++ written_chunks (drop i columns) (drop i rows))
          (take-map stored_items i (map column_of arrays) ∙ ap (map stored_items) (take-map column_of i arrays)),
    )

pub front-all : (page_rows : ℕ) (fields : List Field) (arrays : List Array) (i : ℕ) → length fields ≤ i → length arrays ≤ i → front page_rows fields arrays i ≡ (put_group page_rows fields arrays).chunks
front-all page_rows fields arrays i first second =
    ap (λ (fs : List Field). (put_group page_rows fs (take i arrays)).chunks) (take_all i fields first) ∙ ap (λ (some : List Array). (put_group page_rows fields some).chunks) (take_all i arrays second)

pub front-none : (page_rows : ℕ) (fields : List Field) (arrays : List Array) → front page_rows fields arrays 0 ≡ []
unfolding written_chunks
front-none page_rows fields arrays = refl

pub rows-alike : (arrays : List Array) → array_rows arrays ≡ first_column_length (map column_of arrays)
rows-alike [] = refl
rows-alike (array ∷ arrays) = refl

-- the groups of all chunks are those of the first, one more, and others
split-at : {X Y : Type 0} (f : X → Y) (xs : List X) (i : ℕ) (x : X) → slice_get xs i ≡ Some x → map f xs ≡ (map f (take i xs) ++ f x ∷ []) ++ map f (drop (i + 1) xs)
split-at f xs i x own =
    ap (map f) (sym (take-append-drop (i + 1) xs)) ∙ map-append f (take (i + 1) xs) (drop (i + 1) xs)
    ∙ ap (λ ys. ys ++ map f (drop (i + 1) xs)) (ap (map f) (take-next xs i x own) ∙ map-append f (take i xs) (x ∷ []))

pub groups-split : (page_rows : ℕ) (fields : List Field) (chunks : List (List Array)) (i : ℕ) (chunk : List Array) → slice_get chunks i ≡ Some chunk →
    put_groups page_rows fields chunks ≡ (put_groups page_rows fields (take i chunks) ++ put_group page_rows fields chunk ∷ []) ++ put_groups page_rows fields (drop (i + 1) chunks)
groups-split page_rows fields chunks i chunk own = split-at (put_group page_rows fields) chunks i chunk own

pub groups-next : (page_rows : ℕ) (fields : List Field) (chunks : List (List Array)) (i : ℕ) (chunk : List Array) → slice_get chunks i ≡ Some chunk →
    put_groups page_rows fields (take (i + 1) chunks) ≡ put_groups page_rows fields (take i chunks) ++ put_group page_rows fields chunk ∷ []
groups-next page_rows fields chunks i chunk own = ap (put_groups page_rows fields) (take-next chunks i chunk own) ∙ map-append (put_group page_rows fields) (take i chunks) (chunk ∷ [])
