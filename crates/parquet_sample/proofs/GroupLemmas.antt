-- Groups of the sample, one behind another.
use Rattle.std.proofs.Common.{◌≡◌, ℕ, ◌+◌, ◌-◌, ◌<◌, ◌≤◌, List, [], ◌∷◌, ◌++◌, Some, refl, sym, ap, ◌∙◌, arith, min, map, append_assoc, append-nil, subst}
use Rattle.std.specs.List.{range_with_len}
use Rattle.std.proofs.lemmas.List.Concat.{flat_map-append}
use Rattle.parquet_base.specs.Pieces.{cut}
use Rattle.parquet_plain.specs.Columns.{written_group}
use Rattle.parquet_plain.specs.Description.{PlainChunk, PlainGroup}
use Rattle.parquet_plain.specs.File.{Starts, behind_all, chunks_of}
use Rattle.parquet_sample.specs.Parts.{sample_group, sample_groups}
use Rattle.parquet_sample.specs.Sample.{group_rows, rows_of_numbers, sample_columns}
use Rattle.parquet_sample.proofs.PageLemmas.{next_piece}
use Rattle.parquet_write.specs.Parts.{AddsChunks, group_facts, groups_facts, starts_of}
use Rattle.parquet_write.specs.declared.facts.GroupFacts.{GroupFacts}
use Rattle.parquet_write.specs.declared.parts.Parts.{Parts}
use Rattle.parquet_write.proofs.PartLemmas.{adds_more, adds_none, groups-more, starts-behind}

map-same : (ns : List ℕ) → map (λ n. n) ns ≡ ns
map-same [] = refl
map-same (n ∷ ns) = ap (λ (others : List ℕ). n ∷ others) (map-same ns)

abbrev groups_left : ℕ → ℕ → ℕ → List PlainGroup
groups_left first rows row = sample_groups (first + row) (rows - row)

next-group : (first rows row count : ℕ) → row < rows → count ≡ min group_rows (rows - row) → groups_left first rows row ≡ sample_group (first + row) count ∷ groups_left first rows (row + count)
next-group first rows row count lt e =
    let made : List (List ℕ) → List PlainGroup = λ pieces. map (written_group sample_columns) (map rows_of_numbers pieces) in
    ap (λ (ns : List ℕ). made (cut (Some group_rows) ns)) (sym (map-same (range_with_len (first + row) (rows - row))))
    ∙ ap made (next_piece (λ n. n) group_rows first rows row count (omega arith) lt e)
    ∙ ap (λ (ns : List ℕ). made (ns ∷ cut (Some group_rows) (map (λ n. n) (range_with_len (first + (row + count)) (rows - (row + count)))))) (map-same (range_with_len (first + row) count))
    ∙ ap (λ (ns : List ℕ). sample_group (first + row) count ∷ made (cut (Some group_rows) ns)) (map-same (range_with_len (first + (row + count)) (rows - (row + count))))

-- some groups are written, and they and those that are left are all
pub record IsGrouping (old now : Parts) (first rows : ℕ) (facts : List GroupFacts) (row : ℕ) : Type 0 where
  pub done : List PlainGroup
  pub within : row ≤ rows
  pub whole : done ++ groups_left first rows row ≡ sample_groups first rows
  pub adds : AddsChunks old now (chunks_of done)
  pub told : facts ≡ groups_facts (starts_of old) done

pub grouping_begins : (parts : Parts) (first rows : ℕ) → IsGrouping parts parts first rows [] 0
grouping_begins parts first rows =
    let from : first + 0 ≡ first = omega arith in
    let many : rows - 0 ≡ rows = omega arith in
    record { done = []; within = omega arith; whole = ap (λ (a : ℕ). sample_groups a (rows - 0)) from ∙ ap (sample_groups first) many; adds = adds_none parts; told = refl }

pub grouping_goes_on : (old now next : Parts) (first rows : ℕ) (facts : List GroupFacts) (row count : ℕ) (fact : GroupFacts) → IsGrouping old now first rows facts row → row < rows →
    count ≡ min group_rows (rows - row) → AddsChunks now next (sample_group (first + row) count).chunks → fact ≡ group_facts (starts_of now) (sample_group (first + row) count) →
    IsGrouping old next first rows (facts ++ fact ∷ []) (row + count)
grouping_goes_on old now next first rows facts row count fact is lt e adds own =
    let group : PlainGroup = sample_group (first + row) count in
    let chunks : chunks_of is.done ++ group.chunks ≡ chunks_of (is.done ++ group ∷ []) =
    ap (λ (cs : List PlainChunk). chunks_of is.done ++ cs) (sym (append-nil group.chunks)) ∙ sym (flat_map-append (λ (g : PlainGroup). g.chunks) is.done (group ∷ [])) in
    record {
      done = is.done ++ group ∷ [];
      within = omega (arith, e);
      whole = append_assoc is.done (group ∷ []) (groups_left first rows (row + count)) ∙ ap (λ (gs : List PlainGroup). is.done ++ gs) (sym (next-group first rows row count lt e)) ∙ is.whole;
      adds = subst (AddsChunks old next) chunks (adds_more old now next (chunks_of is.done) group.chunks is.adds adds);
      told = ap (λ (f : GroupFacts). facts ++ f ∷ []) (own ∙ ap (λ (s : Starts). group_facts s group) (starts-behind old now (chunks_of is.done) is.adds))
          ∙ ap (λ (fs : List GroupFacts). fs ++ group_facts (behind_all (starts_of old) (chunks_of is.done)) group ∷ []) is.told
          ∙ sym (groups-more (starts_of old) is.done group);
    }

all-done : (old now : Parts) (first rows : ℕ) (facts : List GroupFacts) (row : ℕ) → rows ≤ row → (is : IsGrouping old now first rows facts row) → is.done ≡ sample_groups first rows
all-done old now first rows facts row end is =
    let none : 0 ≡ rows - row = omega arith in
    sym (append-nil is.done) ∙ ap (λ (n : ℕ). is.done ++ sample_groups (first + row) n) none ∙ is.whole

pub grouping_ends : (old now : Parts) (first rows : ℕ) (facts : List GroupFacts) (row : ℕ) → rows ≤ row → IsGrouping old now first rows facts row →
    AddsChunks old now (chunks_of (sample_groups first rows)) × (facts ≡ groups_facts (starts_of old) (sample_groups first rows))
grouping_ends old now first rows facts row end is =
    let all = all-done old now first rows facts row end is in
    (subst (λ (gs : List PlainGroup). AddsChunks old now (chunks_of gs)) all is.adds, is.told ∙ ap (groups_facts (starts_of old)) all)
