-- The chunks of a group that are told of, one behind another.
use Rattle.std.proofs.Common.{◌≡◌, ℕ, ◌+◌, ◌<◌, ◌≤◌, Bool, List, [], ◌∷◌, ◌++◌, ◌∙◌, arith, get_or, length, min, refl, subst, sym, take, drop}
use Rattle.std.specs.Prelude.{Option, Some, None, IfSome, Result, Ok, Err, filter_map, zip}
use Rattle.std.specs.List.{enumerate_from}
use Rattle.std.proofs.lemmas.List.{append-nil, take_all}
use Rattle.std.proofs.lemmas.List.Elements.{filter_map-append}
use Rattle.std.proofs.lemmas.List.FromFn.{length-enumerate_from}
use Rattle.std.proofs.lemmas.Slice.Zip.{length-zip}
use Rattle.columns_core.specs.Causes.{Cause}
use Rattle.columns_core.specs.declared.error.Error.{Error}
use Rattle.parquet_meta.specs.declared.metadata.ColumnChunkMetaData.{ColumnChunkMetaData}
use Rattle.parquet_meta.specs.declared.metadata.RowGroupMetaData.{RowGroupMetaData}
use Rattle.parquet_meta.specs.declared.source.Source.{Ghosts}
use Rattle.inspect_program.specs.Calls.{Section, Tells}
use Rattle.inspect_program.specs.Groups.{ToldChunk, group_causes_told, group_indexes_length, group_text, rows_line, told_chunk, told_chunk_causes, told_chunk_text, told_chunks}
use Rattle.inspect_program.specs.Pages.{indexes_length}
use Rattle.inspect_program.specs.Sections.{chunks_section, groups_section}
use Rattle.inspect_program.proofs.ListLemmas.{numbered, side_by_side}
use Rattle.inspect_program.proofs.SectionLemmas.{kept_all, kept_more, more_failed, more_told}
use Rattle.inspect_program.proofs.TellsLemmas.{IsSame, beside, clean, keeps_itself, tells_as, tells_both, tells_then_failed}

abbrev numbered_causes : List Bool → List ℕ → ℕ × RowGroupMetaData → List Cause
numbered_causes singles bytes group = group_causes_told singles bytes group.1

abbrev numbered_length : List Bool → ℕ × RowGroupMetaData → ℕ
numbered_length singles group = group_indexes_length singles group.1

-- each chunk of a group with its number, and whether its column's name begins no other path
abbrev pub with_singles : List Bool → List ColumnChunkMetaData → List (ℕ × (Bool × ColumnChunkMetaData))
with_singles singles columns = enumerate_from 0 (zip singles columns)

abbrev pub told_of : List (ℕ × (Bool × ColumnChunkMetaData)) → List ToldChunk
told_of chunks = filter_map told_chunk chunks

abbrev pub told_length : ToldChunk → ℕ
told_length chunk = indexes_length chunk.column

length-with_singles : (singles : List Bool) (columns : List ColumnChunkMetaData) → length (with_singles singles columns) ≡ min (length singles) (length columns)
length-with_singles singles columns = length-enumerate_from 0 (zip singles columns) ∙ length-zip singles columns

at_place : (singles : List Bool) (columns : List ColumnChunkMetaData) (i : ℕ) (single : Bool) (column : ColumnChunkMetaData) → i < length singles → i < length columns
    → single ≡ get_or singles i single → column ≡ get_or columns i column → (i, (single, column)) ≡ get_or (with_singles singles columns) i (i, (single, column))
at_place singles columns i single column first second is at =
    numbered (zip singles columns) i (single, column) (omega (arith, length-zip singles columns)) (side_by_side singles columns i single column first second is at)

-- the chunks in front of a place
abbrev pub front_chunks : List Bool → List ColumnChunkMetaData → ℕ → List ToldChunk
front_chunks singles columns i = told_of (take i (with_singles singles columns))

module _ {S : Type 0} {g : Ghosts S} (rows : ℕ) (singles : List Bool) (columns : List ColumnChunkMetaData) where
  pub chunk_told : {T U V : Type 0} {old mid new : S} {s t u : List ℕ} {x : T} {y : U} (z : V) (i : ℕ) (single : Bool) (column : ColumnChunkMetaData) → i < length singles → i < length columns
      → single ≡ get_or singles i single → column ≡ get_or columns i column → Tells g old mid (chunks_section rows (front_chunks singles columns i)) s t (Ok x)
      → Tells g mid new (chunks_section rows (told_of ((i, (single, column)) ∷ []))) t u (Ok y) → Tells g old new (chunks_section rows (front_chunks singles columns (i + 1))) s u (Ok z)
  chunk_told {T} {U} {V} {old} {mid} {new} {s} {t} {u} z i single column first second is at front one =
      let place = at_place singles columns i single column first second is at in
      let within : i < length (with_singles singles columns) = omega (arith, length-with_singles singles columns) in
      subst (λ (chunks : List ToldChunk). Tells {T = V} g old new (chunks_section rows chunks) s u (Ok z))
      (sym (kept_more told_of (filter_map-append told_chunk) (with_singles singles columns) i (i, (single, column)) within place))
      (more_told (told_chunk_causes rows) (told_chunk_text rows) told_length z (front_chunks singles columns i) (told_of ((i, (single, column)) ∷ [])) front one)

  pub chunk_failed : {T U V : Type 0} {old mid new : S} {s t u : List ℕ} (v : List ℕ) {x : T} {e : Error} (i : ℕ) (single : Bool) (column : ColumnChunkMetaData) → i < length singles → i < length columns
      → single ≡ get_or singles i single → column ≡ get_or columns i column → Tells g old mid (chunks_section rows (front_chunks singles columns i)) s t (Ok x)
      → Tells {T = U} g mid new (chunks_section rows (told_of ((i, (single, column)) ∷ []))) t u (Err e) → Tells {T = V} g old new (chunks_section rows (told_chunks singles columns)) s v (Err e)
  chunk_failed {T} {U} {V} {old} {mid} {new} {s} {t} {u} v {x} {e} i single column first second is at front one =
      let place = at_place singles columns i single column first second is at in
      let within : i < length (with_singles singles columns) = omega (arith, length-with_singles singles columns) in
      let rest = told_of (drop (i + 1) (with_singles singles columns)) in
      subst (λ (chunks : List ToldChunk). Tells {T = V} g old new (chunks_section rows chunks) s v (Err e))
      (sym (kept_all told_of (filter_map-append told_chunk) (with_singles singles columns) i (i, (single, column)) within place))
      (more_failed (told_chunk_causes rows) (told_chunk_text rows) told_length {V = V} v (front_chunks singles columns i) (told_of ((i, (single, column)) ∷ [])) rest front one)

  pub chunks_told : {T : Type 0} {old new : S} {s t : List ℕ} {x : T} (n : ℕ) → min (length singles) (length columns) ≤ n
      → Tells g old new (chunks_section rows (front_chunks singles columns n)) s t (Ok x) → Tells g old new (chunks_section rows (told_chunks singles columns)) s t (Ok x)
  chunks_told {T} {old} {new} {s} {t} {x} n whole told =
      subst (λ (chunks : List (ℕ × (Bool × ColumnChunkMetaData))). Tells {T = T} g old new (chunks_section rows (told_of chunks)) s t (Ok x))
      (take_all n (with_singles singles columns) (omega (arith, whole, length-with_singles singles columns))) told

-- ---- a group

-- the line of a group, without its chunks
abbrev header : ℕ → ℕ → Section
header number rows = record { causes = λ bytes. []; text = λ bytes. rows_line number rows; length = 0 }

is_group : (singles : List Bool) (number : ℕ) (group : RowGroupMetaData)
    → IsSame (beside (header number group.num_rows) (chunks_section group.num_rows (told_chunks singles group.columns))) (groups_section singles ((number, group) ∷ []))
is_group singles number group = record {
  causes = λ bytes. append-nil (group_causes_told singles bytes group);
  text = λ bytes. append-nil (group_text singles bytes (number, group));
  length = omega arith;
}

line_added : (told : Option (List ℕ)) (s t : List ℕ) (line : List ℕ) → t ≡ s ++ line → IfSome told (λ bytes. t ≡ s ++ line)
line_added None s t line is = tt
line_added (Some bytes) s t line is = is

module _ {S : Type 0} {g : Ghosts S} where
  header_told : (old : S) (number rows : ℕ) (s t : List ℕ) → t ≡ s ++ rows_line number rows → Tells {T = Unit {0}} g old old (header number rows) s t (Ok tt)
  header_told old number rows s t is = record {
    reads = record { keeps = keeps_itself; quiet = refl; ok = clean (g.told old); fails = tt };
    adds = line_added (g.told old) s t (rows_line number rows) is;
    carried = tt;
    taken = omega arith;
  }

  -- the line of a group, and its chunks
  pub group_told : {T : Type 0} {old new : S} (singles : List Bool) (number : ℕ) (group : RowGroupMetaData) (s t u : List ℕ) (r : Result T Error) → t ≡ s ++ rows_line number group.num_rows
      → Tells g old new (chunks_section group.num_rows (told_chunks singles group.columns)) t u r → Tells g old new (groups_section singles ((number, group) ∷ [])) s u r
  group_told {old = old} singles number group s t u (Ok x) is told =
      tells_as (Ok x) (is_group singles number group) (tells_both x (header_told old number group.num_rows s t is) told)
  group_told {T} {old} {new} singles number group s t u (Err e) is told =
      tells_as {T = T} (Err e) (is_group singles number group) (tells_then_failed {V = T} u (header_told old number group.num_rows s t is) told)

  -- one group more
  pub group_more : {T U V : Type 0} {old mid new : S} {s t u : List ℕ} {x : T} {y : U} (z : V) (singles : List Bool) (groups : List RowGroupMetaData) (i : ℕ) (group : RowGroupMetaData) → i < length groups → group ≡ get_or groups i group
      → Tells g old mid (groups_section singles (take i (enumerate_from 0 groups))) s t (Ok x) → Tells g mid new (groups_section singles ((i, group) ∷ [])) t u (Ok y)
      → Tells g old new (groups_section singles (take (i + 1) (enumerate_from 0 groups))) s u (Ok z)
  group_more {T} {U} {V} {old} {mid} {new} {s} {t} {u} z singles groups i group within at front one =
      let inside : i < length (enumerate_from 0 groups) = omega (arith, length-enumerate_from 0 groups) in
      subst (λ (told : List (ℕ × RowGroupMetaData)). Tells {T = V} g old new (groups_section singles told) s u (Ok z))
      (sym (kept_more (λ list. list) (λ a b. refl) (enumerate_from 0 groups) i (i, group) inside (numbered groups i group within at)))
      (more_told (numbered_causes singles) (group_text singles) (numbered_length singles) z (take i (enumerate_from 0 groups)) ((i, group) ∷ []) front one)

  -- the next group fails
  pub group_failed : {T U V : Type 0} {old mid new : S} {s t u : List ℕ} (v : List ℕ) {x : T} {e : Error} (singles : List Bool) (groups : List RowGroupMetaData) (i : ℕ) (group : RowGroupMetaData) → i < length groups → group ≡ get_or groups i group
      → Tells g old mid (groups_section singles (take i (enumerate_from 0 groups))) s t (Ok x) → Tells {T = U} g mid new (groups_section singles ((i, group) ∷ [])) t u (Err e)
      → Tells {T = V} g old new (groups_section singles (enumerate_from 0 groups)) s v (Err e)
  group_failed {T} {U} {V} {old} {mid} {new} {s} {t} {u} v {x} {e} singles groups i group within at front one =
      let inside : i < length (enumerate_from 0 groups) = omega (arith, length-enumerate_from 0 groups) in
      subst (λ (told : List (ℕ × RowGroupMetaData)). Tells {T = V} g old new (groups_section singles told) s v (Err e))
      (sym (kept_all (λ list. list) (λ a b. refl) (enumerate_from 0 groups) i (i, group) inside (numbered groups i group within at)))
      (more_failed (numbered_causes singles) (group_text singles) (numbered_length singles) {V = V} v (take i (enumerate_from 0 groups)) ((i, group) ∷ []) (drop (i + 1) (enumerate_from 0 groups)) front one)

  -- all groups
  pub groups_told : {T : Type 0} {old new : S} {s t : List ℕ} {x : T} (singles : List Bool) (groups : List RowGroupMetaData) (n : ℕ) → length groups ≤ n
      → Tells g old new (groups_section singles (take n (enumerate_from 0 groups))) s t (Ok x) → Tells g old new (groups_section singles (enumerate_from 0 groups)) s t (Ok x)
  groups_told {T} {old} {new} {s} {t} {x} singles groups n whole told =
      subst (λ (groups : List (ℕ × RowGroupMetaData)). Tells {T = T} g old new (groups_section singles groups) s t (Ok x))
      (take_all n (enumerate_from 0 groups) (omega (arith, whole, length-enumerate_from 0 groups))) told
