-- The pages of a chunk, whose two indexes are read in turn.
use Rattle.std.proofs.Common.{◌≡◌, ℕ, ◌+◌, ◌≤◌, Bool, true, false, List, [], ◌∷◌, ◌++◌, ◌∙◌, Vec, Global, arith, length, refl, subst, sym}
use Rattle.std.specs.Prelude.{◌==◌, Contains, IfSome, Option, Some, None, Ok, Err}
use Rattle.std.proofs.lemmas.Bool.{eqb-true}
use Rattle.columns_core.specs.Causes.{Cause, ExternalFormat, IsOneOf, and_then, unless}
use Rattle.columns_core.specs.declared.cell.Cell.{Cell}
use Rattle.columns_core.specs.declared.error.Error.{Error}
use Rattle.columns_core.specs.declared.error.Error.TheVariants as error
use Rattle.columns_core.specs.declared.error.Part.TheVariants as part
use Rattle.parquet_base.specs.declared.interval.Interval.{Interval}
use Rattle.parquet_meta.specs.Indexes.{column_index_length, offset_index_length}
use Rattle.parquet_meta.specs.Reads.{ReadsFile}
use Rattle.parquet_meta.specs.Source.{IsReadFailure}
use Rattle.parquet_meta.specs.declared.metadata.PageIndex.{PageIndex}
use Rattle.parquet_meta.specs.declared.source.Source.{Ghosts}
use Rattle.parquet_meta.proofs.FailureLemmas.{fails_more}
use Rattle.page_decoding.proofs.RowLemmas.{one_of-right}
use Rattle.inspect_program.specs.Calls.{IsOfInspection, Tells}
use Rattle.inspect_program.specs.Groups.{ToldChunk}
use Rattle.inspect_program.specs.Pages.{are_as_many, ends_causes, indexes_causes, length_told, page_cells, page_rows, rows_causes}
use Rattle.inspect_program.specs.Sections.{indexes_section}
use Rattle.inspect_program.proofs.TellsLemmas.{keeps_on, no_text_told, within_told}

-- what a step may tell of, it may tell of with the next
in_first : (first next : List Cause) (o : Option Cause) → IsOneOf first o → IsOneOf (and_then first next) o
in_first [] next None is = absurd is
in_first [] next (Some cause) is = absurd (omega (arith, is.1))
in_first (cause ∷ causes) next o is = is

in_ends : (rows : ℕ) (chunk : ToldChunk) (bytes : List ℕ) (o : Option Cause) → IsOneOf (ends_causes chunk.data_type bytes chunk.column) o → IsOneOf (indexes_causes rows chunk.data_type bytes chunk.column) o
in_ends rows chunk bytes o is =
    in_first (rows_causes rows bytes chunk.column ++ ends_causes chunk.data_type bytes chunk.column) (unless (are_as_many rows chunk.data_type bytes chunk.column) ExternalFormat) o
    (one_of-right (rows_causes rows bytes chunk.column) (ends_causes chunk.data_type bytes chunk.column) o is)

-- the second of the two is not read
pub ends_failed : {S T U V : Type 0} {g : Ghosts S} {old mid new : S} (rows : ℕ) (chunk : ToldChunk) (s t : List ℕ) {x : U} {e : Error}
    → ReadsFile g old mid (λ bytes. rows_causes rows bytes chunk.column) (Ok x)
    → ReadsFile {T = V} g mid new (λ bytes. ends_causes chunk.data_type bytes chunk.column) (Err e) → IsOfInspection e
    → g.taken mid ≤ g.taken old + offset_index_length chunk.column → g.taken new ≤ g.taken mid + column_index_length chunk.column
    → Tells {T = T} g old new (indexes_section rows chunk) s t (Err e)
ends_failed {S} {T} {U} {V} {g} {old} {mid} {new} rows chunk s t {x} {e} first second carried taken more = record {
  reads = record {
    keeps = keeps_on first.keeps second.keeps;
    quiet = tt;
    ok = tt;
    fails = fails_more (g.told old) (g.faults old) (g.faults mid) (g.faults new) (λ bytes. ends_causes chunk.data_type bytes chunk.column) (indexes_section rows chunk).causes e first.keeps.later
        (within_told (g.told old) (λ bytes. ends_causes chunk.data_type bytes chunk.column) (indexes_section rows chunk).causes (in_ends rows chunk))
        (subst (λ (told : Option (List ℕ)). IsReadFailure told (g.faults mid) (g.faults new) (λ bytes. ends_causes chunk.data_type bytes chunk.column) e) first.keeps.same second.fails);
  };
  adds = no_text_told T (g.told old) (indexes_section rows chunk).text s t e;
  carried = carried;
  taken = omega (arith, taken, more);
}

-- Without another cause, that both tell of as many pages is what fails.
is_uneven : (rows : ℕ) (chunk : ToldChunk) (bytes : List ℕ) (x : List Interval) (y : List (PageIndex Cell)) → (length y ≡ length x → ⊥)
    → rows_causes rows bytes chunk.column ≡ [] → ends_causes chunk.data_type bytes chunk.column ≡ []
    → page_rows rows bytes chunk.column ≡ Some x → page_cells chunk.data_type bytes chunk.column ≡ Some y
    → IsOneOf (indexes_causes rows chunk.data_type bytes chunk.column) (Some ExternalFormat)
is_uneven rows chunk bytes x y differ none nothing found told =
    subst (λ (causes : List Cause). Contains causes ExternalFormat) (sym is) (0, omega arith, refl) where
      uneven : (b : Bool) → (length y == length x) ≡ b → b ≡ false
      uneven true e = absurd (differ (eqb-true (length y) (length x) e))
      uneven false e = refl

      many : are_as_many rows chunk.data_type bytes chunk.column ≡ false
      many = (λ i. length_told (told i) == length_told (found i)) ∙ uneven (length y == length x) refl

      is : indexes_causes rows chunk.data_type bytes chunk.column ≡ ExternalFormat ∷ []
      is = λ i. and_then (none i ++ nothing i) (unless (many i) ExternalFormat)

uneven_told : (told : Option (List ℕ)) (rows : ℕ) (chunk : ToldChunk) (x : List Interval) (y : List (PageIndex Cell)) → (length y ≡ length x → ⊥)
    → IfSome told (λ bytes. rows_causes rows bytes chunk.column ≡ []) → IfSome told (λ bytes. ends_causes chunk.data_type bytes chunk.column ≡ [])
    → IfSome told (λ bytes. page_rows rows bytes chunk.column ≡ Some x) → IfSome told (λ bytes. page_cells chunk.data_type bytes chunk.column ≡ Some y)
    → IfSome told (λ bytes. IsOneOf (indexes_causes rows chunk.data_type bytes chunk.column) (Some ExternalFormat))
uneven_told None rows chunk x y differ none nothing found ends = tt
uneven_told (Some bytes) rows chunk x y differ none nothing found ends = is_uneven rows chunk bytes x y differ none nothing found ends

-- both are read, and tell of pages that are not as many
pub not_as_many : {S T : Type 0} {g : Ghosts S} {old mid new : S} (rows : ℕ) (chunk : ToldChunk) (s t : List ℕ) {x : Vec Interval Global} {y : Vec (PageIndex Cell) Global}
    → (length y.items ≡ length x.items → ⊥)
    → ReadsFile g old mid (λ bytes. rows_causes rows bytes chunk.column) (Ok x) → ReadsFile g mid new (λ bytes. ends_causes chunk.data_type bytes chunk.column) (Ok y)
    → IfSome (g.told old) (λ bytes. page_rows rows bytes chunk.column ≡ Some x.items) → IfSome (g.told mid) (λ bytes. page_cells chunk.data_type bytes chunk.column ≡ Some y.items)
    → g.taken mid ≤ g.taken old + offset_index_length chunk.column → g.taken new ≤ g.taken mid + column_index_length chunk.column
    → Tells {T = T} g old new (indexes_section rows chunk) s t (Err (error.ExternalFormat part.Index))
not_as_many {S} {T} {g} {old} {mid} {new} rows chunk s t {x} {y} differ first second found ends taken more = record {
  reads = record {
    keeps = keeps_on first.keeps second.keeps;
    quiet = tt;
    ok = tt;
    fails = uneven_told (g.told old) rows chunk x.items y.items differ first.ok
        (subst (λ (told : Option (List ℕ)). IfSome told (λ bytes. ends_causes chunk.data_type bytes chunk.column ≡ [])) first.keeps.same second.ok) found
        (subst (λ (told : Option (List ℕ)). IfSome told (λ bytes. page_cells chunk.data_type bytes chunk.column ≡ Some y.items)) first.keeps.same ends);
  };
  adds = no_text_told T (g.told old) (indexes_section rows chunk).text s t (error.ExternalFormat part.Index);
  carried = tt;
  taken = omega (arith, taken, more);
}
