-- Columns side by side: their types are those of the fields, and they are equally long.
use Rattle.std.proofs.Common.{◌≡◌, refl, sym, ◌∙◌, ap, subst, Bool, true, false, List, [], ◌∷◌, ◌++◌, length, map, arith, eq-eqb}
use Rattle.std.specs.Prelude.{◌==◌, ◌&&◌, nat_lt, Contains, IsTrue, Option, None, Some, flat_map}
use Rattle.std.specs.Cmp.{first_so, second_so}
use Rattle.std.specs.Coded.{coded_list}
use Rattle.std.specs.List.{list_all}
use Rattle.std.proofs.lemmas.Bool.{eqb-true, ltb-true, lt-ltb}
use Rattle.std.proofs.lemmas.List.{length-map}
use Rattle.std.proofs.lemmas.Simd.{map-map}
use Rattle.std.proofs.lemmas.List.Folds.{list_all-map}
use Rattle.std.proofs.lemmas.List.Sums.{AllPass-from_list_all, list_all-from_AllPass}
use Rattle.columns_core.specs.Array.{cells, data_type_of}
use Rattle.columns_core.specs.Causes.{is_invalid_argument}
use Rattle.columns_core.specs.Chunk.{AreEqualLengths, array_rows}
use Rattle.columns_core.specs.Column.{FitsMask, cell_of}
use Rattle.columns_core.specs.Nested.{field_types, first_length, rows}
use Rattle.columns_core.specs.Same.{same_from, same_itself}
use Rattle.columns_core.specs.Struct.{AreColumnsOf, structs}
use Rattle.columns_core.specs.contracts.data_type.DataType.{the_row as data_type_row}
use Rattle.columns_core.specs.declared.array.Array.{Array}
use Rattle.columns_core.specs.declared.cell.Cell.{Cell, Cells}
use Rattle.columns_core.specs.declared.data_type.DataType.{DataType}
use Rattle.columns_core.specs.declared.error.Error.{Error}
use Rattle.parquet_statistics.specs.Made.{are_even, are_named, made_array, made_cells, made_refusals, made_type, struct_made}
use Rattle.parquet_statistics.specs.Refusal.{Refusal, Argument, IsRefusedBy, demand}
use Rattle.parquet_statistics.proofs.FitLemmas.{refused_argument}
use Rattle.parquet_statistics.proofs.RefusalLemmas.{demand_met, none_of_both}

-- ---- types

pub types_so : (named : Option (List DataType)) (own : List DataType) → named ≡ Some own → are_named named own ≡ true
types_so named own is = ap (λ found. are_named found own) is ∙ same_itself (coded_list data_type_row.coded) own own refl

types_from : (named : Option (List DataType)) (own : List DataType) → are_named named own ≡ true → named ≡ Some own
types_from None own h = absurd cc
types_from (Some found) own h = ap Some (same_from (coded_list data_type_row.coded) found own h)

-- ---- lengths

first_is : (columns : List Array) → first_length (map cells columns) ≡ array_rows columns
first_is [] = refl
first_is (column ∷ columns) = refl

module _ (columns : List Array) where
  abbrev is_even : Array → Bool
  is_even array = length (cells array) == first_length (map cells columns)

  even_parts : are_even (map cells columns) ≡ (nat_lt 0 (length columns) && list_all is_even columns)
  even_parts =
      let all = list_all-map (λ (column : List Cell). length column == first_length (map cells columns)) cells columns in
      λ i. nat_lt 0 (length-map columns cells i) && all i

  even_so : AreEqualLengths columns → are_even (map cells columns) ≡ true
  even_so h =
      let some = lt-ltb 0 (length columns) h.0 in
      let each = list_all-from_AllPass is_even columns (λ k d within. eq-eqb _ _ (h.1 k d within ∙ sym (first_is columns))) in
      even_parts ∙ (λ i. some i && each i)

  even_from : are_even (map cells columns) ≡ true → AreEqualLengths columns
  even_from h =
      let both = sym even_parts ∙ h in
      let each = AllPass-from_list_all is_even columns (second_so (nat_lt 0 (length columns)) (list_all is_even columns) both) in
      (ltb-true 0 (length columns) (first_so (nat_lt 0 (length columns)) (list_all is_even columns) both), λ k d within. eqb-true _ _ (each k d within) ∙ first_is columns)

-- ---- what is made of them

types_seen : (columns : List Array) → map made_type (map made_array columns) ≡ map data_type_of columns
types_seen columns = map-map made_type made_array columns

cells_seen : (columns : List Array) → map made_cells (map made_array columns) ≡ map cells columns
cells_seen columns = map-map made_cells made_array columns

nothing_refused : (columns : List Array) → flat_map made_refusals (map made_array columns) ≡ []
nothing_refused [] = refl
nothing_refused (column ∷ columns) = nothing_refused columns

rows_seen : (rows : List (List Cell)) → map (cell_of Cells) (map Some rows) ≡ map Cells rows
rows_seen [] = refl
rows_seen (row ∷ rows) = ap (λ rest. Cells row ∷ rest) (rows_seen rows)

module _ (data_type : DataType) (columns : List Array) where
  pub struct_cells : map (cell_of Cells) (structs columns None) ≡ map Cells (rows (map made_cells (map made_array columns)))
  struct_cells = rows_seen (rows (map cells columns)) ∙ ap (λ all. map Cells (rows all)) (sym (cells_seen columns))

  abbrev named : Bool
  named = are_named (field_types data_type) (map made_type (map made_array columns))

  abbrev even : Bool
  even = are_even (map made_cells (map made_array columns))

  abbrev own : List Refusal
  own = demand named Argument ++ demand even Argument

  own_refusals : made_refusals (struct_made data_type (map made_array columns)) ≡ own
  own_refusals = ap (λ inside. inside ++ own) (nothing_refused columns)

  pub struct_free : AreColumnsOf data_type columns None → made_refusals (struct_made data_type (map made_array columns)) ≡ []
  struct_free h =
      own_refusals
      ∙ none_of_both (demand named Argument) (demand even Argument)
      (demand_met named Argument (types_so (field_types data_type) _ (h.types ∙ ap Some (sym (types_seen columns)))))
      (demand_met even Argument (ap are_even (cells_seen columns) ∙ even_so columns h.lengths))

  unmasked : FitsMask (rows (map cells columns)) None
  unmasked found is = absurd cc

  misfit : (a b : Bool) → a ≡ named → b ≡ even → (AreColumnsOf data_type columns None → ⊥) → Contains (demand a Argument ++ demand b Argument) Argument
  misfit false b is also not = (0, omega arith, refl)
  misfit true false is also not = (0, omega arith, refl)
  misfit true true is also not =
      absurd (not (record {
        types = types_from (field_types data_type) _ (sym is) ∙ ap Some (types_seen columns);
        lengths = even_from columns (ap are_even (sym (cells_seen columns)) ∙ sym also);
        fits = unmasked;
      }))

  pub struct_refused : (e : Error) → IsTrue (is_invalid_argument e) → (AreColumnsOf data_type columns None → ⊥) → IsRefusedBy (made_refusals (struct_made data_type (map made_array columns))) e
  struct_refused e h not = subst (λ refusals. IsRefusedBy refusals e) (sym own_refusals) (refused_argument own e h (misfit named even refl refl not))
