-- What is made over what is made already.
use Rattle.std.proofs.Common.{◌≡◌, sym, ◌∙◌, ap, subst, ℕ, zero, suc, ◌<◌, List, [], ◌∷◌, length, map, get_or, arith}
use Rattle.std.specs.Prelude.{IfOk, IfErr, OnOk, Result, Some, flat_map}
use Rattle.columns_core.specs.Array.{column_of}
use Rattle.columns_core.specs.declared.array.Array.{Array}
use Rattle.columns_core.specs.declared.cell.Cell.{Cell}
use Rattle.columns_core.specs.declared.error.Error.{Error}
use Rattle.parquet_statistics.specs.Made.{Made, dictionary_made, keyed_in, keyed_in_turn, list_made, made_array, made_by, made_cells, made_refusals, made_shown, map_made, struct_made}
use Rattle.parquet_statistics.specs.Refusal.{IsRefusedBy}
use Rattle.parquet_statistics.specs.declared.dyn_mutable.DynMutable.{DynMutable, Dictionary, List as ListBuilder, Map, Struct}
use Rattle.parquet_statistics.specs.declared.dyn_mutable.DynMutableDictionary.{DynMutableDictionary}
use Rattle.parquet_statistics.specs.declared.dyn_mutable.DynMutableListArray.{DynMutableListArray}
use Rattle.parquet_statistics.specs.declared.dyn_mutable.DynMutableMapArray.{DynMutableMapArray}
use Rattle.parquet_statistics.specs.declared.dyn_mutable.DynMutableStructArray.{DynMutableStructArray}
use Rattle.parquet_statistics.proofs.BuilderLemmas.{made_of_dictionary, made_of_list, made_of_map, made_of_struct}
use Rattle.parquet_statistics.proofs.RefusalLemmas.{refused_left, refused_right}

-- what makes an array, and is not refused, is the array that is made already
pub made_as : (made : Made) (array : Array) → column_of array ≡ made_shown made → made_refusals made ≡ [] → made ≡ made_array array
made_as made array shown free = λ i. record { data_type = (sym shown i).0; cells = (sym shown i).1; refusals = free i }

-- ---- an array of what is made

pub as_made : (r : Result Array Error) (a b : Made) → a ≡ b → IfOk r (λ array. column_of array ≡ made_shown a) → IfOk r (λ array. column_of array ≡ made_shown b)
as_made r a b is h = subst (λ made. IfOk r (λ array. column_of array ≡ made_shown made)) is h

pub as_free : (r : Result Array Error) (a b : Made) → a ≡ b → OnOk r (made_refusals a ≡ []) → OnOk r (made_refusals b ≡ [])
as_free r a b is h = subst (λ made. OnOk r (made_refusals made ≡ [])) is h

pub as_refused_made : (r : Result Array Error) (a b : Made) → a ≡ b → IfErr r (IsRefusedBy (made_refusals a)) → IfErr r (IsRefusedBy (made_refusals b))
as_refused_made r a b is h = subst (λ made. IfErr r (IsRefusedBy (made_refusals made))) is h

-- a dictionary has the keys of its entries
pub as_keyed : (r : Result Array Error) (a b : Made) (entries : List Cell) → a ≡ b → made_cells a ≡ entries → IfOk r (λ array. keyed_in array ≡ Some (keyed_in_turn entries)) → IfOk r (λ array. keyed_in array ≡ Some (keyed_in_turn (made_cells b)))
as_keyed r a b entries is made h = subst (λ (cells : List Cell). IfOk r (λ array. keyed_in array ≡ Some (keyed_in_turn cells))) (sym made ∙ ap made_cells is) h

-- ---- several builders

-- what one of them refuses, all refuse
pub one_refused : (builders : List DynMutable) (i : ℕ) (builder : DynMutable) → i < length builders → builder ≡ get_or builders i builder → (e : Error) → IsRefusedBy (made_refusals (made_by builder)) e
    → IsRefusedBy (flat_map made_refusals (map made_by builders)) e
one_refused [] i builder h is e refused = absurd (omega arith)
one_refused (first ∷ others) zero builder h is e refused =
    refused_left e (made_refusals (made_by first)) _ (subst (λ (own : DynMutable). IsRefusedBy (made_refusals (made_by own)) e) is refused)
one_refused (first ∷ others) (suc i) builder h is e refused =
    refused_right e (made_refusals (made_by first)) _ (one_refused others i builder (omega arith) is e refused)

-- ---- over what is inside

module _ (inner : DynMutable) (array : Array) (shown : column_of array ≡ made_shown (made_by inner)) (free : made_refusals (made_by inner) ≡ []) where
  already : made_array array ≡ made_by inner
  already = sym (made_as (made_by inner) array shown free)

  pub dictionary_over : (entries : DynMutableDictionary) → inner ≡ entries.inner.value → dictionary_made entries.data_type (made_array array) ≡ made_by (Dictionary entries)
  dictionary_over entries is = ap (dictionary_made entries.data_type) (already ∙ ap made_by is) ∙ sym (made_of_dictionary entries)

  pub list_over : (items : DynMutableListArray) → inner ≡ items.inner.value → list_made items.data_type (made_array array) ≡ made_by (ListBuilder items)
  list_over items is = ap (list_made items.data_type) (already ∙ ap made_by is) ∙ sym (made_of_list items)

  pub map_over : (pairs : DynMutableMapArray) → inner ≡ pairs.inner.value → map_made pairs.data_type (made_array array) ≡ made_by (Map pairs)
  map_over pairs is = ap (map_made pairs.data_type) (already ∙ ap made_by is) ∙ sym (made_of_map pairs)

pub struct_over : (fields : DynMutableStructArray) (arrays : List Array) → map made_by fields.inner.items ≡ map made_array arrays → struct_made fields.data_type (map made_array arrays) ≡ made_by (Struct fields)
struct_over fields arrays made = ap (struct_made fields.data_type) (sym made) ∙ sym (made_of_struct fields)

module _ (inner : DynMutable) (e : Error) (refused : IsRefusedBy (made_refusals (made_by inner)) e) where
  moved : (own : DynMutable) → inner ≡ own → IsRefusedBy (made_refusals (made_by own)) e
  moved own is = subst (λ (builder : DynMutable). IsRefusedBy (made_refusals (made_by builder)) e) is refused

  pub dictionary_inside : (entries : DynMutableDictionary) → inner ≡ entries.inner.value → IsRefusedBy (made_refusals (made_by (Dictionary entries))) e
  dictionary_inside entries is =
      subst (λ (made : Made). IsRefusedBy (made_refusals made) e) (sym (made_of_dictionary entries)) (refused_left e (made_refusals (made_by entries.inner.value)) _ (moved entries.inner.value is))

  pub list_inside : (items : DynMutableListArray) → inner ≡ items.inner.value → IsRefusedBy (made_refusals (made_by (ListBuilder items))) e
  list_inside items is =
      subst (λ (made : Made). IsRefusedBy (made_refusals made) e) (sym (made_of_list items)) (refused_left e (made_refusals (made_by items.inner.value)) _ (moved items.inner.value is))

  pub map_inside : (pairs : DynMutableMapArray) → inner ≡ pairs.inner.value → IsRefusedBy (made_refusals (made_by (Map pairs))) e
  map_inside pairs is =
      subst (λ (made : Made). IsRefusedBy (made_refusals made) e) (sym (made_of_map pairs)) (refused_left e (made_refusals (made_by pairs.inner.value)) _ (moved pairs.inner.value is))

pub struct_inside : (fields : DynMutableStructArray) (e : Error) → IsRefusedBy (flat_map made_refusals (map made_by fields.inner.items)) e → IsRefusedBy (made_refusals (made_by (Struct fields))) e
struct_inside fields e refused =
    subst (λ (made : Made). IsRefusedBy (made_refusals made) e) (sym (made_of_struct fields)) (refused_left e (flat_map made_refusals (map made_by fields.inner.items)) _ refused)
