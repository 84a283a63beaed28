-- Why an array is not made over the array that is inside it.
use Rattle.std.proofs.Common.{◌≡◌, sym, ◌∙◌, ap, subst, ℕ, ◌<◌, ◌≤◌, true, Bool, List, [], length, map, option_map, inl, inr, arith}
use Rattle.std.specs.Prelude.{◌⊎◌, ℤ, nat_le, pos, Option, Some, None}
use Rattle.std.specs.List.{range_with_len}
use Rattle.std.specs.Option.{option_map_or}
use Rattle.std.proofs.lemmas.Bool.{le-leb, leb-true}
use Rattle.columns_core.specs.Array.{cells, data_type_of}
use Rattle.columns_core.specs.Causes.{IsMisfit, IsWantOfMemory, OutOfSpec, cause_of}
use Rattle.columns_core.specs.DictionaryType.{IsDictionaryOf, entry_type, key_type}
use Rattle.columns_core.specs.Entries.{NameEntries}
use Rattle.columns_core.specs.Joined.{FitTogether}
use Rattle.columns_core.specs.Lists.{AreLists}
use Rattle.columns_core.specs.Nested.{list_type}
use Rattle.columns_core.specs.declared.array.Array.{Array}
use Rattle.columns_core.specs.declared.data_type.DataType.{DataType}
use Rattle.columns_core.specs.declared.data_type.IntegerType.{IntegerType}
use Rattle.columns_core.specs.declared.error.Error.{Error}
use Rattle.columns_core.specs.declared.error.Error.TheVariants as error
use Rattle.parquet_statistics.specs.BuiltTypes.{is_large_list, item_type}
use Rattle.parquet_statistics.specs.Made.{dictionary_made, list_made, made_array, made_refusals, most_keys, most_places}
use Rattle.parquet_statistics.specs.Refusal.{Refusal, IsRefusedBy}
use Rattle.parquet_statistics.proofs.CountedLemmas.{names_all}
use Rattle.parquet_statistics.proofs.FitLemmas.{both_fit, refusals, too_many, unnamed}

-- ---- a type that is named, and at most so many cells

module _ (named : Option DataType) (inside : Array) (most : ℕ) where
  abbrev count : ℕ
  count = length (cells inside)

  abbrev own : List Refusal
  own = refusals named (data_type_of inside) (nat_le count most)

  pub few_free : named ≡ Some (data_type_of inside) → (n : ℕ) → n ≡ count → n ≤ most → own ≡ []
  few_free is n counted h = both_fit named (data_type_of inside) (nat_le count most) is (le-leb count most (omega arith))

  pub many_refused : (e : Error) (n : ℕ) → n ≡ count → IsWantOfMemory e ⊎ ((e ≡ error.Overflow) × (most < n)) → IsRefusedBy own e
  many_refused e n counted (inl memory) = inl memory
  many_refused e n counted (inr past) =
      too_many named (data_type_of inside) (nat_le count most) e past.0 (λ fits. let h = leb-true count most fits in let over = past.1 in omega arith)

  pub lists_refused : (places : List ℕ) → FitTogether places (cells inside) None → (e : Error) → IsWantOfMemory e ⊎ IsMisfit (AreLists named places inside None) e → IsRefusedBy own e
  lists_refused places fits e (inl memory) = inl memory
  lists_refused places fits e (inr misfit) = unnamed named (data_type_of inside) (nat_le count most) e misfit.0 (λ is. misfit.1 (is, fits))

-- ---- lists, by the width of their places

module _ (data_type : DataType) (items : Array) (large : Bool) (most : ℕ) (wide : is_large_list data_type ≡ large) (greatest : most ≡ most_places large) where
  abbrev refused : List Refusal
  refused = made_refusals (list_made data_type (made_array items))

  named_as : list_type large data_type ≡ item_type data_type
  named_as = ap (λ wide. list_type wide data_type) (sym wide)

  most_as : most ≡ most_places (is_large_list data_type)
  most_as = greatest ∙ ap most_places (sym wide)

  pub list_free : list_type large data_type ≡ Some (data_type_of items) → (n : ℕ) → n ≡ length (cells items) → n ≤ most → refused ≡ []
  list_free is n counted h =
      few_free (item_type data_type) items (most_places (is_large_list data_type)) (sym named_as ∙ is) n counted (subst (λ top. n ≤ top) most_as h)

  pub list_too_long : (e : Error) (n : ℕ) → n ≡ length (cells items) → IsWantOfMemory e ⊎ ((e ≡ error.Overflow) × (most < n)) → IsRefusedBy refused e
  list_too_long e n counted h =
      many_refused (item_type data_type) items (most_places (is_large_list data_type)) e n counted
      (subst (λ top. IsWantOfMemory e ⊎ ((e ≡ error.Overflow) × (top < n))) most_as h)

  pub list_refused : (places : List ℕ) → FitTogether places (cells items) None → (e : Error) → IsWantOfMemory e ⊎ IsMisfit (AreLists (list_type large data_type) places items None) e → IsRefusedBy refused e
  list_refused places fits e h =
      lists_refused (item_type data_type) items (most_places (is_large_list data_type)) places fits e
      (subst (λ named. IsWantOfMemory e ⊎ IsMisfit (AreLists named places items None) e) named_as h)

-- ---- dictionaries, by their keys

module _ (data_type : DataType) (entries : Array) (key : IntegerType) (is : key_type data_type ≡ Some key) where
  abbrev fits_by : Option IntegerType → Bool
  fits_by found = option_map_or (λ keys. nat_le (length (cells entries)) (most_keys keys)) found true

  abbrev refused_by : Option IntegerType → List Refusal
  refused_by found = refusals (entry_type data_type) (data_type_of entries) (fits_by found)

  pub dictionary_free : entry_type data_type ≡ Some (data_type_of entries) → (n : ℕ) → n ≡ length (cells entries) → n ≤ most_keys key → made_refusals (dictionary_made data_type (made_array entries)) ≡ []
  dictionary_free named n counted h = ap refused_by is ∙ few_free (entry_type data_type) entries (most_keys key) named n counted h

  pub dictionary_too_long : (e : Error) (n : ℕ) → n ≡ length (cells entries) → IsWantOfMemory e ⊎ ((e ≡ error.Overflow) × (most_keys key < n)) → IsRefusedBy (made_refusals (dictionary_made data_type (made_array entries))) e
  dictionary_too_long e n counted h =
      subst (λ found. IsRefusedBy (refused_by found) e) (sym is) (many_refused (entry_type data_type) entries (most_keys key) e n counted h)

  module _ {K : Type 0} (number : K → ℤ) (keys : List (Option K)) (count : map (option_map number) keys ≡ map (λ place. Some (pos place)) (range_with_len 0 (length (cells entries)))) where
    pub dictionary_refused : (e : Error) → IsWantOfMemory e ⊎ (IsMisfit (IsDictionaryOf key (data_type_of entries) data_type) e ⊎ ((cause_of e ≡ Some OutOfSpec) × (NameEntries number (cells entries) keys → ⊥)))
        → IsRefusedBy (made_refusals (dictionary_made data_type (made_array entries))) e
    dictionary_refused e (inl memory) = inl memory
    dictionary_refused e (inr (inl misfit)) = unnamed (entry_type data_type) (data_type_of entries) (fits_by (key_type data_type)) e misfit.0 (λ named. misfit.1 (is, named))
    dictionary_refused e (inr (inr past)) = absurd (past.1 (names_all number (cells entries) keys count))
