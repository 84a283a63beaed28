-- Keys that are there, and the cells that they name.
use Rattle.std.proofs.Common.{◌≡◌, Bool, List, [], ◌∷◌, length, map, Option, Some, None, refl, sym, ap, ap₂, ◌∙◌, subst, inl, inr, arith, All}
use Rattle.std.specs.Prelude.{ℤ, IsSome, unwrap_or, option_and_then}
use Rattle.std.specs.Option.{ForSome}
use Rattle.std.proofs.lemmas.List.Elements.{All-cons, All-nil, All-tail}
use Rattle.columns_core.specs.Column.{FitsMask, cell_of, masked}
use Rattle.columns_core.specs.Entries.{NameEntries, entry_named}
use Rattle.columns_core.specs.Keyed.{keyed_cells}
use Rattle.columns_core.specs.declared.cell.Cell.{Cell, Int}
use Rattle.page_decoding.specs.Outcome.{Given}
use Rattle.flat_values.specs.Decoded.{IsMaskFor, found_mask, marked}
use Rattle.flat_values.proofs.DecodedLemmas.{array_items}
use Rattle.dictionary_values.specs.Keys.{NamesEntry, named_cell}

mask-fits : {T : Type 0} (values : List T) (mask : List Bool) → IsMaskFor values mask → FitsMask values (found_mask mask)
mask-fits values [] own found is = absurd cc
mask-fits values (set ∷ mask) (inl none) found is = absurd (omega (arith, ap length none))
mask-fits values (set ∷ mask) (inr long) found is = ap length (ap (λ o. unwrap_or o []) (sym is)) ∙ long

module _ {K : Type 0} (number : K → ℤ) (entries : List Cell) where
  name-at : (key : Option K) → NamesEntry entries (Given (cell_of (λ k. Int (number k)) key)) → ForSome key (λ k. IsSome (entry_named entries (number k)))
  name-at None some k is = absurd cc
  name-at (Some key) some k is = subst (λ n. IsSome (entry_named entries (number n))) (ap (λ o. unwrap_or o key) is) some

  -- cells that name entries are those of keys that do
  pub name-keys : (keys : List (Option K)) → All (NamesEntry entries) (map Given (map (cell_of (λ k. Int (number k))) keys)) → NameEntries number entries keys
  name-keys [] all = All-nil (λ key. ForSome key (λ k. IsSome (entry_named entries (number k))))
  name-keys (key ∷ keys) all = All-cons (λ key. ForSome key (λ k. IsSome (entry_named entries (number k)))) key keys (name-at key (all 0 (Given (cell_of (λ k. Int (number k)) key)) (omega arith))) (name-keys keys (All-tail (NamesEntry entries) (Given (cell_of (λ k. Int (number k)) key)) (map Given (map (cell_of (λ k. Int (number k))) keys)) all))

  named-at : (key : Option K) → cell_of (λ cell. cell) (option_and_then (λ k. entry_named entries (number k)) key) ≡ named_cell entries (cell_of (λ k. Int (number k)) key)
  named-at None = refl
  named-at (Some key) = refl

  -- the cells of an array of keys
  pub named-keys : (keys : List (Option K)) → keyed_cells number entries keys ≡ map (named_cell entries) (map (cell_of (λ k. Int (number k))) keys)
  named-keys [] = refl
  named-keys (key ∷ keys) = ap₂ (λ cell cells. cell ∷ cells) (named-at key) (named-keys keys)

-- keys and their mask, as they are handed on
module _ {T : Type 0} (keys : List T) (mask : List Bool) (found : Option (List Bool)) (there : found ≡ found_mask mask) (own : IsMaskFor keys mask) where
  pub handed : masked keys found ≡ marked keys mask
  handed = ap (masked keys) there ∙ array_items keys mask own

  pub handed-fits : FitsMask keys found
  handed-fits =
      let Q : Option (List Bool) → Type 0 = FitsMask keys in
      subst Q (sym there) (mask-fits keys mask own)
