-- Places among byte strings: before the first, and behind some.
use Rattle.std.proofs.Common.{◌≡◌, ℕ, Bool, true, List, [], map, drop, Option, Some, None, refl, sym, ap, ◌∙◌}
use Rattle.std.specs.Prelude.{is_some, IsSome, unwrap_or, option_map}
use Rattle.std.proofs.lemmas.Bool.{true≢false}
use Rattle.columns_core.specs.declared.cell.Cell.{Cell}
use Rattle.page_decoding.specs.Outcome.{Outcome}
use Rattle.binary_values.specs.ByteLeft.{byte_left}
use Rattle.binary_values.specs.declared.byte_place.BytePlace.{BytePlace}

-- what stands at the places is what is found
pub opened : {A B : Type 0} (f : A → B) (found : Option (List B)) (left : Option (List A)) → option_map (map f) left ≡ found → true ≡ is_some found → (found ≡ Some (map f (unwrap_or left []))) × IsSome left
opened f found None e there = absurd (true≢false (there ∙ ap is_some (sym e)))
opened f found (Some values) e there = (sym e, refl)

-- values behind some, at another name of the place
pub at-place : (is_text : Bool) (entries : Option (List Cell)) (bytes : List ℕ) (place own : BytePlace) (count : ℕ) (rows : List Outcome) → place ≡ own → rows ≡ drop count (byte_left is_text entries bytes own) → rows ≡ drop count (byte_left is_text entries bytes place)
at-place is_text entries bytes place own count rows is e = e ∙ ap (λ p. drop count (byte_left is_text entries bytes p)) (sym is)
