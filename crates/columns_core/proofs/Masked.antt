-- Values behind a mask.
use Rattle.std.proofs.Common.{◌≡◌, ℕ, zero, suc, ◌<◌, Bool, true, false, List, [], ◌∷◌, length, map, get_or, refl, ◌∙◌, ap, arith}
use Rattle.std.specs.Prelude.{Option, Some, None, slice_get, if◌then◌else◌}
use Rattle.std.proofs.lemmas.List.{length-map}
use Rattle.std.proofs.lemmas.Bool.{true≢false}
use Rattle.std.proofs.lemmas.Option.{slice_get_within, get_or_from_slice_get, slice_get-get_or}
use Rattle.columns_core.specs.Masks.{is_there}
use Rattle.columns_core.specs.Column.{where_set, masked, FitsMask}

length-where_set : {T : Type 0} (values : List T) (mask : List Bool) → length mask ≡ length values → length (where_set values mask) ≡ length values
length-where_set [] mask e = refl
length-where_set (value ∷ values) [] e = absurd (omega arith)
length-where_set (value ∷ values) (set ∷ mask) e = ap suc (length-where_set values mask (omega arith))

pub length-masked : {T : Type 0} (values : List T) (mask : Option (List Bool)) → FitsMask values mask → length (masked values mask) ≡ length values
length-masked values None h = length-map values Some
length-masked values (Some mask) h = length-where_set values mask (h mask refl)

get-map : {T : Type 0} (values : List T) (i : ℕ) (d : T) → i < length values → slice_get (map Some values) i ≡ Some (Some (get_or values i d))
get-map [] i d h = absurd (omega arith)
get-map (value ∷ values) zero d h = refl
get-map (value ∷ values) (suc i) d h = get-map values i d (omega arith)

get-where_set : {T : Type 0} (values : List T) (mask : List Bool) (i : ℕ) (d : T) (b : Bool) → i < length values → slice_get mask i ≡ Some b
    → slice_get (where_set values mask) i ≡ Some (if b then Some (get_or values i d) else None)
get-where_set [] mask i d b h e = absurd (omega arith)
get-where_set (value ∷ values) [] i d b h e = cc
get-where_set (value ∷ values) (set ∷ mask) zero d b h e = let same : set ≡ b = cc in ap (λ t. Some (if t then Some value else None)) same
get-where_set (value ∷ values) (set ∷ mask) (suc i) d b h e = get-where_set values mask i d b (omega arith) e

-- the mask has the place
pub within_mask : {T : Type 0} (values : List T) (mask : Option (List Bool)) (found : List Bool) (i : ℕ) → FitsMask values mask → mask ≡ Some found
    → i < length (masked values mask) → i < length found
within_mask values mask found i h e k = omega (arith, h found e, length-masked values mask h)

get-where_unset : {T : Type 0} (values : List T) (mask : List Bool) (i : ℕ) → i < length values → slice_get mask i ≡ Some false → slice_get (where_set values mask) i ≡ Some None
get-where_unset [] mask i h e = absurd (omega arith)
get-where_unset (value ∷ values) [] i h e = cc
get-where_unset (value ∷ values) (set ∷ mask) zero h e = let same : set ≡ false = cc in ap (λ t. Some (if t then Some value else None)) same
get-where_unset (value ∷ values) (set ∷ mask) (suc i) h e = get-where_unset values mask i (omega arith) e

-- the place is not set
pub get-unset : {T : Type 0} (values : List T) (mask : Option (List Bool)) (found : List Bool) (i : ℕ) → mask ≡ Some found → i < length values
    → slice_get found i ≡ Some false → slice_get (masked values mask) i ≡ Some None
get-unset values mask found i e h k = ap (λ m. slice_get (masked values m) i) e ∙ get-where_unset values found i h k

-- it is set
pub get-set : {T : Type 0} (values : List T) (mask : Option (List Bool)) (found : List Bool) (i : ℕ) (d : T) → mask ≡ Some found → i < length values
    → slice_get found i ≡ Some true → slice_get (masked values mask) i ≡ Some (Some (get_or values i d))
get-set values mask found i d e h k = ap (λ m. slice_get (masked values m) i) e ∙ get-where_set values found i d true h k

-- there is no mask
pub get-unmasked : {T : Type 0} (values : List T) (mask : Option (List Bool)) (i : ℕ) (d : T) → mask ≡ None → i < length values
    → slice_get (masked values mask) i ≡ Some (Some (get_or values i d))
get-unmasked values mask i d e h = ap (λ m. slice_get (masked values m) i) e ∙ get-map values i d h

-- an item is there, or null, as the mask tells
pub there : {T : Type 0} (values : List T) (mask : Option (List Bool)) (i : ℕ) (x : T) → FitsMask values mask → slice_get values i ≡ Some x → is_there mask i ≡ true
    → slice_get (masked values mask) i ≡ Some (Some x)
there values None i x fits e h = get-map values i x (slice_get_within values i x e) ∙ ap (λ v. Some (Some v)) (get_or_from_slice_get values i x x e)
there values (Some mask) i x fits e h =
    get-where_set values mask i x true (slice_get_within values i x e) (slice_get-get_or mask i false (omega (arith, fits mask refl, slice_get_within values i x e)) ∙ ap Some h)
    ∙ ap (λ v. Some (Some v)) (get_or_from_slice_get values i x x e)

pub not_there : {T : Type 0} (values : List T) (mask : Option (List Bool)) (i : ℕ) → FitsMask values mask → i < length values → is_there mask i ≡ false
    → slice_get (masked values mask) i ≡ Some None
not_there values None i fits h e = absurd (true≢false e)
not_there values (Some mask) i fits h e = get-where_unset values mask i h (slice_get-get_or mask i false (omega (arith, fits mask refl)) ∙ ap Some e)
