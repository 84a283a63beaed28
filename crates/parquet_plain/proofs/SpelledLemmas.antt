-- The body of a page spells the items that it was written from.
use Rattle.std.proofs.Common.{◌≡◌, ℕ, zero, suc, ◌+◌, ◌^◌, ◌<◌, Bool, true, false, List, [], ◌∷◌, Option, Some, None, refl, ap, ◌∙◌, arith, length, map, cond}
use Rattle.std.specs.Prelude.{All, is_some, replicate, nat_le, ◌==◌}
use Rattle.std.specs.List.{list_all}
use Rattle.std.proofs.lemmas.List.{length-map}
use Rattle.std.proofs.lemmas.List.Elements.{All-head, All-tail}
use Rattle.std.proofs.lemmas.List.Folds.{list_all-append}
use Rattle.std.proofs.lemmas.List.Sums.{sum_by-cons}
use Rattle.parquet_meta.specs.declared.metadata.PhysicalType.{PhysicalType}
use Rattle.parquet_meta.specs.declared.metadata.PhysicalType.TheVariants as types
use Rattle.parquet_meta.specs.declared.metadata.PrimitiveLogicalType.{PrimitiveLogicalType}
use Rattle.parquet_meta.specs.declared.metadata.Repetition.{Repetition}
use Rattle.parquet_meta.specs.declared.metadata.Repetition.TheVariants.{Required, Optional, Repeated}
use Rattle.parquet_page.specs.Levels.{prefixed_parts, presence, present_count, placed}
use Rattle.parquet_page.specs.Spelling.{places_and_values, spelled, page_encoding}
use Rattle.parquet_page.specs.Stored.{Stored}
use Rattle.parquet_page.specs.Values.{plain_values, unless_none, Plain}
use Rattle.parquet_plain.specs.Bodies.{bit, level_bytes, values_bytes, present, body_bytes}
use Rattle.parquet_plain.proofs.BodyLemmas.{hybrid-written}
use Rattle.parquet_plain.proofs.ValueLemmas.{values-written, first_string-written}
use Rattle.parquet_plain.specs.Fits.{FitsItems, HasPlaces, IsOf, IsPlainType}
use Rattle.parquet_plain.specs.Found.{plain_content}

-- ---- presence

all_levels : (bs : List Bool) → list_all (λ level. nat_le level 1) (map bit bs) ≡ true
all_levels [] = refl
all_levels (true ∷ bs) = list_all-append (λ level. nat_le level 1) (1 ∷ []) (map bit bs) ∙ rw (all_levels bs) refl
all_levels (false ∷ bs) = list_all-append (λ level. nat_le level 1) (0 ∷ []) (map bit bs) ∙ rw (all_levels bs) refl

bits-as-bools : (bs : List Bool) → map (λ level. level == 1) (map bit bs) ≡ bs
bits-as-bools [] = refl
bits-as-bools (true ∷ bs) = ap (λ (xs : List Bool). true ∷ xs) (bits-as-bools bs)
bits-as-bools (false ∷ bs) = ap (λ (xs : List Bool). false ∷ xs) (bits-as-bools bs)

presence-optional : (bs : List Bool) → 0 < length bs → length bs < 2 ^ 62 → presence Optional (level_bytes bs) (length bs) ≡ Some bs
unfolding presence
presence-optional bs some few = rw (hybrid-written bs some few, all_levels bs, bits-as-bools bs) refl

-- ---- items at their places

placed-present : (items : List (Option Stored)) → placed (map is_some items) (present items) ≡ Some items
placed-present [] = refl
placed-present (None ∷ items) = rw (placed-present items) refl
placed-present (Some v ∷ items) = rw (placed-present items) refl

present_suc : (places : List Bool) → present_count (true ∷ places) ≡ suc (present_count places)
present_suc places = let step : present_count (true ∷ places) ≡ 1 + present_count places = sum_by-cons (λ (present : Bool). cond present 1 0) true places in omega (arith, step)

absent_same : (places : List Bool) → present_count (false ∷ places) ≡ present_count places
absent_same places = let step : present_count (false ∷ places) ≡ 0 + present_count places = sum_by-cons (λ (present : Bool). cond present 1 0) false places in omega (arith, step)

count-present : (items : List (Option Stored)) → present_count (map is_some items) ≡ length (present items)
count-present [] = refl
count-present (None ∷ items) = absent_same (map is_some items) ∙ count-present items
count-present (Some v ∷ items) = present_suc (map is_some items) ∙ ap suc (count-present items)

all_there : (items : List (Option Stored)) → All (λ item. is_some item ≡ true) items → map is_some items ≡ replicate (length items) true
all_there [] all = refl
all_there (item ∷ items) all = rw (All-head (λ (i : Option Stored). is_some i ≡ true) item items all, all_there items (All-tail (λ (i : Option Stored). is_some i ≡ true) item items all)) refl

-- ---- a page

encoding-is : (t : PhysicalType) (r : Repetition) (items : List (Option Stored)) (l : Option PrimitiveLogicalType) → IsPlainType t → HasPlaces r items →
    page_encoding (plain_content (record { physical_type = t; logical_type = l; repetition = r }) items) ≡ Some Plain
encoding-is types.Boolean Required items l plain places = refl
encoding-is types.Boolean Optional items l plain places = refl
encoding-is types.Int32 Required items l plain places = refl
encoding-is types.Int32 Optional items l plain places = refl
encoding-is types.Int64 Required items l plain places = refl
encoding-is types.Int64 Optional items l plain places = refl
encoding-is types.ByteArray Required items l plain places = refl
encoding-is types.ByteArray Optional items l plain places = refl
encoding-is (types.FixedLenByteArray width) Required items l plain places = refl
encoding-is (types.FixedLenByteArray width) Optional items l plain places = refl
encoding-is types.Int96 r items l plain places = absurd plain
encoding-is types.Float r items l plain places = absurd plain
encoding-is types.Double r items l plain places = absurd plain
encoding-is types.Boolean Repeated items l plain places = absurd places
encoding-is types.Int32 Repeated items l plain places = absurd places
encoding-is types.Int64 Repeated items l plain places = absurd places
encoding-is types.ByteArray Repeated items l plain places = absurd places
encoding-is (types.FixedLenByteArray width) Repeated items l plain places = absurd places

parts-are : (t : PhysicalType) (r : Repetition) (items : List (Option Stored)) (l : Option PrimitiveLogicalType) → HasPlaces r items → 0 < length items → length items < 2 ^ 62 → length (level_bytes (map is_some items)) < 2 ^ 32 →
    places_and_values (plain_content (record { physical_type = t; logical_type = l; repetition = r }) items) ≡ Some (map is_some items, values_bytes t (present items))
unfolding places_and_values prefixed_parts presence body_bytes
parts-are t Required items l places some few short = rw (all_there items places) refl
parts-are t Optional items l places some few short =
    rw (first_string-written (level_bytes (map is_some items)) (values_bytes t (present items)) short) (rw (levels items some few) refl)
  where
    levels : (is : List (Option Stored)) → 0 < length is → length is < 2 ^ 62 → presence Optional (level_bytes (map is_some is)) (length is) ≡ Some (map is_some is)
    levels is s f =
        let long : length (map is_some is) ≡ length is = length-map is is_some in
        rw (← long) (presence-optional (map is_some is) (rw long s) (rw long f))
parts-are t Repeated items l places some few short = absurd places

stored-values : (t : PhysicalType) (values : List Stored) (n : ℕ) → IsPlainType t → All (IsOf t) values → n ≡ length values → unless_none n (plain_values t (values_bytes t values) n) ≡ Some values
stored-values t [] zero plain all e = refl
stored-values t (v ∷ vs) zero plain all e = absurd (omega arith)
stored-values t values (suc n) plain all e = rw e (values-written t values plain all)

pub spelled-written : (t : PhysicalType) (r : Repetition) (l : Option PrimitiveLogicalType) (items : List (Option Stored)) (dictionary : Option (List Stored)) →
    FitsItems (record { physical_type = t; logical_type = l; repetition = r }) items → HasPlaces r items →
    spelled (plain_content (record { physical_type = t; logical_type = l; repetition = r }) items) dictionary ≡ Some items
unfolding spelled
spelled-written t r l items dictionary fits places =
    rw (
      encoding-is t r items l fits.plain places,
      parts-are t r items l places fits.some fits.few fits.short,
      stored-values t (present items) (present_count (map is_some items)) fits.plain fits.each_is (count-present items),
    )
    (placed-present items)
