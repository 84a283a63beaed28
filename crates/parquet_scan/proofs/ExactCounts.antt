-- Counts that rise by just a number.
use Rattle.std.proofs.Common.{◌≡◌, ℕ, ◌+◌, ◌<◌, ◌≤◌, Bool, List, length, drop, get_or, Option, Some, None, ap, arith}
use Rattle.std.specs.Prelude.{IfSome, sum_by, zip}
use Rattle.std.specs.Option.{option_map_or}
use Rattle.columns_core.specs.declared.data_type.Field.{Field}
use Rattle.parquet_meta.specs.declared.metadata.ColumnChunkMetaData.{ColumnChunkMetaData}
use Rattle.parquet_meta.specs.declared.metadata.RowGroupMetaData.{RowGroupMetaData}
use Rattle.parquet_scan.specs.Costs.{lent_of_column, lent_of_read}
use Rattle.parquet_scan.specs.Rows.{column_named}
use Rattle.parquet_scan.specs.Scan.{RisesBy, RisesJustBy}
use Rattle.parquet_scan.proofs.CostLemmas.{no_pair_left, none_left, pair_left, sum_left}

pub just_as : (told : Option (List ℕ)) (before now : ℕ) (count whole : List ℕ → ℕ) → IfSome told (λ bytes. whole bytes ≡ count bytes) → RisesJustBy told before now count → RisesJustBy told before now whole
just_as None before now count whole same h = tt
just_as (Some bytes) before now count whole same h = omega (arith, same, h)

-- one more item
pub just_more : {X : Type 0} (told : Option (List ℕ)) (cost : List ℕ → X → ℕ) (xs : List X) (i : ℕ) (x : X) (start mid now : ℕ) → i < length xs → x ≡ get_or xs i x
    → IfSome told (λ bytes. mid + sum_by (cost bytes) (drop i xs) ≡ start + sum_by (cost bytes) xs) → RisesJustBy told mid now (λ bytes. cost bytes x)
    → IfSome told (λ bytes. now + sum_by (cost bytes) (drop (i + 1) xs) ≡ start + sum_by (cost bytes) xs)
just_more None cost xs i x start mid now h at so_far own = tt
just_more (Some bytes) cost xs i x start mid now h at so_far own = omega (arith, so_far, own, sum_left (cost bytes) xs i x h at)

-- all items
pub just_all : {X : Type 0} (told : Option (List ℕ)) (cost : List ℕ → X → ℕ) (xs : List X) (i : ℕ) (start now : ℕ) → length xs ≤ i
    → IfSome told (λ bytes. now + sum_by (cost bytes) (drop i xs) ≡ start + sum_by (cost bytes) xs) → RisesJustBy told start now (λ bytes. sum_by (cost bytes) xs)
just_all None cost xs i start now h so_far = tt
just_all (Some bytes) cost xs i start now h so_far = omega (arith, so_far, none_left (cost bytes) xs i h)

-- one more pair
pub just_pair : {X Y : Type 0} (told : Option (List ℕ)) (cost : List ℕ → X × Y → ℕ) (xs : List X) (ys : List Y) (i : ℕ) (x : X) (y : Y) (start mid now : ℕ) → i < length xs → i < length ys → x ≡ get_or xs i x → y ≡ get_or ys i y
    → IfSome told (λ bytes. mid + sum_by (cost bytes) (zip (drop i xs) (drop i ys)) ≡ start + sum_by (cost bytes) (zip xs ys)) → RisesJustBy told mid now (λ bytes. cost bytes (x, y))
    → IfSome told (λ bytes. now + sum_by (cost bytes) (zip (drop (i + 1) xs) (drop (i + 1) ys)) ≡ start + sum_by (cost bytes) (zip xs ys))
just_pair None cost xs ys i x y start mid now h k at beside so_far own = tt
just_pair (Some bytes) cost xs ys i x y start mid now h k at beside so_far own = omega (arith, so_far, own, pair_left (cost bytes) xs ys i x y y h k at beside)

-- one that costs at most so much
pub most_pair : {X Y : Type 0} (told : Option (List ℕ)) (cost : List ℕ → X × Y → ℕ) (xs : List X) (ys : List Y) (i : ℕ) (x : X) (y : Y) (start mid now : ℕ) → i < length xs → i < length ys → x ≡ get_or xs i x → y ≡ get_or ys i y
    → IfSome told (λ bytes. mid + sum_by (cost bytes) (zip (drop i xs) (drop i ys)) ≤ start + sum_by (cost bytes) (zip xs ys)) → RisesBy told mid now (λ bytes. cost bytes (x, y))
    → IfSome told (λ bytes. now + sum_by (cost bytes) (zip (drop (i + 1) xs) (drop (i + 1) ys)) ≤ start + sum_by (cost bytes) (zip xs ys))
most_pair None cost xs ys i x y start mid now h k at beside so_far own = tt
most_pair (Some bytes) cost xs ys i x y start mid now h k at beside so_far own = omega (arith, so_far, own, pair_left (cost bytes) xs ys i x y y h k at beside)

-- all pairs
pub just_pairs : {X Y : Type 0} (told : Option (List ℕ)) (cost : List ℕ → X × Y → ℕ) (xs : List X) (ys : List Y) (i : ℕ) (start now : ℕ) → length xs ≤ i
    → IfSome told (λ bytes. now + sum_by (cost bytes) (zip (drop i xs) (drop i ys)) ≡ start + sum_by (cost bytes) (zip xs ys)) → RisesJustBy told start now (λ bytes. sum_by (cost bytes) (zip xs ys))
just_pairs None cost xs ys i start now h so_far = tt
just_pairs (Some bytes) cost xs ys i start now h so_far = omega (arith, so_far, no_pair_left (cost bytes) xs ys i h)

-- the column of a name
pub named_lent : (told : Option (List ℕ)) (by_pages : Bool) (group : RowGroupMetaData) (rows : List ℕ) (field : Field) (column : ColumnChunkMetaData) → column_named group field.name ≡ Some column
    → IfSome told (λ bytes. lent_of_column by_pages bytes group rows field ≡ lent_of_read by_pages bytes group rows field.data_type column)
named_lent None by_pages group rows field column named = tt
named_lent (Some bytes) by_pages group rows field column named = ap (λ o. option_map_or (lent_of_read by_pages bytes group rows field.data_type) o 0) named
