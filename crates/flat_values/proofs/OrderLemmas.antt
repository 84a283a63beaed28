-- Times keep their order.
use Rattle.std.proofs.Common.{◌≡◌, ℕ, zero, suc, ◌*◌, ◌/◌, ◌<◌, ◌≤◌, ℤ, pos, negsuc, neg_ℤ, Bool, true, false, refl, sym, ◌∙◌, ap, ap₂, arith, le_of_suc-le-suc, suc-le-suc, mul-le-mul_right}
use Rattle.std.specs.Prelude.{int_le, Option, Some, None, if◌then◌else◌}
use Rattle.std.proofs.lemmas.Bool.{false≢true, leb-true, le-leb, ltb-true}
use lib.Ieee.Nearest.{div_mono}
use Rattle.columns_core.specs.declared.cell.Cell.{Int}
use Rattle.columns_core.specs.declared.data_type.TimeUnit.{TimeUnit}
use Rattle.columns_core.specs.declared.data_type.TimeUnit.TheVariants.{Second, Millisecond, Microsecond, Nanosecond}
use Rattle.parquet_meta.specs.declared.metadata.PrimitiveLogicalType.TheVariants.{Timestamp}
use Rattle.parquet_meta.specs.declared.metadata.ParquetTimeUnit.TheVariants.{Milliseconds, Microseconds, Nanoseconds}
use Rattle.columns_core.specs.Types.{signed_range, is_in}
use Rattle.parquet_meta.specs.declared.metadata.PrimitiveLogicalType.{PrimitiveLogicalType}
use Rattle.flat_values.specs.Conversion.{Item, Value, NotInRange, NotText, scaled}
use Rattle.flat_values.specs.Units.{nanoseconds_of, per_second, unit_factor}
use Rattle.flat_values.specs.Order.{KeepsOrder, KeepsOrderOfWords}

abbrev number_or : ℤ → Item → ℤ
number_or z (Value (Int n)) = n
number_or z _ = z

abbrev is_value : Item → Bool
is_value (Value cell) = true
is_value NotInRange = false
is_value NotText = false

-- what a test lets through is the number
given_is : (b : Bool) (z x : ℤ) → (if b then Value (Int z) else NotInRange) ≡ Value (Int x) → z ≡ x
given_is true z x e = ap (number_or z) e
given_is false z x e = absurd (false≢true (ap is_value e))

negated : (k m : ℕ) → m ≤ k → int_le (neg_ℤ (pos k)) (neg_ℤ (pos m)) ≡ true
negated zero zero h = refl
negated zero (suc m) h = absurd (omega (arith, h))
negated (suc k) zero h = refl
negated (suc k) (suc m) h = le-leb m k (le_of_suc-le-suc h)

below : (k m : ℕ) → int_le (neg_ℤ (pos k)) (pos m) ≡ true
below zero m = le-leb 0 m (omega arith)
below (suc k) m = refl

-- a product with a factor keeps the order, and so does division toward zero
times_keeps : (f : ℕ) (a b : ℤ) → int_le a b ≡ true → int_le (scaled f true a) (scaled f true b) ≡ true
times_keeps f (pos a) (pos b) e = le-leb (a * f) (b * f) (mul-le-mul_right f (leb-true a b e))
times_keeps f (pos a) (negsuc b) e = absurd (false≢true e)
times_keeps f (negsuc a) (pos b) e = below (suc a * f) (b * f)
times_keeps f (negsuc a) (negsuc b) e = negated (suc a * f) (suc b * f) (mul-le-mul_right f (suc-le-suc (leb-true b a e)))

divided : (f : ℕ) → 0 < f → (a b : ℕ) → a ≤ b → a / f ≤ b / f
divided f p a b h = div_mono a f b f p p (mul-le-mul_right f h)

by_keeps : (f : ℕ) → 0 < f → (a b : ℤ) → int_le a b ≡ true → int_le (scaled f false a) (scaled f false b) ≡ true
by_keeps f p (pos a) (pos b) e = le-leb (a / f) (b / f) (divided f p a b (leb-true a b e))
by_keeps f p (pos a) (negsuc b) e = absurd (false≢true e)
by_keeps f p (negsuc a) (pos b) e = below (suc a / f) (b / f)
by_keeps f p (negsuc a) (negsuc b) e = negated (suc a / f) (suc b / f) (divided f p (suc b) (suc a) (suc-le-suc (leb-true b a e)))

scaled_keeps : (f : ℕ) → 0 < f → (multiply : Bool) (a b : ℤ) → int_le a b ≡ true → int_le (scaled f multiply a) (scaled f multiply b) ≡ true
scaled_keeps f p true = times_keeps f
scaled_keeps f p false = by_keeps f p

has_factor : (stored : Option PrimitiveLogicalType) (unit : TimeUnit) → 0 < (unit_factor stored unit).0
has_factor None unit = ltb-true 0 1 refl
has_factor (Some (Timestamp Milliseconds utc)) Second = ltb-true 0 1000 refl
has_factor (Some (Timestamp Milliseconds utc)) Millisecond = ltb-true 0 1 refl
has_factor (Some (Timestamp Milliseconds utc)) Microsecond = ltb-true 0 1000 refl
has_factor (Some (Timestamp Milliseconds utc)) Nanosecond = ltb-true 0 1000000 refl
has_factor (Some (Timestamp Microseconds utc)) Second = ltb-true 0 1000000 refl
has_factor (Some (Timestamp Microseconds utc)) Millisecond = ltb-true 0 1000 refl
has_factor (Some (Timestamp Microseconds utc)) Microsecond = ltb-true 0 1 refl
has_factor (Some (Timestamp Microseconds utc)) Nanosecond = ltb-true 0 1000 refl
has_factor (Some (Timestamp Nanoseconds utc)) Second = ltb-true 0 1000000000 refl
has_factor (Some (Timestamp Nanoseconds utc)) Millisecond = ltb-true 0 1000000 refl
has_factor (Some (Timestamp Nanoseconds utc)) Microsecond = ltb-true 0 1000 refl
has_factor (Some (Timestamp Nanoseconds utc)) Nanosecond = ltb-true 0 1 refl

pub keeps_order : KeepsOrder
keeps_order stored unit a b x y e p q =
    let f : ℕ = (unit_factor stored unit).0 in
    let multiply : Bool = (unit_factor stored unit).1 in
    ap₂ int_le (sym (given_is (is_in (signed_range 64) (scaled f multiply a)) (scaled f multiply a) x p)) (sym (given_is (is_in (signed_range 64) (scaled f multiply b)) (scaled f multiply b) y q))
    ∙ scaled_keeps f (has_factor stored unit) multiply a b e

has_unit : (unit : TimeUnit) → 0 < 1000000000 / per_second unit
has_unit Second = ltb-true 0 1000000000 refl
has_unit Millisecond = ltb-true 0 1000000 refl
has_unit Microsecond = ltb-true 0 1000 refl
has_unit Nanosecond = ltb-true 0 1 refl

pub keeps_order_of_words : KeepsOrderOfWords
keeps_order_of_words unit low high day low_b high_b day_b x y e p q =
    let f : ℕ = 1000000000 / per_second unit in
    let a : ℤ = nanoseconds_of low high day in
    let b : ℤ = nanoseconds_of low_b high_b day_b in
    ap₂ int_le (sym (given_is (is_in (signed_range 64) a) (scaled f false a) x p)) (sym (given_is (is_in (signed_range 64) b) (scaled f false b) y q)) ∙ by_keeps f (has_unit unit) a b e
