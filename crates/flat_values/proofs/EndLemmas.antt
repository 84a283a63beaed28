-- Ends are values that their column stores.
use Rattle.std.proofs.Common.{◌≡◌, true, length, refl, ap, ◌∙◌, subst}
use Rattle.std.specs.Prelude.{◌==◌}
use Rattle.std.specs.Int.{w32, w64, from_le_bytes}
use Rattle.std.proofs.lemmas.Option.{none-some}
use Rattle.parquet_encoding.proofs.StepLemmas.{given_some, some_is}
use Rattle.parquet_meta.specs.StoredEnds.{boolean_end, int96_end}
use Rattle.parquet_meta.specs.declared.metadata.PhysicalType.TheVariants as physical
use Rattle.parquet_page.specs.Stored.{Truth, Number, Octets}
use Rattle.flat_values.specs.Numbers.{words_of}
use Rattle.flat_values.specs.Sound.{is_stored_as, EndsAreStored}
use Rattle.flat_values.proofs.PageLemmas.{mapped, int32, int64}

pub ends_are_stored : EndsAreStored
ends_are_stored physical.Boolean bytes value e = mapped (boolean_end bytes) Truth value e (λ b p q. subst (λ v. is_stored_as physical.Boolean v ≡ true) q refl)
ends_are_stored physical.Int32 bytes value e =
    mapped _ Number value e (λ n p q. subst (λ v. is_stored_as physical.Int32 v ≡ true) (ap Number (given_some (length bytes == 4) _ n p).1 ∙ q) (int32 (from_le_bytes w32 bytes)))
ends_are_stored physical.Int64 bytes value e =
    mapped _ Number value e (λ n p q. subst (λ v. is_stored_as physical.Int64 v ≡ true) (ap Number (given_some (length bytes == 8) _ n p).1 ∙ q) (int64 (from_le_bytes w64 bytes)))
ends_are_stored physical.Int96 bytes value e = mapped (int96_end bytes) words_of value e (λ words p q. subst (λ v. is_stored_as physical.Int96 v ≡ true) q refl)
ends_are_stored physical.Float bytes value e = absurd (none-some value e)
ends_are_stored physical.Double bytes value e = absurd (none-some value e)
ends_are_stored physical.ByteArray bytes value e = subst (λ v. is_stored_as physical.ByteArray v ≡ true) (some_is (Octets bytes) value e) refl
ends_are_stored (physical.FixedLenByteArray size) bytes value e =
    mapped _ Octets value e (λ own p q.
    let test = given_some (length bytes == size) bytes own p in
    subst (λ v. is_stored_as (physical.FixedLenByteArray size) v ≡ true) (ap Octets test.1 ∙ q) test.0)
