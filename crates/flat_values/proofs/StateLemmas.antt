-- Values of which some are stored.
use Rattle.std.proofs.Common.{◌≡◌, ℕ, zero, suc, ◌<◌, List, [], ◌∷◌, refl, arith}
use Rattle.std.specs.Prelude.{Option, None}
use Rattle.std.specs.Option.{option_map_or}
use Rattle.columns_core.specs.Causes.{Cause, ExternalFormat}
use Rattle.parquet_meta.specs.declared.metadata.PhysicalType.{PhysicalType}
use Rattle.parquet_page.specs.Opened.{key_causes}
use Rattle.parquet_page.specs.Values.{Keys, dictionary_keys, unless_none}
use Rattle.flat_values.specs.FlatLeft.{causes_unless_none}
use Rattle.flat_values.specs.Outcomes.{value_causes}

pub some_counted : (n : ℕ) (causes : List Cause) → 0 < n → causes_unless_none n causes ≡ causes
some_counted zero causes some = absurd (omega (arith, some))
some_counted (suc n) causes some = refl

pub some_stored : {A : Type 0} (n : ℕ) (found : Option (List A)) → 0 < n → unless_none n found ≡ found
some_stored zero found some = absurd (omega (arith, some))
some_stored (suc n) found some = refl

-- what is wrong with keys that are compared with no entries
pub keys_alone : (type : PhysicalType) (bytes : List ℕ) (count : ℕ) → value_causes type None Keys bytes count ≡ option_map_or (key_causes None None) (dictionary_keys bytes count) (ExternalFormat ∷ [])
unfolding value_causes
keys_alone type bytes count = refl
