-- Pages of a column: what they are stored as, and where its dictionary page stands.
use Rattle.std.proofs.Common.{◌≡◌, List, [], ◌∷◌, Option, None, Some, true, ap}
use Rattle.std.specs.Prelude.{IfSome}
use Rattle.columns_core.specs.declared.data_type.IntegerType.{IntegerType}
use Rattle.parquet_meta.specs.declared.metadata.PhysicalType.{PhysicalType}
use Rattle.parquet_meta.specs.declared.metadata.PrimitiveType.{PrimitiveType}
use Rattle.parquet_page.specs.Content.{Content, DataOf, DictOf}
use Rattle.parquet_page.specs.Lending.{AreOfType, DataPagesAre, has_data_behind}

abbrev pub AreStoredAs : List Content → PhysicalType → Type 0
AreStoredAs pages physical = DataPagesAre (λ page. page.type.physical_type ≡ physical) pages

-- as the type of the column says
pub stored_as : (stored : PrimitiveType) (pages : List Content) → AreOfType stored pages → AreStoredAs pages stored.physical_type
stored_as stored [] are = tt
stored_as stored (DataOf page ∷ pages) are = (ap (λ (type : PrimitiveType). type.physical_type) are.0, stored_as stored pages are.1)
stored_as stored (DictOf page ∷ pages) are = stored_as stored pages are

-- Only the first may be a dictionary page: for a column of keys as for any other.
pub ordered_for : (key : Option IntegerType) (pages : List Content) → has_data_behind pages ≡ true → IfSome key (λ _. has_data_behind pages ≡ true)
ordered_for None pages ordered = tt
ordered_for (Some key) pages ordered = ordered
