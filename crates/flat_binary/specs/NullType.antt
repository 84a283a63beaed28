-- The type whose only items are nulls. Columns of it are read without their pages.
use Rattle.std.specs.Prelude.{Bool, true, false}
use Rattle.columns_core.specs.Types.{Layer}
use Rattle.columns_core.specs.declared.data_type.DataType.{DataType, out-DataType}
use Rattle.columns_core.specs.declared.data_type.DataType.TheOpen.{DataType-F}

abbrev pub is_null_at : Layer → Bool
is_null_at DataType-F.Null = true
is_null_at _ = false

abbrev pub is_null_type : DataType → Bool
is_null_type data_type = is_null_at (out-DataType data_type)
