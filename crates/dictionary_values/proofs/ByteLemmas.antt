-- Texts and byte strings of dictionaries as arrays.
use Rattle.std.proofs.Common.{◌≡◌, Bool, true, false, refl, sym, ◌∙◌}
use Rattle.std.specs.Prelude.{IsTrue}
use Rattle.columns_core.specs.Stored.{is_binary, is_sized_text}
use Rattle.columns_core.specs.declared.data_type.DataType.{DataType}
use Rattle.columns_core.specs.declared.data_type.DataType as type
use Rattle.binary_values.specs.ByteStrings.{stores_bytes}

-- No type is one of texts and one of byte strings.
no-both : (is_large : Bool) (data_type : DataType) → is_sized_text is_large data_type ≡ true → is_binary is_large data_type ≡ true → ⊥
no-both false type.Utf8 text binary = cc
no-both false _ text binary = cc
no-both true type.LargeUtf8 text binary = cc
no-both true _ text binary = cc

pub text-is : (own is_large : Bool) (data_type : DataType) → IsTrue (stores_bytes own is_large data_type) → is_sized_text is_large data_type ≡ true → own ≡ true
text-is true is_large data_type stores text = refl
text-is false is_large data_type stores text = absurd (no-both is_large data_type text stores)

pub bytes-are : (own is_large : Bool) (data_type : DataType) → IsTrue (stores_bytes own is_large data_type) → is_sized_text is_large data_type ≡ false → (own ≡ false) × IsTrue (is_binary is_large data_type)
bytes-are true is_large data_type stores other = let e : true ≡ false = sym stores ∙ other in cc
bytes-are false is_large data_type stores other = (refl, stores)
