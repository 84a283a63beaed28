-- Keys of any of the eight types as the places that they name.
use Rattle.std.specs.Prelude.{ℕ, pos, List, Option}
use Rattle.columns_core.specs.declared.dictionary_keys.DictionaryKeys.{DictionaryKeys}
use Rattle.columns_core.specs.declared.dictionary_keys.DictionaryKeys.TheVariants as kept
use Rattle.columns_core.specs.Entries.{key_places}

abbrev pub named_places : DictionaryKeys → List (Option ℕ)
named_places (kept.Int8 keys) = key_places (λ x. x) keys.items
named_places (kept.Int16 keys) = key_places (λ x. x) keys.items
named_places (kept.Int32 keys) = key_places (λ x. x) keys.items
named_places (kept.Int64 keys) = key_places (λ x. x) keys.items
named_places (kept.UInt8 keys) = key_places pos keys.items
named_places (kept.UInt16 keys) = key_places pos keys.items
named_places (kept.UInt32 keys) = key_places pos keys.items
named_places (kept.UInt64 keys) = key_places pos keys.items
