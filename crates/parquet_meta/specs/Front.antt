-- The struct that bytes begin with, by a rule. Bytes after it are passed over.
use Rattle.std.specs.Prelude.{ℕ, List, Option, option_map}
use Rattle.parquet_thrift.specs.Values.{in_struct}
use Rattle.parquet_meta.specs.Meaning.{Rule, by_rule}

unfoldable pub value_in : {A : Type 0} → Rule A → List ℕ → Option A
value_in rule bytes = option_map (λ x. x.0) (by_rule in_struct rule 12 bytes)
