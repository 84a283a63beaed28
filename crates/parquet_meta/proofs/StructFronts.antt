-- A struct is read from its own bytes, whatever it is made into.
use Rattle.std.proofs.Common.{◌≡◌, ℕ, ◌<◌, pos, List, Option, Some, None, refl, sym, subst, arith, length}
use Rattle.parquet_base.specs.Reading.{map_value, Takes}
use Rattle.parquet_thrift.specs.Front.{ReadsFront}
use Rattle.parquet_thrift.specs.Values.{struct, in_struct, fields_of, value}
use Rattle.parquet_thrift.proofs.Fronts.{FrontOf, front-along, front-bind, front-map, front-nothing, front-takes, fields-front}
use Rattle.parquet_thrift.proofs.ValueLemmas.{value-struct}
use Rattle.parquet_meta.specs.Meaning.{Rule, with_rest, by_rule}

struct_value-front : ReadsFront 1 (value in_struct 12)
struct_value-front bytes =
    subst (FrontOf 1 (value in_struct 12) bytes) (sym (value-struct in_struct bytes))
    (front-along 1 (λ bs. map_value struct (fields_of (value in_struct) (pos 0) bs)) (value in_struct 12) bytes _ (value-struct in_struct)
    (front-map 1 (fields_of (value in_struct) (pos 0)) bytes struct _ (fields-front (pos 0) bytes)))

with_rest-front : {A : Type 0} (o : Option A) (rest : List ℕ) → FrontOf 0 (λ bs. with_rest o bs) rest (with_rest o rest)
with_rest-front None rest = tt
with_rest-front (Some m) rest = front-nothing (λ bs. with_rest (Some m) bs) rest m (λ bs. refl)

pub by_struct_rule-front : {A : Type 0} (rule : Rule A) → ReadsFront 1 (by_rule in_struct rule 12)
unfolding by_rule
by_struct_rule-front rule bytes =
    front-bind 1 0 (value in_struct 12) (λ v rest. with_rest (rule 12 v) rest) bytes (value in_struct 12 bytes) _ (struct_value-front bytes) (λ x. with_rest-front (rule 12 x.0) x.1)

pub by_struct_rule-shorter : {A : Type 0} (rule : Rule A) (bytes : List ℕ) (x : A × List ℕ) → by_rule in_struct rule 12 bytes ≡ Some x → length x.1 < length bytes
by_struct_rule-shorter rule bytes x e =
    let t : Takes 1 bytes (Some x) = subst (Takes 1 bytes) e (front-takes 1 (by_rule in_struct rule 12) bytes _ (by_struct_rule-front rule bytes)) in
    omega (arith, t)
