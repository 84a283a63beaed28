use Rattle.std.proofs.Common.{◌≡◌, ◌∙◌, Bool, Bor, List, ap, arith, inr, map, refl, subst, sym}
use Rattle.std.specs.Prelude.{◌&&◌, Contains}
use Rattle.std.specs.List.{list_all}
use Rattle.std.proofs.lemmas.List.Folds.{list_all-map}
use Rattle.columns_core.specs.Causes.{NotYetImplemented, unless}
use Rattle.columns_core.specs.declared.data_type.DataType.{DataType}
use Rattle.flat_builders.specs.Flat.{flatness}
use Rattle.parquet_statistics.specs.BuiltTypes.{is_flat_shape}
use Rattle.parquet_statistics.specs.LeafTypes.{has_single_dictionaries, leaf_types}
use Rattle.parquet_statistics.proofs.field_statistics.carried_types.Goals as goal

abbrev type : Bor DataType → DataType
type t = t.now

abbrev is_flat : DataType → Bool
is_flat data_type = is_flat_shape (flatness data_type)

-- the test is that of the types of the columns
same_test : (data_type : DataType) (types lent : List (Bor DataType)) → lent ≡ types → map type types ≡ leaf_types data_type
    → (has_single_dictionaries data_type && list_all is_flat (leaf_types data_type)) ≡ (has_single_dictionaries data_type && list_all (λ (t : Bor DataType). is_flat t.now) lent)
same_test data_type types lent is own = ap (λ b. has_single_dictionaries data_type && b) (ap (list_all is_flat) (sym (ap (map type) is ∙ own)) ∙ list_all-map is_flat type lent)

pub returns-then-are_carried-clause-ok : goal.returns-then-are_carried-clause-ok
returns-then-are_carried-clause-ok c =
    ap (λ b. unless b NotYetImplemented)
    (same_test c.args.data_type.now c.in_ok-types.types.items c.deref.result.now c.deref.ensures.value c.in_ok-types.ensures.types ∙ sym c.are_carried.ensures ∙ c.if-are_carried.true)

pub returns-clause-cause : goal.returns-clause-cause
returns-clause-cause c =
    let test = same_test c.args.data_type.now c.in_ok-types.types.items c.deref.result.now c.deref.ensures.value c.in_ok-types.ensures.types ∙ sym c.are_carried.ensures ∙ c.if-are_carried.false in
    inr (subst (λ b. Contains (unless b NotYetImplemented) NotYetImplemented) (sym test) (0, omega arith, refl))
