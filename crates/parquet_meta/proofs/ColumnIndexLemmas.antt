-- The lists of a stored column index have one length.
use Rattle.std.proofs.Common.{◌≡◌, ℕ, Bool, true, false, List, Option, Some, None, refl, sym, ap, ◌∙◌, option_map}
use Rattle.parquet_base.specs.Reading.{◌>>=◌, given}
use Rattle.parquet_thrift.specs.Values.{in_struct}
use Rattle.parquet_meta.specs.ColumnIndex.{column_index, column_index_field, column_index_of, column_index_in, has_one_length, index_with}
use Rattle.parquet_meta.specs.Front.{value_in}
use Rattle.parquet_meta.specs.Meaning.{Rule, by_rule, struct_of, with_rest}
use Rattle.parquet_meta.specs.declared.column_index.ColumnIndex.{ColumnIndex}
use Rattle.parquet_meta.specs.declared.column_index.ColumnIndexFields.{ColumnIndexFields}
use Rattle.parquet_meta.proofs.Steps.{by_rule_made}

given_even : (b : Bool) (made index : ColumnIndex) → has_one_length made ≡ b → given b made ≡ Some index → has_one_length index ≡ true
given_even true made index even e = let same : made ≡ index = cc in sym (ap has_one_length same) ∙ even
given_even false made index even e = cc

made_even : (s : ColumnIndexFields) (index : ColumnIndex) → column_index_of s ≡ Some index → has_one_length index ≡ true
unfolding column_index_of
made_even s index e = nulls s.null_pages e
  where
    highs : (ns : List Bool) (ls : List (List ℕ)) (o : Option (List (List ℕ))) → (o >>= λ hs. given (has_one_length (index_with ns ls hs s.null_counts)) (index_with ns ls hs s.null_counts)) ≡ Some index → has_one_length index ≡ true
    highs ns ls None h = cc
    highs ns ls (Some hs) h = given_even (has_one_length (index_with ns ls hs s.null_counts)) (index_with ns ls hs s.null_counts) index refl h

    lows : (ns : List Bool) (o : Option (List (List ℕ))) → (o >>= λ ls. s.max_values >>= λ hs. given (has_one_length (index_with ns ls hs s.null_counts)) (index_with ns ls hs s.null_counts)) ≡ Some index → has_one_length index ≡ true
    lows ns None h = cc
    lows ns (Some ls) h = highs ns ls s.max_values h

    nulls : (o : Option (List Bool)) → (o >>= λ ns. s.min_values >>= λ ls. s.max_values >>= λ hs. given (has_one_length (index_with ns ls hs s.null_counts)) (index_with ns ls hs s.null_counts)) ≡ Some index → has_one_length index ≡ true
    nulls None h = cc
    nulls (Some ns) h = lows ns s.min_values h

pub even_index : (bytes : List ℕ) (index : ColumnIndex) → column_index_in bytes ≡ Some index → has_one_length index ≡ true
unfolding column_index_in value_in column_index
even_index bytes index e = found (by_rule in_struct fields 12 bytes) (sym (ap (option_map (λ x. x.0)) (by_rule_made in_struct fields column_index_of 12 bytes)) ∙ e)
  where
    fields : Rule ColumnIndexFields
    fields = struct_of column_index_field (record { null_pages = None; min_values = None; max_values = None; null_counts = None })

    first : (o : Option ColumnIndex) (rest : List ℕ) → option_map (λ x. x.0) (with_rest o rest) ≡ o
    first None rest = refl
    first (Some x) rest = refl

    found : (o : Option (ColumnIndexFields × List ℕ)) → option_map (λ x. x.0) (o >>= λ x. with_rest (column_index_of x.0) x.1) ≡ Some index → has_one_length index ≡ true
    found None h = cc
    found (Some x) h = made_even x.0 index (sym (first (column_index_of x.0) x.1) ∙ h)
