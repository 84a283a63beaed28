-- Statistics with ends and without, and the encodings of a column.
use Rattle.std.proofs.Common.{◌≡◌, ℕ, pos, List, [], ◌∷◌, ◌++◌, Some, None, refl, ap, append_assoc, append-nil}
use Rattle.compact_write.specs.Written.{binary_bytes, count_field_bytes, field_header_bytes, i64_kind, signed_bytes, value_bytes, element_bytes, elements_bytes, fields_bytes}
use Rattle.parquet_meta.specs.declared.metadata.Repetition.{Repetition}
use Rattle.parquet_meta.specs.declared.metadata.Repetition.TheVariants.{Required, Optional, Repeated}
use Rattle.parquet_plain.specs.Description.{statistics_from}
use Rattle.parquet_plain.specs.Structs.{encodings_of, statistics_fields}
use Rattle.parquet_plain.specs.declared.ends.Ends.{Ends}

pub statistics-none : (nulls : ℕ) → fields_bytes 0 (statistics_fields (statistics_from nulls None)) ≡ count_field_bytes 0 3 i64_kind nulls ++ 0 ∷ []
unfolding value_bytes fields_bytes
statistics-none nulls = simp append_assoc

pub statistics-some : (nulls : ℕ) (ends : Ends) → fields_bytes 0 (statistics_fields (statistics_from nulls (Some ends)))
    ≡ count_field_bytes 0 3 i64_kind nulls ++ (field_header_bytes 3 5 8 ++ (binary_bytes ends.greatest ++ (field_header_bytes 5 6 8 ++ (binary_bytes ends.least ++ 0 ∷ []))))
unfolding value_bytes fields_bytes
statistics-some nulls ends = simp append_assoc

pub one-encoding : elements_bytes (encodings_of Required) ≡ signed_bytes (pos 0)
unfolding element_bytes elements_bytes
one-encoding = append-nil (signed_bytes (pos 0))

pub two-encodings : (r : Repetition) → (r ≡ Required → ⊥) → elements_bytes (encodings_of r) ≡ signed_bytes (pos 0) ++ signed_bytes (pos 3)
unfolding element_bytes elements_bytes
two-encodings Required other = absurd (other refl)
two-encodings Optional other = ap (λ (bs : List ℕ). signed_bytes (pos 0) ++ bs) (append-nil (signed_bytes (pos 3)))
two-encodings Repeated other = ap (λ (bs : List ℕ). signed_bytes (pos 0) ++ bs) (append-nil (signed_bytes (pos 3)))
