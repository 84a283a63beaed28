-- Structs, a call at a time: what is written and what is left are the whole.
use Rattle.std.proofs.Common.{◌≡◌, ℕ, pos, List, [], ◌∷◌, ◌++◌, refl, ap, sym, ◌∙◌, append_assoc}
use Rattle.parquet_thrift.specs.Values.{struct, Values, Fields, no_fields}
use Rattle.compact_write.specs.Fields.{i32_field, i64_field, list_field, struct_field}
use Rattle.compact_write.specs.Written.{count_field_bytes, element_bytes, elements_bytes, field_header_bytes, fields_bytes, i32_kind, i64_kind, list_header_bytes, list_kind, list_start_bytes, signed_bytes, struct_kind, value_bytes, value_count}

-- a part, and what is left behind it
pub part : (own rest out next whole : List ℕ) → out ++ (own ++ rest) ≡ whole → next ≡ out ++ own → next ++ rest ≡ whole
part own rest out next whole left one = ap (λ (bs : List ℕ). bs ++ rest) one ∙ append_assoc out own rest ∙ left

pub small : (previous id n m : ℕ) (more : Fields) (out next whole : List ℕ) → m ≡ n → out ++ fields_bytes previous (i32_field id (pos n) more) ≡ whole → next ≡ out ++ count_field_bytes previous id i32_kind m →
    next ++ fields_bytes id more ≡ whole
unfolding value_bytes fields_bytes
small previous id n m more out next whole e left one =
    part (count_field_bytes previous id i32_kind n) (fields_bytes id more) out next whole
    (ap (λ (bs : List ℕ). out ++ bs) (append_assoc (field_header_bytes previous id i32_kind) (signed_bytes (pos n)) (fields_bytes id more)) ∙ left)
    (one ∙ ap (λ (k : ℕ). out ++ count_field_bytes previous id i32_kind k) e)

pub large : (previous id n m : ℕ) (more : Fields) (out next whole : List ℕ) → m ≡ n → out ++ fields_bytes previous (i64_field id (pos n) more) ≡ whole → next ≡ out ++ count_field_bytes previous id i64_kind m →
    next ++ fields_bytes id more ≡ whole
unfolding value_bytes fields_bytes
large previous id n m more out next whole e left one =
    part (count_field_bytes previous id i64_kind n) (fields_bytes id more) out next whole
    (ap (λ (bs : List ℕ). out ++ bs) (append_assoc (field_header_bytes previous id i64_kind) (signed_bytes (pos n)) (fields_bytes id more)) ∙ left)
    (one ∙ ap (λ (k : ℕ). out ++ count_field_bytes previous id i64_kind k) e)

pub struct_begins : (previous id : ℕ) (own more : Fields) (out next whole : List ℕ) → out ++ fields_bytes previous (struct_field id own more) ≡ whole → next ≡ out ++ field_header_bytes previous id struct_kind →
    next ++ (fields_bytes 0 own ++ fields_bytes id more) ≡ whole
unfolding value_bytes fields_bytes
struct_begins previous id own more out next whole left one = part (field_header_bytes previous id struct_kind) (fields_bytes 0 own ++ fields_bytes id more) out next whole left one

pub list_begins : (previous id kind count : ℕ) (vs : Values) (more : Fields) (out next whole : List ℕ) → count ≡ value_count vs → out ++ fields_bytes previous (list_field id kind vs more) ≡ whole →
    next ≡ out ++ list_start_bytes previous id kind count → next ++ (elements_bytes vs ++ fields_bytes id more) ≡ whole
unfolding value_bytes fields_bytes
list_begins previous id kind count vs more out next whole e left one =
    let header : List ℕ = field_header_bytes previous id list_kind in
    let own : List ℕ = list_header_bytes kind (value_count vs) in
    part (list_start_bytes previous id kind (value_count vs)) (elements_bytes vs ++ fields_bytes id more) out next whole
    (ap (λ (bs : List ℕ). out ++ bs) (append_assoc header own (elements_bytes vs ++ fields_bytes id more) ∙ ap (λ (bs : List ℕ). header ++ bs) (sym (append_assoc own (elements_bytes vs) (fields_bytes id more)))) ∙ left)
    (one ∙ ap (λ (k : ℕ). out ++ list_start_bytes previous id kind k) e)

pub ends : (previous : ℕ) (out next whole : List ℕ) → out ++ fields_bytes previous no_fields ≡ whole → next ≡ out ++ 0 ∷ [] → next ≡ whole
unfolding fields_bytes
ends previous out next whole left one = one ∙ left

-- a struct in a list is its fields
pub struct-bytes : (fs : Fields) → fields_bytes 0 fs ≡ element_bytes (struct fs)
unfolding element_bytes
struct-bytes fs = refl
