-- Values that are there by a mask, one more at a time.
use Rattle.std.proofs.Common.{◌≡◌, refl, ap, ap₂, ◌∙◌, sym, ℕ, ◌+◌, ◌<◌, Bool, List, [], ◌∷◌, ◌++◌, length, map, take, get_or, arith}
use Rattle.std.specs.Prelude.{Option, Some, None, is_some, unwrap_or, if◌then◌else◌}
use Rattle.std.proofs.lemmas.List.{map_more}
use Rattle.columns_core.specs.Column.{where_set}
use Rattle.columns_core.specs.declared.cell.Cell.{Cell}
use Rattle.parquet_meta.specs.declared.metadata.PageIndex.{PageIndex}
use Rattle.parquet_indexes.specs.PageStatistics.{nulls_of_page}

pub where_set-more : {T : Type 0} (values : List T) (mask : List Bool) (value : T) (set : Bool) → length mask ≡ length values
    → where_set (values ++ value ∷ []) (mask ++ set ∷ []) ≡ where_set values mask ++ (if set then Some value else None) ∷ []
where_set-more [] [] value set e = refl
where_set-more [] (first ∷ mask) value set e = absurd (omega arith)
where_set-more (first ∷ values) [] value set e = absurd (omega arith)
where_set-more (first ∷ values) (is_there ∷ mask) value set e =
    ap (λ rest. (if is_there then Some first else None) ∷ rest) (where_set-more values mask value set (omega arith))

-- An item is what stands under it where it is there.
there_again : (item : Option ℕ) → (if is_some item then Some (unwrap_or item 0) else None) ≡ item
there_again None = refl
there_again (Some n) = refl

-- one more page
pub counts-more : (pages : List (PageIndex Cell)) (i : ℕ) (page : PageIndex Cell) (values more : List ℕ) (mask longer : List Bool) (count : Option ℕ) → i < length pages → page ≡ get_or pages i page
    → count ≡ nulls_of_page page → length mask ≡ length values → where_set values mask ≡ map nulls_of_page (take i pages) → more ≡ values ++ unwrap_or count 0 ∷ [] → longer ≡ mask ++ is_some count ∷ []
    → where_set more longer ≡ map nulls_of_page (take (i + 1) pages)
counts-more pages i page values more mask longer count h is told even so_far grown marked =
    ap₂ where_set grown marked
    ∙ where_set-more values mask (unwrap_or count 0) (is_some count) even
    ∙ ap₂ (λ front item. front ++ item ∷ []) so_far (there_again count ∙ told ∙ ap nulls_of_page is)
    ∙ sym (map_more nulls_of_page pages i page h)
