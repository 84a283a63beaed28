-- Lists of lists of pages, as they are held and as they are shown.
use Rattle.std.proofs.Common.{◌≡◌, ◌∙◌, ℕ, Bool, true, false, Vec, Global, List, [], ◌∷◌, length, map, refl, sym, ap, Some}
use Rattle.std.specs.Prelude.{◌&&◌, ◌==◌, Option, option_map}
use Rattle.std.specs.List.{list_all}
use Rattle.std.proofs.lemmas.List.{length-map}
use Rattle.std.proofs.lemmas.List.Folds.{list_all-map}
use Rattle.parquet_page.specs.Lent.{are_well_shaped}
use Rattle.parquet_page.specs.declared.page.FilteredPage.{FilteredPage}
use Rattle.parquet_read.specs.Asked.{PageLists, have_one_list}

abbrev pub Own : Type 0
Own = Vec (Vec FilteredPage Global) Global

abbrev pub Lists : Type 0
Lists = Vec Own Global

abbrev pub items : Vec FilteredPage Global → List FilteredPage
items one = one.items

abbrev pub own_shown : Own → List (List FilteredPage)
own_shown own = map items own.items

abbrev pub lists_shown : Option Lists → Option PageLists
lists_shown pages = option_map (λ (all : Lists). map own_shown all.items) pages

abbrev pub own_shaped : Own → Bool
own_shaped own = list_all (λ (one : Vec FilteredPage Global). are_well_shaped one.items) own.items

pub shaped_alike : (lists : List Own) → list_all own_shaped lists ≡ list_all (list_all are_well_shaped) (map own_shown lists)
shaped_alike [] = refl
shaped_alike (own ∷ lists) =
    ap (λ (b : Bool). b && list_all own_shaped lists) (sym (list_all-map are_well_shaped items own.items))
    ∙ ap (λ (b : Bool). list_all are_well_shaped (own_shown own) && b) (shaped_alike lists)

abbrev pub own_single : Own → Bool
own_single own = length own.items == 1

pub single_alike : (lists : List Own) → list_all own_single lists ≡ list_all (λ (own : List (List FilteredPage)). length own == 1) (map own_shown lists)
single_alike [] = refl
single_alike (own ∷ lists) =
    ap (λ (n : ℕ). (n == 1) && list_all own_single lists) (sym (length-map own.items items))
    ∙ ap (λ (b : Bool). (length (own_shown own) == 1) && b) (single_alike lists)

pub one_list_each : (fields : ℕ) (lists : List Own) (many single : Bool) → many ≡ (length lists == fields) → many ≡ true → single ≡ list_all own_single lists → single ≡ have_one_list fields (Some (map own_shown lists))
one_list_each fields lists many single is so all =
    all ∙ single_alike lists
    ∙ ap (λ (b : Bool). b && list_all (λ (own : List (List FilteredPage)). length own == 1) (map own_shown lists)) (sym (ap (λ (n : ℕ). n == fields) (length-map lists own_shown) ∙ sym is ∙ so))

pub other_lists : (fields : ℕ) (lists : List Own) (many : Bool) → many ≡ (length lists == fields) → many ≡ false → many ≡ have_one_list fields (Some (map own_shown lists))
other_lists fields lists many is not =
    not ∙ ap (λ (b : Bool). b && list_all (λ (own : List (List FilteredPage)). length own == 1) (map own_shown lists)) (sym (ap (λ (n : ℕ). n == fields) (length-map lists own_shown) ∙ sym is ∙ not))
