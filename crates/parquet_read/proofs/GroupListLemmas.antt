-- Lists of pages of each group, as they are held and as they are shown.
use Rattle.std.proofs.Common.{◌≡◌, ◌∙◌, ℕ, Bool, true, false, List, Some, length, map, sym, ap}
use Rattle.std.specs.Prelude.{◌&&◌, ◌==◌}
use Rattle.std.specs.List.{list_all}
use Rattle.std.proofs.lemmas.List.{length-map}
use Rattle.std.proofs.lemmas.List.Folds.{list_all-map}
use Rattle.parquet_read.specs.Asked.{HeldLists, PageLists, have_one_list, held_lists}
use Rattle.parquet_read.specs.Groups.{have_all_lists}

abbrev one_list : ℕ → PageLists → Bool
one_list fields own = have_one_list fields (Some own)

pub all_lists_each : (groups fields : ℕ) (all : List HeldLists) (many each : Bool) → many ≡ (length all == groups) → many ≡ true → each ≡ list_all (λ (own : HeldLists). one_list fields (held_lists own)) all
    → each ≡ have_all_lists groups fields (Some (map held_lists all))
all_lists_each groups fields all many each is so ones =
    ones ∙ sym (list_all-map (one_list fields) held_lists all)
    ∙ ap (λ (b : Bool). b && list_all (one_list fields) (map held_lists all)) (sym (ap (λ (n : ℕ). n == groups) (length-map all held_lists) ∙ sym is ∙ so))

pub all_lists_not : (groups fields : ℕ) (all : List HeldLists) (many : Bool) → many ≡ (length all == groups) → many ≡ false → many ≡ have_all_lists groups fields (Some (map held_lists all))
all_lists_not groups fields all many is not =
    not ∙ ap (λ (b : Bool). b && list_all (one_list fields) (map held_lists all)) (sym (ap (λ (n : ℕ). n == groups) (length-map all held_lists) ∙ sym is ∙ not))
