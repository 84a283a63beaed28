-- Pages that lose their selected rows behind a limit, one by one.
use Rattle.std.proofs.Common.{◌≡◌, ◌∙◌, ℕ, ◌+◌, ◌-◌, ◌≤◌, ◌<◌, Bool, List, [], ◌∷◌, ◌++◌, length, take, drop, set, get_or, sym, ap, arith, append_assoc}
use Rattle.std.specs.Prelude.{◌==◌, if◌then◌else◌}
use Rattle.std.proofs.lemmas.List.{append-nil, drop-set-lt, drop_all, length-set, take_all, take_more_set}
use Rattle.parquet_base.specs.Intervals.{row_count}
use Rattle.parquet_meta.proofs.ListLemmas.{item_and_others}
use Rattle.parquet_page.specs.declared.page.FilteredPage.{FilteredPage}
use Rattle.parquet_read.specs.Asked.{pages_up_to}

-- the pages so far are cut, and those behind them are as they were
pub record IsCutting (limit : ℕ) (all : List FilteredPage) (i : ℕ) (pages : List FilteredPage) (left : ℕ) : Type 0 where
  pub same : pages_up_to limit all ≡ take i pages ++ pages_up_to left (drop i pages)
  pub long : length pages ≡ length all

abbrev cut_if : Bool → FilteredPage → FilteredPage
cut_if b entry = if b then record entry { selected_rows = [] } else entry

pub cutting_goes_on : (limit : ℕ) (all : List FilteredPage) (i : ℕ) (pages : List FilteredPage) (left left_now : ℕ) (page new : FilteredPage) → IsCutting limit all i pages left → i < length pages
    → page ≡ get_or pages i page → new ≡ cut_if (left == 0) page → left_now ≡ left - row_count page.selected_rows → IsCutting limit all (i + 1) (set pages i new) left_now
cutting_goes_on limit all i pages left left_now page new cutting below at is is_left =
    let others = item_and_others pages i page below at in
    let kept : drop (i + 1) (set pages i new) ≡ drop (i + 1) pages = drop-set-lt (i + 1) pages i new (omega arith) in
    record {
      same = cutting.same ∙ ap (λ (l : List FilteredPage). take i pages ++ pages_up_to left l) others
          ∙ ap (λ (p : FilteredPage). take i pages ++ (p ∷ pages_up_to (left - row_count page.selected_rows) (drop (i + 1) pages))) (sym is)
          ∙ ap (λ (n : ℕ). take i pages ++ (new ∷ pages_up_to n (drop (i + 1) pages))) (sym is_left)
          ∙ sym (append_assoc (take i pages) (new ∷ []) (pages_up_to left_now (drop (i + 1) pages)))
          ∙ ap (λ (l : List FilteredPage). l ++ pages_up_to left_now (drop (i + 1) pages)) (sym (take_more_set pages i new below))
          ∙ ap (λ (l : List FilteredPage). take (i + 1) (set pages i new) ++ pages_up_to left_now l) (sym kept);
      long = length-set pages i new ∙ cutting.long;
    }

-- the same where the page is read by its place
pub cutting_next : (limit : ℕ) (all : List FilteredPage) (i : ℕ) (pages : List FilteredPage) (left left_now : ℕ) (page new : FilteredPage) → IsCutting limit all i pages left → i < length all
    → page ≡ get_or pages i page → new ≡ cut_if (left == 0) (get_or pages i page) → left_now ≡ left - row_count (get_or pages i page).selected_rows → IsCutting limit all (i + 1) (set pages i new) left_now
cutting_next limit all i pages left left_now page new cutting below at is is_left =
    cutting_goes_on limit all i pages left left_now page new cutting (omega (arith, below, cutting.long)) at
    (is ∙ ap (cut_if (left == 0)) (sym at)) (is_left ∙ ap (λ (p : FilteredPage). left - row_count p.selected_rows) (sym at))

pub cutting_ends : (limit : ℕ) (all : List FilteredPage) (i : ℕ) (pages : List FilteredPage) (left : ℕ) → length pages ≤ i → IsCutting limit all i pages left → pages ≡ pages_up_to limit all
cutting_ends limit all i pages left end cutting =
    sym (cutting.same ∙ ap (λ (l : List FilteredPage). l ++ pages_up_to left (drop i pages)) (take_all i pages end)
    ∙ ap (λ (l : List FilteredPage). pages ++ pages_up_to left l) (drop_all i pages end) ∙ append-nil pages)
