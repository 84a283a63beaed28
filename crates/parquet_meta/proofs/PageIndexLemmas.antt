-- Typed ends, a page at a time.
use Rattle.std.proofs.Common.{◌≡◌, ℕ, ◌+◌, ◌<◌, ◌≤◌, ℤ, pos, Bool, true, false, List, [], ◌∷◌, ◌++◌, Option, Some, None, refl, sym, ap, ◌∙◌, arith, length, drop, get_or, option_map, nat_eq, ◌&&◌}
use Rattle.std.proofs.lemmas.Bool.{and_parts, eqb-true}
use Rattle.std.proofs.lemmas.List.{append-nil, drop_all, drop_more}
use Rattle.std.proofs.lemmas.Option.{get_or_from_slice_get}
use Rattle.std.specs.Prelude.{IfSome, slice_get}
use Rattle.std.specs.Option.{option_map_or}
use Rattle.parquet_meta.specs.ColumnIndex.{has_one_length}
use Rattle.parquet_meta.specs.PageIndexes.{count_at, page_index, pages, page_indexes}
use Rattle.parquet_meta.specs.declared.column_index.ColumnIndex.{ColumnIndex}
use Rattle.parquet_meta.specs.declared.metadata.PageIndex.{PageIndex}
use Rattle.parquet_meta.proofs.ListLemmas.{before, one_and, before_none, pushed, item_and_others}

-- the pages from one on
abbrev pub pages_from : {A : Type 0} → (List ℕ → Option A) → ColumnIndex → ℕ → Option (List (PageIndex A))
pages_from end index page = pages end (drop page index.null_pages) (drop page index.min_values) (drop page index.max_values) (option_map (λ ns. drop page ns) index.null_counts)

-- the pages so far, and those that are left, are all of them
pub record IsTyping {A : Type 0} (end : List ℕ → Option A) (index : ColumnIndex) (page : ℕ) (items : List (PageIndex A)) : Type 0 where
  pub even : has_one_length index ≡ true
  pub same : before items (pages_from end index page) ≡ page_indexes end index

all_counts : (counts : Option (List ℤ)) → option_map (λ ns. drop 0 ns) counts ≡ counts
all_counts None = refl
all_counts (Some ns) = refl

pub begins : {A : Type 0} (end : List ℕ → Option A) (index : ColumnIndex) → has_one_length index ≡ true → IsTyping end index 0 []
unfolding page_indexes
begins {A = A} end index even = record {
  even = even;
  same = before_none (pages_from end index 0) ∙ ap (λ (ns : Option (List ℤ)). pages end index.null_pages index.min_values index.max_values ns) (all_counts index.null_counts);
}

-- what the lists hold from a page on
pub record StartsWith (index : ColumnIndex) (page : ℕ) (is_null : Bool) (low high : List ℕ) : Type 0 where
  pub null_pages : drop page index.null_pages ≡ is_null ∷ drop (page + 1) index.null_pages
  pub min_values : drop page index.min_values ≡ low ∷ drop (page + 1) index.min_values
  pub max_values : drop page index.max_values ≡ high ∷ drop (page + 1) index.max_values
  pub counted : IfSome index.null_counts (λ counts. page < length counts)

pages-next : {A : Type 0} (end : List ℕ → Option A) (is_null : Bool) (low high : List ℕ) (others : List Bool) (lows highs : List (List ℕ)) (counts : Option (List ℤ)) (page : ℕ) →
    IfSome counts (λ ns. page < length ns) →
    pages end (is_null ∷ others) (low ∷ lows) (high ∷ highs) (option_map (λ ns. drop page ns) counts)
    ≡ one_and (page_index end is_null low high (count_at counts page)) (pages end others lows highs (option_map (λ ns. drop (page + 1) ns) counts))
unfolding pages
pages-next end is_null low high others lows highs None page counted = refl
pages-next end is_null low high others lows highs (Some ns) page counted = rw (drop_more ns page (pos 0) counted) refl

pages_from-next : {A : Type 0} (end : List ℕ → Option A) (index : ColumnIndex) (page : ℕ) (is_null : Bool) (low high : List ℕ) → StartsWith index page is_null low high →
    pages_from end index page ≡ one_and (page_index end is_null low high (count_at index.null_counts page)) (pages_from end index (page + 1))
pages_from-next end index page is_null low high starts =
    rw (starts.null_pages, starts.min_values, starts.max_values)
    (pages-next end is_null low high (drop (page + 1) index.null_pages) (drop (page + 1) index.min_values) (drop (page + 1) index.max_values) index.null_counts page starts.counted)

pub goes_on : {A : Type 0} (end : List ℕ → Option A) (index : ColumnIndex) (page : ℕ) (items : List (PageIndex A)) (is_null : Bool) (low high : List ℕ) (x : PageIndex A) →
    IsTyping end index page items → StartsWith index page is_null low high → page_index end is_null low high (count_at index.null_counts page) ≡ Some x → IsTyping end index (page + 1) (items ++ x ∷ [])
goes_on {A = A} end index page items is_null low high x typing starts one = record {
  even = typing.even;
  same = sym (pushed items x (pages_from end index (page + 1)))
      ∙ ap (λ (o : Option (PageIndex A)). before items (one_and o (pages_from end index (page + 1)))) (sym one)
      ∙ ap (before items) (sym (pages_from-next end index page is_null low high starts)) ∙ typing.same;
}

pub fails : {A : Type 0} (end : List ℕ → Option A) (index : ColumnIndex) (page : ℕ) (items : List (PageIndex A)) (is_null : Bool) (low high : List ℕ) →
    IsTyping end index page items → StartsWith index page is_null low high → page_index end is_null low high (count_at index.null_counts page) ≡ None → page_indexes end index ≡ None
fails {A = A} end index page items is_null low high typing starts none =
    sym typing.same ∙ ap (before items) (pages_from-next end index page is_null low high starts)
    ∙ ap (λ (o : Option (PageIndex A)). before items (one_and o (pages_from end index (page + 1)))) none

-- the lists are as long as that of the null pages
pub record HasLengths (index : ColumnIndex) : Type 0 where
  pub min_values : length index.min_values ≡ length index.null_pages
  pub max_values : length index.max_values ≡ length index.null_pages
  pub null_counts : IfSome index.null_counts (λ counts. length counts ≡ length index.null_pages)

has_lengths : (index : ColumnIndex) → has_one_length index ≡ true → HasLengths index
has_lengths index even =
    let parts = and_parts (nat_eq (length index.min_values) (length index.null_pages) && nat_eq (length index.max_values) (length index.null_pages)) _ even in
    let ends = and_parts (nat_eq (length index.min_values) (length index.null_pages)) (nat_eq (length index.max_values) (length index.null_pages)) parts.0 in
    record { min_values = eqb-true _ _ ends.0; max_values = eqb-true _ _ ends.1; null_counts = counted index.null_counts parts.1 }
  where
    counted : (o : Option (List ℤ)) → option_map_or (λ ns. nat_eq (length ns) (length index.null_pages)) o true ≡ true → IfSome o (λ counts. length counts ≡ length index.null_pages)
    counted None e = tt
    counted (Some ns) e = eqb-true (length ns) (length index.null_pages) e

no_pages : {A : Type 0} (end : List ℕ → Option A) (counts : Option (List ℤ)) (page : ℕ) → IfSome counts (λ ns. length ns ≤ page) → pages end [] [] [] (option_map (λ ns. drop page ns) counts) ≡ Some []
unfolding pages
no_pages end None page few = refl
no_pages end (Some ns) page few = rw (drop_all page ns few) refl

pub ends : {A : Type 0} (end : List ℕ → Option A) (index : ColumnIndex) (page : ℕ) (items : List (PageIndex A)) → IsTyping end index page items → length index.null_pages ≤ page →
    page_indexes end index ≡ Some items
ends {A = A} end index page items typing le =
    let long = has_lengths index typing.even in
    let none_left : pages_from end index page ≡ Some [] =
    rw (drop_all page index.null_pages le, drop_all page index.min_values (omega (arith, le, long.min_values)), drop_all page index.max_values (omega (arith, le, long.max_values)))
    (no_pages end index.null_counts page (few index.null_counts long.null_counts)) in
    sym typing.same ∙ ap (before items) none_left ∙ ap (λ (l : List (PageIndex A)). Some l) (append-nil items)
  where
    few : (o : Option (List ℤ)) → IfSome o (λ counts. length counts ≡ length index.null_pages) → IfSome o (λ ns. length ns ≤ page)
    few None h = tt
    few (Some ns) h = omega (arith, h, le)

-- a page that the lists have an entry for
pub starts : (index : ColumnIndex) (page : ℕ) (low high : List ℕ) → has_one_length index ≡ true → page < length index.null_pages →
    slice_get index.min_values page ≡ Some low → slice_get index.max_values page ≡ Some high → StartsWith index page (get_or index.null_pages page false) low high
starts index page low high even lt l h =
    let long = has_lengths index even in
    record {
      null_pages = drop_more index.null_pages page false lt;
      min_values = there index.min_values low (omega (arith, lt, long.min_values)) l;
      max_values = there index.max_values high (omega (arith, lt, long.max_values)) h;
      counted = counted index.null_counts long.null_counts;
    }
  where
    there : (ends : List (List ℕ)) (end : List ℕ) → page < length ends → slice_get ends page ≡ Some end → drop page ends ≡ end ∷ drop (page + 1) ends
    there ends end within is = item_and_others ends page end within (sym (get_or_from_slice_get ends page end end is))

    counted : (o : Option (List ℤ)) → IfSome o (λ counts. length counts ≡ length index.null_pages) → IfSome o (λ counts. page < length counts)
    counted None e = tt
    counted (Some ns) e = omega (arith, e, lt)
