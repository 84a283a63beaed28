-- Decoded values behind which more are appended.
use Rattle.std.proofs.Common.{◌≡◌, ℕ, zero, suc, ◌+◌, ◌-◌, ◌≤◌, Bool, true, false, List, [], ◌∷◌, ◌++◌, length, map, take, drop, replicate, refl, sym, ap, ap₂, ◌∙◌, inl, inr, arith, append-nil}
use Rattle.std.specs.Prelude.{Some, None, if◌then◌else◌}
use Rattle.std.proofs.lemmas.List.{drop-map, length-append, length-drop, length-map, length-replicate, length-take-le, map-append, take-map, take_at}
use Rattle.std.proofs.lemmas.Simd.{map-map}
use Rattle.columns_core.specs.Column.{cell_of, masked, where_set}
use Rattle.columns_core.specs.declared.cell.Cell.{Cell, Null}
use Rattle.parquet_page.specs.Levels.{present_count}
use Rattle.parquet_page.specs.Plan.{Step, along, plan, plan_from}
use Rattle.parquet_page.proofs.SpelledLemmas.{absent_same, present_suc}
use Rattle.page_decoding.specs.FilteredLeft.{stored_values}
use Rattle.page_decoding.specs.Outcome.{Outcome, Given}
use Rattle.flat_values.specs.Added.{Adds}
use Rattle.flat_values.specs.Decoded.{IsMaskFor, found_mask, marked, marked_cells, spread_over, with_nulls, with_places, with_values}
use Rattle.flat_values.specs.FlatLeft.{given_along}
use Rattle.flat_values.proofs.SpreadLemmas.{length-spread}
use Rattle.flat_values.proofs.WordLemmas.{cells-along}

module _ {T : Type 0} (cell : T → Cell) where
  pub length-marked : (values : List T) (mask : List Bool) → length (marked_cells cell values mask) ≡ length values
  length-marked [] mask = refl
  length-marked (value ∷ values) [] = ap suc (length-marked values [])
  length-marked (value ∷ values) (set ∷ mask) = ap suc (length-marked values mask)

  pub unmasked : (values : List T) → marked_cells cell values [] ≡ map cell values
  unmasked [] = refl
  unmasked (value ∷ values) = ap (λ cells. cell value ∷ cells) (unmasked values)

  all_there : (values : List T) → marked_cells cell values (replicate (length values) true) ≡ map cell values
  all_there [] = refl
  all_there (value ∷ values) = ap (λ cells. cell value ∷ cells) (all_there values)

  all_null : (values : List T) → marked_cells cell values (replicate (length values) false) ≡ replicate (length values) Null
  all_null [] = refl
  all_null (value ∷ values) = ap (λ cells. Null ∷ cells) (all_null values)

  both : (values more : List T) (mask marks : List Bool) → length mask ≡ length values → marked_cells cell (values ++ more) (mask ++ marks) ≡ marked_cells cell values mask ++ marked_cells cell more marks
  both [] more [] marks e = refl
  both [] more (set ∷ mask) marks e = absurd (omega (arith, e))
  both (value ∷ values) more [] marks e = absurd (omega (arith, e))
  both (value ∷ values) more (true ∷ mask) marks e = ap (λ cells. cell value ∷ cells) (both values more mask marks (omega (arith, e)))
  both (value ∷ values) more (false ∷ mask) marks e = ap (λ cells. Null ∷ cells) (both values more mask marks (omega (arith, e)))

  no_mask : (values more : List T) → marked_cells cell (values ++ more) [] ≡ marked_cells cell values [] ++ map cell more
  no_mask values more = unmasked (values ++ more) ∙ map-append cell values more ∙ ap (λ cells. cells ++ map cell more) (sym (unmasked values))

  masked_with_values : (values more : List T) (mask : List Bool) → length mask ≡ length values → marked_cells cell (values ++ more) (mask ++ replicate (length more) true) ≡ marked_cells cell values mask ++ map cell more
  masked_with_values values more mask long = both values more mask (replicate (length more) true) long ∙ ap (λ cells. marked_cells cell values mask ++ cells) (all_there more)

  masked_with_nulls : (values more : List T) (mask : List Bool) → length mask ≡ length values → marked_cells cell (values ++ more) (mask ++ replicate (length more) false) ≡ marked_cells cell values mask ++ replicate (length more) Null
  masked_with_nulls values more mask long = both values more mask (replicate (length more) false) long ∙ ap (λ cells. marked_cells cell values mask ++ cells) (all_null more)

  -- more values
  pub cells-with_values : (values more : List T) (mask : List Bool) → IsMaskFor values mask → marked_cells cell (values ++ more) (with_values (length more) mask) ≡ marked_cells cell values mask ++ map cell more
  cells-with_values values more [] is = no_mask values more
  cells-with_values values more (set ∷ mask) (inl none) = cc
  cells-with_values values more (set ∷ mask) (inr long) = masked_with_values values more (set ∷ mask) long

  -- more nulls
  pub cells-with_nulls : (values more : List T) (mask : List Bool) (count : ℕ) → length more ≡ count → IsMaskFor values mask
      → marked_cells cell (values ++ more) (with_nulls (length values) count mask) ≡ marked_cells cell values mask ++ replicate count Null
  cells-with_nulls values [] mask zero e is = ap (λ all. marked_cells cell all mask) (append-nil values) ∙ sym (append-nil (marked_cells cell values mask))
  cells-with_nulls values (x ∷ more) mask zero e is = absurd (omega (arith, e))
  cells-with_nulls values [] mask (suc count) e is = absurd (omega (arith, e))
  cells-with_nulls values (x ∷ more) [] (suc count) e is =
      let same : length more ≡ count = omega (arith, e) in
      ap (λ n. marked_cells cell (values ++ x ∷ more) (replicate (length values) true ++ replicate (suc n) false)) (sym same)
      ∙ masked_with_nulls values (x ∷ more) (replicate (length values) true) (length-replicate (length values) true)
      ∙ ap (λ cells. cells ++ replicate (suc (length more)) Null) (all_there values ∙ sym (unmasked values))
      ∙ ap (λ n. marked_cells cell values [] ++ replicate (suc n) Null) same
  cells-with_nulls values (x ∷ more) (set ∷ mask) (suc count) e (inl none) = cc
  cells-with_nulls values (x ∷ more) (set ∷ mask) (suc count) e (inr long) =
      let same : length more ≡ count = omega (arith, e) in
      ap (λ n. marked_cells cell (values ++ x ∷ more) ((set ∷ mask) ++ replicate (suc n) false)) (sym same)
      ∙ masked_with_nulls values (x ∷ more) (set ∷ mask) long
      ∙ ap (λ n. marked_cells cell values (set ∷ mask) ++ replicate (suc n) Null) same

  -- values of the places that have one, and nulls
  spread-cells : (null : T) (row : ℕ) (places : List Bool) (values : List T) → present_count places ≤ length values → marked_cells cell (spread_over null places values) places ≡ map (cell_of cell) (along (plan_from None row places) values)
  spread-cells null row [] values enough = refl
  spread-cells null row (false ∷ places) values enough = ap (λ cells. Null ∷ cells) (spread-cells null (row + 1) places values (omega (arith, enough, absent_same places)))
  spread-cells null row (true ∷ places) [] enough = absurd (omega (arith, enough, present_suc places))
  spread-cells null row (true ∷ places) (value ∷ values) enough = ap (λ cells. cell value ∷ cells) (spread-cells null (row + 1) places values (omega (arith, enough, present_suc places)))

  both-places : (values more : List T) (mask places : List Bool) → IsMaskFor values mask → marked_cells cell (values ++ more) (with_places (length values) places mask) ≡ marked_cells cell values mask ++ marked_cells cell more places
  both-places values more [] places is = both values more (replicate (length values) true) places (length-replicate (length values) true) ∙ ap (λ cells. cells ++ marked_cells cell more places) (all_there values ∙ sym (unmasked values))
  both-places values more (set ∷ mask) places (inl none) = cc
  both-places values more (set ∷ mask) places (inr long) = both values more (set ∷ mask) places long

  -- values that are spread over places
  pub cells-with_places : (null : T) (values stored new : List T) (mask places marks : List Bool) (held : ℕ) → held ≡ length values → present_count places ≤ length stored → IsMaskFor values mask → new ≡ values ++ spread_over null places stored → marks ≡ with_places held places mask
      → marked_cells cell new marks ≡ marked_cells cell values mask ++ map (cell_of cell) (along (plan None places) stored)
  cells-with_places null values stored new mask places marks held counted enough is all marked =
      ap₂ (marked_cells cell) all (marked ∙ ap (λ n. with_places n places mask) counted) ∙ both-places values (spread_over null places stored) mask places is
      ∙ ap (λ cells. marked_cells cell values mask ++ cells) (spread-cells null 0 places stored enough)

  -- what stands behind values, as outcomes
  pub given-with_values : (values more new : List T) (mask marks : List Bool) (count : ℕ) → IsMaskFor values mask → new ≡ values ++ more → count ≡ length more → marks ≡ with_values count mask
      → map Given (marked_cells cell new marks) ≡ map Given (marked_cells cell values mask) ++ map (λ value. Given (cell value)) more
  given-with_values values more new mask marks count is all long marked =
      ap (map Given) (ap₂ (marked_cells cell) all (marked ∙ ap (λ n. with_values n mask) long) ∙ cells-with_values values more mask is)
      ∙ map-append Given (marked_cells cell values mask) (map cell more) ∙ ap (λ own. map Given (marked_cells cell values mask) ++ own) (map-map Given cell more)

-- cells behind others, if outcomes are
cells_behind : (old new : List Cell) (outcomes : List Outcome) → map Given new ≡ map Given old ++ outcomes → (new ≡ old ++ drop (length old) new) × (map Given (drop (length old) new) ≡ outcomes)
cells_behind [] new outcomes e = (refl, e)
cells_behind (cell ∷ old) [] outcomes e = cc
cells_behind (cell ∷ old) (other ∷ new) outcomes e =
    let same : other ≡ cell = cc in
    let rest : map Given new ≡ map Given old ++ outcomes = cc in
    let h = cells_behind old new outcomes rest in
    (ap₂ (λ first cells. first ∷ cells) same h.0, h.1)

marked_cells-map : {T : Type 0} (cell : T → Cell) (values : List T) (mask : List Bool) → marked_cells cell values mask ≡ marked_cells (λ c. c) (map cell values) mask
marked_cells-map cell [] mask = refl
marked_cells-map cell (value ∷ values) [] = ap (λ cells. cell value ∷ cells) (marked_cells-map cell values [])
marked_cells-map cell (value ∷ values) (true ∷ mask) = ap (λ cells. cell value ∷ cells) (marked_cells-map cell values mask)
marked_cells-map cell (value ∷ values) (false ∷ mask) = ap (λ cells. Null ∷ cells) (marked_cells-map cell values mask)

mask-long : {A B : Type 0} (values : List A) (others : List B) (mask : List Bool) → length others ≡ length values → IsMaskFor values mask → IsMaskFor others mask
mask-long values others mask e (inl none) = inl none
mask-long values others mask e (inr long) = inr (long ∙ sym e)

-- what is added to values, as outcomes
pub given-with_added : {T : Type 0} (cell : T → Cell) (values new : List T) (mask marks : List Bool) (outcomes : List Outcome) → IsMaskFor values mask → Adds cell values new outcomes → marks ≡ with_values (length new - length values) mask
    → map Given (marked_cells cell new marks) ≡ map Given (marked_cells cell values mask) ++ outcomes
given-with_added cell values new mask marks outcomes is added marked =
    let old = map cell values in
    let all = map cell new in
    let more = cells_behind old all outcomes (map-map Given cell new ∙ added ∙ ap (λ front. front ++ outcomes) (sym (map-map Given cell values))) in
    let count : length new - length values ≡ length (drop (length old) all) = omega (arith, length-map new cell, length-map values cell, length-drop (length old) all) in
    ap (map Given) (marked_cells-map cell new marks)
    ∙ given-with_values (λ c. c) old (drop (length old) all) all mask marks (length new - length values) (mask-long values old mask (length-map values cell) is) more.0 count marked
    ∙ ap₂ (λ front behind. front ++ behind) (ap (map Given) (sym (marked_cells-map cell values mask))) more.1

-- the values of places behind those that were there, as outcomes
pub record AddedCells {T : Type 0} (cell : T → Cell) (old mid : List T) (mask : List Bool) (outcomes : List Outcome) (held : ℕ) : Type 0 where
  pub front : marked_cells cell (take held mid) mask ≡ marked_cells cell old mask
  pub behind : map (λ value. Given (cell value)) (drop held mid) ≡ outcomes
  pub many : length mid ≡ held + length outcomes
  pub own : IsMaskFor (take held mid) mask

pub added-cells : {T : Type 0} (cell : T → Cell) (old mid : List T) (mask : List Bool) (outcomes : List Outcome) (held : ℕ) → held ≡ length old → IsMaskFor old mask → Adds cell old mid outcomes → AddedCells cell old mid mask outcomes held
added-cells {T} cell old mid mask outcomes held counted is added =
    let given : T → Outcome = λ value. Given (cell value) in
    let more = cells_behind (map cell old) (map cell mid) outcomes (map-map Given cell mid ∙ added ∙ ap (λ front. front ++ outcomes) (sym (map-map Given cell old))) in
    let cells : held ≡ length (map cell old) = counted ∙ sym (length-map old cell) in
    let all : length mid ≡ held + length outcomes = omega (arith, ap length added, length-map mid given, length-append (map given old) outcomes, length-map old given, counted) in
    let front : map cell (take held mid) ≡ map cell old = sym (take-map cell held mid) ∙ ap (take held) more.0 ∙ take_at (map cell old) (drop (length (map cell old)) (map cell mid)) held (sym cells) in
    record {
      front = marked_cells-map cell (take held mid) mask ∙ ap (λ xs. marked_cells (λ c. c) xs mask) front ∙ sym (marked_cells-map cell old mask);
      behind = sym (map-map Given cell (drop held mid)) ∙ ap (map Given) (sym (drop-map cell held mid) ∙ ap (λ n. drop n (map cell mid)) cells) ∙ more.1;
      many = all;
      own = mask-long old (take held mid) mask (length-take-le held mid (omega (arith, all)) ∙ counted) is;
    }

pub given-with_places : {T : Type 0} (cell : T → Cell) (old mid new : List T) (mask marks : List Bool) (steps : List Step) (outcomes : List Outcome) (held count : ℕ) → AddedCells cell old mid mask (take count outcomes) held → stored_values steps ≤ count
    → marked_cells cell new marks ≡ marked_cells cell (take held mid) mask ++ map (cell_of cell) (along steps (drop held mid)) → map Given (marked_cells cell new marks) ≡ map Given (marked_cells cell old mask) ++ given_along steps outcomes
given-with_places cell old mid new mask marks steps outcomes held count added few is =
    ap (map Given) is ∙ map-append Given (marked_cells cell (take held mid) mask) (map (cell_of cell) (along steps (drop held mid)))
    ∙ ap₂ (λ front behind. front ++ behind) (ap (map Given) added.front) (cells-along cell steps (drop held mid) outcomes count few added.behind)

-- values as an array keeps them
where_set-marked : {T : Type 0} (values : List T) (mask : List Bool) → length mask ≡ length values → where_set values mask ≡ marked values mask
where_set-marked [] mask e = refl
where_set-marked (value ∷ values) [] e = absurd (omega (arith, e))
where_set-marked (value ∷ values) (set ∷ mask) e = ap (λ items. (if set then Some value else None) ∷ items) (where_set-marked values mask (omega (arith, e)))

all_some : {T : Type 0} (values : List T) → map Some values ≡ marked values []
all_some [] = refl
all_some (value ∷ values) = ap (λ items. Some value ∷ items) (all_some values)

pub array_items : {T : Type 0} (values : List T) (mask : List Bool) → IsMaskFor values mask → masked values (found_mask mask) ≡ marked values mask
array_items values [] is = all_some values
array_items values (set ∷ mask) (inl none) = cc
array_items values (set ∷ mask) (inr long) = where_set-marked values (set ∷ mask) long

-- ---- the mask goes on

pub mask-with_places : {T : Type 0} (null : T) (values stored new : List T) (mask places marks : List Bool) (held : ℕ) → held ≡ length values → IsMaskFor values mask → new ≡ values ++ spread_over null places stored → marks ≡ with_places held places mask → IsMaskFor new marks
mask-with_places null values stored new [] places marks held counted is all marked =
    inr (ap length marked ∙ length-append (replicate held true) places ∙ omega (arith, length-replicate held true, counted, length-spread null places stored, length-append values (spread_over null places stored), ap length all))
mask-with_places null values stored new (set ∷ mask) places marks held counted (inl none) all marked = cc
mask-with_places null values stored new (set ∷ mask) places marks held counted (inr long) all marked =
    inr (ap length marked ∙ length-append (set ∷ mask) places ∙ omega (arith, long, counted, length-spread null places stored, length-append values (spread_over null places stored), ap length all))

pub mask-added : {T : Type 0} (cell : T → Cell) (old new : List T) (mask marks : List Bool) (outcomes : List Outcome) → IsMaskFor old mask → Adds cell old new outcomes → marks ≡ with_values (length new - length old) mask → IsMaskFor new marks
mask-added cell old new [] marks outcomes is added marked = inl marked
mask-added cell old new (set ∷ mask) marks outcomes (inl none) added marked = cc
mask-added {T} cell old new (set ∷ mask) marks outcomes (inr long) added marked =
    let given : T → Outcome = λ value. Given (cell value) in
    let all : length (map given new) ≡ length (map given old ++ outcomes) = ap length added in
    inr (ap length marked ∙ length-append (set ∷ mask) (replicate (length new - length old) true)
    ∙ omega (arith, long, length-replicate (length new - length old) true, all, length-map new given, length-map old given, length-append (map given old) outcomes))
