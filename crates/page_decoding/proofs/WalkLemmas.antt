-- One call of a walk over the selected rows of a page.
use Rattle.std.proofs.Common.{◌≡◌, ℕ, zero, suc, ◌+◌, ◌-◌, ◌<◌, ◌≤◌, ◌^◌, Bool, true, false, List, [], ◌∷◌, ◌++◌, length, take, drop, Option, Some, None, refl, sym, ap, subst, ◌∙◌, inl, inr, arith, length-drop, length-append}
use Rattle.std.specs.Prelude.{◌⊎◌, if◌then◌else◌, replicate, filter, max, min, IfNone, IfSome, IsSome}
use Rattle.std.specs.List.{range_with_len}
use Rattle.std.proofs.lemmas.Bool.{cases_lt}
use Rattle.std.proofs.lemmas.List.{length-replicate}
use Rattle.std.proofs.lemmas.List.FromFn.{length-range_with_len}
use Rattle.parquet_page.specs.Content.{DataContent}
use Rattle.parquet_page.specs.Levels.{present_count}
use Rattle.parquet_page.specs.Plan.{Pass, Step, is_selected, plan, plan_from}
use Rattle.parquet_page.specs.Runs.{GivesRun, expand, run_items, run_rows}
use Rattle.parquet_base.specs.Intervals.{end, rows_of}
use Rattle.parquet_base.specs.declared.interval.Interval.{Interval}
use Rattle.parquet_page.specs.SliceLeft.{GivesSliceRows as SliceGives, IsWalkOver, first_count, first_left, rows_from, rows_left}
use Rattle.parquet_page.specs.Stretches.{BeginsOtherwise}
use Rattle.parquet_page.specs.ValidityLeft.{optional_left, step_of}
use Rattle.parquet_page.specs.ValidityParts.{GivesPart, part_length, part_rows}
use Rattle.parquet_page.specs.declared.run.Run.{Run}
use Rattle.parquet_page.specs.declared.run.Run.TheVariants.{Present, Null, Passed}
use Rattle.parquet_page.specs.declared.slice_filtered.SliceFiltered.{SliceFiltered}
use Rattle.parquet_page.specs.declared.validity_part.ValidityPart.{ValidityPart}
use Rattle.parquet_page.specs.declared.validity_part.ValidityPart.TheVariants.{Run as OfRun, Word as OfWord}
use Rattle.parquet_page.proofs.PlanLemmas.{kept_as}
use Rattle.parquet_page.proofs.ValidityLemmas.{copies-kept, plan-all}
use Rattle.page_decoding.specs.FilteredLeft.{AreGiven, EndsInterval, IsLongestOf, IsLongestPartOf, IsPageOf, IsPartOf, IsRunOf, IsWholePart, PassesOver, filtered_steps, optional_places, selected_rows}
use Rattle.page_decoding.specs.declared.filtered_validity.FilteredOptionalPageValidity.{FilteredOptionalPageValidity}
use Rattle.page_decoding.proofs.FilteredLemmas.{begins, behind-gap, is_range, keeps-rows, none-selected, not-passed, other-step, passes-rows}

-- what a call gives, and what it leaves
pub record Goes (limit : ℕ) (page : DataContent) (old new : FilteredOptionalPageValidity) (result : Option Run) : Type 0 where
  pub run : GivesRun limit (filtered_steps old page) (filtered_steps new page) result
  pub longest : IsLongestOf limit old page result (filtered_steps new page)
  pub is_page : IsPageOf new page

-- ---- rows that are passed over

-- what passing over rows leaves
pub record Leaves (page : DataContent) (rows : ℕ) (old new : FilteredOptionalPageValidity) : Type 0 where
  pub levels : IsSome (optional_left new.places page)
  pub left : optional_places new.places page ≡ drop rows (optional_places old.places page)
  pub row : new.row ≡ old.row + rows
  pub same_rows : new.rows ≡ old.rows
  pub place : new.place ≡ old.place

-- the walk stands behind rows that are not selected
pub record Passes (page : DataContent) (values : ℕ) (old new : FilteredOptionalPageValidity) : Type 0 where
  pub is_page : IsPageOf new page
  pub steps : filtered_steps old page ≡ replicate values Pass ++ filtered_steps new page

pub passes : (page : DataContent) (rows values : ℕ) (old new : FilteredOptionalPageValidity) → IsPageOf old page → rows ≤ length (optional_places old.places page) → ((k : ℕ) → k < rows → is_selected page.selected (old.row + k) ≡ false)
    → values ≡ present_count (take rows (optional_places old.places page)) → Leaves page rows old new → Passes page values old new
passes page rows values old new is within fails counted leaves =
    let before = optional_places old.places page in
    let behind = optional_places new.places page in
    let moved = passes-rows page.selected old.row rows values before behind within fails counted leaves.left in
    let size : length before - rows ≡ length behind = sym (ap length leaves.left ∙ length-drop rows before) in
    let W : SliceFiltered → Type 0 = λ rows. IsWalkOver rows (selected_rows page) in
    record {
      is_page = record {
        levels = leaves.levels;
        intervals = subst W (sym leaves.same_rows) is.intervals;
        place = leaves.place ∙ is.place ∙ ap (λ (rows : SliceFiltered). rows.place) (sym leaves.same_rows);
        row = omega (arith, leaves.row, moved.many, is.row);
        fits = is.fits;
        rows =
            ap (λ rows. rows_left rows (selected_rows page)) leaves.same_rows
            ∙ is.rows
            ∙ behind-gap (is_selected page.selected) old.row (length before) rows within fails
            ∙ ap (λ n. filter (is_selected page.selected) (range_with_len (old.row + rows) n)) size
            ∙ ap (λ row. filter (is_selected page.selected) (range_with_len row (length behind))) (sym leaves.row);
      };
      steps = moved.steps ∙ ap (λ row. replicate values Pass ++ plan_from page.selected row behind) (sym leaves.row);
    }

-- no selected row is left
pub ends : (limit : ℕ) (page : DataContent) (rows : ℕ) (old new : FilteredOptionalPageValidity) (result : Option Run) → IsPageOf old page → rows_left old.rows (selected_rows page) ≡ [] → rows ≡ length (optional_places old.places page) → Leaves page rows old new
    → PassesOver (present_count (take rows (optional_places old.places page))) result → Goes limit page old new result
ends limit page rows old new result is over all leaves passed =
    let before = optional_places old.places page in
    let values = present_count (take rows before) in
    let fails : (k : ℕ) → k < rows → is_selected page.selected (old.row + k) ≡ false = λ k h. none-selected (is_selected page.selected) old.row (length before) (sym is.rows ∙ over) k (omega (arith, all, h)) in
    let moved = passes page rows values old new is (omega (arith, all)) fails refl leaves in
    let nothing : length (optional_places new.places page) ≡ 0 = omega (arith, ap length leaves.left, length-drop rows before, all) in
    let none : filtered_steps new page ≡ [] = no_steps (optional_places new.places page) nothing in
    go result passed moved none where
      no_steps : (places : List Bool) → length places ≡ 0 → plan_from page.selected new.row places ≡ []
      no_steps [] e = refl
      no_steps (place ∷ places) e = absurd (omega (arith, e))

      go : (result : Option Run) → PassesOver (present_count (take rows (optional_places old.places page))) result → Passes page (present_count (take rows (optional_places old.places page))) old new → filtered_steps new page ≡ [] → Goes limit page old new result
      go None passed moved none = record {
        run = (moved.steps ∙ ap (λ n. replicate n Pass ++ filtered_steps new page) passed ∙ none, none);
        longest = tt;
        is_page = moved.is_page;
      }
      go (Some run) passed moved none =
          let P : Run → Type 0 = λ r. Goes limit page old new (Some r) in
          let B : List Step → Type 0 = λ steps. BeginsOtherwise Pass steps in
          subst P (sym passed.0) (record { run = (moved.steps, passed.1, omega arith); longest = inr (inr (subst B (sym none) tt)); is_page = moved.is_page })

-- ---- the next selected row

-- the rows before the next selected one are not selected
pub record Nears (page : DataContent) (first taken : ℕ) (old : FilteredOptionalPageValidity) : Type 0 where
  pub low : old.row ≤ first
  pub high : first < old.row + length (optional_places old.places page)
  pub fails : (k : ℕ) → k < first - old.row → is_selected page.selected (old.row + k) ≡ false
  pub passes : is_selected page.selected first ≡ true

pub nears : (page : DataContent) (first taken : ℕ) (old : FilteredOptionalPageValidity) (rest : List ℕ) → IsPageOf old page → 0 < taken → rows_left old.rows (selected_rows page) ≡ range_with_len first taken ++ rest → Nears page first taken old
nears page first zero old rest is some e = absurd (omega arith)
nears page first (suc taken) old rest is some e =
    let own = begins (is_selected page.selected) old.row (length (optional_places old.places page)) first (range_with_len (first + 1) taken ++ rest) (sym is.rows ∙ e) in
    record { low = own.low; high = own.high; fails = λ k h. own.fails k (omega (arith, own.low, h)); passes = own.passes }

-- stored values before it are passed over
pub passes-gap : (limit : ℕ) (page : DataContent) (first taken : ℕ) (old new : FilteredOptionalPageValidity) (run : Run) → IsPageOf old page → Nears page first taken old → Leaves page (first - old.row) old new
    → PassesOver (present_count (take (first - old.row) (optional_places old.places page))) (Some run) → Goes limit page old new (Some run)
passes-gap limit page first taken old new run is near leaves passed =
    let before = optional_places old.places page in
    let moved = passes page (first - old.row) (present_count (take (first - old.row) before)) old new is (omega (arith, near.low, near.high)) near.fails refl leaves in
    let there : new.row ≡ first = omega (arith, leaves.row, near.low) in
    let P : Run → Type 0 = λ r. Goes limit page old new (Some r) in
    subst P (sym passed.0) (record {
      run = (moved.steps, passed.1, omega arith);
      longest = inr (inr (not-passed page.selected new.row (optional_places new.places page) (ap (is_selected page.selected) there ∙ near.passes)));
      is_page = moved.is_page;
    })

-- or none is, and the walk stands at it
pub record StandsAt (page : DataContent) (first : ℕ) (old new : FilteredOptionalPageValidity) : Type 0 where
  pub is_page : IsPageOf new page
  pub same : filtered_steps old page ≡ filtered_steps new page
  pub row : new.row ≡ first
  pub rows : new.rows ≡ old.rows
  pub some : 0 < length (optional_places new.places page)

pub stands-at : (page : DataContent) (first taken : ℕ) (old new : FilteredOptionalPageValidity) → IsPageOf old page → Nears page first taken old → Leaves page (first - old.row) old new
    → PassesOver (present_count (take (first - old.row) (optional_places old.places page))) None → StandsAt page first old new
stands-at page first taken old new is near leaves passed =
    let before = optional_places old.places page in
    let moved = passes page (first - old.row) (present_count (take (first - old.row) before)) old new is (omega (arith, near.low, near.high)) near.fails refl leaves in
    record {
      is_page = moved.is_page;
      same = moved.steps ∙ ap (λ n. replicate n Pass ++ filtered_steps new page) passed;
      row = omega (arith, leaves.row, near.low);
      rows = leaves.same_rows;
      some = omega (arith, ap length leaves.left, length-drop (first - old.row) before, near.low, near.high);
    }

-- ---- selected rows are given

-- what taking rows leaves
pub record Takes (page : DataContent) (count : ℕ) (old new : FilteredOptionalPageValidity) : Type 0 where
  pub levels : IsSome (optional_left new.places page)
  pub given : AreGiven count (rows_left old.rows (selected_rows page)) (rows_left new.rows (selected_rows page)) new.rows.place
  pub row : new.row ≡ old.row + count
  pub place : new.place ≡ new.row
  pub intervals : IsWalkOver new.rows (selected_rows page)

same-first : (n m first other : ℕ) (xs ys : List ℕ) → 0 < n → 0 < m → range_with_len first n ++ xs ≡ range_with_len other m ++ ys → first ≡ other
same-first zero m first other xs ys some more e = absurd (omega arith)
same-first (suc n) zero first other xs ys some more e = absurd (omega arith)
same-first (suc n) (suc m) first other xs ys some more e = heads first other (range_with_len (first + 1) n ++ xs) (range_with_len (other + 1) m ++ ys) e where
  heads : (x y : ℕ) (xs ys : List ℕ) → x ∷ xs ≡ y ∷ ys → x ≡ y
  heads x y xs ys e = cc

-- the places of the rows that are taken are all given
record GivesRows (page : DataContent) (taken : ℕ) (places : List Bool) (before old new : FilteredOptionalPageValidity) : Type 0 where
  pub steps : filtered_steps before page ≡ plan None places ++ filtered_steps new page
  pub selected : (k : ℕ) → k < taken → is_selected page.selected (old.row + k) ≡ true
  pub is_page : IsPageOf new page

gives-rows : (page : DataContent) (first taken count : ℕ) (places : List Bool) (before old new : FilteredOptionalPageValidity) (rest : List ℕ) → StandsAt page first before old → 0 < taken → rows_left before.rows (selected_rows page) ≡ range_with_len first taken ++ rest
    → Takes page count old new → optional_places old.places page ≡ places ++ optional_places new.places page → length places ≡ count → 0 < count → GivesRows page taken places before old new
gives-rows page first taken count places before old new rest stands some split took front long positive =
    let test = is_selected page.selected in
    let all = optional_places old.places page in
    let behind = optional_places new.places page in
    let here : rows_left old.rows (selected_rows page) ≡ range_with_len first taken ++ rest = ap (λ rows. rows_left rows (selected_rows page)) stands.rows ∙ split in
    let start : first ≡ took.given.first = same-first taken count first took.given.first rest (rows_left new.rows (selected_rows page)) some positive (sym here ∙ took.given.split) in
    let at : old.row ≡ first = stands.row in
    let in_row : filter test (range_with_len old.row (length all)) ≡ range_with_len old.row taken ++ rest = sym stands.is_page.rows ∙ here ∙ ap (λ from. range_with_len from taken ++ rest) (sym at) in
    let range = is_range test old.row (length all) taken rest in_row in
    let given : filter test (range_with_len old.row (length all)) ≡ range_with_len old.row count ++ rows_left new.rows (selected_rows page) =
    sym stands.is_page.rows ∙ took.given.split ∙ ap (λ from. range_with_len from count ++ rows_left new.rows (selected_rows page)) (sym start ∙ sym at) in
    let left = is_range test old.row (length all) count (rows_left new.rows (selected_rows page)) given in
    let kept = keeps-rows page.selected old.row count places all behind front long left.passes in
    let size : length all - count ≡ length behind = omega (arith, kept.many) in
    record {
      steps = stands.same ∙ kept.steps ∙ ap (λ row. plan None places ++ plan_from page.selected row behind) (sym took.row);
      selected = range.passes;
      is_page = record {
        levels = took.levels;
        intervals = took.intervals;
        place = omega (arith, took.place, took.row, took.given.behind, start, at);
        row = omega (arith, took.row, kept.many, stands.is_page.row);
        fits = stands.is_page.fits;
        rows = sym left.behind ∙ ap (λ n. filter test (range_with_len (old.row + count) n)) size ∙ ap (λ row. filter test (range_with_len row (length behind))) (sym took.row);
      };
    }

-- ---- rows of one kind

expanded : (kind : Bool) (n : ℕ) (run : Run) → run ≡ (if kind then Present n else Null n) → replicate n (kept_as kind) ≡ expand run
expanded true n run e = sym (ap expand e)
expanded false n run e = sym (ap expand e)

stepped : (kind : Bool) (n : ℕ) (run : Run) → run ≡ (if kind then Present n else Null n) → kept_as kind ≡ step_of run
stepped true n run e = sym (ap step_of e)
stepped false n run e = sym (ap step_of e)

long : (kind : Bool) (n : ℕ) (run : Run) → run ≡ (if kind then Present n else Null n) → 0 < n → (0 < run_items run)
long true n run e some = let P : Run → Type 0 = λ r. 0 < run_items r in subst P (sym e) some
long false n run e some = let P : Run → Type 0 = λ r. 0 < run_items r in subst P (sym e) some

takes : (limit : ℕ) (page : DataContent) (first taken : ℕ) (before old new : FilteredOptionalPageValidity) (run : Run) (rest : List ℕ) → StandsAt page first before old → 0 < taken → taken ≡ min limit (first_left before.rows (selected_rows page))
    → rows_left before.rows (selected_rows page) ≡ range_with_len first taken ++ rest → IsRunOf taken (optional_places old.places page) (optional_places new.places page) run → Takes page (run_rows run) old new → Goes limit page before new (Some run)
takes limit page first taken before old new run rest stands some most split own took =
    let count = run_rows run in
    let places = replicate count own.kind in
    let gives = gives-rows page first taken count places before old new rest stands some split took own.begins.split (length-replicate count own.kind) own.some in
    record {
      run = (
        gives.steps ∙ ap (λ steps. steps ++ filtered_steps new page) (plan-all 0 places ∙ copies-kept own.kind count ∙ expanded own.kind count run own.is),
        long own.kind count run own.is own.some,
        omega (arith, own.begins.most, most),
      );
      longest = elim own.begins.longest as (λ _. (count ≡ limit) ⊎ (EndsInterval before page run ⊎ BeginsOtherwise (step_of run) (filtered_steps new page))) [ inl all ↦ ended all | inr other ↦ otherwise other gives.selected own.begins.most ];
      is_page = gives.is_page;
    } where
      ended : run_rows run ≡ taken → (run_rows run ≡ limit) ⊎ (EndsInterval before page run ⊎ BeginsOtherwise (step_of run) (filtered_steps new page))
      ended all = elim (cases_lt limit (first_left before.rows (selected_rows page))) [ inl less ↦ inl (omega (arith, all, most, less)) | inr more ↦ inr (inl (own.some, omega (arith, all, most, more))) ]

      otherwise : BeginsOtherwise own.kind (optional_places new.places page) → ((k : ℕ) → k < taken → is_selected page.selected (old.row + k) ≡ true) → run_rows run ≤ taken
          → (run_rows run ≡ limit) ⊎ (EndsInterval before page run ⊎ BeginsOtherwise (step_of run) (filtered_steps new page))
      otherwise other all within =
          let next = λ (less : run_rows run < taken). ap (is_selected page.selected) took.row ∙ all (run_rows run) less in
          let S : Step → Type 0 = λ step. BeginsOtherwise step (filtered_steps new page) in
          elim (cases_lt (run_rows run) taken) [
            | inl less ↦ inr (inr (subst S (stepped own.kind (run_rows run) run own.is) (other-step page.selected new.row own.kind (optional_places new.places page) (next less) other)))
            | inr more ↦ ended (omega (arith, more, within))
          ]

-- where no row is left, none is left of the first interval
none-first : (row : ℕ) (runs : List Interval) → rows_from row runs ≡ [] → first_count row runs ≡ 0
none-first row [] e = refl
none-first row (run ∷ runs) e =
    let from = max row run.start in
    let long = ap length e in
    omega (arith, long, length-append (range_with_len from (end run - from)) (rows_of runs), length-range_with_len from (end run - from))

-- so many rows of the first interval are given
pub slice-given : (n : ℕ) (rows : List Interval) (old new : SliceFiltered) (result : Option (ℕ × ℕ)) → SliceGives n rows old new result → 0 < n → n ≤ first_left old rows → AreGiven n (rows_left old rows) (rows_left new rows) new.place
slice-given n rows old new None gives some most = absurd (omega (arith, some, most, none-first old.place (drop old.interval rows) gives.0))
slice-given n rows old new (Some run) gives some most =
    let all : run.1 ≡ n = omega (arith, gives.3, most) in
    record {
      first = old.place + run.0;
      split = gives.0 ∙ ap (λ count. range_with_len (old.place + run.0) count ++ rows_left new rows) all;
      behind = omega (arith, gives.1, all);
    }

-- ---- the rows that come next

pub record NextRows (limit : ℕ) (page : DataContent) (walk : FilteredOptionalPageValidity) (passed taken : ℕ) : Type 0 where
  pub rest : List ℕ
  pub some : 0 < taken
  pub most : taken ≡ min limit (first_left walk.rows (selected_rows page))
  pub split : rows_left walk.rows (selected_rows page) ≡ range_with_len (walk.place + passed) taken ++ rest
  pub near : Nears page (walk.place + passed) taken walk
  pub fits : walk.place + passed < 2 ^ 64

pub next-rows : (limit : ℕ) (page : DataContent) (rows : List Interval) (walk : FilteredOptionalPageValidity) (ahead : SliceFiltered) (passed taken : ℕ) → IsPageOf walk page → rows ≡ selected_rows page → SliceGives limit rows walk.rows ahead (Some (passed, taken))
    → NextRows limit page walk passed taken
next-rows limit page rows walk ahead passed taken is same gives =
    let G : List Interval → Type 0 = λ xs. SliceGives limit xs walk.rows ahead (Some (passed, taken)) in
    let own = subst G same gives in
    let split = own.0 ∙ ap (λ place. range_with_len (place + passed) taken ++ rows_left ahead (selected_rows page)) (sym is.place) in
    let near = nears page (walk.place + passed) taken walk (rows_left ahead (selected_rows page)) is own.2 split in
    record { rest = rows_left ahead (selected_rows page); some = own.2; most = own.3; split = split; near = near; fits = omega (arith, near.high, is.row, is.fits) }

pub no-rows : (limit : ℕ) (page : DataContent) (rows : List Interval) (walk : FilteredOptionalPageValidity) (ahead : SliceFiltered) → rows ≡ selected_rows page → SliceGives limit rows walk.rows ahead None → rows_left walk.rows (selected_rows page) ≡ []
no-rows limit page rows walk ahead same gives = ap (rows_left walk.rows) (sym same) ∙ gives.0

-- the call that takes them gives some, since there is one
pub taken-rows : (limit : ℕ) (page : DataContent) (rows : List Interval) (first taken : ℕ) (before old new : FilteredOptionalPageValidity) (result : Option Run) (rest : List ℕ) → rows ≡ selected_rows page → StandsAt page first before old → 0 < taken
    → taken ≡ min limit (first_left before.rows (selected_rows page)) → rows_left before.rows (selected_rows page) ≡ range_with_len first taken ++ rest → IfNone result (optional_places old.places page ≡ [])
    → IfSome result (IsRunOf taken (optional_places old.places page) (optional_places new.places page)) → IfSome result (λ run. AreGiven (run_rows run) (rows_left old.rows rows) (rows_left new.rows rows) new.rows.place) → IfSome result (λ run. new.row ≡ old.row + run_rows run)
    → IfSome result (λ run. new.place ≡ new.row) → IsSome (optional_left new.places page) → IsWalkOver new.rows rows → Goes limit page before new result
taken-rows limit page rows first taken before old new None rest same stands some most split ended own given row place levels walk = absurd (omega (arith, stands.some, ap length ended))
taken-rows limit page rows first taken before old new (Some run) rest same stands some most split ended own given row place levels walk =
    let G : List Interval → Type 0 = λ xs. AreGiven (run_rows run) (rows_left old.rows xs) (rows_left new.rows xs) new.rows.place in
    let W : List Interval → Type 0 = λ xs. IsWalkOver new.rows xs in
    takes limit page first taken before old new run rest stands some most split own (record { levels = levels; given = subst G same given; row = row; place = place; intervals = subst W same walk })

-- ---- rows of a part

-- what a call for a part gives, and what it leaves
pub record GoesPart (limit : ℕ) (page : DataContent) (old new : FilteredOptionalPageValidity) (result : Option ValidityPart) : Type 0 where
  pub part : GivesPart limit (filtered_steps old page) (filtered_steps new page) result
  pub longest : IsLongestPartOf limit page old new result
  pub is_page : IsPageOf new page

-- a walk that stands at the next selected row
pub stands-there : (page : DataContent) (first taken : ℕ) (walk : FilteredOptionalPageValidity) → IsPageOf walk page → Nears page first taken walk → first ≡ walk.row → StandsAt page first walk walk
stands-there page first taken walk is near at = record { is_page = is; same = refl; row = sym at; rows = refl; some = omega (arith, near.high, at) }

some-steps : (part : ValidityPart) → 0 < part_rows part → (0 < part_length part)
some-steps (OfRun (Present n)) some = some
some-steps (OfRun (Null n)) some = some
some-steps (OfRun (Passed n)) some = absurd (omega arith)
some-steps (OfWord word) some = some

longest-part : (limit : ℕ) (page : DataContent) (first taken : ℕ) (before old new : FilteredOptionalPageValidity) (part : ValidityPart) (rest : List ℕ) → StandsAt page first before old → 0 < taken → taken ≡ min limit (first_left before.rows (selected_rows page))
    → rows_left before.rows (selected_rows page) ≡ range_with_len first taken ++ rest → IsWholePart taken page old.places new.places part → Takes page (part_rows part) old new → IsLongestPartOf limit page before new (Some part)
longest-part limit page first taken before old new (OfRun run) rest stands some most split whole took = (takes limit page first taken before old new run rest stands some most split whole took).longest
longest-part limit page first taken before old new (OfWord word) rest stands some most split whole took = whole

pub taken-part : (limit : ℕ) (page : DataContent) (rows : List Interval) (first taken : ℕ) (before old new : FilteredOptionalPageValidity) (result : Option ValidityPart) (rest : List ℕ) → rows ≡ selected_rows page → StandsAt page first before old → 0 < taken
    → taken ≡ min limit (first_left before.rows (selected_rows page)) → rows_left before.rows (selected_rows page) ≡ range_with_len first taken ++ rest → IfNone result (optional_places old.places page ≡ [])
    → IfSome result (IsPartOf taken (optional_places old.places page) (optional_places new.places page)) → IfSome result (IsWholePart taken page old.places new.places) → IfSome result (λ part. AreGiven (part_rows part) (rows_left old.rows rows) (rows_left new.rows rows) new.rows.place) → IfSome result (λ part. new.row ≡ old.row + part_rows part)
    → IfSome result (λ part. new.place ≡ new.row) → IsSome (optional_left new.places page) → IsWalkOver new.rows rows → GoesPart limit page before new result
taken-part limit page rows first taken before old new None rest same stands some most split ended own whole given row place levels walk = absurd (omega (arith, stands.some, ap length ended))
taken-part limit page rows first taken before old new (Some part) rest same stands some most split ended own whole given row place levels walk =
    let G : List Interval → Type 0 = λ xs. AreGiven (part_rows part) (rows_left old.rows xs) (rows_left new.rows xs) new.rows.place in
    let W : List Interval → Type 0 = λ xs. IsWalkOver new.rows xs in
    let took : Takes page (part_rows part) old new = record { levels = levels; given = subst G same given; row = row; place = place; intervals = subst W same walk } in
    let gives = gives-rows page first taken (part_rows part) own.places before old new rest stands some split took own.split own.count own.some in
    record {
      part = (gives.steps ∙ ap (λ steps. steps ++ filtered_steps new page) own.steps, some-steps part own.some, omega (arith, own.most, most));
      longest = longest-part limit page first taken before old new part rest stands some most split whole took;
      is_page = gives.is_page;
    }
