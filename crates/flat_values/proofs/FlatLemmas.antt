-- What flat pages give, by their walks and their values.
use Rattle.std.proofs.Common.{Bor, ◌≡◌, ℕ, zero, suc, ◌+◌, ◌-◌, ◌<◌, ◌≤◌, Bool, true, false, List, [], ◌∷◌, ◌++◌, length, take, drop, map, refl, sym, ap, ◌∙◌, subst, arith, append_assoc, append-nil}
use Rattle.std.specs.Prelude.{◌&&◌, ◌||◌, if◌then◌else◌, is_some, replicate, unwrap_or, Option, Some, None, option_map, Result, OnOk}
use Rattle.std.specs.Option.{option_copied, option_map_or}
use Rattle.std.proofs.lemmas.Bool.{and_parts}
use Rattle.std.proofs.lemmas.List.Elements.{Contains-push}
use Rattle.std.proofs.lemmas.List.{drop-drop, map-append, length-append, length-drop, length-replicate, length-take-le}
use Rattle.std.proofs.lemmas.Result.{on_ok_weaker}
use Rattle.columns_core.specs.Causes.{Cause, ExternalFormat, IsOneOf, NotYetImplemented, and_then, unless}
use Rattle.columns_core.specs.declared.cell.Cell.{Cell, Null}
use Rattle.columns_core.specs.declared.error.Error.{Error}
use Rattle.columns_core.proofs.BitLemmas.{length-low_bits}
use Rattle.parquet_base.specs.Intervals.{covers}
use Rattle.parquet_base.specs.Reading.{◌>>=◌, given}
use Rattle.parquet_base.specs.declared.interval.Interval.{Interval}
use Rattle.parquet_encoding.proofs.StepLemmas.{bind_some, given_some, is_something, some_is}
use Rattle.parquet_meta.specs.declared.metadata.PhysicalType.{PhysicalType}
use Rattle.parquet_page.specs.Content.{DataContent, header_values}
use Rattle.parquet_page.specs.Levels.{Body, body_parts, placed, presence, present_count}
use Rattle.parquet_page.specs.Opened.{goes_on_dictionary, key_causes, page_causes, spelling_causes}
use Rattle.parquet_page.specs.Plan.{Keep, KeepNull, Pass, Step, along, plan}
use Rattle.parquet_page.specs.Runs.{expand}
use Rattle.parquet_page.specs.Selected.{covered_from, selected_of}
use Rattle.parquet_page.specs.Spelling.{has_readable_levels, header_encoding, page_keys, places_and_values, spelled}
use Rattle.parquet_page.specs.Stored.{Stored}
use Rattle.parquet_page.specs.ValidityParts.{GivesPart, part_length, part_rows, part_steps, word_places, word_steps}
use Rattle.parquet_page.specs.Values.{Encoding, Plain, Keys, DeltaPacked, DeltaLengths, dictionary_keys, encoding_of, goes_with, unless_none, values_in}
use Rattle.parquet_page.specs.ValidityLeft.{levels_causes, page_places}
use Rattle.parquet_page.specs.declared.run.Run.{Run}
use Rattle.parquet_page.specs.declared.run.Run.TheVariants as run
use Rattle.parquet_page.specs.declared.validity_part.ValidityPart.{ValidityPart}
use Rattle.parquet_page.specs.declared.validity_part.ValidityPart.TheVariants as part
use Rattle.parquet_page.specs.declared.validity_part.ValidityWord.{ValidityWord}
use Rattle.parquet_page.proofs.PlanLemmas.{along-null, along-passed, along-plan, along-present}
use Rattle.parquet_page.proofs.SpelledLemmas.{are_placed, no_cause}
use Rattle.page_decoding.proofs.FilteredLemmas.{stored-plan}
use Rattle.page_decoding.proofs.NextLemmas.{nothing_wrong}
use Rattle.page_decoding.proofs.BytesLemmas.{chunks-left}
use Rattle.page_decoding.specs.FilteredLeft.{stored_values}
use Rattle.page_decoding.specs.Bytes.{IsCausedByChunks}
use Rattle.page_decoding.specs.Outcome.{Outcome, Given, causes_in, page_outcomes}
use Rattle.flat_values.specs.Conversion.{Conversion}
use Rattle.flat_values.specs.FlatLeft.{behind_part, behind_run, causes_unless_none, given_along, part_outcomes, read_encoding, run_outcomes, value_bytes}
use Rattle.flat_values.specs.Outcomes.{place_outcomes, placed_outcome, selected_outcomes, value_causes, value_outcomes}
use Rattle.flat_values.proofs.CountLemmas.{length-outcomes, length-values}
use Rattle.flat_values.proofs.WordLemmas.{all_null, along-append, kept-plan, length-given, length-plan, plan-null, plan-present, stored-append}

-- ---- nulls

map-nulls : (n : ℕ) → map Given (replicate n Null) ≡ replicate n (Given Null)
map-nulls zero = refl
map-nulls (suc n) = ap (λ xs. Given Null ∷ xs) (map-nulls n)

-- nulls behind cells
nulls-behind : (n : ℕ) (old new : List Cell) → new ≡ old ++ replicate n Null → map Given new ≡ map Given old ++ replicate n (Given Null)
nulls-behind n old new e = ap (map Given) e ∙ map-append Given old (replicate n Null) ∙ ap (λ xs. map Given old ++ xs) (map-nulls n)

pub nulls-given : {T E : Type 0} (result : Result T E) (which : Run) (rows : ℕ) (old new : List Cell) (values : List Outcome) → which ≡ run.Null rows → OnOk result (new ≡ old ++ replicate rows Null) → OnOk result (map Given new ≡ map Given old ++ run_outcomes which values)
nulls-given result which rows old new values is given =
    let P : Run → Type 0 = λ r. OnOk result (map Given new ≡ map Given old ++ run_outcomes r values) in
    subst P (sym is) (on_ok_weaker result (nulls-behind rows old new) given)

-- a word whose rows are all null
pub word-null : {T E : Type 0} (result : Result T E) (word : ValidityWord) (old new : List Cell) (values : List Outcome) → present_count (word_places word) ≤ 0 → OnOk result (new ≡ old ++ replicate word.rows Null)
    → OnOk result (map Given new ≡ map Given old ++ given_along (word_steps word) values)
word-null result word old new values none given =
    let all = all_null 0 (word_places word) values (omega arith) ∙ ap (λ n. replicate n (Given Null)) (length-low_bits word.bits word.rows) in
    on_ok_weaker result (λ e. nulls-behind word.rows old new e ∙ ap (λ xs. map Given old ++ xs) (sym all)) given

-- ---- what the parts of rows give

map-some : (values : List Outcome) → map placed_outcome (map Some values) ≡ values
map-some [] = refl
map-some (value ∷ values) = ap (λ xs. value ∷ xs) (map-some values)

map-none : (n : ℕ) → map placed_outcome (replicate n None) ≡ replicate n (Given Null)
map-none zero = refl
map-none (suc n) = ap (λ xs. Given Null ∷ xs) (map-none n)

stored-keep : (n : ℕ) → stored_values (replicate n Keep) ≡ n
stored-keep zero = refl
stored-keep (suc n) = omega (arith, stored-keep n)

stored-null : (n : ℕ) → stored_values (replicate n KeepNull) ≡ 0
stored-null zero = refl
stored-null (suc n) = stored-null n

stored-pass : (n : ℕ) → stored_values (replicate n Pass) ≡ n
stored-pass zero = refl
stored-pass (suc n) = omega (arith, stored-pass n)

-- what a part gives, and what is left behind it
pub record Gives (which : ValidityPart) (rest : List Step) (values : List Outcome) : Type 0 where
  pub split : given_along (part_steps which ++ rest) values ≡ part_outcomes which values ++ given_along rest (behind_part which values)
  pub rows : length (part_outcomes which values) ≡ part_rows which
  pub behind : behind_part which values ≡ drop (stored_values (part_steps which)) values

run-gives : (which : Run) (rest : List Step) (values : List Outcome) → stored_values (expand which) ≤ length values → Gives (part.Run which) rest values
run-gives (run.Present n) rest values enough =
    let within : n ≤ length values = omega (arith, enough, stored-keep n) in
    record {
      split = ap (map placed_outcome) (along-present n rest values within) ∙ map-append placed_outcome (map Some (take n values)) (along rest (drop n values)) ∙ ap (λ xs. xs ++ given_along rest (drop n values)) (map-some (take n values));
      rows = length-take-le n values within;
      behind = ap (λ k. drop k values) (sym (stored-keep n));
    }
run-gives (run.Null n) rest values enough = record {
  split = ap (map placed_outcome) (along-null n rest values) ∙ map-append placed_outcome (replicate n None) (along rest values) ∙ ap (λ xs. xs ++ given_along rest values) (map-none n);
  rows = length-replicate n (Given Null);
  behind = ap (λ k. drop k values) (sym (stored-null n));
}
run-gives (run.Passed n) rest values enough =
    let within : n ≤ length values = omega (arith, enough, stored-pass n) in
    record {
      split = ap (map placed_outcome) (along-passed n rest values within);
      rows = refl;
      behind = ap (λ k. drop k values) (sym (stored-pass n));
    }

part-gives : (which : ValidityPart) (rest : List Step) (values : List Outcome) → stored_values (part_steps which) ≤ length values → Gives which rest values
part-gives (part.Run which) rest values enough = run-gives which rest values enough
part-gives (part.Word word) rest values enough =
    let places = word_places word in
    let steps = word_steps word in
    let stored = stored_values steps in
    let counted : drop stored values ≡ drop (present_count places) values = ap (λ k. drop k values) (stored-plan None 0 places) in
    record {
      split = ap (map placed_outcome) (along-append steps rest values enough) ∙ map-append placed_outcome (along steps values) (along rest (drop stored values)) ∙ ap (λ xs. given_along steps values ++ given_along rest xs) counted;
      rows = length-given steps values enough ∙ kept-plan 0 places ∙ length-low_bits word.bits word.rows;
      behind = sym counted;
    }

length-part : (which : ValidityPart) → length (part_steps which) ≡ part_length which
length-part (part.Run (run.Present n)) = length-replicate n Keep
length-part (part.Run (run.Null n)) = length-replicate n KeepNull
length-part (part.Run (run.Passed n)) = length-replicate n Pass
length-part (part.Word word) = length-plan 0 (word_places word) ∙ length-low_bits word.bits word.rows

-- ---- one turn of the loop over parts

take-past : {A : Type 0} (xs ys : List A) (n : ℕ) → length xs ≤ n → take n (xs ++ ys) ≡ xs ++ take (n - length xs) ys
take-past [] ys n h = let e : n - 0 ≡ n = omega arith in ap (λ k. take k ys) (sym e)
take-past (x ∷ xs) ys zero h = absurd (omega arith)
take-past (x ∷ xs) ys (suc n) h = let e : suc n - suc (length xs) ≡ n - length xs = omega arith in ap (λ rest. x ∷ rest) (take-past xs ys n (omega arith) ∙ ap (λ k. xs ++ take k ys) (sym e))

drop-past : {A : Type 0} (xs ys : List A) (n : ℕ) → length xs ≤ n → drop n (xs ++ ys) ≡ drop (n - length xs) ys
drop-past [] ys n h = let e : n - 0 ≡ n = omega arith in ap (λ k. drop k ys) (sym e)
drop-past (x ∷ xs) ys zero h = absurd (omega arith)
drop-past (x ∷ xs) ys (suc n) h = let e : suc n - suc (length xs) ≡ n - length xs = omega arith in drop-past xs ys n (omega arith) ∙ ap (λ k. drop k ys) (sym e)

pub record Turn (which : ValidityPart) (wanted : ℕ) (old new : List Step) (values : List Outcome) : Type 0 where
  pub within : part_rows which ≤ wanted
  pub stored : stored_values (part_steps which) ≤ length values
  pub taken : take wanted (given_along old values) ≡ part_outcomes which values ++ take (wanted - part_rows which) (given_along new (behind_part which values))
  pub left : drop wanted (given_along old values) ≡ drop (wanted - part_rows which) (given_along new (behind_part which values))
  pub enough : length (behind_part which values) ≡ stored_values new
  pub shorter : length new < length old

pub turn : (which : ValidityPart) (wanted : ℕ) (old new : List Step) (values : List Outcome) → GivesPart wanted old new (Some which) → length values ≡ stored_values old → Turn which wanted old new values
turn which wanted old new values gives enough =
    let steps = part_steps which in
    let all : length values ≡ stored_values steps + stored_values new = enough ∙ ap stored_values gives.0 ∙ stored-append steps new in
    let stored : stored_values steps ≤ length values = omega (arith, all) in
    let own = part-gives which new values stored in
    let rest = given_along new (behind_part which values) in
    let split : given_along old values ≡ part_outcomes which values ++ rest = ap (λ s. given_along s values) gives.0 ∙ own.split in
    let within : length (part_outcomes which values) ≤ wanted = omega (arith, own.rows, gives.2) in
    record {
      within = gives.2;
      stored = stored;
      taken = ap (take wanted) split ∙ take-past (part_outcomes which values) rest wanted within ∙ ap (λ n. part_outcomes which values ++ take (wanted - n) rest) own.rows;
      left = ap (drop wanted) split ∙ drop-past (part_outcomes which values) rest wanted within ∙ ap (λ n. drop (wanted - n) rest) own.rows;
      enough = ap length own.behind ∙ length-drop (stored_values steps) values ∙ omega (arith, all);
      shorter = omega (arith, gives.1, ap length gives.0, length-append steps new, length-part which);
    }

pub part-caused : (most : Option ℕ) (which : ValidityPart) (wanted : ℕ) (old new : List Step) (values : List Outcome) (shown : List Cell) (error : Error) → Turn which wanted old new values
    → IsCausedByChunks most None (map Given shown ++ part_outcomes which values) error → IsCausedByChunks most None (map Given shown ++ take wanted (given_along old values)) error
part-caused most which wanted old new values shown error turn told =
    let own = part_outcomes which values in
    let next = take (wanted - part_rows which) (given_along new (behind_part which values)) in
    let P : List Outcome → Type 0 = λ rows. IsCausedByChunks most None rows error in
    subst P (append_assoc (map Given shown) own next ∙ ap (λ rows. map Given shown ++ rows) (sym turn.taken)) (chunks-left most None (map Given shown ++ own) next error told)

-- what the loop keeps, where a part is appended
pub record Turned (wanted rows : ℕ) (old new : List Step) (values behind : List Outcome) (shown more : List Cell) : Type 0 where
  pub enough : length behind ≡ stored_values new
  pub all : map Given more ++ take (wanted - rows) (given_along new behind) ≡ map Given shown ++ take wanted (given_along old values)
  pub rest : drop (wanted - rows) (given_along new behind) ≡ drop wanted (given_along old values)

pub turned : (which : ValidityPart) (wanted rows : ℕ) (old new : List Step) (values behind : List Outcome) (shown more : List Cell) → Turn which wanted old new values → rows ≡ part_rows which → behind ≡ behind_part which values → map Given more ≡ map Given shown ++ part_outcomes which values
    → Turned wanted rows old new values behind shown more
turned which wanted rows old new values behind shown more turn counted is cells =
    let own = part_outcomes which values in
    let next = take (wanted - part_rows which) (given_along new (behind_part which values)) in
    let now : Turned wanted (part_rows which) old new values (behind_part which values) shown more = record {
      enough = turn.enough;
      all = ap (λ xs. xs ++ next) cells ∙ append_assoc (map Given shown) own next ∙ ap (λ xs. map Given shown ++ xs) (sym turn.taken);
      rest = sym turn.left;
    } in
    let P : ℕ → Type 0 = λ n. Turned wanted n old new values (behind_part which values) shown more in
    let Q : List Outcome → Type 0 = λ xs. Turned wanted rows old new values xs shown more in
    subst Q (sym is) (subst P (sym counted) now)

-- ---- one turn of the loop over the runs of a word

-- the run of rows that are all of one kind
abbrev run_of : Bool → ℕ → Run
run_of true rows = run.Present rows
run_of false rows = run.Null rows

plan-run : (kind : Bool) (rows : ℕ) (places : List Bool) → plan None (replicate rows kind ++ places) ≡ expand (run_of kind rows) ++ plan None places
plan-run true rows places = plan-present rows 0 places
plan-run false rows places = plan-null rows 0 places

-- what a word gives, and the values behind it, by its first run and the places behind that
record RunFirst (kind : Bool) (rows : ℕ) (old new : List Bool) (values : List Outcome) : Type 0 where
  split : given_along (plan None old) values ≡ run_outcomes (run_of kind rows) values ++ given_along (plan None new) (behind_run (run_of kind rows) values)
  enough : present_count new ≤ length (behind_run (run_of kind rows) values)
  left : drop (present_count new) (behind_run (run_of kind rows) values) ≡ drop (present_count old) values

run-first : (kind : Bool) (rows : ℕ) (old new : List Bool) (values : List Outcome) → old ≡ replicate rows kind ++ new → present_count old ≤ length values → RunFirst kind rows old new values
run-first kind rows old new values is enough =
    let which = run_of kind rows in
    let steps : plan None old ≡ expand which ++ plan None new = ap (plan None) is ∙ plan-run kind rows new in
    let count = stored_values (expand which) in
    let all : present_count old ≡ count + present_count new = omega (arith, stored-plan None 0 old, ap stored_values steps, stored-append (expand which) (plan None new), stored-plan None 0 new) in
    let own = run-gives which (plan None new) values (omega (arith, enough, all)) in
    record {
      split = ap (λ s. given_along s values) steps ∙ own.split;
      enough = omega (arith, ap length own.behind, length-drop count values, enough, all);
      left = ap (drop (present_count new)) own.behind ∙ drop-drop (present_count new) count values ∙ ap (λ n. drop n values) (sym all);
    }

-- what the loop keeps, where a run is appended
pub record RunTurned (old new : List Bool) (values behind : List Outcome) (shown more : List Cell) : Type 0 where
  pub enough : present_count new ≤ length behind
  pub cells : map Given more ++ given_along (plan None new) behind ≡ map Given shown ++ given_along (plan None old) values
  pub left : drop (present_count new) behind ≡ drop (present_count old) values

run-turned : (kind : Bool) (rows : ℕ) (old new : List Bool) (values behind : List Outcome) (shown more : List Cell) → old ≡ replicate rows kind ++ new → present_count old ≤ length values → behind ≡ behind_run (run_of kind rows) values
    → map Given more ≡ map Given shown ++ run_outcomes (run_of kind rows) values → RunTurned old new values behind shown more
run-turned kind rows old new values behind shown more begins enough is cells =
    let own = run_outcomes (run_of kind rows) values in
    let rest = given_along (plan None new) (behind_run (run_of kind rows) values) in
    let turn = run-first kind rows old new values begins enough in
    let now : RunTurned old new values (behind_run (run_of kind rows) values) shown more = record {
      enough = turn.enough;
      cells = ap (λ xs. xs ++ rest) cells ∙ append_assoc (map Given shown) own rest ∙ ap (λ xs. map Given shown ++ xs) (sym turn.split);
      left = turn.left;
    } in
    let P : List Outcome → Type 0 = λ xs. RunTurned old new values xs shown more in
    subst P (sym is) now

pub present-turned : (kind : Bool) (rows : ℕ) (old new : List Bool) (values behind : List Outcome) (shown more : List Cell) → kind ≡ true → old ≡ replicate rows kind ++ new → present_count old ≤ length values → behind ≡ drop rows values
    → map Given more ≡ map Given shown ++ take rows values → RunTurned old new values behind shown more
present-turned true rows old new values behind shown more is begins enough left cells = run-turned true rows old new values behind shown more begins enough left cells
present-turned false rows old new values behind shown more is begins enough left cells = cc

pub null-turned : (kind : Bool) (rows : ℕ) (old new : List Bool) (values : List Outcome) (shown more : List Cell) → kind ≡ false → old ≡ replicate rows kind ++ new → present_count old ≤ length values
    → more ≡ shown ++ replicate rows Null → RunTurned old new values values shown more
null-turned true rows old new values shown more is begins enough cells = cc
null-turned false rows old new values shown more is begins enough cells = run-turned false rows old new values values shown more begins enough refl (nulls-behind rows shown more cells)

-- what is wrong with the values of a run is wrong with its word
pub run-caused : (most : Option ℕ) (kind : Bool) (rows : ℕ) (old new : List Bool) (values : List Outcome) (shown : List Cell) (error : Error) → kind ≡ true → old ≡ replicate rows kind ++ new
    → present_count old ≤ length values → IsCausedByChunks most None (map Given shown ++ take rows values) error → IsCausedByChunks most None (map Given shown ++ given_along (plan None old) values) error
run-caused most true rows old new values shown error is begins enough told =
    let own = take rows values in
    let next = given_along (plan None new) (drop rows values) in
    let P : List Outcome → Type 0 = λ all. IsCausedByChunks most None all error in
    subst P (append_assoc (map Given shown) own next ∙ ap (λ all. map Given shown ++ all) (sym (run-first true rows old new values begins enough).split)) (chunks-left most None (map Given shown ++ own) next error told)
run-caused most false rows old new values shown error is begins enough told = cc

-- ---- what is wrong with a page

-- what is wrong with a page as a whole stands at its first place
pub told-first : (rule : Conversion) (entries : Option (List Cell)) (page : DataContent) (o : Option Cause) → IsOneOf (page_causes None (is_some entries) (option_map length entries) page) o → IsOneOf (causes_in (take 1 (selected_outcomes rule entries page))) o
unfolding selected_outcomes
told-first rule entries page o wrong = go (page_causes None (is_some entries) (option_map length entries) page) wrong where
  go : (causes : List Cause) → IsOneOf causes o → IsOneOf (causes_in (take 1 (page_outcomes causes page.selected (unwrap_or (place_outcomes rule entries page) [])))) o
  go [] wrong = absurd (nothing_wrong o wrong)
  go (cause ∷ causes) wrong = let P : List Cause → Type 0 = λ found. IsOneOf found o in subst P (sym (append-nil (cause ∷ causes))) wrong

-- the encoding is not read
pub not_read : (has_dictionary : Bool) (entries : Option ℕ) (page : DataContent) → read_encoding has_dictionary page ≡ None → page_causes None has_dictionary entries page ≡ NotYetImplemented ∷ []
unfolding page_causes
not_read has_dictionary entries page none = go (encoding_of (header_encoding page.header)) none where
  within : (encoding : Encoding) (goes on readable : Bool) → given (goes && on) encoding ≡ None → option_map_or (spelling_causes None entries page) (given (goes && on && readable) encoding) (NotYetImplemented ∷ []) ≡ NotYetImplemented ∷ []
  within encoding false on readable none = refl
  within encoding true false readable none = refl
  within encoding true true readable none = absurd cc

  go : (o : Option Encoding) → (o >>= λ encoding. given (goes_with encoding page.type.physical_type && goes_on_dictionary false has_dictionary encoding) encoding) ≡ None
      → option_map_or (spelling_causes None entries page) (o >>= λ encoding. given ((false || goes_with encoding page.type.physical_type) && goes_on_dictionary false has_dictionary encoding && has_readable_levels page.type.repetition page.header) encoding) (NotYetImplemented ∷ []) ≡ NotYetImplemented ∷ []
  go None none = refl
  go (Some encoding) none = within encoding (goes_with encoding page.type.physical_type) (goes_on_dictionary false has_dictionary encoding) (has_readable_levels page.type.repetition page.header) none

-- an encoding that is read
pub record IsRead (has_dictionary : Bool) (page : DataContent) (encoding : Encoding) : Type 0 where
  pub named : encoding_of (header_encoding page.header) ≡ Some encoding
  pub goes : goes_with encoding page.type.physical_type ≡ true
  pub on : goes_on_dictionary false has_dictionary encoding ≡ true

pub is_read : (has_dictionary : Bool) (page : DataContent) (encoding : Encoding) → read_encoding has_dictionary page ≡ Some encoding → IsRead has_dictionary page encoding
is_read has_dictionary page encoding e =
    let own = bind_some (encoding_of (header_encoding page.header)) (λ encoding. given (goes_with encoding page.type.physical_type && goes_on_dictionary false has_dictionary encoding) encoding) encoding e in
    let P : Encoding → Type 0 = IsRead has_dictionary page in
    let same = given_some (goes_with own.0 page.type.physical_type && goes_on_dictionary false has_dictionary own.0) own.0 encoding own.2 in
    let both = and_parts _ _ same.0 in
    subst P same.1 (record { named = own.1; goes = both.0; on = both.1 })

-- what is wrong with a page in it
causes-read : (has_dictionary readable : Bool) (entries : Option ℕ) (page : DataContent) (encoding : Encoding) → IsRead has_dictionary page encoding → has_readable_levels page.type.repetition page.header ≡ readable
    → page_causes None has_dictionary entries page ≡ option_map_or (spelling_causes None entries page) (given readable encoding) (NotYetImplemented ∷ [])
unfolding page_causes
causes-read has_dictionary readable entries page encoding read e = rw (read.named, read.goes, read.on, e) refl

no_keys_past : (entries : Option ℕ) → key_causes None entries [] ≡ []
no_keys_past None = refl
no_keys_past (Some n) = refl

keys-causes : (entries : Option ℕ) (bytes : List ℕ) (n : ℕ) → option_map_or (key_causes None entries) (unless_none n (dictionary_keys bytes n)) (ExternalFormat ∷ []) ≡ causes_unless_none n (option_map_or (key_causes None entries) (dictionary_keys bytes n) (ExternalFormat ∷ []))
keys-causes entries bytes zero = no_keys_past entries
keys-causes entries bytes (suc n) = refl

spelled-alone : (has_dictionary : Bool) (page : DataContent) (encoding : Encoding) (places : List Bool) (bytes : List ℕ) → IsRead has_dictionary page encoding → has_readable_levels page.type.repetition page.header ≡ true → places_and_values page ≡ Some (places, bytes)
    → spelled page None ≡ (unless_none (present_count places) (values_in encoding page.type.physical_type None bytes (present_count places)) >>= λ values. placed places values)
unfolding spelled
spelled-alone has_dictionary page encoding places bytes read readable split = rw (read.named, read.goes, readable, split) refl

values-placed : (encoding : Encoding) (type : PhysicalType) (places : List Bool) (bytes : List ℕ) (n : ℕ) → n ≡ present_count places
    → unless (is_some (unless_none n (values_in encoding type None bytes n) >>= λ values. placed places values)) ExternalFormat ≡ causes_unless_none n (unless (is_some (values_in encoding type None bytes n)) ExternalFormat)
values-placed encoding type places bytes zero many = ap (λ b. unless b ExternalFormat) (are_placed places [] many)
values-placed encoding type places bytes (suc n) many = go (values_in encoding type None bytes (suc n)) (λ values e. length-values encoding type bytes (suc n) values e) where
  go : (o : Option (List Stored)) → ((values : List Stored) → o ≡ Some values → length values ≡ suc n) → unless (is_some (o >>= λ values. placed places values)) ExternalFormat ≡ unless (is_some o) ExternalFormat
  go None long = refl
  go (Some values) long = ap (λ b. unless b ExternalFormat) (are_placed places values (long values refl ∙ many))

spelling-is : (has_dictionary : Bool) (entries : Option ℕ) (page : DataContent) (encoding : Encoding) (places : List Bool) (bytes : List ℕ) → IsRead has_dictionary page encoding → has_readable_levels page.type.repetition page.header ≡ true → places_and_values page ≡ Some (places, bytes)
    → spelling_causes None entries page encoding ≡ causes_unless_none (present_count places) (value_causes page.type.physical_type entries encoding bytes (present_count places))
unfolding value_causes page_keys
spelling-is has_dictionary entries page Keys places bytes read readable split = rw (read.named, split) (keys-causes entries bytes (present_count places))
spelling-is has_dictionary entries page Plain places bytes read readable split = rw (spelled-alone has_dictionary page Plain places bytes read readable split) (values-placed Plain page.type.physical_type places bytes (present_count places) refl)
spelling-is has_dictionary entries page DeltaPacked places bytes read readable split = rw (spelled-alone has_dictionary page DeltaPacked places bytes read readable split) (values-placed DeltaPacked page.type.physical_type places bytes (present_count places) refl)
spelling-is has_dictionary entries page DeltaLengths places bytes read readable split = rw (spelled-alone has_dictionary page DeltaLengths places bytes read readable split) (values-placed DeltaLengths page.type.physical_type places bytes (present_count places) refl)

no-parts : (has_dictionary : Bool) (entries : Option ℕ) (page : DataContent) (encoding : Encoding) → IsRead has_dictionary page encoding → has_readable_levels page.type.repetition page.header ≡ true → places_and_values page ≡ None → spelling_causes None entries page encoding ≡ ExternalFormat ∷ []
unfolding page_keys spelled
no-parts has_dictionary entries page Keys read readable split = rw (read.named, split) refl
no-parts has_dictionary entries page Plain read readable split = rw (read.named, read.goes, readable, split) refl
no-parts has_dictionary entries page DeltaPacked read readable split = rw (read.named, read.goes, readable, split) refl
no-parts has_dictionary entries page DeltaLengths read readable split = rw (read.named, read.goes, readable, split) refl

-- what is wrong with the levels is wrong with the page
pub levels-told : (has_dictionary : Bool) (entries : Option ℕ) (page : DataContent) (encoding : Encoding) (o : Option Cause) → IsRead has_dictionary page encoding → IsOneOf (levels_causes page) o → IsOneOf (page_causes None has_dictionary entries page) o
levels-told has_dictionary entries page encoding o read wrong = go (has_readable_levels page.type.repetition page.header) refl (places_and_values page) refl wrong where
  go : (readable : Bool) → has_readable_levels page.type.repetition page.header ≡ readable → (parts : Option (List Bool × List ℕ)) → places_and_values page ≡ parts
      → IsOneOf (and_then (unless readable NotYetImplemented) (unless (is_some (option_map (λ parts. parts.0) parts)) ExternalFormat)) o → IsOneOf (page_causes None has_dictionary entries page) o
  go false e parts split wrong = let Q : List Cause → Type 0 = λ causes. IsOneOf causes o in subst Q (sym (causes-read has_dictionary false entries page encoding read e)) wrong
  go true e None split wrong = let Q : List Cause → Type 0 = λ causes. IsOneOf causes o in subst Q (sym (causes-read has_dictionary true entries page encoding read e ∙ no-parts has_dictionary entries page encoding read e split)) wrong
  go true e (Some parts) split wrong = absurd (nothing_wrong o wrong)

-- ---- a page that was opened

-- its levels are read, and its values stand in these bytes
pub record IsOpened (page : DataContent) (bytes : List ℕ) (count : ℕ) (steps : List Step) : Type 0 where
  pub places : List Bool
  pub split : places_and_values page ≡ Some (places, bytes)
  pub readable : has_readable_levels page.type.repetition page.header ≡ true
  pub many : count ≡ present_count places
  pub steps_are : steps ≡ plan page.selected places

pub opened : (page : DataContent) (body : Body) (count : ℕ) (steps : List Step) → levels_causes page ≡ [] → body_parts page.type.repetition page.header page.body ≡ Some body → steps ≡ plan page.selected (unwrap_or (page_places page) []) → count ≡ stored_values steps
    → IsOpened page body.values count steps
unfolding places_and_values
opened page body count steps none parts steps_are many = go (has_readable_levels page.type.repetition page.header) refl (presence page.type.repetition body.definition (header_values page.header)) refl where
  here : (o : Option (List Bool)) → presence page.type.repetition body.definition (header_values page.header) ≡ o → places_and_values page ≡ (o >>= λ places. Some (places, body.values))
  here o e = rw (parts, e) refl

  go : (readable : Bool) → has_readable_levels page.type.repetition page.header ≡ readable → (o : Option (List Bool)) → presence page.type.repetition body.definition (header_values page.header) ≡ o → IsOpened page body.values count steps
  go false e o is = absurd (no_cause NotYetImplemented [] (sym (ap (λ b. and_then (unless b NotYetImplemented) (unless (is_some (page_places page)) ExternalFormat)) e) ∙ none))
  go true e None is = absurd (no_cause ExternalFormat [] (sym (ap (λ b. and_then (unless b NotYetImplemented) (unless (is_some (page_places page)) ExternalFormat)) e ∙ ap (λ o. unless (is_some (option_map (λ parts. parts.0) o)) ExternalFormat) (here None is)) ∙ none))
  go true e (Some places) is =
      let split = here (Some places) is in
      let all : steps ≡ plan page.selected places = steps_are ∙ ap (λ o. plan page.selected (unwrap_or (option_map (λ parts. parts.0) o) [])) split in
      record { places = places; split = split; readable = e; many = many ∙ ap stored_values all ∙ stored-plan page.selected 0 places; steps_are = all }

-- what is wrong with its values is wrong with the page, and nothing else
pub opened-causes : (has_dictionary : Bool) (entries : Option ℕ) (page : DataContent) (encoding : Encoding) (bytes : List ℕ) (count : ℕ) (steps : List Step) → IsRead has_dictionary page encoding → IsOpened page bytes count steps
    → page_causes None has_dictionary entries page ≡ causes_unless_none count (value_causes page.type.physical_type entries encoding bytes count)
opened-causes has_dictionary entries page encoding bytes count steps read own =
    causes-read has_dictionary true entries page encoding read own.readable
    ∙ spelling-is has_dictionary entries page encoding own.places bytes read own.readable own.split
    ∙ ap (λ n. causes_unless_none n (value_causes page.type.physical_type entries encoding bytes n)) (sym own.many)

covered-map : {A B : Type 0} (f : A → B) (rows : List Interval) (row : ℕ) (xs : List A) → covered_from rows row (map f xs) ≡ map f (covered_from rows row xs)
covered-map f rows row [] = refl
covered-map f rows row (x ∷ xs) = one (covers rows row) (covered-map f rows (row + 1) xs) where
  one : (is : Bool) → covered_from rows (row + 1) (map f xs) ≡ map f (covered_from rows (row + 1) xs)
      → (if is then f x ∷ covered_from rows (row + 1) (map f xs) else covered_from rows (row + 1) (map f xs)) ≡ map f (if is then x ∷ covered_from rows (row + 1) xs else covered_from rows (row + 1) xs)
  one true others = ap (λ ys. f x ∷ ys) others
  one false others = others

pub selected-map : {A B : Type 0} (f : A → B) (selected : Option (List Interval)) (xs : List A) → selected_of selected (map f xs) ≡ map f (selected_of selected xs)
selected-map f None xs = refl
selected-map f (Some rows) xs = covered-map f rows 0 xs

pub length-some : (rule : Conversion) (type : PhysicalType) (entries : Option (List Cell)) (encoding : Encoding) (bytes : List ℕ) (n : ℕ) (left : List Outcome) → unless_none n (value_outcomes rule type entries encoding bytes n) ≡ Some left → length left ≡ n
length-some rule type entries encoding bytes zero left e = ap length (sym (some_is [] left e))
length-some rule type entries encoding bytes (suc n) left e = length-outcomes rule type entries encoding bytes (suc n) left e

places-are : (rule : Conversion) (has_dictionary : Bool) (entries : Option (List Cell)) (page : DataContent) (encoding : Encoding) (places : List Bool) (bytes : List ℕ) (left : List Outcome) (list : List (Option Outcome)) → IsRead has_dictionary page encoding
    → has_readable_levels page.type.repetition page.header ≡ true → places_and_values page ≡ Some (places, bytes) → unless_none (present_count places) (value_outcomes rule page.type.physical_type entries encoding bytes (present_count places)) ≡ Some left
    → placed places left ≡ Some list → place_outcomes rule entries page ≡ Some (map placed_outcome list)
unfolding place_outcomes
places-are rule has_dictionary entries page encoding places bytes left list read readable split stored e = rw (read.named, read.goes, readable, split, stored, e) refl

-- what its selected places give, by the steps of its walk and by its values
pub record GivesAll (rule : Conversion) (entries : Option (List Cell)) (page : DataContent) (steps : List Step) (left : List Outcome) : Type 0 where
  pub rows : given_along steps left ≡ selected_outcomes rule entries page
  pub enough : length left ≡ stored_values steps

pub opened-left : (rule : Conversion) (has_dictionary : Bool) (entries : Option (List Cell)) (page : DataContent) (encoding : Encoding) (bytes : List ℕ) (count : ℕ) (steps : List Step) (left : List Outcome) → IsRead has_dictionary page encoding → IsOpened page bytes count steps
    → page_causes None (is_some entries) (option_map length entries) page ≡ [] → unless_none count (value_outcomes rule page.type.physical_type entries encoding bytes count) ≡ Some left → GivesAll rule entries page steps left
unfolding selected_outcomes
opened-left rule has_dictionary entries page encoding bytes count steps left read own none is =
    let n = present_count own.places in
    let stored : unless_none n (value_outcomes rule page.type.physical_type entries encoding bytes n) ≡ Some left = ap (λ k. unless_none k (value_outcomes rule page.type.physical_type entries encoding bytes k)) (sym own.many) ∙ is in
    let long : length left ≡ n = length-some rule page.type.physical_type entries encoding bytes n left stored in
    let list = is_something (placed own.places left) (are_placed own.places left long) in
    let places : place_outcomes rule entries page ≡ Some (map placed_outcome list.0) = places-are rule has_dictionary entries page encoding own.places bytes left list.0 read own.readable own.split stored list.1 in
    record {
      rows = ap (λ s. given_along s left) own.steps_are ∙ ap (map placed_outcome) (along-plan page.selected own.places left list.0 list.1) ∙ sym (selected-map placed_outcome page.selected list.0)
          ∙ sym (ap (λ causes. page_outcomes causes page.selected (unwrap_or (place_outcomes rule entries page) [])) none ∙ ap (λ o. selected_of page.selected (unwrap_or o [])) places);
      enough = long ∙ sym (ap stored_values own.steps_are ∙ stored-plan page.selected 0 own.places);
    }

-- ---- a state is built

-- the entries of a dictionary, where there is one
pub told-entries : {D : Type 0} (shown : D → List Cell) (dict : Option (Bor D)) → is_some (option_map shown (option_copied dict)) ≡ is_some dict
told-entries shown None = refl
told-entries shown (Some d) = refl

pub counted-entries : {D : Type 0} (shown : D → List Cell) (dict : Option D) → option_map (λ d. length (shown d)) dict ≡ option_map length (option_map shown dict)
counted-entries shown None = refl
counted-entries shown (Some d) = refl

pub no-encoding : (rule : Conversion) (has_dictionary : Bool) (entries : Option (List Cell)) (page : DataContent) → is_some entries ≡ has_dictionary → None ≡ read_encoding has_dictionary page → IsOneOf (causes_in (take 1 (selected_outcomes rule entries page))) (Some NotYetImplemented)
no-encoding rule has_dictionary entries page told none =
    let P : List Cause → Type 0 = λ causes. IsOneOf causes (Some NotYetImplemented) in
    let causes : page_causes None (is_some entries) (option_map length entries) page ≡ NotYetImplemented ∷ [] = ap (λ has. page_causes None has (option_map length entries) page) told ∙ not_read has_dictionary (option_map length entries) page (sym none) in
    told-first rule entries page (Some NotYetImplemented) (subst P (sym causes) (Contains-push [] NotYetImplemented))

pub no-levels : (rule : Conversion) (has_dictionary : Bool) (entries : Option (List Cell)) (page : DataContent) (encoding : Encoding) (o : Option Cause) → is_some entries ≡ has_dictionary → Some encoding ≡ read_encoding has_dictionary page → IsOneOf (levels_causes page) o
    → IsOneOf (causes_in (take 1 (selected_outcomes rule entries page))) o
no-levels rule has_dictionary entries page encoding o told read wrong =
    let P : Bool → Type 0 = λ has. IsOneOf (page_causes None has (option_map length entries) page) o in
    told-first rule entries page o (subst P (sym told) (levels-told has_dictionary (option_map length entries) page encoding o (is_read has_dictionary page encoding (sym read)) wrong))

module _ (rule : Conversion) (has_dictionary : Bool) (entries : Option (List Cell)) (page : DataContent) (encoding : Encoding) (body : Body) (count : ℕ) (steps : List Step) (told : is_some entries ≡ has_dictionary) (read : Some encoding ≡ read_encoding has_dictionary page)
    (levels : levels_causes page ≡ []) (parts : body_parts page.type.repetition page.header page.body ≡ Some body) (steps_are : steps ≡ plan page.selected (unwrap_or (page_places page) [])) (many : count ≡ stored_values steps) where
  opened-here : IsOpened page body.values count steps
  opened-here = opened page body count steps levels parts steps_are many

  read-here : IsRead has_dictionary page encoding
  read-here = is_read has_dictionary page encoding (sym read)

  same-causes : (physical : PhysicalType) (many_entries : Option ℕ) → page.type.physical_type ≡ physical → many_entries ≡ option_map length entries
      → causes_unless_none count (value_causes physical many_entries encoding body.values count) ≡ page_causes None (is_some entries) (option_map length entries) page
  same-causes physical many_entries type counted =
      ap (λ n. causes_unless_none count (value_causes physical n encoding body.values count)) counted
      ∙ ap (λ t. causes_unless_none count (value_causes t (option_map length entries) encoding body.values count)) (sym type)
      ∙ sym (opened-causes has_dictionary (option_map length entries) page encoding body.values count steps read-here opened-here)
      ∙ ap (λ has. page_causes None has (option_map length entries) page) (sym told)

  pub no-values : (physical : PhysicalType) (many_entries : Option ℕ) (o : Option Cause) → page.type.physical_type ≡ physical → many_entries ≡ option_map length entries → IsOneOf (causes_unless_none count (value_causes physical many_entries encoding body.values count)) o
      → IsOneOf (causes_in (take 1 (selected_outcomes rule entries page))) o
  no-values physical many_entries o type counted wrong =
      let P : List Cause → Type 0 = λ causes. IsOneOf causes o in
      told-first rule entries page o (subst P (same-causes physical many_entries type counted) wrong)

  pub built : (physical : PhysicalType) (many_entries : Option ℕ) (left : List Outcome) → page.type.physical_type ≡ physical → many_entries ≡ option_map length entries → causes_unless_none count (value_causes physical many_entries encoding body.values count) ≡ []
      → unless_none count (value_outcomes rule physical entries encoding body.values count) ≡ Some left → GivesAll rule entries page steps left
  built physical many_entries left type counted none is =
      let own : unless_none count (value_outcomes rule page.type.physical_type entries encoding body.values count) ≡ Some left = ap (λ t. unless_none count (value_outcomes rule t entries encoding body.values count)) type ∙ is in
      opened-left rule has_dictionary entries page encoding body.values count steps left read-here opened-here (sym (same-causes physical many_entries type counted) ∙ none) own

-- the bytes of the values are those behind the levels
pub bytes-are : (page : DataContent) (body : Body) → body_parts page.type.repetition page.header page.body ≡ Some body → value_bytes page ≡ body.values
bytes-are page body e = ap (λ o. option_map_or (λ b. b.values) o []) e
