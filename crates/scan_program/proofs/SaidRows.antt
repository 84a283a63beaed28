-- What the matches hold, by the parts that the words say.
use Rattle.std.proofs.Common.{◌≡◌, ◌∙◌, Bool, true, false, refl, sym, ap, subst, true≢false, List, [], ◌∷◌, ◌++◌, codes}
use Rattle.std.specs.Prelude.{Option, Some, None, if◌then◌else◌, find, fold, is_some, option_map, option_and_then, slice_get, unwrap_or}
use Rattle.std.specs.Str.{bytes_eq}
use Rattle.std.proofs.lemmas.Slice.Eq.{bytes_eq-Decides}
use Rattle.clap.specs.Walk.{Row, Text, all_of, first_of, has_row, one_of, reading_by, row_text, with_default, with_values, without}
use Rattle.clap.specs.declared.builder.value_parser.Reading.{Reading}
use Rattle.clap.specs.declared.parser.matches.ValueSource.{ValueSource}
use Rattle.clap.specs.declared.parser.matches.ValueSource.TheVariants.{CommandLine, DefaultValue}
use Rattle.scan_program.proofs.Lexed.{Which, chunk, limit, name_of, rules_of_words}
use Rattle.scan_program.proofs.Walked.{Part, a_summary, an_item, an_option, applied, applied_part, built_item, built_option, built_summary}

-- ---- rows

abbrev row_for : Text → List Row → Option Row
row_for id rows = find (λ r. bytes_eq r.id id) rows

abbrev new_row : Text → Reading → ValueSource → List Text → Row
new_row id how source values = record { id = id; values = values; count = None; source = Some source; reading = how }

other : (id name : Text) (how : Reading) (source : ValueSource) (values : List Text) (rows : List Row) → bytes_eq id name ≡ false
    → row_for name (with_values id how source values rows) ≡ row_for name rows
other id name how source values [] apart = rw apart refl
other id name how source values (r ∷ rows) apart = by (bytes_eq r.id id) refl (other id name how source values rows apart)
  where
    by : (b : Bool) → bytes_eq r.id id ≡ b → row_for name (with_values id how source values rows) ≡ row_for name rows → row_for name (with_values id how source values (r ∷ rows)) ≡ row_for name (r ∷ rows)
    by true e behind =
        let none : bytes_eq r.id name ≡ false = ap (λ t. bytes_eq t name) ((bytes_eq-Decides r.id id).0 e) ∙ apart in
        rw (e, none) refl
    by false e behind = rw e (ap (λ o. if bytes_eq r.id name then Some r else o) behind)

own : (id : Text) (how : Reading) (source : ValueSource) (values : List Text) (rows : List Row) → bytes_eq id id ≡ true
    → option_map (λ r. r.values) (row_for id (with_values id how source values rows)) ≡ Some (unwrap_or (option_map (λ r. r.values) (row_for id rows)) [] ++ values)
own id how source values [] same = rw same refl
own id how source values (r ∷ rows) same = by (bytes_eq r.id id) refl (own id how source values rows same)
  where
    by : (b : Bool) → bytes_eq r.id id ≡ b
        → option_map (λ r. r.values) (row_for id (with_values id how source values rows)) ≡ Some (unwrap_or (option_map (λ r. r.values) (row_for id rows)) [] ++ values)
        → option_map (λ r. r.values) (row_for id (with_values id how source values (r ∷ rows))) ≡ Some (unwrap_or (option_map (λ r. r.values) (row_for id (r ∷ rows))) [] ++ values)
    by true e behind = rw (e, e) refl
    by false e behind = rw (e, e) behind

-- where an argument has no row yet
new_own : (id : Text) (how : Reading) (source : ValueSource) (values : List Text) (rows : List Row) → bytes_eq id id ≡ true → has_row id rows ≡ false
    → row_for id (with_values id how source values rows) ≡ Some (new_row id how source values)
new_own id how source values [] same none = rw same refl
new_own id how source values (r ∷ rows) same none = by (bytes_eq r.id id) refl none (new_own id how source values rows same)
  where
    by : (b : Bool) → bytes_eq r.id id ≡ b → has_row id (r ∷ rows) ≡ false
        → (has_row id rows ≡ false → row_for id (with_values id how source values rows) ≡ Some (new_row id how source values))
        → row_for id (with_values id how source values (r ∷ rows)) ≡ Some (new_row id how source values)
    by true e none behind = absurd (true≢false (rw e at none))
    by false e none behind = rw (e, e) (behind (rw e at none))

kept : (id : Text) (rows : List Row) → has_row id rows ≡ false → without id rows ≡ rows
kept id [] none = refl
kept id (r ∷ rows) none = by (bytes_eq r.id id) refl none (kept id rows)
  where
    by : (b : Bool) → bytes_eq r.id id ≡ b → has_row id (r ∷ rows) ≡ false → (has_row id rows ≡ false → without id rows ≡ rows) → without id (r ∷ rows) ≡ r ∷ rows
    by true e none behind = absurd (true≢false (rw e at none))
    by false e none behind = rw e (ap (λ rest. r ∷ rest) (behind (rw e at none)))

found : (id : Text) (rows : List Row) → has_row id rows ≡ is_some (row_for id rows)
found id [] = refl
found id (r ∷ rows) = by (bytes_eq r.id id) refl (found id rows)
  where
    by : (b : Bool) → bytes_eq r.id id ≡ b → has_row id rows ≡ is_some (row_for id rows) → has_row id (r ∷ rows) ≡ is_some (row_for id (r ∷ rows))
    by true e behind = rw e refl
    by false e behind = rw e behind

-- ---- what was said so far

pub record State : Type 0 where
  pub items : List Text
  pub options : Which → Option Text
  pub summary : Bool

abbrev pub start : State
start = record { items = []; options = λ x. None; summary = false }

abbrev pub with_option : Which → Text → (Which → Option Text) → Which → Option Text
with_option chunk text options chunk = Some text
with_option chunk text options limit = options limit
with_option limit text options chunk = options chunk
with_option limit text options limit = Some text

abbrev pub step : Part → State → Option State
step (an_item text) state = Some (record state { items = state.items ++ text ∷ [] })
step (an_option x text) state = if is_some (state.options x) then None else Some (record state { options = with_option x text state.options })
step a_summary state = if state.summary then None else Some (record state { summary = true })

unfoldable pub steps : List Part → State → Option State
steps [] state = Some state
steps (part ∷ said) state = option_and_then (steps said) (step part state)

abbrev one_text : Text → List Text
one_text text = text ∷ []

abbrev flag_row : Row
flag_row = new_row (codes "summary") (reading_by built_summary) CommandLine (codes "true" ∷ [])

pub record Holds (rows : List Row) (state : State) : Type 0 where
  pub items : unwrap_or (all_of (codes "ITEM") rows) [] ≡ state.items
  pub options : (x : Which) → all_of (name_of x) rows ≡ option_map one_text (state.options x)
  pub summary : row_for (codes "summary") rows ≡ (if state.summary then Some flag_row else None)

pub starts : Holds [] start
starts = record { items = refl; options = λ x. refl; summary = refl }

abbrev pub Agree : Option (List Row) → Option State → Type 0
Agree (Some rows) (Some state) = Holds rows state
Agree (Some rows) None = ⊥
Agree None (Some state) = ⊥
Agree None None = Unit

abbrev values_of : Option Row → Option (List Text)
values_of o = option_map (λ r. r.values) o

-- ---- one part

apart_item : (x : Which) → bytes_eq (codes "ITEM") (name_of x) ≡ false
apart_item chunk = refl
apart_item limit = refl

item_stepped : (text : Text) (rows : List Row) (state : State) → Holds rows state → Agree (applied_part (an_item text) rows) (step (an_item text) state)
item_stepped text rows state holds = record {
  items = ap (λ o. unwrap_or o []) (own (codes "ITEM") (reading_by built_item) CommandLine (text ∷ []) rows refl) ∙ ap (λ texts. texts ++ text ∷ []) holds.items;
  options = λ x. ap values_of (other (codes "ITEM") (name_of x) (reading_by built_item) CommandLine (text ∷ []) rows (apart_item x)) ∙ holds.options x;
  summary = other (codes "ITEM") (codes "summary") (reading_by built_item) CommandLine (text ∷ []) rows refl ∙ holds.summary;
}

same_presence : {X Y : Type 0} (f : X → List Text) (g : Y → List Text) (a : Option X) (b : Option Y) → option_map f a ≡ option_map g b → is_some a ≡ is_some b
same_presence f g None None e = refl
same_presence f g None (Some y) e = absurd (true≢false (sym (ap (λ o. is_some o) e)))
same_presence f g (Some x) None e = absurd (true≢false (ap (λ o. is_some o) e))
same_presence f g (Some x) (Some y) e = refl

-- an option that has a row is refused, and else gets one
option_used : (x : Which) (text : Text) (rows : List Row)
    → applied_part (an_option x text) rows
    ≡ (if has_row (name_of x) rows then None else Some (with_values (name_of x) (reading_by (built_option x)) CommandLine (text ∷ []) (without (name_of x) rows)))
option_used chunk text rows = by (has_row (codes "chunk") rows) refl
  where
    by : (b : Bool) → has_row (codes "chunk") rows ≡ b → applied_part (an_option chunk text) rows
        ≡ (if has_row (codes "chunk") rows then None else Some (with_values (codes "chunk") (reading_by (built_option chunk)) CommandLine (text ∷ []) (without (codes "chunk") rows)))
    by true e = rw e refl
    by false e = rw e refl
option_used limit text rows = by (has_row (codes "limit") rows) refl
  where
    by : (b : Bool) → has_row (codes "limit") rows ≡ b → applied_part (an_option limit text) rows
        ≡ (if has_row (codes "limit") rows then None else Some (with_values (codes "limit") (reading_by (built_option limit)) CommandLine (text ∷ []) (without (codes "limit") rows)))
    by true e = rw e refl
    by false e = rw e refl

with_text : (x y : Which) (text : Text) (how : Reading) (rows : List Row) (state : State) → Holds rows state → has_row (name_of x) rows ≡ false
    → all_of (name_of y) (with_values (name_of x) how CommandLine (text ∷ []) rows) ≡ option_map one_text (with_option x text state.options y)
with_text chunk chunk text how rows state holds none = ap values_of (new_own (codes "chunk") how CommandLine (text ∷ []) rows refl none)
with_text chunk limit text how rows state holds none = ap values_of (other (codes "chunk") (codes "limit") how CommandLine (text ∷ []) rows refl) ∙ holds.options limit
with_text limit chunk text how rows state holds none = ap values_of (other (codes "limit") (codes "chunk") how CommandLine (text ∷ []) rows refl) ∙ holds.options chunk
with_text limit limit text how rows state holds none = ap values_of (new_own (codes "limit") how CommandLine (text ∷ []) rows refl none)

apart_option : (x : Which) → (bytes_eq (name_of x) (codes "ITEM") ≡ false) × (bytes_eq (name_of x) (codes "summary") ≡ false)
apart_option chunk = (refl, refl)
apart_option limit = (refl, refl)

option_stepped : (x : Which) (text : Text) (rows : List Row) (state : State) → Holds rows state → Agree (applied_part (an_option x text) rows) (step (an_option x text) state)
option_stepped x text rows state holds = by (has_row (name_of x) rows) refl (found (name_of x) rows ∙ same_presence (λ r. r.values) one_text (row_for (name_of x) rows) (state.options x) (holds.options x))
  where
    how : Reading
    how = reading_by (built_option x)

    by : (b : Bool) → has_row (name_of x) rows ≡ b → has_row (name_of x) rows ≡ is_some (state.options x) → Agree (applied_part (an_option x text) rows) (step (an_option x text) state)
    by true e same = rw (option_used x text rows, e, (sym same ∙ e)) tt
    by false e same = rw (option_used x text rows, e, (sym same ∙ e), kept (name_of x) rows e) record {
      items = ap (λ o. unwrap_or (values_of o) []) (other (name_of x) (codes "ITEM") how CommandLine (text ∷ []) rows (apart_option x).0) ∙ holds.items;
      options = λ y. with_text x y text how rows state holds e;
      summary = other (name_of x) (codes "summary") how CommandLine (text ∷ []) rows (apart_option x).1 ∙ holds.summary;
    }

-- the flag is refused where it has a row, and else gets one
flag_used : (rows : List Row)
    → applied_part a_summary rows
    ≡ (if has_row (codes "summary") rows then None else Some (with_values (codes "summary") (reading_by built_summary) CommandLine (codes "true" ∷ []) (without (codes "summary") rows)))
flag_used rows = by (has_row (codes "summary") rows) refl
  where
    by : (b : Bool) → has_row (codes "summary") rows ≡ b → applied_part a_summary rows
        ≡ (if has_row (codes "summary") rows then None else Some (with_values (codes "summary") (reading_by built_summary) CommandLine (codes "true" ∷ []) (without (codes "summary") rows)))
    by true e = rw e refl
    by false e = rw e refl

other_than_flag : (x : Which) → bytes_eq (codes "summary") (name_of x) ≡ false
other_than_flag chunk = refl
other_than_flag limit = refl

flag_stepped : (rows : List Row) (state : State) → Holds rows state → Agree (applied_part a_summary rows) (step a_summary state)
flag_stepped rows state holds = by (has_row (codes "summary") rows) refl (found (codes "summary") rows ∙ ap (λ o. is_some o) holds.summary ∙ told state.summary)
  where
    told : (b : Bool) → is_some (if b then Some flag_row else None) ≡ b
    told true = refl
    told false = refl

    how : Reading
    how = reading_by built_summary

    by : (b : Bool) → has_row (codes "summary") rows ≡ b → has_row (codes "summary") rows ≡ state.summary → Agree (applied_part a_summary rows) (step a_summary state)
    by true e same = rw (flag_used rows, e, (sym same ∙ e)) tt
    by false e same = rw (flag_used rows, e, (sym same ∙ e), kept (codes "summary") rows e) record {
      items = ap (λ o. unwrap_or (values_of o) []) (other (codes "summary") (codes "ITEM") how CommandLine (codes "true" ∷ []) rows refl) ∙ holds.items;
      options = λ y. ap values_of (other (codes "summary") (name_of y) how CommandLine (codes "true" ∷ []) rows (other_than_flag y)) ∙ holds.options y;
      summary = new_own (codes "summary") how CommandLine (codes "true" ∷ []) rows refl e;
    }

-- ---- all parts

stepped : (part : Part) (rows : List Row) (state : State) → Holds rows state → Agree (applied_part part rows) (step part state)
stepped (an_item text) rows state holds = item_stepped text rows state holds
stepped (an_option x text) rows state holds = option_stepped x text rows state holds
stepped a_summary rows state holds = flag_stepped rows state holds

pub agree : (said : List Part) (rows : List Row) (state : State) → Holds rows state → Agree (applied said rows) (steps said state)
unfolding applied steps
agree [] rows state holds = holds
agree (part ∷ said) rows state holds = behind (agree said) (applied_part part rows) (step part state) (stepped part rows state holds)
  where
    behind : ((rows : List Row) (state : State) → Holds rows state → Agree (applied said rows) (steps said state)) → (a : Option (List Row)) (b : Option State) → Agree a b
        → Agree (option_and_then (applied said) a) (option_and_then (steps said) b)
    behind next (Some rows) (Some state) holds = next rows state holds
    behind next (Some rows) None holds = absurd holds
    behind next None (Some state) holds = absurd holds
    behind next None None holds = holds

-- ---- what is read of the matches

abbrev pub finished_rows : List Row → List Row
finished_rows rows = fold with_default rows rules_of_words

pub record Reads (rows : List Row) (state : State) : Type 0 where
  pub items : unwrap_or (all_of (codes "ITEM") rows) [] ≡ state.items
  pub options : (x : Which) → first_of (name_of x) rows ≡ state.options x
  pub summary : one_of (codes "summary") rows ≡ Some (if state.summary then codes "true" else codes "false")

same_rows : (b : Bool) (rows : List Row) → (if b then rows else rows) ≡ rows
same_rows true rows = refl
same_rows false rows = refl

-- only the flag has a default
without_defaults : (rows : List Row) → finished_rows rows ≡ with_default rows built_summary
without_defaults rows =
    ap (λ rows. with_default (with_default (with_default rows (built_option chunk)) (built_option limit)) built_summary) (same_rows (has_row (codes "ITEM") rows) rows)
    ∙ ap (λ rows. with_default (with_default rows (built_option limit)) built_summary) (same_rows (has_row (codes "chunk") rows) rows)
    ∙ ap (λ rows. with_default rows built_summary) (same_rows (has_row (codes "limit") rows) rows)

first_from : (o : Option Row) (text : Option Text) → values_of o ≡ option_map one_text text → option_and_then (λ (r : Row). slice_get r.values 0) o ≡ text
first_from o text e = fused o ∙ ap (option_and_then (λ (texts : List Text). slice_get texts 0)) e ∙ single text
  where
    fused : (o : Option Row) → option_and_then (λ (r : Row). slice_get r.values 0) o ≡ option_and_then (λ (texts : List Text). slice_get texts 0) (values_of o)
    fused None = refl
    fused (Some r) = refl

    single : (text : Option Text) → option_and_then (λ (texts : List Text). slice_get texts 0) (option_map one_text text) ≡ text
    single None = refl
    single (Some text) = refl

pub reads : (rows : List Row) (state : State) → Holds rows state → Reads (finished_rows rows) state
reads rows state holds = subst (λ rows. Reads rows state) (sym (without_defaults rows)) (by state.summary refl)
  where
    how : Reading
    how = reading_by built_summary

    by : (b : Bool) → state.summary ≡ b → Reads (with_default rows built_summary) state
    by true e =
        let row : row_for (codes "summary") rows ≡ Some flag_row = holds.summary ∙ ap (λ b. if b then Some flag_row else None) e in
        let has : has_row (codes "summary") rows ≡ true = found (codes "summary") rows ∙ ap (λ o. is_some o) row in
        rw has record {
          items = holds.items;
          options = λ x. first_from (row_for (name_of x) rows) (state.options x) (holds.options x);
          summary = ap (option_and_then row_text) row ∙ ap (λ b. Some (if b then codes "true" else codes "false")) (sym e);
        }
    by false e =
        let row : row_for (codes "summary") rows ≡ None = holds.summary ∙ ap (λ b. if b then Some flag_row else None) e in
        let has : has_row (codes "summary") rows ≡ false = found (codes "summary") rows ∙ ap (λ o. is_some o) row in
        rw has record {
          items = ap (λ o. unwrap_or (values_of o) []) (other (codes "summary") (codes "ITEM") how DefaultValue (codes "false" ∷ []) rows refl) ∙ holds.items;
          options = λ x. ap (option_and_then (λ (r : Row). slice_get r.values 0)) (other (codes "summary") (name_of x) how DefaultValue (codes "false" ∷ []) rows (other_than_flag x))
              ∙ first_from (row_for (name_of x) rows) (state.options x) (holds.options x);
          summary = ap (option_and_then row_text) (new_own (codes "summary") how DefaultValue (codes "false" ∷ []) rows refl has) ∙ ap (λ b. Some (if b then codes "true" else codes "false")) (sym e);
        }
