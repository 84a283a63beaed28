-- What the parser makes of the program's words, one after another.
use Rattle.std.proofs.Common.{◌≡◌, ◌∙◌, ◌&&◌, ◌||◌, Bool, true, false, refl, sym, ap, true≢false, List, [], ◌∷◌, ◌++◌, map, codes}
use Rattle.std.specs.Prelude.{Option, Some, None, if◌then◌else◌, fold, option_map, option_and_then}
use Rattle.std.specs.Str.{bytes_eq, IsUtf8}
use Rattle.clap.specs.Faults.{check_fault, default_fault, defaults_fault, fault_of, given_default_fault, flag_word_fault, settle_fault, turn_fault, use_fault, walk_fault, word_fault}
use Rattle.clap.specs.Kinds.{Kinds, or_else}
use Rattle.clap.specs.Lexer.{long_of, short_of}
use Rattle.clap.specs.Simple.{built, filled, with_index}
use Rattle.clap.proofs.FaultLemmas.{leaf_fault, past}
use Rattle.clap.specs.Walk.{Row, Rule, Text, Waiting, idle, is_pending, pushed, option, positional, Walk, finished, has_row, is_empty, nothing_held, settled, walk, with_default, used, walked}
use Rattle.scan_program.proofs.Lexed.{program, Kind, Looks, Which, assigned, chunk, chunk_option, dashes, flag, held, item, kind_of, lexed, limit, limit_option, name_of, opens, plain, rules_of_words, shape, summary_flag, wrong}

-- ---- what the words say

pub data Part : Type 0 where
  an_item : Text → Part
  an_option : Which → Text → Part
  a_summary : Part

-- the parts that begin with a word of a kind, before those of the words behind it
abbrev pub next_parts : Kind → Text → List Text → Option (List Part) → (Which → Option (List Part)) → Option (List Part)
next_parts dashes word rest behind waits = Some (map an_item rest)
next_parts (assigned x value) word rest behind waits = option_map (λ said. an_option x value ∷ said) behind
next_parts (opens x) word rest behind waits = waits x
next_parts flag word rest behind waits = option_map (λ said. a_summary ∷ said) behind
next_parts wrong word rest behind waits = None
next_parts plain word rest behind waits = option_map (λ said. an_item word ∷ said) behind

abbrev pub value_parts : Kind → Which → Text → Option (List Part) → Option (List Part)
value_parts plain x word behind = option_map (λ said. an_option x word ∷ said) behind
value_parts dashes x word behind = None
value_parts (assigned y value) x word behind = None
value_parts (opens y) x word behind = None
value_parts flag x word behind = None
value_parts wrong x word behind = None

-- what words say, behind an option that waits for its value or behind none
unfoldable pub parts : Option Which → List Text → Option (List Part)
parts None [] = Some []
parts (Some x) [] = None
parts None (word ∷ rest) = next_parts (kind_of word) word rest (parts None rest) (λ x. parts (Some x) rest)
parts (Some x) (word ∷ rest) = value_parts (kind_of word) x word (parts None rest)

-- ---- what they leave in the matches

abbrev pub built_item : Rule
built_item = with_index 1 (filled item)

abbrev pub built_option : Which → Rule
built_option chunk = with_index 2 (filled chunk_option)
built_option limit = with_index 2 (filled limit_option)

abbrev pub built_summary : Rule
built_summary = with_index 2 (filled summary_flag)

abbrev pub passing : Kinds → List Row → Option (List Row)
passing [] rows = Some rows
passing (k ∷ ks) rows = None

abbrev pub use_of : Rule → List Text → List Row → Option (List Row)
use_of rule values rows = passing (use_fault false rule values rows) (used rule values rows)

abbrev pub applied_part : Part → List Row → Option (List Row)
applied_part (an_item text) rows = Some (used built_item (text ∷ []) rows)
applied_part (an_option x text) rows = use_of (built_option x) (text ∷ []) rows
applied_part a_summary rows = use_of built_summary [] rows

unfoldable pub applied : List Part → List Row → Option (List Row)
applied [] rows = Some rows
applied (part ∷ said) rows = option_and_then (applied said) (applied_part part rows)

-- what parts leave behind rows, where there are parts
abbrev pub leaves : Option (List Part) → List Row → Option (List Row)
leaves said rows = option_and_then (λ parts. applied parts rows) said

-- ---- the walk

abbrev pub at : List Row → Option (Text × List Text) → Waiting → Bool → Walk
at rows pending waiting trailing = record { held = held rows pending; waiting = waiting; position = 1; is_trailing = trailing; stopped = None }

abbrev pub settled_rows : List Row → Option (Text × List Text) → List Row
settled_rows rows pending = (settled rules_of_words (held rows pending)).rows

abbrev pub settle : List Row → Option (Text × List Text) → Kinds
settle rows pending = settle_fault rules_of_words false (held rows pending)

abbrev pub ready : List Row → Option (Text × List Text) → Option (List Row)
ready rows pending = passing (settle rows pending) (settled_rows rows pending)

-- the rows at the end of a walk over words, where nothing is wrong
unfoldable pub verdict : Walk → List Text → Option (List Row)
verdict w words =
    let end = (fold (walked rules_of_words []) w words).held in
    passing (or_else (walk_fault shape [] w words) (settle_fault rules_of_words false end)) (settled rules_of_words end).rows

abbrev after : Kinds → Option (List Row) → Option (List Row)
after [] rows = rows
after (k ∷ ks) rows = None

verdict_end : (rows : List Row) (pending : Option (Text × List Text)) (waiting : Waiting) (trailing : Bool) → verdict (at rows pending waiting trailing) [] ≡ ready rows pending
unfolding verdict walk_fault
verdict_end rows pending waiting trailing = refl

verdict_step : (w : Walk) (word : Text) (rest : List Text) → verdict w (word ∷ rest) ≡ after (turn_fault shape [] w word) (verdict (walked rules_of_words [] w word) rest)
unfolding verdict walk_fault
verdict_step w word rest =
    let end = (fold (walked rules_of_words []) (walked rules_of_words [] w word) rest).held in
    by (turn_fault shape [] w word) (walk_fault shape [] (walked rules_of_words [] w word) rest) (settle_fault rules_of_words false end) (settled rules_of_words end).rows
  where
    by : (k f s : Kinds) (rows : List Row) → passing (or_else (or_else k f) s) rows ≡ after k (passing (or_else f s) rows)
    by [] f s rows = refl
    by (k ∷ ks) f s rows = refl

-- ---- steps

and_false : (b : Bool) → (b && false) ≡ false
and_false true = refl
and_false false = refl

refuses : (faults step : Kinds) (rows : Option (List Row)) → is_empty faults ≡ false → after (or_else faults step) rows ≡ None
refuses [] step rows e = absurd (true≢false e)
refuses (k ∷ ks) step rows e = refl

abbrev no_kinds : Kinds
no_kinds = []

abbrev no_list : Option (List Row)
no_list = None

no_rows : (rows : Option (List Row)) → option_and_then (λ (rows : List Row). no_list) rows ≡ None
no_rows None = refl
no_rows (Some rows) = refl

chained : (k u : Kinds) (settled used : List Row) (F G : List Row → Option (List Row)) → G settled ≡ option_and_then F (passing u used)
    → after (or_else (or_else k u) []) (F used) ≡ option_and_then G (passing k settled)
chained [] [] settled used F G e = sym e
chained [] (x ∷ xs) settled used F G e = sym e
chained (x ∷ xs) u settled used F G e = refl

once : (k : Kinds) (settled : List Row) (G : List Row → Option (List Row)) → after k (G settled) ≡ option_and_then G (passing k settled)
once [] settled G = refl
once (x ∷ xs) settled G = refl

once_more : (k : Kinds) (settled : List Row) (G : List Row → Option (List Row)) → after (or_else k []) (G settled) ≡ option_and_then G (passing k settled)
once_more [] settled G = refl
once_more (x ∷ xs) settled G = refl

one_part : (part : Part) (said : Option (List Part)) (rows : List Row)
    → leaves (option_map (λ said. part ∷ said) said) rows ≡ option_and_then (leaves said) (applied_part part rows)
unfolding applied
one_part part None rows = sym (no_rows (applied_part part rows))
one_part part (Some said) rows = refl

-- a word that goes to the items
abbrev item_walk : List Row → Option (Text × List Text) → Bool → Text → Bool → Walk
item_walk rows pending trails word stays = record {
  held = pushed (codes "ITEM") word (if stays then held rows pending else settled rules_of_words (held rows pending));
  waiting = positional;
  position = 1;
  is_trailing = trails;
  stopped = None;
}

given : (word : Text) (rest : List Text) (rows : List Row) (pending : Option (Text × List Text)) (waiting : Waiting)
    → verdict (at rows pending waiting true) (word ∷ rest) ≡ after (settle rows pending) (verdict (at (settled_rows rows pending) (Some (codes "ITEM", word ∷ [])) positional true) rest)
unfolding walked
given word rest rows pending waiting =
    verdict_step (at rows pending waiting true) word rest
    ∙ (λ i. after (if and_false (is_pending built_item pending) i then [] else settle rows pending)
    (verdict (item_walk rows pending true word (and_false (is_pending built_item pending) i)) rest))

-- behind `--` every word is an item
trailing : (words : List Text) (rows : List Row) (pending : Option (Text × List Text)) (waiting : Waiting)
    → verdict (at rows pending waiting true) words ≡ option_and_then (applied (map an_item words)) (ready rows pending)
unfolding applied
trailing [] rows pending waiting = verdict_end rows pending waiting true ∙ by (ready rows pending)
  where
    by : (rows : Option (List Row)) → rows ≡ option_and_then (applied []) rows
    by None = refl
    by (Some rows) = refl
trailing (word ∷ words) rows pending waiting =
    given word words rows pending waiting
    ∙ ap (after (settle rows pending)) (trailing words (settled_rows rows pending) (Some (codes "ITEM", word ∷ [])) positional)
    ∙ once (settle rows pending) (settled_rows rows pending) (applied (map an_item (word ∷ words)))

-- ---- words before `--`

-- nothing waits for a value
abbrev free : Bool → Waiting
free true = positional
free false = idle

-- what stands behind the rows that are settled
abbrev goes_on : Option (List Part) → List Row → Option (Text × List Text) → Option (List Row)
goes_on said rows pending = option_and_then (leaves said) (ready rows pending)

dashes_met : (b : Bool) (rest : List Text) (rows : List Row) (pending : Option (Text × List Text))
    → verdict (at rows pending (free b) false) (codes "--" ∷ rest) ≡ goes_on (Some (map an_item rest)) rows pending
unfolding walked
dashes_met true rest rows pending = verdict_step (at rows pending positional false) (codes "--") rest ∙ trailing rest rows pending positional
dashes_met false rest rows pending = verdict_step (at rows pending idle false) (codes "--") rest ∙ trailing rest rows pending idle

-- one use of an argument, behind which the walk goes on
used_up : (rule : Rule) (values : List Text) (part : Part) (said : Option (List Part)) (rows : List Row) (pending : Option (Text × List Text))
    → use_of rule values (settled_rows rows pending) ≡ applied_part part (settled_rows rows pending)
    → after (or_else (or_else (settle rows pending) (use_fault false rule values (settled_rows rows pending))) []) (leaves said (used rule values (settled_rows rows pending)))
    ≡ goes_on (option_map (λ said. part ∷ said) said) rows pending
used_up rule values part said rows pending same =
    chained (settle rows pending) (use_fault false rule values (settled_rows rows pending)) (settled_rows rows pending) (used rule values (settled_rows rows pending))
    (leaves said) (leaves (option_map (λ said. part ∷ said) said)) (one_part part said (settled_rows rows pending) ∙ ap (option_and_then (leaves said)) (sym same))

module _ (rest : List Text) (rows : List Row) (pending : Option (Text × List Text)) (said : Option (List Part)) (behind : (rows : List Row) → verdict (at rows None idle false) rest ≡ leaves said rows) where
  reacted_to : (rule : Rule) (values : List Text) (part : Part) (w : Walk) (word : Text)
      → turn_fault shape [] w word ≡ or_else (or_else (settle rows pending) (use_fault false rule values (settled_rows rows pending))) []
      → walked rules_of_words [] w word ≡ at (used rule values (settled_rows rows pending)) None idle false
      → use_of rule values (settled_rows rows pending) ≡ applied_part part (settled_rows rows pending)
      → verdict w (word ∷ rest) ≡ goes_on (option_map (λ said. part ∷ said) said) rows pending
  reacted_to rule values part w word faults walks same =
      verdict_step w word rest ∙ (λ i. after (faults i) (verdict (walks i) rest))
      ∙ ap (after (or_else (or_else (settle rows pending) (use_fault false rule values (settled_rows rows pending))) [])) (behind (used rule values (settled_rows rows pending)))
      ∙ used_up rule values part said rows pending same

  assigned_met : (x : Which) (value : Text) (b : Bool)
      → verdict (at rows pending (free b) false) ((codes "--" ++ name_of x ++ codes "=" ++ value) ∷ rest) ≡ goes_on (option_map (λ said. an_option x value ∷ said) said) rows pending
  unfolding walked
  assigned_met chunk value true = reacted_to (built_option chunk) (value ∷ []) (an_option chunk value) (at rows pending positional false) (codes "--chunk=" ++ value) refl refl refl
  assigned_met chunk value false = reacted_to (built_option chunk) (value ∷ []) (an_option chunk value) (at rows pending idle false) (codes "--chunk=" ++ value) refl refl refl
  assigned_met limit value true = reacted_to (built_option limit) (value ∷ []) (an_option limit value) (at rows pending positional false) (codes "--limit=" ++ value) refl refl refl
  assigned_met limit value false = reacted_to (built_option limit) (value ∷ []) (an_option limit value) (at rows pending idle false) (codes "--limit=" ++ value) refl refl refl

  flag_met : (b : Bool) → verdict (at rows pending (free b) false) (codes "--summary" ∷ rest) ≡ goes_on (option_map (λ said. a_summary ∷ said) said) rows pending
  unfolding walked
  flag_met true = reacted_to built_summary [] a_summary (at rows pending positional false) (codes "--summary") refl refl refl
  flag_met false = reacted_to built_summary [] a_summary (at rows pending idle false) (codes "--summary") refl refl refl

-- an option that waits for its value
abbrev waiting : List Row → Which → Walk
waiting rows x = at rows (Some (name_of x, [])) (option (name_of x)) false

opened : (x : Which) (b : Bool) (rest : List Text) (rows : List Row) (pending : Option (Text × List Text)) (said : Option (List Part))
    → ((rows : List Row) → verdict (waiting rows x) rest ≡ leaves said rows)
    → verdict (at rows pending (free b) false) ((codes "--" ++ name_of x) ∷ rest) ≡ goes_on said rows pending
unfolding walked
opened chunk true rest rows pending said behind =
    verdict_step (at rows pending positional false) (codes "--chunk") rest ∙ ap (after (or_else (settle rows pending) [])) (behind (settled_rows rows pending))
    ∙ once_more (settle rows pending) (settled_rows rows pending) (leaves said)
opened chunk false rest rows pending said behind =
    verdict_step (at rows pending idle false) (codes "--chunk") rest ∙ ap (after (or_else (settle rows pending) [])) (behind (settled_rows rows pending))
    ∙ once_more (settle rows pending) (settled_rows rows pending) (leaves said)
opened limit true rest rows pending said behind =
    verdict_step (at rows pending positional false) (codes "--limit") rest ∙ ap (after (or_else (settle rows pending) [])) (behind (settled_rows rows pending))
    ∙ once_more (settle rows pending) (settled_rows rows pending) (leaves said)
opened limit false rest rows pending said behind =
    verdict_step (at rows pending idle false) (codes "--limit") rest ∙ ap (after (or_else (settle rows pending) [])) (behind (settled_rows rows pending))
    ∙ once_more (settle rows pending) (settled_rows rows pending) (leaves said)

-- a word that is refused, whatever waits
word_refused : (word : Text) (rows : List Row) (pending : Option (Text × List Text)) (waits : Waiting) → bytes_eq word (codes "--") ≡ false
    → is_empty (flag_word_fault rules_of_words false (long_of word) word (held rows pending)) ≡ false → is_empty (word_fault shape [] false waits word (held rows pending)) ≡ false
word_refused word rows pending idle no_dashes faults = rw no_dashes faults
word_refused word rows pending (option id) no_dashes faults = rw no_dashes faults
word_refused word rows pending positional no_dashes faults = rw no_dashes faults

refused_at : (word : Text) (rest : List Text) (rows : List Row) (pending : Option (Text × List Text)) (waits : Waiting)
    → bytes_eq word (codes "--") ≡ false → is_empty (flag_word_fault rules_of_words false (long_of word) word (held rows pending)) ≡ false
    → verdict (at rows pending waits false) (word ∷ rest) ≡ None
refused_at word rest rows pending waits no_dashes faults =
    verdict_step (at rows pending waits false) word rest ∙ refuses (word_fault shape [] false waits word (held rows pending)) _ _ (word_refused word rows pending waits no_dashes faults)

module _ (word : Text) (no_dashes : bytes_eq word (codes "--") ≡ false) (long : long_of word ≡ None) (short : short_of word ≡ None) (rows : List Row) where
  plain_turn : (b : Bool) (pending : Option (Text × List Text))
      → turn_fault shape [] (at rows pending (free b) false) word ≡ (if is_pending built_item pending && false then [] else settle rows pending)
  plain_turn true pending = rw (no_dashes, long, short) refl
  plain_turn false pending = rw (no_dashes, long, short) refl

  plain_walk : (b : Bool) (pending : Option (Text × List Text))
      → walked rules_of_words [] (at rows pending (free b) false) word ≡ item_walk rows pending false word (is_pending built_item pending && false)
  unfolding walked
  plain_walk true pending = rw (no_dashes, long, short) refl
  plain_walk false pending = rw (no_dashes, long, short) refl

  plain_met : (b : Bool) (rest : List Text) (pending : Option (Text × List Text)) (said : Option (List Part))
      → ((rows : List Row) (pending : Option (Text × List Text)) → verdict (at rows pending positional false) rest ≡ goes_on said rows pending)
      → verdict (at rows pending (free b) false) (word ∷ rest) ≡ goes_on (option_map (λ said. an_item word ∷ said) said) rows pending
  plain_met b rest pending said behind =
      verdict_step (at rows pending (free b) false) word rest
      ∙ (λ i. after (plain_turn b pending i) (verdict (plain_walk b pending i) rest))
      ∙ (λ i. after (if and_false (is_pending built_item pending) i then [] else settle rows pending)
      (verdict (item_walk rows pending false word (and_false (is_pending built_item pending) i)) rest))
      ∙ ap (after (settle rows pending)) (behind (settled_rows rows pending) (Some (codes "ITEM", word ∷ [])) ∙ sym (one_part (an_item word) said (settled_rows rows pending)))
      ∙ once (settle rows pending) (settled_rows rows pending) (leaves (option_map (λ said. an_item word ∷ said) said))

  -- the value that an option waits for
  value_turn : (x : Which) → turn_fault shape [] (waiting rows x) word ≡ []
  value_turn chunk = rw (no_dashes, long, short) refl
  value_turn limit = rw (no_dashes, long, short) refl

  value_walk : (x : Which) → walked rules_of_words [] (waiting rows x) word ≡ at rows (Some (name_of x, word ∷ [])) idle false
  unfolding walked
  value_walk chunk = rw (no_dashes, long, short) refl
  value_walk limit = rw (no_dashes, long, short) refl

  value_ready : (x : Which) → ready rows (Some (name_of x, word ∷ [])) ≡ applied_part (an_option x word) rows
  value_ready chunk = refl
  value_ready limit = refl

  value_met : (x : Which) (rest : List Text) (said : Option (List Part))
      → ((rows : List Row) (pending : Option (Text × List Text)) → verdict (at rows pending idle false) rest ≡ goes_on said rows pending)
      → verdict (waiting rows x) (word ∷ rest) ≡ leaves (option_map (λ said. an_option x word ∷ said) said) rows
  value_met x rest said behind =
      verdict_step (waiting rows x) word rest ∙ (λ i. after (value_turn x i) (verdict (value_walk x i) rest)) ∙ behind rows (Some (name_of x, word ∷ []))
      ∙ ap (option_and_then (leaves said)) (value_ready x) ∙ sym (one_part (an_option x word) said rows)

-- an option that waits takes no other word
at_waiting : (x : Which) (word : Text) (rest : List Text) (rows : List Row) → is_empty (turn_fault shape [] (waiting rows x) word) ≡ false → verdict (waiting rows x) (word ∷ rest) ≡ None
at_waiting x word rest rows e = verdict_step (waiting rows x) word rest ∙ by (turn_fault shape [] (waiting rows x) word) (verdict (walked rules_of_words [] (waiting rows x) word) rest) e
  where
    by : (faults : Kinds) (rows : Option (List Row)) → is_empty faults ≡ false → after faults rows ≡ None
    by [] rows e = absurd (true≢false e)
    by (k ∷ ks) rows e = refl

no_value_dashes : (x : Which) (rest : List Text) (rows : List Row) → verdict (waiting rows x) (codes "--" ∷ rest) ≡ None
unfolding walked
no_value_dashes chunk rest rows = verdict_step (waiting rows chunk) (codes "--") rest ∙ trailing rest rows (Some (codes "chunk", [])) (option (codes "chunk"))
no_value_dashes limit rest rows = verdict_step (waiting rows limit) (codes "--") rest ∙ trailing rest rows (Some (codes "limit", [])) (option (codes "limit"))

no_value_assigned : (x y : Which) (value : Text) (rest : List Text) (rows : List Row) → verdict (waiting rows x) ((codes "--" ++ name_of y ++ codes "=" ++ value) ∷ rest) ≡ None
no_value_assigned chunk chunk value rest rows = at_waiting chunk (codes "--chunk=" ++ value) rest rows refl
no_value_assigned chunk limit value rest rows = at_waiting chunk (codes "--limit=" ++ value) rest rows refl
no_value_assigned limit chunk value rest rows = at_waiting limit (codes "--chunk=" ++ value) rest rows refl
no_value_assigned limit limit value rest rows = at_waiting limit (codes "--limit=" ++ value) rest rows refl

no_value_opens : (x y : Which) (rest : List Text) (rows : List Row) → verdict (waiting rows x) ((codes "--" ++ name_of y) ∷ rest) ≡ None
no_value_opens chunk chunk rest rows = at_waiting chunk (codes "--chunk") rest rows refl
no_value_opens chunk limit rest rows = at_waiting chunk (codes "--limit") rest rows refl
no_value_opens limit chunk rest rows = at_waiting limit (codes "--chunk") rest rows refl
no_value_opens limit limit rest rows = at_waiting limit (codes "--limit") rest rows refl

no_value_flag : (x : Which) (rest : List Text) (rows : List Row) → verdict (waiting rows x) (codes "--summary" ∷ rest) ≡ None
no_value_flag chunk rest rows = at_waiting chunk (codes "--summary") rest rows refl
no_value_flag limit rest rows = at_waiting limit (codes "--summary") rest rows refl

abbrev pub AreUtf8 : List Text → Type 0
AreUtf8 [] = Unit
AreUtf8 (word ∷ words) = IsUtf8 word × AreUtf8 words

all_ready : (rows : Option (List Row)) → rows ≡ option_and_then (leaves (Some [])) rows
unfolding applied
all_ready None = refl
all_ready (Some rows) = refl

pub record Walks (words : List Text) : Type 0 where
  pub free : (b : Bool) (rows : List Row) (pending : Option (Text × List Text)) → verdict (at rows pending (free b) false) words ≡ goes_on (parts None words) rows pending
  pub waits : (x : Which) (rows : List Row) → verdict (waiting rows x) words ≡ leaves (parts (Some x) words) rows

pub walks : (words : List Text) → AreUtf8 words → Walks words
unfolding parts
walks [] utf8 = record {
  free = λ b rows pending. verdict_end rows pending (free b) false ∙ all_ready (ready rows pending);
  waits = λ x rows. ends x rows;
}
  where
    ends : (x : Which) (rows : List Row) → verdict (waiting rows x) [] ≡ None
    ends chunk rows = verdict_end rows (Some (codes "chunk", [])) (option (codes "chunk")) false
    ends limit rows = verdict_end rows (Some (codes "limit", [])) (option (codes "limit")) false
walks (word ∷ rest) utf8 =
    let behind = walks rest utf8.1 in
    record { free = λ b rows pending. goes behind (kind_of word) (lexed word utf8.0) b rows pending; waits = λ x rows. takes behind (kind_of word) (lexed word utf8.0) x rows }
  where
    goes : Walks rest → (k : Kind) → Looks word k → (b : Bool) (rows : List Row) (pending : Option (Text × List Text))
        → verdict (at rows pending (free b) false) (word ∷ rest) ≡ goes_on (next_parts k word rest (parts None rest) (λ x. parts (Some x) rest)) rows pending
    goes behind dashes is b rows pending = ap (λ word. verdict (at rows pending (free b) false) (word ∷ rest)) is ∙ dashes_met b rest rows pending
    goes behind (assigned x value) is b rows pending =
        ap (λ word. verdict (at rows pending (free b) false) (word ∷ rest)) is ∙ assigned_met rest rows pending (parts None rest) (λ rows. behind.free false rows None) x value b
    goes behind (opens x) is b rows pending =
        ap (λ word. verdict (at rows pending (free b) false) (word ∷ rest)) is ∙ opened x b rest rows pending (parts (Some x) rest) (behind.waits x)
    goes behind flag is b rows pending =
        ap (λ word. verdict (at rows pending (free b) false) (word ∷ rest)) is ∙ flag_met rest rows pending (parts None rest) (λ rows. behind.free false rows None) b
    goes behind wrong is b rows pending = refused_at word rest rows pending (free b) is.0.dashes (is.2 rows pending) ∙ sym (no_rows (ready rows pending))
    goes behind plain is b rows pending = plain_met word is.0.dashes is.2 is.3 rows b rest pending (parts None rest) (behind.free true)

    takes : Walks rest → (k : Kind) → Looks word k → (x : Which) (rows : List Row) → verdict (waiting rows x) (word ∷ rest) ≡ leaves (value_parts k x word (parts None rest)) rows
    takes behind plain is x rows = value_met word is.0.dashes is.2 is.3 rows x rest (parts None rest) (behind.free false)
    takes behind dashes is x rows = ap (λ word. verdict (waiting rows x) (word ∷ rest)) is ∙ no_value_dashes x rest rows
    takes behind (assigned y value) is x rows = ap (λ word. verdict (waiting rows x) (word ∷ rest)) is ∙ no_value_assigned x y value rest rows
    takes behind (opens y) is x rows = ap (λ word. verdict (waiting rows x) (word ∷ rest)) is ∙ no_value_opens x y rest rows
    takes behind flag is x rows = ap (λ word. verdict (waiting rows x) (word ∷ rest)) is ∙ no_value_flag x rest rows
    takes behind wrong is x rows = refused_at word rest rows (Some (name_of x, [])) (option (name_of x)) is.0.dashes (is.2 rows (Some (name_of x, [])))

-- ---- the whole

-- the rows at the end of a parse, before defaults
abbrev pub rows_of_words : List Text → List Row
rows_of_words words = (settled rules_of_words (walk rules_of_words [] nothing_held words).held).rows

no_default : (rule : Rule) (rows : List Row) (behind : List Rule) → ((b : Bool) → (if b || is_empty rule.defaults then [] else given_default_fault rule rule.defaults) ≡ [])
    → defaults_fault rows (rule ∷ behind) ≡ defaults_fault (with_default rows rule) behind
unfolding defaults_fault
no_default rule rows behind none = past (default_fault rows rule) (defaults_fault (with_default rows rule) behind) (none (has_row rule.id rows))

no_defaults : (rows : List Row) → defaults_fault rows rules_of_words ≡ []
unfolding defaults_fault
no_defaults rows =
    no_default built_item rows (built_option chunk ∷ built_option limit ∷ built_summary ∷ []) (λ b. either b)
    ∙ no_default (built_option chunk) (with_default rows built_item) (built_option limit ∷ built_summary ∷ []) (λ b. either b)
    ∙ no_default (built_option limit) (with_default (with_default rows built_item) (built_option chunk)) (built_summary ∷ []) (λ b. either b)
    ∙ no_default built_summary (with_default (with_default (with_default rows built_item) (built_option chunk)) (built_option limit)) [] (λ b. flags b)
  where
    either : (b : Bool) → (if b || true then no_kinds else no_kinds) ≡ []
    either true = refl
    either false = refl

    flags : (b : Bool) → (if b || false then no_kinds else no_kinds) ≡ []
    flags true = refl
    flags false = refl

faults_are : (file : Text) (words : List Text)
    → fault_of program (file ∷ words) ≡ or_else (walk_fault shape [] (at [] None idle false) words) (settle_fault rules_of_words false (walk rules_of_words [] nothing_held words).held)
faults_are file words =
    let end = (walk rules_of_words [] nothing_held words).held in
    leaf_fault (built program) nothing_held words refl
    ∙ ap (λ defaults. or_else (walk_fault shape [] (at [] None idle false) words) (or_else (settle_fault rules_of_words false end) (or_else defaults (check_fault shape (finished rules_of_words end) false))))
    (no_defaults (settled rules_of_words end).rows)
    ∙ ap (or_else (walk_fault shape [] (at [] None idle false) words)) (without_more (settle_fault rules_of_words false end))
  where
    without_more : (k : Kinds) → or_else k [] ≡ k
    without_more [] = refl
    without_more (k ∷ ks) = refl

parsed : (file : Text) (words : List Text) → AreUtf8 words → passing (fault_of program (file ∷ words)) (rows_of_words words) ≡ leaves (parts None words) []
unfolding verdict
parsed file words utf8 = ap (λ faults. passing faults (rows_of_words words)) (faults_are file words) ∙ (walks words utf8).free false [] None

-- the parser finds nothing wrong exactly where the words say something, and holds then what they leave
pub takes : (file : Text) (words : List Text) → AreUtf8 words → fault_of program (file ∷ words) ≡ [] → leaves (parts None words) [] ≡ Some (rows_of_words words)
takes file words utf8 none = sym (parsed file words utf8) ∙ ap (λ faults. passing faults (rows_of_words words)) none

pub refuses_words : (file : Text) (words : List Text) → AreUtf8 words → (fault_of program (file ∷ words) ≡ [] → ⊥) → leaves (parts None words) [] ≡ None
refuses_words file words utf8 some = sym (parsed file words utf8) ∙ by (fault_of program (file ∷ words)) refl
  where
    by : (faults : Kinds) → fault_of program (file ∷ words) ≡ faults → passing faults (rows_of_words words) ≡ None
    by [] e = absurd (some e)
    by (k ∷ ks) e = refl
