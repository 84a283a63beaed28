-- The command that words spell, by what they say.
use Rattle.std.proofs.Common.{◌≡◌, ◌∙◌, ◌⊎◌, inl, inr, ℕ, Bool, true, false, refl, sym, ap, List, [], ◌∷◌, ◌++◌, append-nil, append_assoc}
use Rattle.std.specs.Prelude.{Option, Some, None, filter_map, is_some, option_map, option_and_then}
use Rattle.pq_common.specs.Spelled.{number}
use Rattle.columns_core.specs.declared.data_type.Field.{Field}
use Rattle.clap.specs.Walk.{Text}
use Rattle.scan_program.specs.Words.{Asks, ChunkSize, Command, SpelledItem, RowLimit, Summary, Word, all_items, as_chunk_size, item_of_word, as_row_limit, as_summary, at_most_one, command_of_words, command_on, command_with, ends, fields, BoundEnd, item_of, put_in_front}
use Rattle.scan_program.specs.Parsed.{number_in, split_items, written_command}
use Rattle.scan_program.proofs.Lexed.{chunk, limit}
use Rattle.scan_program.proofs.SaidRows.{State, start, steps, with_option}
use Rattle.scan_program.proofs.SaidWords.{words_of}
use Rattle.scan_program.proofs.Walked.{Part, a_summary, an_item, an_option}

-- ---- what parts hold

abbrev items_in : List Part → List Text
items_in [] = []
items_in (an_item text ∷ said) = text ∷ items_in said
items_in (an_option x text ∷ said) = items_in said
items_in (a_summary ∷ said) = items_in said

abbrev chunks_in : List Part → List Text
chunks_in [] = []
chunks_in (an_item text ∷ said) = chunks_in said
chunks_in (an_option chunk text ∷ said) = text ∷ chunks_in said
chunks_in (an_option limit text ∷ said) = chunks_in said
chunks_in (a_summary ∷ said) = chunks_in said

abbrev limits_in : List Part → List Text
limits_in [] = []
limits_in (an_item text ∷ said) = limits_in said
limits_in (an_option chunk text ∷ said) = limits_in said
limits_in (an_option limit text ∷ said) = text ∷ limits_in said
limits_in (a_summary ∷ said) = limits_in said

abbrev flags_in : List Part → List Bool
flags_in [] = []
flags_in (an_item text ∷ said) = flags_in said
flags_in (an_option x text ∷ said) = flags_in said
flags_in (a_summary ∷ said) = true ∷ flags_in said

-- ---- the command of what they hold

abbrev one_number : List Text → Option (Option ℕ)
one_number [] = Some None
one_number (text ∷ []) = option_map Some (number text)
one_number (text ∷ more ∷ texts) = None

abbrev with_flags : List Bool → Option ℕ → Option ℕ → List SpelledItem → Option Command
with_flags flags n m items = option_and_then (λ flag. command_with items n m (is_some flag)) (at_most_one flags)

abbrev held_command : List Text → Option (Option ℕ) → Option (Option ℕ) → List Bool → Option Command
held_command texts chunks limits flags = option_and_then (λ items. option_and_then (λ n. option_and_then (λ m. with_flags flags n m items) limits) chunks) (all_items texts)

abbrev none_of : Option Command
none_of = None

no_command : {X : Type 0} (o : Option X) → option_and_then (λ (x : X). none_of) o ≡ none_of
no_command None = refl
no_command (Some x) = refl

no_chunk : (texts : List Text) (limits : Option (Option ℕ)) (flags : List Bool) → held_command texts None limits flags ≡ None
no_chunk texts limits flags = no_command (all_items texts)

no_limit : (texts : List Text) (chunks : Option (Option ℕ)) (flags : List Bool) → held_command texts chunks None flags ≡ None
no_limit texts chunks flags = (λ i. option_and_then (λ (items : List SpelledItem). no_command chunks i) (all_items texts)) ∙ no_command (all_items texts)

two_flags : (texts : List Text) (chunks limits : Option (Option ℕ)) (flags : List Bool) → held_command texts chunks limits (true ∷ true ∷ flags) ≡ None
two_flags texts chunks limits flags =
    (λ i. option_and_then (λ (items : List SpelledItem). option_and_then (λ (n : Option ℕ). no_command limits i) chunks) (all_items texts)) ∙ no_limit texts chunks flags

-- ---- by what was said so far

abbrev list_of : Option Text → List Text
list_of None = []
list_of (Some text) = text ∷ []

abbrev flags_of : Bool → List Bool
flags_of true = true ∷ []
flags_of false = []

abbrev pub written_by : State → Option Command
written_by state = written_command state.items (state.options chunk) (state.options limit) state.summary

abbrev all_held : State → List Part → Option Command
all_held state said =
    held_command (state.items ++ items_in said) (one_number (list_of (state.options chunk) ++ chunks_in said)) (one_number (list_of (state.options limit) ++ limits_in said))
    (flags_of state.summary ++ flags_in said)

same_number : (o : Option Text) → one_number (list_of o ++ []) ≡ number_in o
same_number None = refl
same_number (Some text) = refl

same_flag : (b : Bool) (n m : Option ℕ) (items : List SpelledItem) → with_flags (flags_of b ++ []) n m items ≡ command_with items n m b
same_flag true n m items = refl
same_flag false n m items = refl

-- items, and their fields and ends
parted : (texts : List Text) (n m : Option (Option ℕ)) (summary : Bool)
    → option_and_then (λ (parts : List Field × List BoundEnd). option_and_then (λ n. option_and_then (λ m. command_on parts.0 parts.1 n m summary) m) n) (split_items texts)
    ≡ option_and_then (λ items. option_and_then (λ n. option_and_then (λ m. command_with items n m summary) m) n) (all_items texts)
parted texts n m summary = by (all_items texts)
  where
    by : (o : Option (List SpelledItem)) → option_and_then (λ (parts : List Field × List BoundEnd). option_and_then (λ n. option_and_then (λ m. command_on parts.0 parts.1 n m summary) m) n) (option_map (λ items. (fields items, ends items)) o)
        ≡ option_and_then (λ items. option_and_then (λ n. option_and_then (λ m. command_with items n m summary) m) n) o
    by None = refl
    by (Some items) = refl

nothing_more : (state : State) → written_by state ≡ all_held state []
nothing_more state =
    parted state.items (number_in (state.options chunk)) (number_in (state.options limit)) state.summary
    ∙ sym (λ i. option_and_then (λ items. option_and_then (λ n. option_and_then (λ m. same_flag state.summary n m items i) (same_number (state.options limit) i))
    (same_number (state.options chunk) i)) (all_items (append-nil state.items i)))

so_far : (said : List Part) (state : State) → option_and_then written_by (steps said state) ≡ all_held state said
unfolding steps
so_far [] state = nothing_more state
so_far (an_item text ∷ said) state =
    so_far said (record state { items = state.items ++ text ∷ [] })
    ∙ ap (λ texts. held_command texts (one_number (list_of (state.options chunk) ++ chunks_in said)) (one_number (list_of (state.options limit) ++ limits_in said)) (flags_of state.summary ++ flags_in said))
    (append_assoc state.items (text ∷ []) (items_in said))
so_far (an_option chunk text ∷ said) state = by (state.options chunk) refl (so_far said (record state { options = with_option chunk text state.options }))
  where
    by : (o : Option Text) → state.options chunk ≡ o
        → option_and_then written_by (steps said (record state { options = with_option chunk text state.options })) ≡ all_held (record state { options = with_option chunk text state.options }) said
        → option_and_then written_by (steps (an_option chunk text ∷ said) state) ≡ all_held state (an_option chunk text ∷ said)
    by None e behind = rw e behind
    by (Some first) e behind = rw e (sym (no_chunk (state.items ++ items_in said) (one_number (list_of (state.options limit) ++ limits_in said)) (flags_of state.summary ++ flags_in said)))
so_far (an_option limit text ∷ said) state = by (state.options limit) refl (so_far said (record state { options = with_option limit text state.options }))
  where
    by : (o : Option Text) → state.options limit ≡ o
        → option_and_then written_by (steps said (record state { options = with_option limit text state.options })) ≡ all_held (record state { options = with_option limit text state.options }) said
        → option_and_then written_by (steps (an_option limit text ∷ said) state) ≡ all_held state (an_option limit text ∷ said)
    by None e behind = rw e behind
    by (Some first) e behind = rw e (sym (no_limit (state.items ++ items_in said) (one_number (list_of (state.options chunk) ++ chunks_in said)) (flags_of state.summary ++ flags_in said)))
so_far (a_summary ∷ said) state = by state.summary refl (so_far said (record state { summary = true }))
  where
    by : (b : Bool) → state.summary ≡ b
        → option_and_then written_by (steps said (record state { summary = true })) ≡ all_held (record state { summary = true }) said
        → option_and_then written_by (steps (a_summary ∷ said) state) ≡ all_held state (a_summary ∷ said)
    by false e behind = rw e behind
    by true e behind =
        rw e (sym (two_flags (state.items ++ items_in said) (one_number (list_of (state.options chunk) ++ chunks_in said)) (one_number (list_of (state.options limit) ++ limits_in said)) (flags_in said)))

-- ---- by the words

abbrev all_numbers : List Text → Option (List ℕ)
all_numbers [] = Some []
all_numbers (text ∷ texts) = put_in_front (number text) (all_numbers texts)

abbrev no_numbers : Option (Option ℕ)
no_numbers = None

one_of_all : (texts : List Text) → one_number texts ≡ option_and_then at_most_one (all_numbers texts)
one_of_all [] = refl
one_of_all (text ∷ []) = by (number text)
  where
    by : (o : Option ℕ) → option_map Some o ≡ option_and_then at_most_one (put_in_front o (Some []))
    by None = refl
    by (Some n) = refl
one_of_all (text ∷ more ∷ texts) = by (number text) (number more) (all_numbers texts)
  where
    by : (a b : Option ℕ) (c : Option (List ℕ)) → no_numbers ≡ option_and_then at_most_one (put_in_front a (put_in_front b c))
    by None b c = refl
    by (Some n) None c = refl
    by (Some n) (Some m) None = refl
    by (Some n) (Some m) (Some ns) = refl

joined_none : {X : Type 0} (first : Option X) → put_in_front first None ≡ None
joined_none None = refl
joined_none (Some x) = refl

joined_failed : {X : Type 0} (first : Option X) (rest : Option (List X)) → rest ≡ None → put_in_front first rest ≡ None
joined_failed first rest e = ap (put_in_front first) e ∙ joined_none first

-- what words hold, in the order of the parts
record Gathered (said : List Part) (words : List Word) : Type 0 where
  items : all_items (items_in said) ≡ Some (filter_map item_of_word words)
  chunks : all_numbers (chunks_in said) ≡ Some (filter_map as_chunk_size words)
  limits : all_numbers (limits_in said) ≡ Some (filter_map as_row_limit words)
  flags : flags_in said ≡ filter_map as_summary words

abbrev Failed : List Part → Type 0
Failed said = (all_items (items_in said) ≡ None) ⊎ ((all_numbers (chunks_in said) ≡ None) ⊎ (all_numbers (limits_in said) ≡ None))

abbrev Gathers : List Part → Option (List Word) → Type 0
Gathers said (Some words) = Gathered said words
Gathers said None = Failed said

gathers : (said : List Part) → Gathers said (words_of said)
gathers [] = record { items = refl; chunks = refl; limits = refl; flags = refl }
gathers (an_item text ∷ said) = by (item_of text) refl (words_of said) (gathers said)
  where
    by : (first : Option SpelledItem) → item_of text ≡ first → (rest : Option (List Word)) → Gathers said rest → Gathers (an_item text ∷ said) (put_in_front (option_map Asks first) rest)
    by None e rest h = inl (ap (λ o. put_in_front o (all_items (items_in said))) e)
    by (Some item) e (Some words) h = record { items = (λ i. put_in_front (e i) (h.items i)); chunks = h.chunks; limits = h.limits; flags = h.flags }
    by (Some item) e None (inl h) = inl (joined_failed (item_of text) (all_items (items_in said)) h)
    by (Some item) e None (inr h) = inr h
gathers (an_option chunk text ∷ said) = by (number text) refl (words_of said) (gathers said)
  where
    by : (first : Option ℕ) → number text ≡ first → (rest : Option (List Word)) → Gathers said rest → Gathers (an_option chunk text ∷ said) (put_in_front (option_map ChunkSize first) rest)
    by None e rest h = inr (inl (ap (λ o. put_in_front o (all_numbers (chunks_in said))) e))
    by (Some n) e (Some words) h = record { items = h.items; chunks = (λ i. put_in_front (e i) (h.chunks i)); limits = h.limits; flags = h.flags }
    by (Some n) e None (inl h) = inl h
    by (Some n) e None (inr (inl h)) = inr (inl (joined_failed (number text) (all_numbers (chunks_in said)) h))
    by (Some n) e None (inr (inr h)) = inr (inr h)
gathers (an_option limit text ∷ said) = by (number text) refl (words_of said) (gathers said)
  where
    by : (first : Option ℕ) → number text ≡ first → (rest : Option (List Word)) → Gathers said rest → Gathers (an_option limit text ∷ said) (put_in_front (option_map RowLimit first) rest)
    by None e rest h = inr (inr (ap (λ o. put_in_front o (all_numbers (limits_in said))) e))
    by (Some n) e (Some words) h = record { items = h.items; chunks = h.chunks; limits = (λ i. put_in_front (e i) (h.limits i)); flags = h.flags }
    by (Some n) e None (inl h) = inl h
    by (Some n) e None (inr (inl h)) = inr (inl h)
    by (Some n) e None (inr (inr h)) = inr (inr (joined_failed (number text) (all_numbers (limits_in said)) h))
gathers (a_summary ∷ said) = by (words_of said) (gathers said)
  where
    by : (rest : Option (List Word)) → Gathers said rest → Gathers (a_summary ∷ said) (put_in_front (Some Summary) rest)
    by (Some words) h = record { items = h.items; chunks = h.chunks; limits = h.limits; flags = ap (λ flags. true ∷ flags) h.flags }
    by None h = h

all_of_words : (said : List Part) → option_and_then command_of_words (words_of said) ≡ held_command (items_in said) (one_number (chunks_in said)) (one_number (limits_in said)) (flags_in said)
all_of_words said = by (words_of said) (gathers said)
  where
    by : (words : Option (List Word)) → Gathers said words
        → option_and_then command_of_words words ≡ held_command (items_in said) (one_number (chunks_in said)) (one_number (limits_in said)) (flags_in said)
    by (Some words) h =
        sym ((λ i. held_command (items_in said) (one_of_all (chunks_in said) i) (one_of_all (limits_in said) i) (flags_in said))
        ∙ (λ i. option_and_then (λ items. option_and_then (λ n. option_and_then (λ m. with_flags (h.flags i) n m items) (option_and_then at_most_one (h.limits i)))
        (option_and_then at_most_one (h.chunks i))) (h.items i)))
    by None (inl h) = rw h refl
    by None (inr (inl h)) =
        let none : one_number (chunks_in said) ≡ None = one_of_all (chunks_in said) ∙ ap (option_and_then at_most_one) h in
        sym (ap (λ o. held_command (items_in said) o (one_number (limits_in said)) (flags_in said)) none ∙ no_chunk (items_in said) (one_number (limits_in said)) (flags_in said))
    by None (inr (inr h)) =
        let none : one_number (limits_in said) ≡ None = one_of_all (limits_in said) ∙ ap (option_and_then at_most_one) h in
        sym (ap (λ o. held_command (items_in said) (one_number (chunks_in said)) o (flags_in said)) none ∙ no_limit (items_in said) (one_number (chunks_in said)) (flags_in said))

-- words spell what is written of them
pub spelled_by : (said : List Part) → option_and_then command_of_words (words_of said) ≡ option_and_then written_by (steps said start)
spelled_by said = all_of_words said ∙ sym (so_far said start)
