-- What words say, by the definition of the language.
use Rattle.std.proofs.Common.{◌≡◌, ◌∙◌, ◌&&◌, ℕ, Bool, true, false, not, refl, sym, ap, subst, true≢false, List, [], ◌∷◌, ◌++◌, length, map, codes}
use Rattle.std.specs.Prelude.{Option, Some, None, if◌then◌else◌, is_some, nat_le, nat_lt, option_map, option_and_then}
use Rattle.std.specs.Str.{bytes_eq}
use Rattle.pq_common.specs.Spelled.{number}
use Rattle.std.proofs.lemmas.Bool.{eqb-true, not-false}
use Rattle.std.proofs.lemmas.Slice.Eq.{bytes_eq-Decides}
use Rattle.clap.proofs.WalkLemmas.{both}
use Rattle.clap.specs.Walk.{Text}
use Rattle.scan_program.specs.Words.{Asks, ChunkSize, SpelledItem, RowLimit, Summary, Word, all_items, begins_with_dash, item_of, put_in_front, one_word, read_words, two_words}
use Rattle.scan_program.proofs.Lexed.{Kind, Looks, Unread, Which, assigned, chunk, dashes, flag, kind_of, lexed, limit, opens, plain, wrong}
use Rattle.scan_program.proofs.Walked.{AreUtf8, Part, a_summary, an_item, an_option, next_parts, parts, value_parts}

abbrev pub word_of : Part → Option Word
word_of (an_item text) = option_map Asks (item_of text)
word_of (an_option chunk text) = option_map ChunkSize (number text)
word_of (an_option limit text) = option_map RowLimit (number text)
word_of a_summary = Some Summary

abbrev pub words_of : List Part → Option (List Word)
words_of [] = Some []
words_of (part ∷ said) = put_in_front (word_of part) (words_of said)

-- ---- one word

abbrev is_dashes : Kind → Bool
is_dashes dashes = true
is_dashes (assigned x value) = false
is_dashes (opens x) = false
is_dashes flag = false
is_dashes wrong = false
is_dashes plain = false

abbrev alone : Kind → Text → Option Word
alone dashes word = None
alone (assigned x value) word = word_of (an_option x value)
alone (opens x) word = None
alone flag word = Some Summary
alone wrong word = None
alone plain word = word_of (an_item word)

abbrev paired : Kind → Text → Option Word
paired dashes next = None
paired (assigned x value) next = None
paired (opens x) next = word_of (an_option x next)
paired flag next = None
paired wrong next = None
paired plain next = None

-- a word that is no plain one spells no number
abbrev IsNoNumber : Kind → Text → Type 0
IsNoNumber plain word = Unit
IsNoNumber dashes word = number word ≡ None
IsNoNumber (assigned x value) word = number word ≡ None
IsNoNumber (opens x) word = number word ≡ None
IsNoNumber flag word = number word ≡ None
IsNoNumber wrong word = number word ≡ None

record Lone (word : Text) (k : Kind) : Type 0 where
  dash : bytes_eq word (codes "--") ≡ is_dashes k
  one : one_word word ≡ alone k word
  two : (next : Text) → two_words word next ≡ paired k next
  no_number : IsNoNumber k word

and_false : (b : Bool) → (b && false) ≡ false
and_false true = refl
and_false false = refl

dash_spells_none : (rest : Text) → number (45 ∷ rest) ≡ None
dash_spells_none rest = rw (and_false (nat_lt 0 (length (45 ∷ rest)) && nat_le (length (45 ∷ rest)) 20)) refl

chunk_assigned : (value : Text) → one_word (codes "--chunk=" ++ value) ≡ word_of (an_option chunk value)
chunk_assigned value = by (number value) refl
  where
    by : (o : Option ℕ) → number value ≡ o → one_word (codes "--chunk=" ++ value) ≡ word_of (an_option chunk value)
    by None e = rw e refl
    by (Some n) e = rw e refl

limit_assigned : (value : Text) → one_word (codes "--limit=" ++ value) ≡ word_of (an_option limit value)
limit_assigned value = by (number value) refl
  where
    by : (o : Option ℕ) → number value ≡ o → one_word (codes "--limit=" ++ value) ≡ word_of (an_option limit value)
    by None e = rw e refl
    by (Some n) e = rw e refl

unread_pair : (word next : Text) → Unread word → two_words word next ≡ None
unread_pair word next unread = rw (unread.chunk_alone, unread.limit_alone) refl

wrong_alone : (word : Text) → Unread word → begins_with_dash word ≡ true → one_word word ≡ None
wrong_alone word unread dash = rw (unread.chunk_value, unread.limit_value, unread.summary, dash) refl

plain_alone : (word : Text) → Unread word → (begins_with_dash word && not (bytes_eq word (codes "-"))) ≡ false → one_word word ≡ option_map Asks (item_of word)
plain_alone word unread e = by (begins_with_dash word) refl e
  where
    dash : bytes_eq word (codes "-") ≡ true → one_word word ≡ option_map Asks (item_of word)
    dash e = subst (λ word. one_word word ≡ option_map Asks (item_of word)) (sym ((bytes_eq-Decides word (codes "-")).0 e)) refl

    by : (b : Bool) → begins_with_dash word ≡ b → (b && not (bytes_eq word (codes "-"))) ≡ false → one_word word ≡ option_map Asks (item_of word)
    by true d e = dash (not-false (bytes_eq word (codes "-")) e)
    by false d e = rw (unread.chunk_value, unread.limit_value, unread.summary, d) refl

dash_number : (word : Text) → begins_with_dash word ≡ true → number word ≡ None
dash_number [] e = absurd (true≢false (sym e))
dash_number (first ∷ rest) e = subst (λ first. number (first ∷ rest) ≡ None) (sym (eqb-true first 45 e)) (dash_spells_none rest)

lone : (word : Text) (k : Kind) → Looks word k → Lone word k
lone word dashes is = subst (λ word. Lone word dashes) (sym is) (record { dash = refl; one = refl; two = λ next. refl; no_number = refl })
lone word (assigned chunk value) is =
    subst (λ word. Lone word (assigned chunk value)) (sym is) (record { dash = refl; one = chunk_assigned value; two = λ next. refl; no_number = dash_spells_none (codes "-chunk=" ++ value) })
lone word (assigned limit value) is =
    subst (λ word. Lone word (assigned limit value)) (sym is) (record { dash = refl; one = limit_assigned value; two = λ next. refl; no_number = dash_spells_none (codes "-limit=" ++ value) })
lone word (opens chunk) is = subst (λ word. Lone word (opens chunk)) (sym is) (record { dash = refl; one = refl; two = λ next. refl; no_number = refl })
lone word (opens limit) is = subst (λ word. Lone word (opens limit)) (sym is) (record { dash = refl; one = refl; two = λ next. refl; no_number = refl })
lone word flag is = subst (λ word. Lone word flag) (sym is) (record { dash = refl; one = refl; two = λ next. refl; no_number = refl })
lone word wrong is =
    let dash = (both (begins_with_dash word) (not (bytes_eq word (codes "-"))) is.1).0 in
    record { dash = is.0.dashes; one = wrong_alone word is.0 dash; two = λ next. unread_pair word next is.0; no_number = dash_number word dash }
lone word plain is = record { dash = is.0.dashes; one = plain_alone word is.0 is.1; two = λ next. unread_pair word next is.0; no_number = tt }

-- ---- words one after another

pushed : (part : Part) (said : Option (List Part)) → option_and_then words_of (option_map (λ said. part ∷ said) said) ≡ put_in_front (word_of part) (option_and_then words_of said)
pushed part None = none (word_of part)
  where
    none : (first : Option Word) → None ≡ put_in_front first None
    none None = refl
    none (Some word) = refl
pushed part (Some said) = refl

items_said : (texts : List Text) → option_map (map Asks) (all_items texts) ≡ words_of (map an_item texts)
items_said [] = refl
items_said (text ∷ texts) = by (item_of text) (all_items texts) ∙ ap (put_in_front (option_map Asks (item_of text))) (items_said texts)
  where
    by : (first : Option SpelledItem) (rest : Option (List SpelledItem)) → option_map (map Asks) (put_in_front first rest) ≡ put_in_front (option_map Asks first) (option_map (map Asks) rest)
    by None None = refl
    by None (Some rest) = refl
    by (Some first) None = refl
    by (Some first) (Some rest) = refl

no_value : (x : Which) (text : Text) → number text ≡ None → word_of (an_option x text) ≡ None
no_value chunk text e = ap (option_map ChunkSize) e
no_value limit text e = ap (option_map RowLimit) e

-- the words behind an option that waits, by whether the next one spells a number
waited : (x : Which) (next : Text) (k : Kind) (said : Option (List Part)) → IsNoNumber k next
    → put_in_front (word_of (an_option x next)) (option_and_then words_of said) ≡ option_and_then words_of (value_parts k x next said)
waited x next plain said h = sym (pushed (an_option x next) said)
waited x next dashes said h = ap (λ first. put_in_front first (option_and_then words_of said)) (no_value x next h)
waited x next (assigned y value) said h = ap (λ first. put_in_front first (option_and_then words_of said)) (no_value x next h)
waited x next (opens y) said h = ap (λ first. put_in_front first (option_and_then words_of said)) (no_value x next h)
waited x next flag said h = ap (λ first. put_in_front first (option_and_then words_of said)) (no_value x next h)
waited x next wrong said h = ap (λ first. put_in_front first (option_and_then words_of said)) (no_value x next h)

-- a pair that is no option with its number leaves nothing to read
unpaired : (first : Option Word) (behind : Option (List Word)) (more : Option (List Word)) → more ≡ None
    → (if is_some first then put_in_front first behind else more) ≡ put_in_front first behind
unpaired None behind more e = e
unpaired (Some word) behind more e = refl

abbrev read_by : Text → List Text → Option Word → Bool → Option Word → Option (List Word)
read_by next rest pair dash one =
    if is_some pair then put_in_front pair (read_words rest) else if dash then option_map (map Asks) (all_items (next ∷ rest)) else put_in_front one (read_words (next ∷ rest))

pub said : (words : List Text) → AreUtf8 words → read_words words ≡ option_and_then words_of (parts None words)
unfolding parts
said [] utf8 = refl
said (word ∷ []) utf8 = by (kind_of word) (lone word (kind_of word) (lexed word utf8.0))
  where
    by : (k : Kind) → Lone word k → read_words (word ∷ []) ≡ option_and_then words_of (next_parts k word [] (Some []) (λ x. None))
    by dashes l = ap (λ b. if b then Some [] else put_in_front (one_word word) (Some [])) l.dash
    by (assigned x value) l = (λ i. if l.dash i then Some [] else put_in_front (l.one i) (Some [])) ∙ sym (pushed (an_option x value) (Some []))
    by (opens x) l = (λ i. if l.dash i then Some [] else put_in_front (l.one i) (Some []))
    by flag l = (λ i. if l.dash i then Some [] else put_in_front (l.one i) (Some []))
    by wrong l = (λ i. if l.dash i then Some [] else put_in_front (l.one i) (Some []))
    by plain l = (λ i. if l.dash i then Some [] else put_in_front (l.one i) (Some [])) ∙ sym (pushed (an_item word) (Some []))
said (word ∷ next ∷ rest) utf8 =
    by (said (next ∷ rest) utf8.1) (said rest utf8.1.1) (kind_of word) (lone word (kind_of word) (lexed word utf8.0))
  where
    by : read_words (next ∷ rest) ≡ option_and_then words_of (parts None (next ∷ rest)) → read_words rest ≡ option_and_then words_of (parts None rest) → (k : Kind) → Lone word k
        → read_words (word ∷ next ∷ rest) ≡ option_and_then words_of (next_parts k word (next ∷ rest) (parts None (next ∷ rest)) (λ x. parts (Some x) (next ∷ rest)))
    by more behind dashes l = (λ i. read_by next rest (l.two next i) (l.dash i) (l.one i)) ∙ items_said (next ∷ rest)
    by more behind (assigned x value) l =
        (λ i. read_by next rest (l.two next i) (l.dash i) (l.one i)) ∙ ap (put_in_front (word_of (an_option x value))) more ∙ sym (pushed (an_option x value) (parts None (next ∷ rest)))
    by more behind (opens x) l =
        (λ i. read_by next rest (l.two next i) (l.dash i) (l.one i)) ∙ unpaired (word_of (an_option x next)) (read_words rest) (put_in_front None (read_words (next ∷ rest))) refl
        ∙ ap (put_in_front (word_of (an_option x next))) behind ∙ waited x next (kind_of next) (parts None rest) (lone next (kind_of next) (lexed next utf8.1.0)).no_number
    by more behind flag l = (λ i. read_by next rest (l.two next i) (l.dash i) (l.one i)) ∙ ap (put_in_front (Some Summary)) more ∙ sym (pushed a_summary (parts None (next ∷ rest)))
    by more behind wrong l = (λ i. read_by next rest (l.two next i) (l.dash i) (l.one i))
    by more behind plain l =
        (λ i. read_by next rest (l.two next i) (l.dash i) (l.one i)) ∙ ap (put_in_front (word_of (an_item word))) more ∙ sym (pushed (an_item word) (parts None (next ∷ rest)))
