-- What a word is to the parser of the program's words.
use Rattle.std.proofs.Common.{◌≡◌, ◌∙◌, ◌+◌, ◌==◌, ◌&&◌, ℕ, Bool, true, false, not, suc, refl, sym, ap, subst, arith, true≢false, List, [], ◌∷◌, ◌++◌, length, take, drop, codes}
use Rattle.std.specs.Prelude.{Option, Some, None, if◌then◌else◌, slice_get}
use Rattle.std.specs.Option.{option_map_or}
use Rattle.std.specs.Str.{encode_utf8_all}
use Rattle.std.specs.List.{before_first, position_or_len}
use Rattle.std.specs.Str.{bytes_eq, chars}
use Rattle.std.proofs.lemmas.Slice.Eq.{bytes_eq-Decides}
use Rattle.std.proofs.lemmas.Bool.{eqb-true, not-true}
use Rattle.clap.proofs.WalkLemmas.{both}
use Rattle.std.proofs.lemmas.List.{take-append-drop}
use Rattle.std.proofs.lemmas.Str.{chars_past_char, encodes-chars}
use Rattle.std.specs.Str.{IsUtf8}
use lib.Utf8.{encode}
use Rattle.clap.specs.Faults.{bundle_fault, bundle_step_fault, flag_word_fault, flags_fault, long_fault}
use Rattle.clap.specs.Lexer.{has_byte, long_of, name_and_value, short_of}
use Rattle.clap.specs.Simple.{App, Shape, built, new_app, new_rule, on_top, with_rule}
use Rattle.clap.specs.Walk.{Held, Row, Rule, Text, arg_by_long, is_empty}
use Rattle.clap.specs.declared.builder.action.ArgAction.TheVariants.{Append, Set, SetTrue}
use Rattle.scan_program.specs.Words.{begins_with_dash}

-- ---- the command

abbrev pub item : Rule
item = record (new_rule (codes "ITEM")) { action = Some Append }

abbrev pub chunk_option : Rule
chunk_option = record (new_rule (codes "chunk")) { long = Some (codes "chunk"); action = Some Set }

abbrev pub limit_option : Rule
limit_option = record (new_rule (codes "limit")) { long = Some (codes "limit"); action = Some Set }

abbrev pub summary_flag : Rule
summary_flag = record (new_rule (codes "summary")) { long = Some (codes "summary"); action = Some SetTrue }

abbrev pub without_help : App → App
without_help app = on_top (λ s. record s { disable_help_flag = true }) app

abbrev pub program : App
program = with_rule (with_rule (with_rule (with_rule (without_help (new_app (codes "pqscan"))) item) chunk_option) limit_option) summary_flag

abbrev pub shape : Shape
shape = (built program).top

abbrev pub rules_of_words : List Rule
rules_of_words = shape.rules

-- ---- kinds of words

pub data Which : Type 0 where
  chunk : Which
  limit : Which

pub data Kind : Type 0 where
  dashes : Kind
  assigned : Which → Text → Kind
  opens : Which → Kind
  flag : Kind
  wrong : Kind
  plain : Kind

abbrev pub name_of : Which → Text
name_of chunk = codes "chunk"
name_of limit = codes "limit"

abbrev pub kind_of : Text → Kind
kind_of word =
    if bytes_eq (take 8 word) (codes "--chunk=") then assigned chunk (drop 8 word)
    else (if bytes_eq (take 8 word) (codes "--limit=") then assigned limit (drop 8 word)
    else (if bytes_eq word (codes "--chunk") then opens chunk
    else (if bytes_eq word (codes "--limit") then opens limit
    else (if bytes_eq word (codes "--summary") then flag
    else (if bytes_eq word (codes "--") then dashes
    else (if begins_with_dash word && not (bytes_eq word (codes "-")) then wrong else plain))))))

-- what is held between two words
abbrev pub held : List Row → Option (Text × List Text) → Held
held rows pending = record { rows = rows; pending = pending; skip = 0 }

-- the word is none of those that are read as they stand
pub record Unread (word : Text) : Type 0 where
  pub chunk_value : bytes_eq (take 8 word) (codes "--chunk=") ≡ false
  pub limit_value : bytes_eq (take 8 word) (codes "--limit=") ≡ false
  pub chunk_alone : bytes_eq word (codes "--chunk") ≡ false
  pub limit_alone : bytes_eq word (codes "--limit") ≡ false
  pub summary : bytes_eq word (codes "--summary") ≡ false
  pub dashes : bytes_eq word (codes "--") ≡ false

-- what a word of a kind looks like
abbrev pub Looks : Text → Kind → Type 0
Looks word dashes = word ≡ codes "--"
Looks word (assigned x value) = word ≡ codes "--" ++ name_of x ++ codes "=" ++ value
Looks word (opens x) = word ≡ codes "--" ++ name_of x
Looks word flag = word ≡ codes "--summary"
Looks word wrong = Unread word × ((begins_with_dash word && not (bytes_eq word (codes "-"))) ≡ true)
    × ((rows : List Row) (pending : Option (Text × List Text)) → is_empty (flag_word_fault rules_of_words false (long_of word) word (held rows pending)) ≡ false)
Looks word plain = Unread word × ((begins_with_dash word && not (bytes_eq word (codes "-"))) ≡ false) × (long_of word ≡ None) × (short_of word ≡ None)

-- ---- what stands before an equals sign

abbrev tail : Option Text → Text
tail None = []
tail (Some value) = 61 ∷ value

cut : (t : Text) → t ≡ before_first (λ x. x == 61) t ++ tail (name_and_value t).1
cut [] = refl
cut (x ∷ xs) = by (x == 61) refl (cut xs)
  where
    by : (b : Bool) → (x == 61) ≡ b → xs ≡ before_first (λ x. x == 61) xs ++ tail (name_and_value xs).1
        → x ∷ xs ≡ before_first (λ x. x == 61) (x ∷ xs) ++ tail (name_and_value (x ∷ xs)).1
    by true e ih = rw e (ap (λ y. y ∷ xs) (eqb-true x 61 e))
    by false e ih =
        let n = position_or_len (λ x. x == 61) xs in
        let one : suc n ≡ 1 + n = omega arith in
        let two : suc (n + 1) ≡ 1 + n + 1 = omega arith in
        rw e (ap (λ l. x ∷ l) ih ∙ (λ i. take (one i) (x ∷ xs) ++ tail (if has_byte 61 xs then Some (drop (two i) (x ∷ xs)) else None)))

-- ---- words that begin with dashes

same_text : (a b : Text) → bytes_eq a b ≡ true → a ≡ b
same_text a b e = (bytes_eq-Decides a b).0 e

text_is : (a b : Text) → a ≡ b → bytes_eq a b ≡ true
text_is a b e = (bytes_eq-Decides a b).1 e

no_option : (n : Text) (value : Option Text) (rows : List Row) (pending : Option (Text × List Text)) → bytes_eq (codes "chunk") n ≡ false → bytes_eq (codes "limit") n ≡ false
    → bytes_eq (codes "summary") n ≡ false → is_empty (long_fault rules_of_words false (arg_by_long rules_of_words n) value (held rows pending)) ≡ false
no_option n value rows pending a b c = rw (a, b, c) refl

flag_with_value : (value : Text) (rows : List Row) (pending : Option (Text × List Text))
    → is_empty (long_fault rules_of_words false (arg_by_long rules_of_words (codes "summary")) (Some value) (held rows pending)) ≡ false
flag_with_value value rows pending = refl

-- a name that is an option's, with or without a value, makes one of the words
spelled : (name t n : Text) (value : Option Text) → t ≡ n ++ tail value → bytes_eq name n ≡ true → t ≡ name ++ tail value
spelled name t n value cuts is = cuts ∙ ap (λ m. m ++ tail value) (sym (same_text name n is))

-- a single dash before a text that begins with none is refused
short_refused : (x : ℕ) (xs : Text) (rows : List Row) (pending : Option (Text × List Text)) → IsUtf8 (45 ∷ x ∷ xs)
    → is_empty (flags_fault rules_of_words false (length (x ∷ xs)) (x ∷ xs) 0 (held rows pending)) ≡ false
unfolding flags_fault encode
short_refused x xs rows pending utf8 = go (chars (x ∷ xs)) refl
  where
    go : (cs : List ℕ) → chars (x ∷ xs) ≡ cs
        → is_empty (bundle_step_fault rules_of_words false (slice_get (chars (x ∷ xs)) 0) (x ∷ xs) 0 (held rows pending) (flags_fault rules_of_words false (length xs))) ≡ false
    go [] none =
        let all : chars (45 ∷ x ∷ xs) ≡ 45 ∷ [] = chars_past_char (45 ∷ x ∷ xs) (x ∷ xs) 45 utf8 refl ∙ ap (λ cs. 45 ∷ cs) none in
        let one : encode_utf8_all (45 ∷ []) ≡ 45 ∷ x ∷ xs = ap encode_utf8_all (sym all) ∙ encodes-chars (45 ∷ x ∷ xs) utf8 in
        absurd (let longer : 1 ≡ suc (suc (length xs)) = ap length one in omega (arith, longer))
    go (c ∷ cs) some = rw some refl

long_refused : (y : ℕ) (ys : Text) (rows : List Row) (pending : Option (Text × List Text))
    → bytes_eq (take 8 (45 ∷ 45 ∷ y ∷ ys)) (codes "--chunk=") ≡ false → bytes_eq (take 8 (45 ∷ 45 ∷ y ∷ ys)) (codes "--limit=") ≡ false
    → bytes_eq (45 ∷ 45 ∷ y ∷ ys) (codes "--chunk") ≡ false → bytes_eq (45 ∷ 45 ∷ y ∷ ys) (codes "--limit") ≡ false → bytes_eq (45 ∷ 45 ∷ y ∷ ys) (codes "--summary") ≡ false
    → is_empty (long_fault rules_of_words false (arg_by_long rules_of_words (name_and_value (y ∷ ys)).0) (name_and_value (y ∷ ys)).1 (held rows pending)) ≡ false
long_refused y ys rows pending chunks limits chunk_alone limit_alone summary = first (name_and_value (y ∷ ys)).0 (name_and_value (y ∷ ys)).1 (cut (y ∷ ys))
  where
    word : Text
    word = 45 ∷ 45 ∷ y ∷ ys

    chunk_apart : (value : Option Text) → y ∷ ys ≡ codes "chunk" ++ tail value → ⊥
    chunk_apart None is = true≢false (sym (text_is word (codes "--chunk") (ap (λ t. 45 ∷ 45 ∷ t) is)) ∙ chunk_alone)
    chunk_apart (Some value) is = true≢false (sym (text_is (take 8 word) (codes "--chunk=") (ap (λ t. take 8 (45 ∷ 45 ∷ t)) is)) ∙ chunks)

    limit_apart : (value : Option Text) → y ∷ ys ≡ codes "limit" ++ tail value → ⊥
    limit_apart None is = true≢false (sym (text_is word (codes "--limit") (ap (λ t. 45 ∷ 45 ∷ t) is)) ∙ limit_alone)
    limit_apart (Some value) is = true≢false (sym (text_is (take 8 word) (codes "--limit=") (ap (λ t. take 8 (45 ∷ 45 ∷ t)) is)) ∙ limits)

    by_summary : (n : Text) (value : Option Text) → y ∷ ys ≡ n ++ tail value → codes "summary" ≡ n → is_empty (long_fault rules_of_words false (arg_by_long rules_of_words n) value (held rows pending)) ≡ false
    by_summary n None cuts is = absurd (true≢false (sym (text_is word (codes "--summary") (ap (λ t. 45 ∷ 45 ∷ t) (cuts ∙ ap (λ m. m ++ []) (sym is)))) ∙ summary))
    by_summary n (Some value) cuts is =
        subst (λ n. is_empty (long_fault rules_of_words false (arg_by_long rules_of_words n) (Some value) (held rows pending)) ≡ false) is (flag_with_value value rows pending)

    by : (a b c : Bool) (n : Text) (value : Option Text) → y ∷ ys ≡ n ++ tail value → bytes_eq (codes "chunk") n ≡ a → bytes_eq (codes "limit") n ≡ b → bytes_eq (codes "summary") n ≡ c
        → is_empty (long_fault rules_of_words false (arg_by_long rules_of_words n) value (held rows pending)) ≡ false
    by true b c n value cuts ea eb ec = absurd (chunk_apart value (spelled (codes "chunk") (y ∷ ys) n value cuts ea))
    by false true c n value cuts ea eb ec = absurd (limit_apart value (spelled (codes "limit") (y ∷ ys) n value cuts eb))
    by false false true n value cuts ea eb ec = by_summary n value cuts (same_text (codes "summary") n ec)
    by false false false n value cuts ea eb ec = no_option n value rows pending ea eb ec

    first : (n : Text) (value : Option Text) → y ∷ ys ≡ n ++ tail value → is_empty (long_fault rules_of_words false (arg_by_long rules_of_words n) value (held rows pending)) ≡ false
    first n value cuts = by (bytes_eq (codes "chunk") n) (bytes_eq (codes "limit") n) (bytes_eq (codes "summary") n) n value cuts refl refl refl

-- ---- every word

-- a word behind two dashes, with more behind them or without
two_dashes : (rest : Text) → bytes_eq (take 8 (45 ∷ 45 ∷ rest)) (codes "--chunk=") ≡ false → bytes_eq (take 8 (45 ∷ 45 ∷ rest)) (codes "--limit=") ≡ false
    → bytes_eq (45 ∷ 45 ∷ rest) (codes "--chunk") ≡ false → bytes_eq (45 ∷ 45 ∷ rest) (codes "--limit") ≡ false → bytes_eq (45 ∷ 45 ∷ rest) (codes "--summary") ≡ false
    → bytes_eq (45 ∷ 45 ∷ rest) (codes "--") ≡ false
    → (rows : List Row) (pending : Option (Text × List Text)) → is_empty (flag_word_fault rules_of_words false (long_of (45 ∷ 45 ∷ rest)) (45 ∷ 45 ∷ rest) (held rows pending)) ≡ false
two_dashes [] a b c d e f rows pending = absurd (true≢false f)
two_dashes (y ∷ ys) a b c d e f rows pending = long_refused y ys rows pending a b c d e

one_dash : (x : ℕ) (xs : Text) → IsUtf8 (45 ∷ x ∷ xs) → (x == 45) ≡ false
    → (rows : List Row) (pending : Option (Text × List Text)) → is_empty (flag_word_fault rules_of_words false (long_of (45 ∷ x ∷ xs)) (45 ∷ x ∷ xs) (held rows pending)) ≡ false
one_dash x xs utf8 e rows pending =
    let long : long_of (45 ∷ x ∷ xs) ≡ None = rw e refl in
    let short : short_of (45 ∷ x ∷ xs) ≡ Some (x ∷ xs) = rw e refl in
    subst (λ found. is_empty (flag_word_fault rules_of_words false found (45 ∷ x ∷ xs) (held rows pending)) ≡ false) (sym long)
    (subst (λ found. is_empty (option_map_or (λ flags. bundle_fault rules_of_words false flags (held rows pending)) found []) ≡ false) (sym short) (short_refused x xs rows pending utf8))

dashed : (rest : Text) → IsUtf8 (45 ∷ rest) → Unread (45 ∷ rest) → bytes_eq (45 ∷ rest) (codes "-") ≡ false
    → (rows : List Row) (pending : Option (Text × List Text)) → is_empty (flag_word_fault rules_of_words false (long_of (45 ∷ rest)) (45 ∷ rest) (held rows pending)) ≡ false
dashed [] utf8 unread e rows pending = absurd (true≢false e)
dashed (x ∷ xs) utf8 unread e rows pending = by (x == 45) refl
  where
    by : (b : Bool) → (x == 45) ≡ b → is_empty (flag_word_fault rules_of_words false (long_of (45 ∷ x ∷ xs)) (45 ∷ x ∷ xs) (held rows pending)) ≡ false
    by false e = one_dash x xs utf8 e rows pending
    by true e =
        let same : 45 ≡ x = sym (eqb-true x 45 e) in
        let all = subst (λ x. Unread (45 ∷ x ∷ xs)) (sym same) unread in
        subst (λ x. is_empty (flag_word_fault rules_of_words false (long_of (45 ∷ x ∷ xs)) (45 ∷ x ∷ xs) (held rows pending)) ≡ false) same
        (two_dashes xs all.chunk_value all.limit_value all.chunk_alone all.limit_alone all.summary all.dashes rows pending)

wrong_word : (word : Text) → IsUtf8 word → Unread word → (begins_with_dash word && not (bytes_eq word (codes "-"))) ≡ true
    → (rows : List Row) (pending : Option (Text × List Text)) → is_empty (flag_word_fault rules_of_words false (long_of word) word (held rows pending)) ≡ false
wrong_word [] utf8 unread h rows pending = absurd (true≢false (sym h))
wrong_word (first ∷ rest) utf8 unread h rows pending =
    let parts = both (first == 45) (not (bytes_eq (first ∷ rest) (codes "-"))) h in
    let same : 45 ≡ first = sym (eqb-true first 45 parts.0) in
    subst (λ first. is_empty (flag_word_fault rules_of_words false (long_of (first ∷ rest)) (first ∷ rest) (held rows pending)) ≡ false) same
    (dashed rest (subst (λ first. IsUtf8 (first ∷ rest)) (sym same) utf8) (subst (λ first. Unread (first ∷ rest)) (sym same) unread)
    (subst (λ first. bytes_eq (first ∷ rest) (codes "-") ≡ false) (sym same) (not-true _ parts.1)) rows pending)

plain_word : (word : Text) → (begins_with_dash word && not (bytes_eq word (codes "-"))) ≡ false → (long_of word ≡ None) × (short_of word ≡ None)
plain_word [] h = (refl, refl)
plain_word (first ∷ []) h = by (first == 45) refl
  where
    by : (b : Bool) → (first == 45) ≡ b → (long_of (first ∷ []) ≡ None) × (short_of (first ∷ []) ≡ None)
    by true e = (rw e refl, rw e refl)
    by false e = (rw e refl, rw e refl)
plain_word (first ∷ x ∷ xs) h = by (first == 45) refl
  where
    by : (b : Bool) → (first == 45) ≡ b → (long_of (first ∷ x ∷ xs) ≡ None) × (short_of (first ∷ x ∷ xs) ≡ None)
    by true e = absurd (true≢false (sym (ap (λ b. b && not (b && false)) e) ∙ h))
    by false e = (rw e refl, rw e refl)

pub lexed : (word : Text) → IsUtf8 word → Looks word (kind_of word)
lexed word utf8 =
    go (bytes_eq (take 8 word) (codes "--chunk=")) (bytes_eq (take 8 word) (codes "--limit=")) (bytes_eq word (codes "--chunk")) (bytes_eq word (codes "--limit"))
    (bytes_eq word (codes "--summary")) (bytes_eq word (codes "--")) (begins_with_dash word && not (bytes_eq word (codes "-"))) refl refl refl refl refl refl refl
  where
    front : (name : Text) → bytes_eq (take 8 word) name ≡ true → word ≡ name ++ drop 8 word
    front name e = sym (take-append-drop 8 word) ∙ ap (λ t. t ++ drop 8 word) (same_text (take 8 word) name e)

    go : (a b c d e f g : Bool) → bytes_eq (take 8 word) (codes "--chunk=") ≡ a → bytes_eq (take 8 word) (codes "--limit=") ≡ b → bytes_eq word (codes "--chunk") ≡ c → bytes_eq word (codes "--limit") ≡ d
        → bytes_eq word (codes "--summary") ≡ e → bytes_eq word (codes "--") ≡ f → (begins_with_dash word && not (bytes_eq word (codes "-"))) ≡ g
        → Looks word (if a then assigned chunk (drop 8 word) else (if b then assigned limit (drop 8 word) else (if c then opens chunk else (if d then opens limit
        else (if e then flag else (if f then dashes else (if g then wrong else plain)))))))
    go true b c d e f g ea eb ec ed ee ef eg = front (codes "--chunk=") ea
    go false true c d e f g ea eb ec ed ee ef eg = front (codes "--limit=") eb
    go false false true d e f g ea eb ec ed ee ef eg = same_text word (codes "--chunk") ec
    go false false false true e f g ea eb ec ed ee ef eg = same_text word (codes "--limit") ed
    go false false false false true f g ea eb ec ed ee ef eg = same_text word (codes "--summary") ee
    go false false false false false true g ea eb ec ed ee ef eg = same_text word (codes "--") ef
    go false false false false false false true ea eb ec ed ee ef eg =
        let unread : Unread word = record { chunk_value = ea; limit_value = eb; chunk_alone = ec; limit_alone = ed; summary = ee; dashes = ef } in
        (unread, eg, wrong_word word utf8 unread eg)
    go false false false false false false false ea eb ec ed ee ef eg = let none = plain_word word eg in
        (record { chunk_value = ea; limit_value = eb; chunk_alone = ec; limit_alone = ed; summary = ee; dashes = ef }, eg, none.0, none.1)
