-- A parse of the program's words, by the definition of the language.
use Rattle.std.proofs.Common.{true, ◌≡◌, ◌≢◌, ◌∙◌, ◌<◌, Result, Ok, Err, IfOk, IfErr, length, ⊎_elim, arith, refl, sym, ap, subst, true≢false, List, [], ◌∷◌, map, codes}
use Rattle.std.specs.Prelude.{Bool, false, if◌then◌else◌, Option, Some, None, String, is_some, option_and_then, string_bytes, unwrap_or}
use Rattle.std.specs.declared.alloc.Global.{Global}
use Rattle.std.proofs.lemmas.Str.{IsUtf8-string_bytes}
use Rattle.clap.proofs.WalkLemmas.{first_value-rows, one_text-rows, raw_values-rows}
use Rattle.clap.specs.Faults.{fault_of, is_simple_and_free}
use Rattle.clap.specs.Kinds.{FailsBy, HasKind, IsAmong}
use Rattle.clap.specs.Values.{kind_of}
use Rattle.clap.specs.declared.error.Error.{Error}
use Rattle.clap.specs.declared.error.kind.ErrorKind.TheVariants.{OutOfMemory}
use Rattle.clap.specs.Matches.{found_of}
use Rattle.clap.specs.Simple.{App, HasMatchesOf}
use Rattle.clap.specs.Walk.{Row, Text, rows_of}
use Rattle.clap.specs.declared.parser.matches.ArgMatches.{ArgMatches}
use Rattle.scan_program.specs.Parsed.{IsSaid, written_command}
use Rattle.scan_program.specs.Words.{command_of_words, spelled_command}
use Rattle.scan_program.proofs.Lexed.{chunk, limit, program}
use Rattle.scan_program.proofs.SaidCommand.{spelled_by, written_by}
use Rattle.scan_program.proofs.SaidRows.{Agree, Holds, Reads, State, agree, finished_rows, reads, start, starts, steps}
use Rattle.scan_program.proofs.SaidWords.{said, words_of}
use Rattle.scan_program.proofs.Walked.{AreUtf8, Part, applied, leaves, parts, refuses_words, rows_of_words, takes}

are_utf8 : (words : List (String Global)) → AreUtf8 (map string_bytes words)
are_utf8 [] = tt
are_utf8 (word ∷ words) = (IsUtf8-string_bytes word, are_utf8 words)

-- the matches read a state whose command the words spell
told_by : (words : List Text) (rows : List Row) (said : Option (List Part)) → leaves said [] ≡ Some rows
    → (state : State) × (Reads (finished_rows rows) state × (option_and_then command_of_words (option_and_then words_of said) ≡ written_by state))
told_by words rows None e = absurd (true≢false (sym (ap (λ o. is_some o) e)))
told_by words rows (Some said) e = by (applied said []) (steps said start) (agree said [] start starts) e refl
  where
    by : (a : Option (List Row)) (b : Option State) → Agree a b → a ≡ Some rows → steps said start ≡ b
        → (state : State) × (Reads (finished_rows rows) state × (option_and_then command_of_words (words_of said) ≡ written_by state))
    by (Some found) (Some state) holds is same =
        let own = subst (λ found. Holds found state) (ap (λ o. unwrap_or o []) is) holds in
        (state, (reads rows state own, spelled_by said ∙ ap (option_and_then written_by) same))
    by (Some found) None holds is same = absurd holds
    by None (Some state) holds is same = absurd holds
    by None None holds is same = absurd (true≢false (sym (ap (λ o. is_some o) is)))

spelled : (file : Text) (words : List Text) → AreUtf8 words → spelled_command (file ∷ words) ≡ option_and_then command_of_words (option_and_then words_of (parts None words))
spelled file words utf8 = ap (option_and_then command_of_words) (said words utf8)

accepted : (file : Text) (words : List Text) (found : ArgMatches) → AreUtf8 words → fault_of program (file ∷ words) ≡ [] → HasMatchesOf program (file ∷ words) found
    → IsSaid (file ∷ words) found
accepted file words found utf8 none matches =
    let told = told_by words (rows_of_words words) (parts None words) (takes file words utf8 none) in
    let rows : rows_of (found_of found) ≡ finished_rows (rows_of_words words) = (matches refl).0 in
    let read = subst (λ rows. Reads rows told.0) (sym rows) told.1.0 in
    record {
      summary = told.0.summary;
      flag = one_text-rows (found_of found) (codes "summary") ∙ read.summary;
      command = spelled file words utf8 ∙ told.1.1
          ∙ sym (λ i. written_command (read.items i) (read.options chunk i) (read.options limit i) told.0.summary)
          ∙ sym (λ i. written_command (unwrap_or (raw_values-rows (found_of found) (codes "ITEM") i) []) (first_value-rows (found_of found) (codes "chunk") i)
          (first_value-rows (found_of found) (codes "limit") i) told.0.summary);
    }

refused : (file : Text) (words : List Text) → AreUtf8 words → (fault_of program (file ∷ words) ≡ [] → ⊥) → spelled_command (file ∷ words) ≡ None
refused file words utf8 some = spelled file words utf8 ∙ by (parts None words) (refuses_words file words utf8 some)
  where
    by : (said : Option (List Part)) → leaves said [] ≡ None → option_and_then command_of_words (option_and_then words_of said) ≡ None
    by None e = refl
    by (Some said) e = spelled_by said ∙ ap (option_and_then written_by) (none (applied said []) (steps said start) (agree said [] start starts) e)
      where
        none : (a : Option (List Row)) (b : Option State) → Agree a b → a ≡ None → b ≡ None
        none (Some rows) b holds e = absurd (true≢false (ap (λ o. is_some o) e))
        none None (Some state) holds e = absurd holds
        none None None holds e = refl

-- both ends of a parse by this command
pub judged : (words : List (String Global)) (app : App) (result : Result ArgMatches Error) → 0 < length words → app ≡ program
    → (is_simple_and_free app ≡ true → FailsBy (fault_of app (map string_bytes words)) result) → IfOk result (HasMatchesOf app (map string_bytes words))
    → IfOk result (IsSaid (map string_bytes words)) × IfErr result (λ e. kind_of e ≢ OutOfMemory → spelled_command (map string_bytes words) ≡ None)
judged [] app result some is kinds matches = absurd (omega arith)
judged (file ∷ words) app (Ok found) some is kinds matches =
    let none : fault_of program (map string_bytes (file ∷ words)) ≡ [] = subst (λ app. is_simple_and_free app ≡ true → fault_of app (map string_bytes (file ∷ words)) ≡ []) is kinds refl in
    (accepted (string_bytes file) (map string_bytes words) found (are_utf8 words) none (subst (λ app. HasMatchesOf app (map string_bytes (file ∷ words)) found) is matches), tt)
judged (file ∷ words) app (Err e) some is kinds matches =
    let kind = subst (λ app. is_simple_and_free app ≡ true → HasKind (fault_of app (map string_bytes (file ∷ words))) e) is kinds refl in
    (tt, λ other. refused (string_bytes file) (map string_bytes words) (are_utf8 words) (λ none. ⊎_elim (λ memory. other memory) (λ among. subst (IsAmong (kind_of e)) none among) kind))

-- a flag that is known to be set or not
pub flag_read : (b result : Bool) (found : Option Text) → found ≡ Some (if b then codes "true" else codes "false") → (found ≡ Some (codes "true") → result ≡ true)
    → (found ≡ Some (codes "false") → result ≡ false) → result ≡ b
flag_read true result found is set unset = set is
flag_read false result found is set unset = unset is
