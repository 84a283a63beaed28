-- One piece after another.
use Rattle.std.proofs.Common.{◌≡◌, ℕ, ◌+◌, ◌-◌, List, [], length, arith, length-append, length-drop, ◌++◌, take, drop, refl, sym, ◌∙◌, ap, append_assoc, take-add}
use Rattle.std.specs.Prelude.{Option, Some, None, option_map}
use Rattle.std.proofs.Math.Seq.{take-append-add}
use Rattle.std.proofs.lemmas.List.{append-nil, take-append-le, take_all}
use Rattle.pq_common.specs.Written.{IsAppended, IsAppendedBut, IsFrontAppended}

-- a front of a text, and then a front of the rest
pub appended_more : (before between now : Option (List ℕ)) (text : List ℕ) (at n : ℕ)
    → IsAppended before between (take at text) → IsAppended between now (take n (take (length text - at) (drop at text))) → IsAppended before now (take (at + n) text)
appended_more before between now text at n first second =
    let whole : take (length text - at) (drop at text) ≡ drop at text = take_all (length text - at) (drop at text) (omega (arith, length-drop at text)) in
    second ∙ ap (λ (rest : List ℕ). option_map (λ written. written ++ take n rest) between) whole ∙ ap (option_map (λ written. written ++ take n (drop at text))) first ∙ joined before where
      joined : (o : Option (List ℕ)) → option_map (λ written. written ++ take n (drop at text)) (option_map (λ written. written ++ take at text) o)
          ≡ option_map (λ written. written ++ take (at + n) text) o
      joined None = refl
      joined (Some written) = ap Some (append_assoc written (take at text) (take n (drop at text)) ∙ ap (λ rest. written ++ rest) (sym (take-add at n text)))

-- one text, and then another
appended_both : (o p q : Option (List ℕ)) (a b : List ℕ) → IsAppended o p a → IsAppended p q b → IsAppended o q (a ++ b)
appended_both o p q a b first second = second ∙ ap (option_map (λ written. written ++ b)) first ∙ joined o where
  joined : (o : Option (List ℕ)) → option_map (λ written. written ++ b) (option_map (λ written. written ++ a) o) ≡ option_map (λ written. written ++ (a ++ b)) o
  joined None = refl
  joined (Some written) = ap Some (append_assoc written a b)

-- nothing is written, and all is yet to come
pub nothing_yet : (o : Option (List ℕ)) (text : List ℕ) → IsAppendedBut o o text text
nothing_yet o text = record { front = []; appended = none o; whole = refl } where
  none : (o : Option (List ℕ)) → IsAppended o o []
  none None = refl
  none (Some written) = ap Some (sym (append-nil written))

-- all is written
pub whole_written : (o p : Option (List ℕ)) (text : List ℕ) → IsAppended o p text → IsAppendedBut o p text []
whole_written o p text all = record { front = text; appended = all; whole = sym (append-nil text) }

-- the front before and what is written of the bytes behind it
pub front_and_more : (o p q : Option (List ℕ)) (text kept rest : List ℕ) → IsAppendedBut o p text kept → IsAppendedBut p q kept rest → IsAppendedBut o q text rest
front_and_more o p q text kept rest before now = record {
  front = before.front ++ now.front;
  appended = appended_both o p q before.front now.front before.appended now.appended;
  whole = before.whole ∙ ap (λ behind. before.front ++ behind) now.whole ∙ sym (append_assoc before.front now.front rest);
}

-- a rest, and what comes behind the whole text
pub but_behind : (o p : Option (List ℕ)) (text rest comes : List ℕ) → IsAppendedBut o p text rest → IsAppendedBut o p (text ++ comes) (rest ++ comes)
but_behind o p text rest comes is = record {
  front = is.front;
  appended = is.appended;
  whole = ap (λ text. text ++ comes) is.whole ∙ append_assoc is.front rest comes;
}

-- a front of a text is one of the text with more behind it
pub front_of_more : (o p : Option (List ℕ)) (text comes : List ℕ) → IsFrontAppended o p text → IsFrontAppended o p (text ++ comes)
front_of_more o p text comes is = record {
  count = is.count;
  within = omega (arith, is.within, length-append text comes);
  appended = is.appended ∙ ap (λ (front : List ℕ). option_map (λ written. written ++ front) o) (sym (take-append-le is.count text comes (omega (arith, is.within))));
}

-- the front before, and then a front of the bytes behind it
pub front_behind : (o p q : Option (List ℕ)) (text kept : List ℕ) → IsAppendedBut o p text kept → IsFrontAppended p q kept → IsFrontAppended o q text
front_behind o p q text kept before now = record {
  count = length before.front + now.count;
  within = omega (arith, now.within, length-append before.front kept, ap length before.whole);
  appended = appended_both o p q before.front (take now.count kept) before.appended now.appended
      ∙ ap (λ (front : List ℕ). option_map (λ written. written ++ front) o) (sym (ap (take (length before.front + now.count)) before.whole ∙ take-append-add before.front kept now.count));
}
