-- Keys past the entries of a dictionary.
use Rattle.std.proofs.Common.{◌≡◌, ℕ, zero, suc, ◌+◌, ◌<◌, ◌≤◌, Bool, true, false, List, [], ◌∷◌, ◌++◌, length, map, take, drop, get_or, refl, sym, ap, ◌∙◌, arith}
use Rattle.std.specs.Option.{option_map_or}
use Rattle.std.proofs.Math.Bool.{or-false}
use Rattle.std.proofs.lemmas.Option.{slice_get-get_or, slice_get_past}
use Rattle.columns_core.specs.Causes.{Cause, ExternalFormat, IsOneOf, OutOfSpec, cause_of}
use Rattle.columns_core.specs.declared.error.Error.{Error}
use Rattle.page_decoding.proofs.RowLemmas.{caused-right}
use Rattle.flat_values.proofs.AddedLemmas.{refused_at}
use Rattle.std.proofs.lemmas.Bool.{false≢true, le-leb, leb-false, leb-true, lt-leb, or_parts}
use Rattle.parquet_base.specs.declared.varint.Unspelled.{Unspelled}
use Rattle.parquet_encoding.specs.Hybrid.{hybrid}
use Rattle.parquet_encoding.specs.HybridLeft.{hybrid_left, hybrid_values}
use Rattle.parquet_encoding.specs.declared.hybrid.HybridRle.{HybridRle}
use Rattle.parquet_encoding.proofs.WalkLemmas.{passes_none}
use Rattle.parquet_page.specs.Opened.{key_causes, passes}
use Rattle.columns_core.specs.declared.cell.Cell.{Cell}
use Rattle.parquet_encoding.proofs.StepLemmas.{something}
use Rattle.page_decoding.specs.Outcome.{Given, IsCausedBy, Outcome, Refused}
use Rattle.flat_values.specs.Outcomes.{entry_outcome}
use Rattle.std.specs.Prelude.{◌||◌, ◌==◌, nat_le, slice_get, max, min, replicate, Contains, Option, Some, None, unwrap_or, Result, Err, is_ok, is_some}
use Rattle.std.proofs.lemmas.List.{get_or-map, get_or_default, take_more, length-map, length-take, take-append-drop, take-append-le, take_all}
use Rattle.std.proofs.lemmas.List.Folds.{list_any-append}
use Rattle.parquet_encoding.specs.HybridRun.{count_of, run_values}
use Rattle.parquet_encoding.specs.declared.run.HybridRun.{HybridRun}
use Rattle.parquet_encoding.specs.declared.run.HybridRun.TheVariants.{Repeated}
use Rattle.parquet_encoding.proofs.RunLemmas.{length-run_values}
use Rattle.parquet_page.specs.Values.{dictionary_keys, has_key_past}
use Rattle.flat_values.specs.PassedKeys.{PassesKeys}

-- what was written to the front of a chunk
pub chunk_front : {A : Type 0} (values before chunk : List A) (count : ℕ) → chunk ≡ take count values ++ drop count before → count ≤ length values → take count chunk ≡ take count values
chunk_front values before chunk count is few =
    ap (take count) is ∙ take-append-le count (take count values) (drop count before) (omega (arith, length-take count values, few)) ∙ take_all count (take count values) (omega (arith, length-take count values))

-- a run has no more values than are left
pub run_within : (run : HybridRun) (bytes old : List ℕ) → run_values run bytes ≡ take (count_of run) old → count_of run ≤ length old
run_within run bytes old values = omega (arith, length-run_values bytes run, ap length values, length-take (count_of run) old)

twice : (b : Bool) → (b || b) ≡ b
twice true = refl
twice false = refl

copies_past : (entries count value : ℕ) → 0 < count → has_key_past entries (replicate count value) ≡ nat_le entries value
copies_past entries zero value h = absurd (omega (arith, h))
copies_past entries (suc zero) value h = or-false (nat_le entries value)
copies_past entries (suc (suc count)) value h = ap (λ b. nat_le entries value || b) (copies_past entries (suc count) value (omega arith)) ∙ twice (nat_le entries value)

-- copies of one key
pub copies_passed : (entries value count : ℕ) (run : HybridRun) (bytes old : List ℕ) (new : Option (List ℕ)) → run ≡ Repeated value count → run_values run bytes ≡ take (count_of run) old → 0 < count_of run → new ≡ Some (drop (count_of run) old)
    → PassesKeys entries old (unwrap_or new []) (nat_le entries value)
copies_passed entries value count run bytes old new is values some rest =
    let own : count_of run ≡ count = ap count_of is in
    record {
      count = count_of run;
      some = some;
      many = run_within run bytes old values;
      test = sym (copies_past entries count value (omega (arith, own, some))) ∙ ap (has_key_past entries) (sym (ap (λ r. run_values r bytes) is) ∙ values);
      rest = ap (λ o. unwrap_or o []) rest;
    }

-- the keys at the front of a chunk
pub chunk_passed : (entries : ℕ) (old chunk before : List ℕ) (new : Option (List ℕ)) (count many : ℕ) (past : Bool) → chunk ≡ take count old ++ drop count before → count ≡ min many (length old) → 0 < many → 0 < length old → past ≡ has_key_past entries (take count chunk) → new ≡ Some (drop count old)
    → PassesKeys entries old (unwrap_or new []) past
chunk_passed entries old chunk before new count many past is few room some test rest = record {
  count = count;
  some = omega (arith, few, room, some);
  many = omega (arith, few);
  test = test ∙ ap (has_key_past entries) (chunk_front old before chunk count is (omega (arith, few)));
  rest = ap (λ o. unwrap_or o []) rest;
}

-- the keys that are passed over, and those behind them
past-split : (entries : ℕ) (old new : List ℕ) (past : Bool) → (p : PassesKeys entries old new past) → has_key_past entries old ≡ (past || has_key_past entries new)
past-split entries old new past p =
    ap (has_key_past entries) (sym (take-append-drop p.count old)) ∙ list_any-append (λ key. nat_le entries key) (take p.count old) (drop p.count old)
    ∙ ap (λ b. b || has_key_past entries (drop p.count old)) (sym p.test) ∙ ap (λ l. past || has_key_past entries l) (sym p.rest)

pub past-here : (entries : ℕ) (old new : List ℕ) (past : Bool) → PassesKeys entries old new past → past ≡ true → has_key_past entries old ≡ true
past-here entries old new past p e = past-split entries old new past p ∙ ap (λ b. b || has_key_past entries new) e

pub past-behind : (entries : ℕ) (old new : List ℕ) (past : Bool) → PassesKeys entries old new past → past ≡ false → has_key_past entries new ≡ has_key_past entries old
past-behind entries old new past p e = sym (past-split entries old new past p ∙ ap (λ b. b || has_key_past entries new) e)

-- ---- the entry that a key names

pub named : {T : Type 0} (cell : T → Cell) (entries : List T) (key : ℕ) (entry : T) → key < length entries → entry ≡ get_or entries key entry → Given (cell entry) ≡ entry_outcome (Some (map cell entries)) key
named cell entries key entry lt is =
    let within : key < length (map cell entries) = omega (arith, length-map entries cell, lt) in
    sym (ap (λ o. option_map_or Given o (Refused (OutOfSpec ∷ []))) (slice_get-get_or (map cell entries) key (cell entry) within ∙ ap something (get_or-map cell entries key entry (cell entry) lt ∙ ap cell (sym is))))

pub not_named : {T : Type 0} (cell : T → Cell) (entries : List T) (key : ℕ) → length entries ≤ key → entry_outcome (Some (map cell entries)) key ≡ Refused (OutOfSpec ∷ [])
not_named cell entries key past = ap (λ o. option_map_or Given o (Refused (OutOfSpec ∷ []))) (slice_get_past (map cell entries) key (omega (arith, length-map entries cell, past)))

-- keys that are not past the entries name what is found, whatever is found for others
pub found_named : {T : Type 0} (cell : T → Cell) (entries : List T) (first : T) (keys : List ℕ) → has_key_past (length entries) keys ≡ false
    → map (λ key. Given (cell (get_or entries key first))) keys ≡ map (entry_outcome (Some (map cell entries))) keys
found_named cell entries first [] within = refl
found_named cell entries first (key ∷ keys) within =
    let parts = or_parts (nat_le (length entries) key) (has_key_past (length entries) keys) within in
    let lt = leb-false (length entries) key parts.0 in
    let entry = get_or entries key first in
    ap (λ outcome. outcome ∷ map (λ key. Given (cell (get_or entries key first))) keys) (named cell entries key entry lt (get_or_default entries key first entry lt))
    ∙ ap (λ outcomes. entry_outcome (Some (map cell entries)) key ∷ outcomes) (found_named cell entries first keys parts.1)

-- a key that is past them is refused
pub past_refused : {T : Type 0} (cell : T → Cell) (entries : List T) (keys : List ℕ) (error : Error) → cause_of error ≡ Some OutOfSpec → has_key_past (length entries) keys ≡ true → IsCausedBy (map (entry_outcome (Some (map cell entries))) keys) error
past_refused cell entries [] error is past = absurd cc
past_refused cell entries (key ∷ keys) error is past = go (nat_le (length entries) key) refl past (past_refused cell entries keys error is) where
  outcome : ℕ → Outcome
  outcome = entry_outcome (Some (map cell entries))

  go : (b : Bool) → nat_le (length entries) key ≡ b → (b || has_key_past (length entries) keys) ≡ true → (has_key_past (length entries) keys ≡ true → IsCausedBy (map outcome keys) error) → IsCausedBy (map outcome (key ∷ keys)) error
  go true e past later =
      let told : IsOneOf (OutOfSpec ∷ []) (cause_of error) = rw is (0, omega arith, refl) in
      refused_at outcome (key ∷ keys) 0 0 key (OutOfSpec ∷ []) error (omega arith) refl (not_named cell entries key (leb-true (length entries) key e)) told
  go false e past later = caused-right (outcome key ∷ []) (map outcome keys) error (later past)

-- of no entries every key is past
first-past : (key : ℕ) (keys : List ℕ) → has_key_past 0 (key ∷ keys) ≡ true
first-past key keys = ap (λ b. b || has_key_past 0 keys) (le-leb 0 key (omega arith))

pub no_keys : {T : Type 0} (entries : List T) (keys : List ℕ) → None ≡ slice_get entries 0 → has_key_past (length entries) keys ≡ false → keys ≡ []
no_keys [] [] none within = refl
no_keys [] (key ∷ keys) none within = absurd (false≢true (sym within ∙ first-past key keys))
no_keys (entry ∷ entries) keys none within = absurd cc

-- ---- the greatest key

le-max : (entries a b : ℕ) → nat_le entries (max a b) ≡ (nat_le entries a || nat_le entries b)
le-max entries a b = go (nat_le entries a) (nat_le entries b) refl refl where
  go : (x y : Bool) → nat_le entries a ≡ x → nat_le entries b ≡ y → nat_le entries (max a b) ≡ (x || y)
  go true y p q = le-leb entries (max a b) (omega (arith, leb-true entries a p))
  go false true p q = le-leb entries (max a b) (omega (arith, leb-true entries b q))
  go false false p q = lt-leb entries (max a b) (omega (arith, leb-false entries a p, leb-false entries b q))

or-assoc : (a b c : Bool) → ((a || b) || c) ≡ (a || (b || c))
or-assoc true b c = refl
or-assoc false b c = refl

pub none_greater : (entries : ℕ) → nat_le entries 0 ≡ (nat_le entries 0 || has_key_past entries [])
none_greater entries = sym (or-false (nat_le entries 0))

pub one_greater : (entries most key i : ℕ) (keys : List ℕ) → i < length keys → key ≡ get_or keys i 0 → nat_le entries most ≡ (nat_le entries 0 || has_key_past entries (take i keys))
    → nat_le entries (max most key) ≡ (nat_le entries 0 || has_key_past entries (take (i + 1) keys))
one_greater entries most key i keys lt is before =
    let front = has_key_past entries (take i keys) in
    let more : has_key_past entries (take (i + 1) keys) ≡ (front || nat_le entries key) =
    ap (has_key_past entries) (take_more keys i 0 lt) ∙ list_any-append (λ key. nat_le entries key) (take i keys) (get_or keys i 0 ∷ []) ∙ ap (λ b. front || b) (or-false (nat_le entries (get_or keys i 0)) ∙ ap (nat_le entries) (sym is)) in
    le-max entries most key ∙ ap (λ b. b || nat_le entries key) before ∙ or-assoc (nat_le entries 0) front (nat_le entries key) ∙ ap (λ b. nat_le entries 0 || b) (sym more)

pub some_greater : (entries : ℕ) (keys : List ℕ) → (length keys == 0) ≡ false → (nat_le entries 0 || has_key_past entries keys) ≡ has_key_past entries keys
some_greater entries [] some = absurd (false≢true (sym some))
some_greater zero (key ∷ keys) some = sym (first-past key keys)
some_greater (suc entries) (key ∷ keys) some = ap (λ b. b || has_key_past (suc entries) (key ∷ keys)) (lt-leb (suc entries) 0 (omega arith))

-- ---- the keys behind their width

pub no_width : (bytes : List ℕ) (count : ℕ) → length bytes ≡ 0 → dictionary_keys bytes count ≡ None
unfolding dictionary_keys
no_width [] count e = refl
no_width (width ∷ bytes) count e = absurd (omega (arith, e))

width_first : (bytes rest : List ℕ) (width count : ℕ) → bytes ≡ width ∷ rest → dictionary_keys bytes count ≡ hybrid width rest count
unfolding dictionary_keys
width_first bytes rest width count e = rw e refl

abbrev causes_of : Option ℕ → Option (List ℕ) → List Cause
causes_of entries found = option_map_or (key_causes None entries) found (ExternalFormat ∷ [])

pub key_refused : (entries : Option ℕ) (found : Option (List ℕ)) → found ≡ None → Contains (causes_of entries found) ExternalFormat
key_refused entries found none = rw none (0, omega arith, refl)

pub key_past : (entries : Option ℕ) (found : Option (List ℕ)) (keys : List ℕ) → found ≡ Some keys → passes entries keys ≡ true → Contains (causes_of entries found) OutOfSpec
key_past entries found keys some past = rw (some, past) (0, omega arith, refl)

pub key_fine : (entries : Option ℕ) (found : Option (List ℕ)) (keys : List ℕ) → found ≡ Some keys → passes entries keys ≡ false → causes_of entries found ≡ []
key_fine entries found keys some fine = rw (some, fine) refl

pub not_spelled : (bytes rest : List ℕ) (width count : ℕ) (result : Result HybridRle Unspelled) (error : Unspelled) → bytes ≡ width ∷ rest → result ≡ Err error → is_ok result ≡ is_some (hybrid width rest count) → dictionary_keys bytes count ≡ None
not_spelled bytes rest width count result error e refused exact = width_first bytes rest width count e ∙ nothing (hybrid width rest count) (sym (ap is_ok refused) ∙ exact) where
  nothing : (o : Option (List ℕ)) → false ≡ is_some o → o ≡ None
  nothing None none = refl
  nothing (Some values) none = absurd (false≢true none)

pub are_spelled : (bytes rest : List ℕ) (width count : ℕ) (decoder : HybridRle) → bytes ≡ width ∷ rest → hybrid_left decoder rest ≡ hybrid width rest count → true ≡ is_some (hybrid width rest count) → dictionary_keys bytes count ≡ Some (hybrid_values decoder rest)
are_spelled bytes rest width count decoder e left exact = width_first bytes rest width count e ∙ sym left ∙ passes_none (hybrid_left decoder rest) (ap is_some left ∙ sym exact)

pub behind_width : (bytes rest : List ℕ) (width : ℕ) (decoder : HybridRle) → bytes ≡ width ∷ rest → hybrid_values decoder rest ≡ hybrid_values decoder (drop 1 bytes)
behind_width bytes rest width decoder e = ap (hybrid_values decoder) (sym (ap (drop 1) e))
