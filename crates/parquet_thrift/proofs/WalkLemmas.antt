-- Passing over a value with a walk over its open parts.
use Rattle.std.proofs.Common.{◌≡◌, ◌≢◌, ℕ, zero, suc, ◌+◌, ◌≤◌, ◌<◌, ◌*◌, ◌-◌, Bool, true, false, List, [], ◌∷◌, Option, Some, None, Result, Ok, Err, refl, sym, ap, ◌∙◌, arith, length, get_or, set}
use Rattle.std.specs.Prelude.{slice_get, IsErr}
use Rattle.std.proofs.lemmas.List.{get_or-set_same, get_or-set_other, length-set}
use Rattle.parquet_base.specs.Reading.{◌>>=◌, IsEnd, Gives, after}
use Rattle.parquet_thrift.specs.Values.{value_within}
use Rattle.parquet_thrift.specs.Skipping.{context_of, after_part, after_next, weight, PaysBegun, PaysNext}
use Rattle.parquet_thrift.specs.declared.skip.Part.{Part}
use Rattle.parquet_thrift.specs.declared.skip.Next.{Next}
use Rattle.parquet_base.proofs.EndLemmas.{IsEnd_all, IsEnd_through}
use Rattle.parquet_thrift.proofs.SkipLemmas.{IsSkipping, part_at, part_at-default, after_parts, weights, AgreeBelow, after_parts-agree, weights-agree, opened, closed, closed_none, goes_into}

pub refuses : {X Y E : Type 0} (view : X → Y) (r : Result X E) (spelled : Option Y) → IsErr r → spelled ≡ None → Gives view r spelled
refuses view (Ok x) spelled err e = absurd cc
refuses view (Err d) spelled err e = e

abbrev target : Part → List ℕ → Option (List ℕ)
target whole bytes = after_part 31 whole bytes

pub begins : (whole : Part) (bytes : List ℕ) (parts : List Part) → length parts ≡ 32 → slice_get parts 0 ≡ Some whole → IsSkipping whole bytes 1 parts bytes
begins whole bytes [] room first = absurd (omega arith)
begins whole bytes (p ∷ ps) room first =
    let same_part : p ≡ whole = cc in
    record { within = omega arith; room = room; same = opened (part_at (p ∷ ps)) bytes ∙ rw same_part refl; ends = IsEnd_all bytes }

-- the innermost part, for each value that stands for what is past the end
top : (whole : Part) (bytes : List ℕ) (depth : ℕ) (parts : List Part) (rest : List ℕ) (d : Part) → IsSkipping whole bytes depth parts rest → 0 < depth →
    part_at parts (depth - 1) ≡ get_or parts (depth - 1) d
top whole bytes depth parts rest d s some = let room = s.room in let within = s.within in part_at-default parts (depth - 1) d (omega arith)

pub fails : (whole : Part) (bytes : List ℕ) (depth : ℕ) (parts : List Part) (rest : List ℕ) (d : Part) → IsSkipping whole bytes depth parts rest → 0 < depth →
    ((limit : ℕ) → after_part limit (get_or parts (depth - 1) d) rest ≡ None) → target whole bytes ≡ None
fails whole bytes depth parts rest d s some e =
    let k : depth ≡ suc (depth - 1) = omega arith in
    sym s.same ∙ ap (λ (n : ℕ). after_parts n (part_at parts) rest) k
    ∙ closed_none (depth - 1) (part_at parts) rest (rw (top whole bytes depth parts rest d s some) (e (31 - (depth - 1))))

pub closes : (whole : Part) (bytes : List ℕ) (depth : ℕ) (parts : List Part) (rest behind : List ℕ) (d : Part) → IsSkipping whole bytes depth parts rest → 0 < depth →
    ((limit : ℕ) → after_part limit (get_or parts (depth - 1) d) rest ≡ Some behind) → IsEnd rest behind → IsSkipping whole bytes (depth - 1) parts behind
closes whole bytes depth parts rest behind d s some e ends =
    let k : depth ≡ suc (depth - 1) = omega arith in
    let within = s.within in
    record {
      within = omega arith;
      room = s.room;
      same = sym (closed (depth - 1) (part_at parts) rest behind (rw (top whole bytes depth parts rest d s some) (e (31 - (depth - 1)))))
          ∙ ap (λ (n : ℕ). after_parts n (part_at parts) rest) (sym k) ∙ s.same;
      ends = IsEnd_through bytes rest behind s.ends ends;
    }

-- how much is left to do
abbrev pub work : ℕ → List Part → List ℕ → ℕ
work depth parts rest = 2 * length rest + weights depth (part_at parts) + (32 - depth)

weights-top : (depth : ℕ) (inside : ℕ → Part) → 0 < depth → weights depth inside ≡ weight (inside (depth - 1)) + weights (depth - 1) inside
unfolding weights
weights-top zero inside some = absurd (omega arith)
weights-top (suc n) inside some = let k : suc n - 1 ≡ n = omega arith in rw k refl

pub closes_smaller : (whole : Part) (bytes : List ℕ) (depth : ℕ) (parts : List Part) (rest behind : List ℕ) (d : Part) → IsSkipping whole bytes depth parts rest → 0 < depth →
    PaysNext (get_or parts (depth - 1) d) None rest behind → work (depth - 1) parts behind < work depth parts rest
closes_smaller whole bytes depth parts rest behind d s some pays =
    let w = weights-top depth (part_at parts) some in
    let e : weight (part_at parts (depth - 1)) ≡ weight (get_or parts (depth - 1) d) = ap weight (top whole bytes depth parts rest d s some) in
    let within = s.within in
    omega (arith, w, e, pays)

-- the walk after the next value of the innermost part
into : (whole : Part) (bytes : List ℕ) (depth : ℕ) (parts : List Part) (rest behind : List ℕ) (d : Part) (next : Next) → IsSkipping whole bytes depth parts rest → 0 < depth →
    ((limit : ℕ) → after_part limit (get_or parts (depth - 1) d) rest ≡ after_next limit (Some next) behind) →
    target whole bytes ≡ (after (value_within (32 - depth) (context_of next.in_list) next.kind behind) >>= λ r. after_parts depth (part_at (set parts (depth - 1) next.then)) r)
into whole bytes depth parts rest behind d next s some e =
    let k : depth ≡ suc (depth - 1) = omega arith in
    let l : 32 - depth ≡ 31 - (depth - 1) = omega arith in
    let room = s.room in
    let within = s.within in
    let lt : depth - 1 < length parts = omega arith in
    sym s.same ∙ ap (λ (n : ℕ). after_parts n (part_at parts) rest) k
    ∙ goes_into (depth - 1) (32 - depth) (part_at parts) (part_at (set parts (depth - 1) next.then)) rest behind next l
    (λ i below. let other : i ≢ depth - 1 = omega arith in rw get_or-set_other refl) (rw get_or-set_same refl)
    (rw (top whole bytes depth parts rest d s some) (e (32 - depth)))
    ∙ ap (λ (n : ℕ). after (value_within (32 - depth) (context_of next.in_list) next.kind behind) >>= λ r. after_parts n (part_at (set parts (depth - 1) next.then)) r) (sym k)

pub too_deep : (whole : Part) (bytes : List ℕ) (depth : ℕ) (parts : List Part) (rest behind : List ℕ) (d : Part) (next : Next) → IsSkipping whole bytes depth parts rest → depth ≡ 32 →
    ((limit : ℕ) → after_part limit (get_or parts (depth - 1) d) rest ≡ after_next limit (Some next) behind) → target whole bytes ≡ None
unfolding value_within
too_deep whole bytes depth parts rest behind d next s deepest e =
    let none : 32 - depth ≡ 0 = omega arith in
    into whole bytes depth parts rest behind d next s (omega arith) e ∙ rw none refl

pub begins_none : (whole : Part) (bytes : List ℕ) (depth : ℕ) (parts : List Part) (rest behind : List ℕ) (d : Part) (next : Next) → IsSkipping whole bytes depth parts rest → 0 < depth → depth ≢ 32 →
    ((limit : ℕ) → after_part limit (get_or parts (depth - 1) d) rest ≡ after_next limit (Some next) behind) →
    ((limit : ℕ) → after (value_within (suc limit) (context_of next.in_list) next.kind behind) ≡ None) → target whole bytes ≡ None
begins_none whole bytes depth parts rest behind d next s some fewer e none =
    let within = s.within in
    let k : 32 - depth ≡ suc (31 - depth) = omega arith in
    into whole bytes depth parts rest behind d next s some e ∙ rw (k, none (31 - depth)) refl

-- a value that holds no other is passed over at once
pub passes : (whole : Part) (bytes : List ℕ) (depth : ℕ) (parts : List Part) (rest behind further : List ℕ) (d : Part) (next : Next) → IsSkipping whole bytes depth parts rest → 0 < depth → depth ≢ 32 →
    ((limit : ℕ) → after_part limit (get_or parts (depth - 1) d) rest ≡ after_next limit (Some next) behind) → IsEnd rest behind →
    ((limit : ℕ) → after (value_within (suc limit) (context_of next.in_list) next.kind behind) ≡ Some further) → IsEnd behind further →
    IsSkipping whole bytes depth (set parts (depth - 1) next.then) further
passes whole bytes depth parts rest behind further d next s some fewer e ends e' ends' =
    let within = s.within in
    let room = s.room in
    let k : 32 - depth ≡ suc (31 - depth) = omega arith in
    record {
      within = within;
      room = length-set parts (depth - 1) next.then ∙ room;
      same = sym (into whole bytes depth parts rest behind d next s some e ∙ rw (k, e' (31 - depth)) refl);
      ends = IsEnd_through bytes rest further s.ends (IsEnd_through rest behind further ends ends');
    }

-- a value that may hold others opens a part
pub opens : (whole : Part) (bytes : List ℕ) (depth : ℕ) (parts : List Part) (rest behind further : List ℕ) (d part : Part) (next : Next) → IsSkipping whole bytes depth parts rest → 0 < depth → depth ≢ 32 →
    ((limit : ℕ) → after_part limit (get_or parts (depth - 1) d) rest ≡ after_next limit (Some next) behind) → IsEnd rest behind →
    ((limit : ℕ) → after (value_within (suc limit) (context_of next.in_list) next.kind behind) ≡ after_part limit part further) → IsEnd behind further →
    IsSkipping whole bytes (depth + 1) (set (set parts (depth - 1) next.then) depth part) further
unfolding after_parts
opens whole bytes depth parts rest behind further d part next s some fewer e ends e' ends' =
    let within = s.within in
    let room = s.room in
    let k : 32 - depth ≡ suc (31 - depth) = omega arith in
    let n : depth + 1 ≡ suc depth = omega arith in
    let once = set parts (depth - 1) next.then in
    let len : length once ≡ 32 = length-set parts (depth - 1) next.then ∙ room in
    let lt : depth < length once = omega arith in
    let agree : AgreeBelow depth (part_at once) (part_at (set once depth part)) = λ i below. (let other : i ≢ depth = omega arith in sym (get_or-set_other once depth i part _ other)) in
    record {
      within = omega arith;
      room = length-set once depth part ∙ len;
      same = rw (n, get_or-set_same) (sym (into whole bytes depth parts rest behind d next s some e ∙ rw (k, e' (31 - depth)) (same_after (after_part (31 - depth) part further) once agree)));
      ends = IsEnd_through bytes rest further s.ends (IsEnd_through rest behind further ends ends');
    }
  where
    same_after : (o : Option (List ℕ)) (once : List Part) → AgreeBelow depth (part_at once) (part_at (set once depth part)) →
        (o >>= λ r. after_parts depth (part_at once) r) ≡ (o >>= λ r. after_parts depth (part_at (set once depth part)) r)
    same_after None once agree = refl
    same_after (Some r) once agree = after_parts-agree depth _ _ agree r

weights-set_top : (depth : ℕ) (parts : List Part) (part : Part) → 0 < depth → depth ≤ length parts → weight part ≡ weight (part_at parts (depth - 1)) →
    weights depth (part_at (set parts (depth - 1) part)) ≡ weights depth (part_at parts)
weights-set_top depth parts part some room same =
    let lt : depth - 1 < length parts = omega arith in
    let a = weights-top depth (part_at (set parts (depth - 1) part)) some in
    let b = weights-top depth (part_at parts) some in
    let t : weight (part_at (set parts (depth - 1) part) (depth - 1)) ≡ weight part = rw get_or-set_same refl in
    let others = weights-agree (depth - 1) (part_at (set parts (depth - 1) part)) (part_at parts)
    (λ i below. (let other : i ≢ depth - 1 = omega arith in get_or-set_other parts (depth - 1) i part _ other)) in
    omega (arith, a, b, t, others, same)

pub passes_smaller : (whole : Part) (bytes : List ℕ) (depth : ℕ) (parts : List Part) (rest behind further : List ℕ) (d : Part) (next : Next) → IsSkipping whole bytes depth parts rest → 0 < depth →
    PaysNext (get_or parts (depth - 1) d) (Some next) rest behind → IsEnd rest behind → PaysBegun next.in_list None behind further → IsEnd behind further →
    work depth (set parts (depth - 1) next.then) further < work depth parts rest
passes_smaller whole bytes depth parts rest behind further d next s some pays ends pays' ends' =
    let within = s.within in
    let room = s.room in
    let t : weight next.then ≡ weight (part_at parts (depth - 1)) = pays.0 ∙ ap weight (sym (top whole bytes depth parts rest d s some)) in
    let w = weights-set_top depth parts next.then some (omega arith) t in
    let e = ends.within in
    let e' = ends'.within in
    let shorter : length further < length rest = by_kind next.in_list pays.1 pays' in
    omega (arith, w, shorter)
  where
    by_kind : (in_list : Bool) → (in_list ≡ false → length behind < length rest) → (in_list ≡ true → length further < length behind) → length further < length rest
    by_kind true p q = let lt = q refl in let e = ends.within in omega (arith, lt, e)
    by_kind false p q = let lt = p refl in let e = ends'.within in omega (arith, lt, e)

pub opens_smaller : (whole : Part) (bytes : List ℕ) (depth : ℕ) (parts : List Part) (rest behind further : List ℕ) (d part : Part) (next : Next) → IsSkipping whole bytes depth parts rest → 0 < depth → depth ≢ 32 →
    PaysNext (get_or parts (depth - 1) d) (Some next) rest behind → IsEnd rest behind → PaysBegun next.in_list (Some part) behind further →
    work (depth + 1) (set (set parts (depth - 1) next.then) depth part) further < work depth parts rest
unfolding weights
opens_smaller whole bytes depth parts rest behind further d part next s some fewer pays ends pays' =
    let within = s.within in
    let room = s.room in
    let once = set parts (depth - 1) next.then in
    let len : length once ≡ 32 = length-set parts (depth - 1) next.then ∙ room in
    let lt : depth < length once = omega arith in
    let n : depth + 1 ≡ suc depth = omega arith in
    let t : weight next.then ≡ weight (part_at parts (depth - 1)) = pays.0 ∙ ap weight (sym (top whole bytes depth parts rest d s some)) in
    let w = weights-set_top depth parts next.then some (omega arith) t in
    let inner : weight (part_at (set once depth part) depth) ≡ weight part = rw get_or-set_same refl in
    let outer = weights-agree depth (part_at (set once depth part)) (part_at once) (λ i below. (let other : i ≢ depth = omega arith in get_or-set_other once depth i part _ other)) in
    let e = ends.within in
    rw n (omega (arith, w, inner, outer, e, pays'))

pub ended : (whole : Part) (bytes : List ℕ) (depth : ℕ) (parts : List Part) (rest : List ℕ) → IsSkipping whole bytes depth parts rest → depth ≤ 0 → target whole bytes ≡ Some rest
unfolding after_parts
ended whole bytes depth parts rest s none =
    let e : depth ≡ 0 = omega arith in
    sym s.same ∙ rw e refl
