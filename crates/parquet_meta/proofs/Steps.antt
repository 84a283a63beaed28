-- Reading a struct, a field at a time.
use Rattle.std.proofs.Common.{◌≡◌, ℕ, ◌+◌, ◌≤◌, ◌<◌, ℤ, pos, List, Bool, Option, Some, None, Result, Ok, Err, refl, sym, ap, subst, ◌∙◌, arith, length}
use Rattle.parquet_base.specs.Reading.{◌>>=◌, Takes}
use Rattle.parquet_base.proofs.TakeLemmas.{Takes-bind}
use Rattle.parquet_thrift.specs.Cursor.{Cursor}
use Rattle.parquet_thrift.specs.Values.{Value, Fields, fields, Context, in_struct, field_header, fields_of, value}
use Rattle.parquet_thrift.proofs.Lengths.{field_header-takes}
use Rattle.parquet_thrift.proofs.ValueLemmas.{value-takes, fields-next}
use Rattle.parquet_meta.specs.declared.fault.Fault.{Fault}
use Rattle.parquet_meta.specs.declared.fault.Fault.TheVariants as faults
use Rattle.parquet_meta.specs.Fault.{IsFaultOf, ReadsOr, MakesOr}
use Rattle.parquet_meta.specs.Meaning.{Rule, Field, with_rest, by_rule, in_turn, fields_by, made}

-- ---- what reading makes of a state

-- what the fields make of a state
abbrev ends_with : {S : Type 0} → Field S → S → Option (Fields × List ℕ) → Option (S × List ℕ)
ends_with field s o = o >>= λ fs. with_rest (in_turn field s fs.0) fs.1

abbrev before_others : ℤ → ℕ → Value → Option (Fields × List ℕ) → Option (Fields × List ℕ)
before_others id kind v o = o >>= λ more. Some (fields id kind v more.0, more.1)

one_field : {S : Type 0} (field : Field S) (s : S) (id : ℤ) (kind : ℕ) (v : Value) (r : Option S) → field s id kind v ≡ r → (o : Option (Fields × List ℕ)) (rest : List ℕ) →
    ends_with field s (before_others id kind v o) ≡ (with_rest r rest >>= λ x. ends_with field x.0 o)
unfolding in_turn
one_field field s id kind v None e None rest = refl
one_field field s id kind v None e (Some more) rest = rw e refl
one_field field s id kind v (Some m) e None rest = refl
one_field field s id kind v (Some m) e (Some more) rest = rw e refl

-- a field, and then what the others make of what it made
pub fields_by-next : {S : Type 0} (field : Field S) (s : S) (previous : ℤ) (bytes : List ℕ) (id : ℤ) (kind : ℕ) (rest : List ℕ) → field_header previous bytes ≡ Some (Some (id, kind), rest) →
    fields_by field s previous bytes ≡ (by_rule in_struct (field s id) kind rest >>= λ x. fields_by field x.0 id x.1)
unfolding fields_by by_rule
fields_by-next {S = S} field s previous bytes id kind rest header =
    ap (ends_with field s) (fields-next previous bytes) ∙ rw header (through (value in_struct kind rest))
  where
    through : (o : Option (Value × List ℕ)) →
        ends_with field s (o >>= λ v. before_others id kind v.0 (fields_of (value in_struct) id v.1))
        ≡ ((o >>= λ v. with_rest (field s id kind v.0) v.1) >>= λ x. ends_with field x.0 (fields_of (value in_struct) id x.1))
    through None = refl
    through (Some v) = one_field field s id kind v.0 (field s id kind v.0) refl (fields_of (value in_struct) id v.1) v.1 ∙ same_rest (field s id kind v.0) v.1
      where
        same_rest : (r : Option S) (after : List ℕ) →
            (with_rest r after >>= λ x. ends_with field x.0 (fields_of (value in_struct) id after)) ≡ (with_rest r after >>= λ x. ends_with field x.0 (fields_of (value in_struct) id x.1))
        same_rest None after = refl
        same_rest (Some m) after = refl

pub fields_by-end : {S : Type 0} (field : Field S) (s : S) (previous : ℤ) (bytes rest : List ℕ) → field_header previous bytes ≡ Some (None, rest) → fields_by field s previous bytes ≡ Some (s, rest)
unfolding fields_by in_turn
fields_by-end field s previous bytes rest header = ap (ends_with field s) (fields-next previous bytes) ∙ rw header refl

pub fields_by-none : {S : Type 0} (field : Field S) (s : S) (previous : ℤ) (bytes : List ℕ) → field_header previous bytes ≡ None → fields_by field s previous bytes ≡ None
unfolding fields_by
fields_by-none field s previous bytes header = ap (ends_with field s) (fields-next previous bytes) ∙ rw header refl

-- ---- the walk over the fields

-- what is read so far, and what is left, make what was there at first
pub record IsReading {S : Type 0} (field : Field S) (first : S) (start : Cursor) (s : S) (previous : ℤ) (now : Cursor) : Type 0 where
  pub same : fields_by field s previous now.rest ≡ fields_by field first (pos 0) start.rest
  pub whole : now.whole ≡ start.whole

pub goes_on : {S : Type 0} (field : Field S) (first : S) (start : Cursor) (s : S) (previous : ℤ) (now : Cursor) (id : ℤ) (kind : ℕ) (at : Cursor) (next : S) (then : Cursor) →
    IsReading field first start s previous now → field_header previous now.rest ≡ Some (Some (id, kind), at.rest) → at.whole ≡ now.whole →
    by_rule in_struct (field s id) kind at.rest ≡ Some (next, then.rest) → then.whole ≡ at.whole → IsReading field first start next id then
goes_on field first start s previous now id kind at next then reading header w1 one w2 = record {
  same = sym (fields_by-next field s previous now.rest id kind at.rest header ∙ rw one refl) ∙ reading.same;
  whole = w2 ∙ w1 ∙ reading.whole;
}

takes_some : {A : Type 0} (k : ℕ) (bytes : List ℕ) (o : Option (A × List ℕ)) (x : A × List ℕ) → Takes k bytes o → o ≡ Some x → k + length x.1 ≤ length bytes
takes_some k bytes o x h e = subst (λ p. Takes k bytes p) e h

by_rule-takes : {A : Type 0} (context : Context) (rule : Rule A) (kind : ℕ) (bytes : List ℕ) → Takes 0 bytes (by_rule context rule kind bytes)
unfolding by_rule
by_rule-takes {A = A} context rule kind bytes = Takes-bind 0 0 bytes (value context kind bytes) _ (value-takes context kind bytes) (λ v. meant (rule kind v.0) v.1)
  where
    meant : (r : Option A) (rest : List ℕ) → Takes 0 rest (with_rest r rest)
    meant None rest = tt
    meant (Some m) rest = omega arith

pub goes_on-smaller : {S : Type 0} (field : Field S) (s : S) (previous : ℤ) (now : Cursor) (id : ℤ) (kind : ℕ) (at : Cursor) (next : S) (then : Cursor) →
    field_header previous now.rest ≡ Some (Some (id, kind), at.rest) → by_rule in_struct (field s id) kind at.rest ≡ Some (next, then.rest) → length then.rest < length now.rest
goes_on-smaller field s previous now id kind at next then header one =
    let h = takes_some 1 now.rest (field_header previous now.rest) (Some (id, kind), at.rest) (field_header-takes previous now.rest) header in
    let v = takes_some 0 at.rest (by_rule in_struct (field s id) kind at.rest) (next, then.rest) (by_rule-takes in_struct (field s id) kind at.rest) one in
    omega (arith, h, v)

-- ---- refusals

pub refuses-on : {A B : Type 0} (may_want : Bool) (e : Fault) (o : Option A) (p : Option B) → (o ≡ None → p ≡ None) → IsFaultOf may_want e o → IsFaultOf may_want e p
refuses-on may_want faults.OutOfMemory o p h r = r
refuses-on may_want faults.Unspelled o p h r = h r

pub reading-none : {S : Type 0} (field : Field S) (first : S) (start : Cursor) (s : S) (previous : ℤ) (now : Cursor) (id : ℤ) (kind : ℕ) (at : Cursor) →
    IsReading field first start s previous now → field_header previous now.rest ≡ Some (Some (id, kind), at.rest) →
    by_rule in_struct (field s id) kind at.rest ≡ None → fields_by field first (pos 0) start.rest ≡ None
reading-none field first start s previous now id kind at reading header none =
    sym reading.same ∙ fields_by-next field s previous now.rest id kind at.rest header ∙ rw none refl

-- ---- what is made of what was read

-- what a rule gives is made into something else
pub by_rule_made : {A B : Type 0} (context : Context) (rule : Rule A) (make : A → Option B) (kind : ℕ) (bytes : List ℕ) →
    by_rule context (made rule make) kind bytes ≡ (by_rule context rule kind bytes >>= λ x. with_rest (make x.0) x.1)
unfolding by_rule made
by_rule_made {A = A} context rule make kind bytes = through (value context kind bytes)
  where
    one : (r : Option A) (rest : List ℕ) → with_rest (r >>= make) rest ≡ (with_rest r rest >>= λ x. with_rest (make x.0) x.1)
    one None rest = refl
    one (Some x) rest = refl

    through : (o : Option (Value × List ℕ)) → (o >>= λ v. with_rest (rule kind v.0 >>= make) v.1) ≡ ((o >>= λ v. with_rest (rule kind v.0) v.1) >>= λ x. with_rest (make x.0) x.1)
    through None = refl
    through (Some v) = one (rule kind v.0) v.1

pub made_refuses : {A B : Type 0} (may_want : Bool) (context : Context) (rule : Rule A) (make : A → Option B) (kind : ℕ) (bytes : List ℕ) (e : Fault) →
    IsFaultOf may_want e (by_rule context rule kind bytes) → IsFaultOf may_want e (by_rule context (made rule make) kind bytes)
made_refuses may_want context rule make kind bytes e refusal =
    refuses-on may_want e (by_rule context rule kind bytes) (by_rule context (made rule make) kind bytes) (λ none. by_rule_made context rule make kind bytes ∙ rw none refl) refusal

pub made_gives : {A B : Type 0} (may_want : Bool) (context : Context) (rule : Rule A) (make : A → Option B) (kind : ℕ) (old : Cursor) (x : A) (new : Cursor) (r : Result B Fault) →
    by_rule context rule kind old.rest ≡ Some (x, new.rest) → new.whole ≡ old.whole → MakesOr may_want r (make x) → ReadsOr may_want (λ y. y) (by_rule context (made rule make) kind) old r new
made_gives may_want context rule make kind old x new (Ok y) read whole makes = (by_rule_made context rule make kind old.rest ∙ rw (read, makes) refl, whole)
made_gives may_want context rule make kind old x new (Err e) read whole makes =
    refuses-on may_want e (make x) (by_rule context (made rule make) kind old.rest) (λ none. by_rule_made context rule make kind old.rest ∙ rw (read, none) refl) makes
