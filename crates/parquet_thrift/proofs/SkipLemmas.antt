-- Passing over a part, a value at a time.
use Rattle.std.proofs.Common.{◌≡◌, ℕ, zero, suc, ◌+◌, ◌≤◌, ◌<◌, ℤ, pos, List, [], ◌∷◌, Option, Some, None, refl, sym, ap, ◌∙◌, arith, length, ◌-◌, get_or}
use Rattle.parquet_base.specs.Reading.{◌>>=◌, IsEnd, after}
use Rattle.parquet_thrift.specs.Values.{Value, Fields, fields, in_struct, field_header, field_or_end, fields_of, value_within}
use Rattle.parquet_thrift.specs.Skipping.{after_value, context_of, after_part, after_next, weight}
use Rattle.parquet_thrift.specs.declared.skip.Part.{Part}
use Rattle.parquet_thrift.specs.declared.skip.Part.TheVariants as parts
use Rattle.parquet_thrift.specs.declared.skip.Next.{Next}
use Rattle.parquet_thrift.proofs.Lengths.{value_within-takes}
use Rattle.parquet_thrift.proofs.FieldLemmas.{fields_of-next}

-- the bytes after the fields, with the first header read
pub after_fields : (limit : ℕ) (previous : ℤ) (bytes : List ℕ) →
    after (fields_of (value_within limit in_struct) previous bytes)
    ≡ after (field_header previous bytes >>= λ header. field_or_end (value_within limit in_struct) (fields_of (value_within limit in_struct)) header.0 header.1)
after_fields limit previous bytes = ap after (fields_of-next (value_within limit in_struct) (value_within-takes limit in_struct) previous bytes)

pub after_fields_none : (limit : ℕ) (previous : ℤ) (bytes : List ℕ) → field_header previous bytes ≡ None → after (fields_of (value_within limit in_struct) previous bytes) ≡ None
after_fields_none limit previous bytes e = after_fields limit previous bytes ∙ rw e refl

pub after_fields_end : (limit : ℕ) (previous : ℤ) (bytes rest : List ℕ) → field_header previous bytes ≡ Some (None, rest) → after (fields_of (value_within limit in_struct) previous bytes) ≡ Some rest
after_fields_end limit previous bytes rest e = after_fields limit previous bytes ∙ rw e refl

after_more : (id : ℤ) (kind : ℕ) (v : Value) (o : Option (Fields × List ℕ)) → after (o >>= λ more. Some (fields id kind v more.0, more.1)) ≡ after o
after_more id kind v None = refl
after_more id kind v (Some x) = refl

pub after_fields_next : (limit : ℕ) (previous : ℤ) (bytes : List ℕ) (id : ℤ) (kind : ℕ) (rest : List ℕ) → field_header previous bytes ≡ Some (Some (id, kind), rest) →
    after (fields_of (value_within limit in_struct) previous bytes)
    ≡ after_value (after_part limit (parts.Fields id)) (value_within limit in_struct kind rest)
unfolding after_value
after_fields_next limit previous bytes id kind rest e =
    after_fields limit previous bytes ∙ rw e (through (value_within limit in_struct kind rest))
  where
    through : (o : Option (Value × List ℕ)) →
        after (o >>= λ v. fields_of (value_within limit in_struct) id v.1 >>= λ more. Some (fields id kind v.0 more.0, more.1))
        ≡ after_value (after_part limit (parts.Fields id)) o
    through None = refl
    through (Some v) = after_more id kind v.0 (fields_of (value_within limit in_struct) id v.1)

pub ruleset next_field = (after_fields_none, after_fields_end, after_fields_next)

-- ---- the open parts, the outermost first

abbrev pub part_at : List Part → ℕ → Part
part_at inside i = get_or inside i (parts.Fields (pos 0))

get_or-default : (xs : List Part) (i : ℕ) (x y : Part) → i < length xs → get_or xs i x ≡ get_or xs i y
get_or-default [] i x y lt = absurd (omega arith)
get_or-default (p ∷ ps) zero x y lt = refl
get_or-default (p ∷ ps) (suc i) x y lt = get_or-default ps i x y (omega arith)

pub part_at-default : (inside : List Part) (i : ℕ) (d : Part) → i < length inside → part_at inside i ≡ get_or inside i d
part_at-default inside i d lt = get_or-default inside i (parts.Fields (pos 0)) d lt

-- the bytes after the innermost so many parts and all that hold them
unfoldable pub after_parts : ℕ → (ℕ → Part) → List ℕ → Option (List ℕ)
after_parts zero inside bytes = Some bytes
after_parts (suc n) inside bytes = do
  rest ← after_part (31 - n) (inside n) bytes
  after_parts n inside rest

unfoldable pub weights : ℕ → (ℕ → Part) → ℕ
weights zero inside = 0
weights (suc n) inside = weight (inside n) + weights n inside

abbrev pub AgreeBelow : ℕ → (ℕ → Part) → (ℕ → Part) → Type 0
AgreeBelow n inside other = (i : ℕ) → i < n → inside i ≡ other i

bind-cong : {A B : Type 0} (o : Option A) (f g : A → Option B) → ((x : A) → f x ≡ g x) → (o >>= f) ≡ (o >>= g)
bind-cong None f g h = refl
bind-cong (Some x) f g h = h x

pub after_parts-agree : (n : ℕ) (inside other : ℕ → Part) → AgreeBelow n inside other → (bytes : List ℕ) → after_parts n inside bytes ≡ after_parts n other bytes
unfolding after_parts
after_parts-agree zero inside other h bytes = refl
after_parts-agree (suc n) inside other h bytes =
    ap (λ (p : Part). after_part (31 - n) p bytes >>= λ rest. after_parts n inside rest) (h n (omega arith))
    ∙ bind-cong (after_part (31 - n) (other n) bytes) _ _ (λ rest. after_parts-agree n inside other (λ i lt. h i (omega arith)) rest)

pub weights-agree : (n : ℕ) (inside other : ℕ → Part) → AgreeBelow n inside other → weights n inside ≡ weights n other
unfolding weights
weights-agree zero inside other h = refl
weights-agree (suc n) inside other h =
    let first : weight (inside n) ≡ weight (other n) = ap weight (h n (omega arith)) in
    let others = weights-agree n inside other (λ i lt. h i (omega arith)) in
    omega (arith, first, others)

bind-some : {A : Type 0} (o : Option A) → (o >>= λ x. Some x) ≡ o
bind-some None = refl
bind-some (Some x) = refl

-- one part is open
pub opened : (inside : ℕ → Part) (bytes : List ℕ) → after_parts 1 inside bytes ≡ after_part 31 (inside 0) bytes
unfolding after_parts
opened inside bytes = bind-some (after_part 31 (inside 0) bytes)

-- the innermost part has ended
pub closed : (n : ℕ) (inside : ℕ → Part) (bytes rest : List ℕ) → after_part (31 - n) (inside n) bytes ≡ Some rest → after_parts (suc n) inside bytes ≡ after_parts n inside rest
unfolding after_parts
closed n inside bytes rest e = rw e refl

pub closed_none : (n : ℕ) (inside : ℕ → Part) (bytes : List ℕ) → after_part (31 - n) (inside n) bytes ≡ None → after_parts (suc n) inside bytes ≡ None
unfolding after_parts
closed_none n inside bytes e = rw e refl

-- the next value of the innermost part
pub goes_into : (n limit : ℕ) (inside other : ℕ → Part) (bytes rest : List ℕ) (next : Next) → limit ≡ 31 - n → AgreeBelow n other inside → other n ≡ next.then →
    after_part limit (inside n) bytes ≡ after_next limit (Some next) rest →
    after_parts (suc n) inside bytes ≡ (after (value_within limit (context_of next.in_list) next.kind rest) >>= λ r. after_parts (suc n) other r)
unfolding after_parts after_value
goes_into n limit inside other bytes rest next l agree top e =
    ap (λ (k : ℕ). after_part k (inside n) bytes >>= λ r. after_parts n inside r) (sym l)
    ∙ rw e (both (value_within limit (context_of next.in_list) next.kind rest))
  where
    both : (o : Option (Value × List ℕ)) →
        (after_value (after_part limit next.then) o >>= λ r. after_parts n inside r)
        ≡ (after o >>= λ r. after_part (31 - n) (other n) r >>= λ r'. after_parts n other r')
    both None = refl
    both (Some v) = rw (top, ← l) (bind-cong (after_part limit next.then v.1) _ _ (λ r. sym (after_parts-agree n other inside agree r)))

-- what is left of passing over the outermost part
pub record IsSkipping (whole : Part) (bytes : List ℕ) (depth : ℕ) (inside : List Part) (rest : List ℕ) : Type 0 where
  pub within : depth ≤ 32
  pub room : length inside ≡ 32
  pub same : after_parts depth (part_at inside) rest ≡ after_part 31 whole bytes
  pub ends : IsEnd bytes rest
