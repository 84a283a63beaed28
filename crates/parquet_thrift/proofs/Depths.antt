-- How deep values are read.
use Rattle.std.proofs.Common.{◌≡◌, ℕ, zero, suc, ◌+◌, ◌≤◌, ◌<◌, max, ℤ, pos, Bool, true, false, cond, List, Option, Some, None, refl, sym, ap, ◌∙◌, arith, length, nat_eq, nat_le, inl, inr}
use Rattle.std.proofs.lemmas.Bool.{cases_lt, le-leb, lt-leb}
use Rattle.parquet_base.specs.Reading.{Read, ◌>>=◌, map_value}
use Rattle.parquet_thrift.specs.Numbers.{signed, signed_byte, raw, bytes_of_length}
use Rattle.parquet_thrift.specs.Values.{Value, truth, number, double, binary, list, map, struct, Values, no_values, values, Fields, no_fields, fields, Context, in_struct, in_list, Header, is_kind, field_header, list_header, map_header, elements, entries, field_or_end, fields_within, fields_of, list_truth, truth_at, value_with, value_within, value, depth, values_depth, fields_depth, keep, no_deeper}
use Rattle.parquet_thrift.proofs.Lengths.{NeverGrows, bind-agree, field_header-takes, list_header-takes, map_header-takes, value_within-takes}

-- ---- reads that agree

-- two reads agree on bytes that are no longer
abbrev pub Agree : {A : Type 0} → ℕ → Read A → Read A → Type 0
Agree n read read' = (bytes : List ℕ) → length bytes ≤ n → read bytes ≡ read' bytes

pub elements-agree : (n : ℕ) (element element' : Read Value) → NeverGrows element → Agree n element element' → (count : ℕ) → Agree n (elements element count) (elements element' count)
unfolding elements
elements-agree n element element' h agree zero bytes le = refl
elements-agree n element element' h agree (suc count) bytes le =
    bind-agree 0 bytes (element bytes) _ _ (h bytes) (λ x le'. ap (λ (o : Option (Values × List ℕ)). o >>= λ others. Some (values x.0 others.0, others.1)) (elements-agree n element element' h agree count x.1 (omega arith)))
    ∙ ap (λ (o : Option (Value × List ℕ)). o >>= λ x. elements element' count x.1 >>= λ others. Some (values x.0 others.0, others.1)) (agree bytes le)

entries-agree : (n : ℕ) (key key' value value' : Read Value) → NeverGrows key → NeverGrows value → Agree n key key' → Agree n value value' →
    (count : ℕ) → Agree n (entries key value count) (entries key' value' count)
unfolding entries
entries-agree n key key' value value' hk hv ak av zero bytes le = refl
entries-agree n key key' value value' hk hv ak av (suc count) bytes le =
    bind-agree 0 bytes (key bytes) _ _ (hk bytes) (λ k le'.
    bind-agree 0 k.1 (value k.1) _ _ (hv k.1) (λ v le''.
    ap (λ (o : Option (Values × List ℕ)). o >>= λ others. Some (values k.0 (values v.0 others.0), others.1)) (entries-agree n key key' value value' hk hv ak av count v.1 (omega arith)))
    ∙ ap (λ (o : Option (Value × List ℕ)). o >>= λ v. entries key' value' count v.1 >>= λ others. Some (values k.0 (values v.0 others.0), others.1)) (av k.1 (omega arith)))
    ∙ ap (λ (o : Option (Value × List ℕ)). o >>= λ k. value' k.1 >>= λ v. entries key' value' count v.1 >>= λ others. Some (values k.0 (values v.0 others.0), others.1)) (ak bytes le)

field_agree : (n : ℕ) (read read' : ℕ → Read Value) → ((kind : ℕ) → NeverGrows (read kind)) → ((kind : ℕ) (bytes : List ℕ) → length bytes < n → read kind bytes ≡ read' kind bytes) →
    (others others' : ℤ → Read Fields) → ((id : ℤ) → Agree n (others id) (others' id)) → (header : Header) (rest : List ℕ) → length rest < n →
    field_or_end read others header rest ≡ field_or_end read' others' header rest
field_agree n read read' h agree others others' agree_others None rest lt = refl
field_agree n read read' h agree others others' agree_others (Some (id, kind)) rest lt =
    bind-agree 0 rest (read kind rest) _ _ (h kind rest) (λ v le. ap (λ (o : Option (Fields × List ℕ)). o >>= λ more. Some (fields id kind v.0 more.0, more.1)) (agree_others id v.1 (omega arith)))
    ∙ ap (λ (o : Option (Value × List ℕ)). o >>= λ v. others' id v.1 >>= λ more. Some (fields id kind v.0 more.0, more.1)) (agree kind rest lt)

-- a field's header takes a byte, so its value is read from fewer
pub fields_within-agree : (n : ℕ) (read read' : ℕ → Read Value) → ((kind : ℕ) → NeverGrows (read kind)) →
    ((kind : ℕ) (bytes : List ℕ) → length bytes < n → read kind bytes ≡ read' kind bytes) →
    (most : ℕ) (previous : ℤ) → Agree n (fields_within read most previous) (fields_within read' most previous)
unfolding fields_within
fields_within-agree n read read' h agree zero previous bytes le = refl
fields_within-agree n read read' h agree (suc most) previous bytes le =
    bind-agree 1 bytes (field_header previous bytes) _ _ (field_header-takes previous bytes) (λ x lt.
    field_agree n read read' h agree (fields_within read most) (fields_within read' most) (λ id rest less. fields_within-agree n read read' h agree most id rest less) x.0 x.1 (omega arith))

-- ---- a depth of one more than the count of the bytes is enough

below_cond : {A : Type 0} (b : Bool) (x y z : A) → y ≡ z → cond b x y ≡ cond b x z
below_cond true x y z e = refl
below_cond false x y z e = e

pub both_cond : {A : Type 0} (b : Bool) (x x' y y' : A) → x ≡ x' → y ≡ y' → cond b x y ≡ cond b x' y'
both_cond true x x' y y' e f = e
both_cond false x x' y y' e f = f

pub value_with-agree : (inner inner' : Context → ℕ → Read Value) → ((context : Context) (kind : ℕ) → NeverGrows (inner context kind)) →
    (context : Context) (kind : ℕ) (bytes : List ℕ) →
    ((c : Context) (k : ℕ) (rest : List ℕ) → length rest < length bytes → inner c k rest ≡ inner' c k rest) →
    value_with inner context kind bytes ≡ value_with inner' context kind bytes
value_with-agree inner inner' h context kind bytes agree =
    below_cond (nat_le kind 2) _ _ _ (below_cond (nat_eq kind 3) _ _ _ (below_cond (nat_eq kind 4) _ _ _ (below_cond (nat_eq kind 5) _ _ _
    (below_cond (nat_eq kind 6) _ _ _ (below_cond (nat_eq kind 7) _ _ _ (below_cond (nat_eq kind 8) _ _ _
    (both_cond (nat_le kind 10) _ _ _ _
    (bind-agree 1 bytes (list_header bytes) _ _ (list_header-takes bytes) (λ x lt.
    ap (λ (o : Option (Values × List ℕ)). map_value (list x.0.1) o)
    (elements-agree (length x.1) (inner in_list x.0.1) (inner' in_list x.0.1) (h in_list x.0.1) (λ rest le. agree in_list x.0.1 rest (omega arith)) x.0.0 x.1 (omega arith))))
    (both_cond (nat_eq kind 11) _ _ _ _
    (bind-agree 1 bytes (map_header bytes) _ _ (map_header-takes bytes) (λ x lt.
    ap (λ (o : Option (Values × List ℕ)). map_value map o)
    (entries-agree (length x.1) (inner in_list x.0.1) (inner' in_list x.0.1) (inner in_list x.0.2) (inner' in_list x.0.2) (h in_list x.0.1) (h in_list x.0.2)
    (λ rest le. agree in_list x.0.1 rest (omega arith)) (λ rest le. agree in_list x.0.2 rest (omega arith)) x.0.0 x.1 (omega arith))))
    (ap (λ (o : Option (Fields × List ℕ)). map_value struct o)
    (fields_within-agree (length bytes) (inner in_struct) (inner' in_struct) (h in_struct) (λ k rest lt. agree in_struct k rest lt) (length bytes) (pos 0) bytes (omega arith)))))))))))

pub value_within-enough : (d e : ℕ) (context : Context) (kind : ℕ) (bytes : List ℕ) → length bytes < d → length bytes < e → value_within d context kind bytes ≡ value_within e context kind bytes
unfolding value_within
value_within-enough zero e context kind bytes lt lt' = absurd (omega arith)
value_within-enough (suc d) zero context kind bytes lt lt' = absurd (omega arith)
value_within-enough (suc d) (suc e) context kind bytes lt lt' =
    both_cond (is_kind kind) _ _ _ _
    (value_with-agree (value_within d) (value_within e) (λ c k. value_within-takes d c k) context kind bytes (λ c k rest less. value_within-enough d e c k rest (omega arith) (omega arith))) refl

-- ---- a bound on the depth keeps what is no deeper

keep-some : {A : Type 0} (depth_of : A → ℕ) (most : ℕ) (x : A × List ℕ) → depth_of x.0 ≤ most → keep depth_of most (Some x) ≡ Some x
keep-some depth_of most x le = rw (le-leb (depth_of x.0) most le) refl

keep-none : {A : Type 0} (depth_of : A → ℕ) (most : ℕ) (x : A × List ℕ) → most < depth_of x.0 → keep depth_of most (Some x) ≡ None
keep-none depth_of most x lt = rw (lt-leb (depth_of x.0) most lt) refl

-- a kept value, and then a kept one: of both in a row
keep-second : {A B C : Type 0} (da : A → ℕ) (db : B → ℕ) (dc : C → ℕ) (join : A → B → C) (most : ℕ) → ((a : A) (b : B) → dc (join a b) ≡ max (da a) (db b)) →
    (x : A × List ℕ) (f : A × List ℕ → Option (B × List ℕ)) (o : Option (B × List ℕ)) → f x ≡ o →
    (keep da most (Some x) >>= λ x'. keep db most (f x') >>= λ y. Some (join x'.0 y.0, y.1)) ≡ keep dc most (o >>= λ y. Some (join x.0 y.0, y.1))
keep-second da db dc join most joined x f None e =
    elim (cases_lt most (da x.0)) [
      | inl lt ↦ rw (keep-none da most x lt) refl
      | inr le ↦ rw (keep-some da most x le, e) refl
    ]
keep-second da db dc join most joined x f (Some y) e =
    elim (cases_lt most (da x.0)) [
      | inl lt ↦ rw (keep-none da most x lt) (sym (keep-none dc most (join x.0 y.0, y.1) (omega (arith, joined x.0 y.0))))
      | inr le ↦
          elim (cases_lt most (db y.0)) [
            | inl lt ↦ rw (keep-some da most x le, e, keep-none db most y lt) (sym (keep-none dc most (join x.0 y.0, y.1) (omega (arith, joined x.0 y.0))))
            | inr le' ↦ rw (keep-some da most x le, e, keep-some db most y le') (sym (keep-some dc most (join x.0 y.0, y.1) (omega (arith, joined x.0 y.0))))
          ]
    ]

keep-both : {A B C : Type 0} (da : A → ℕ) (db : B → ℕ) (dc : C → ℕ) (join : A → B → C) (most : ℕ) → ((a : A) (b : B) → dc (join a b) ≡ max (da a) (db b)) →
    (o : Option (A × List ℕ)) (f : A × List ℕ → Option (B × List ℕ)) →
    (keep da most o >>= λ x. keep db most (f x) >>= λ y. Some (join x.0 y.0, y.1)) ≡ keep dc most (o >>= λ x. f x >>= λ y. Some (join x.0 y.0, y.1))
keep-both da db dc join most joined None f = refl
keep-both da db dc join most joined (Some x) f = keep-second da db dc join most joined x f (f x) refl

-- a read that holds no more than a bound of what another does
abbrev Keeps : {A : Type 0} → (A → ℕ) → ℕ → Read A → Read A → Type 0
Keeps depth_of most read read' = (bytes : List ℕ) → read bytes ≡ keep depth_of most (read' bytes)

bind-cong : {A B : Type 0} (o : Option A) (f g : A → Option B) → ((x : A) → f x ≡ g x) → (o >>= f) ≡ (o >>= g)
bind-cong None f g h = refl
bind-cong (Some x) f g h = h x

-- a value, and then others
abbrev followed_by : Read Value → Read Values → Read Values
followed_by read others bytes = read bytes >>= λ v. others v.1 >>= λ o. Some (values v.0 o.0, o.1)

followed_by-keep : (most : ℕ) (read read' : Read Value) (others others' : Read Values) → Keeps depth most read read' → Keeps values_depth most others others' →
    Keeps values_depth most (followed_by read others) (followed_by read' others')
followed_by-keep most read read' others others' hr ho bytes =
    ap (λ (o : Option (Value × List ℕ)). o >>= λ x. others x.1 >>= λ y. Some (values x.0 y.0, y.1)) (hr bytes)
    ∙ bind-cong (keep depth most (read' bytes)) _ _ (λ x. ap (λ (o : Option (Values × List ℕ)). o >>= λ y. Some (values x.0 y.0, y.1)) (ho x.1))
    ∙ keep-both depth values_depth values_depth values most (λ a b. refl) (read' bytes) (λ x. others' x.1)

elements-keep : (most : ℕ) (element element' : Read Value) → Keeps depth most element element' → (count : ℕ) → Keeps values_depth most (elements element count) (elements element' count)
unfolding elements
elements-keep most element element' h zero bytes = sym (keep-some values_depth most (no_values, bytes) (omega arith))
elements-keep most element element' h (suc count) bytes =
    followed_by-keep most element element' (elements element count) (elements element' count) h (elements-keep most element element' h count) bytes

bind-assoc : {A B C : Type 0} (o : Option A) (f : A → Option B) (g : B → Option C) → ((o >>= f) >>= g) ≡ (o >>= λ x. f x >>= g)
bind-assoc None f g = refl
bind-assoc (Some x) f g = refl

-- a key, and then a value with the entries after it
entries-split : (key value : Read Value) (count : ℕ) (bytes : List ℕ) → entries key value (suc count) bytes ≡ followed_by key (followed_by value (entries key value count)) bytes
unfolding entries
entries-split key value count bytes =
    bind-cong (key bytes) _ _ (λ k.
    sym (bind-assoc (value k.1) _ _ ∙ bind-cong (value k.1) _ _ (λ v. bind-assoc (entries key value count v.1) _ _)))

entries-keep : (most : ℕ) (key key' read read' : Read Value) → Keeps depth most key key' → Keeps depth most read read' →
    (count : ℕ) → Keeps values_depth most (entries key read count) (entries key' read' count)
unfolding entries
entries-keep most key key' read read' hk hv zero bytes = sym (keep-some values_depth most (no_values, bytes) (omega arith))
entries-keep most key key' read read' hk hv (suc count) bytes =
    entries-split key read count bytes
    ∙ followed_by-keep most key key' (followed_by read (entries key read count)) (followed_by read' (entries key' read' count)) hk
    (followed_by-keep most read read' (entries key read count) (entries key' read' count) hv (entries-keep most key key' read read' hk hv count)) bytes
    ∙ ap (keep values_depth most) (sym (entries-split key' read' count bytes))

field-keep : (most : ℕ) (read read' : ℕ → Read Value) (others others' : ℤ → Read Fields) → ((kind : ℕ) → Keeps depth most (read kind) (read' kind)) → ((id : ℤ) → Keeps fields_depth most (others id) (others' id)) →
    (header : Header) → Keeps fields_depth most (field_or_end read others header) (field_or_end read' others' header)
field-keep most read read' others others' hr ho None bytes = sym (keep-some fields_depth most (no_fields, bytes) (omega arith))
field-keep most read read' others others' hr ho (Some (id, kind)) bytes =
    ap (λ (o : Option (Value × List ℕ)). o >>= λ v. others id v.1 >>= λ more. Some (fields id kind v.0 more.0, more.1)) (hr kind bytes)
    ∙ bind-cong (keep depth most (read' kind bytes)) _ _ (λ v. ap (λ (o : Option (Fields × List ℕ)). o >>= λ more. Some (fields id kind v.0 more.0, more.1)) (ho id v.1))
    ∙ keep-both depth fields_depth fields_depth (fields id kind) most (λ a b. refl) (read' kind bytes) (λ v. others' id v.1)

keep-bind : {A B : Type 0} (depth_of : B → ℕ) (most : ℕ) (o : Option A) (f g : A → Option (B × List ℕ)) → ((x : A) → f x ≡ keep depth_of most (g x)) → (o >>= f) ≡ keep depth_of most (o >>= g)
keep-bind depth_of most None f g h = refl
keep-bind depth_of most (Some x) f g h = h x

fields_within-keep : (most : ℕ) (read read' : ℕ → Read Value) → ((kind : ℕ) → Keeps depth most (read kind) (read' kind)) →
    (n : ℕ) (previous : ℤ) → Keeps fields_depth most (fields_within read n previous) (fields_within read' n previous)
unfolding fields_within
fields_within-keep most read read' h zero previous bytes = refl
fields_within-keep most read read' h (suc n) previous bytes =
    keep-bind fields_depth most (field_header previous bytes) _ _ (λ x.
    field-keep most read read' (fields_within read n) (fields_within read' n) h (λ id. fields_within-keep most read read' h n id) x.0 x.1)

-- a value that holds no other
scalar : {A : Type 0} (f : A → Value) (most : ℕ) → ((x : A) → depth (f x) ≡ 1) → (o : Option (A × List ℕ)) → map_value f o ≡ keep depth (suc most) (map_value f o)
scalar f most one None = refl
scalar f most one (Some x) = sym (keep-some depth (suc most) (f x.0, x.1) (omega (arith, one x.0)))

-- a value around others
around : {A : Type 0} (depth_of : A → ℕ) (f : A → Value) (most : ℕ) → ((x : A) → depth (f x) ≡ suc (depth_of x)) → (o : Option (A × List ℕ)) → map_value f (keep depth_of most o) ≡ keep depth (suc most) (map_value f o)
around depth_of f most deeper None = refl
around depth_of f most deeper (Some x) =
    elim (cases_lt most (depth_of x.0)) [
      | inl lt ↦ rw (keep-none depth_of most x lt) (sym (keep-none depth (suc most) (f x.0, x.1) (omega (arith, deeper x.0))))
      | inr le ↦ rw (keep-some depth_of most x le) (sym (keep-some depth (suc most) (f x.0, x.1) (omega (arith, deeper x.0))))
    ]

either : (most : ℕ) (b : Bool) (x x' y y' : Option (Value × List ℕ)) → x ≡ keep depth most x' → y ≡ keep depth most y' → cond b x y ≡ keep depth most (cond b x' y')
either most true x x' y y' p q = p
either most false x x' y y' p q = q

truth_at-keep : (most : ℕ) (context : Context) (kind : ℕ) (bytes : List ℕ) → truth_at context kind bytes ≡ keep depth (suc most) (truth_at context kind bytes)
truth_at-keep most in_struct kind bytes = sym (keep-some depth (suc most) (truth (nat_eq kind 1), bytes) (omega arith))
truth_at-keep most in_list kind bytes = scalar truth most (λ x. refl) (list_truth bytes)

value_with-keep : (most : ℕ) (inner inner' : Context → ℕ → Read Value) → ((c : Context) (k : ℕ) → Keeps depth most (inner c k) (inner' c k)) →
    (context : Context) (kind : ℕ) (bytes : List ℕ) → value_with inner context kind bytes ≡ keep depth (suc most) (value_with inner' context kind bytes)
value_with-keep most inner inner' h context kind bytes =
    either (suc most) (nat_le kind 2) _ _ _ _ (truth_at-keep most context kind bytes)
    (either (suc most) (nat_eq kind 3) _ _ _ _ (scalar number most (λ x. refl) (signed_byte bytes))
    (either (suc most) (nat_eq kind 4) _ _ _ _ (scalar number most (λ x. refl) (signed 16 bytes))
    (either (suc most) (nat_eq kind 5) _ _ _ _ (scalar number most (λ x. refl) (signed 32 bytes))
    (either (suc most) (nat_eq kind 6) _ _ _ _ (scalar number most (λ x. refl) (signed 64 bytes))
    (either (suc most) (nat_eq kind 7) _ _ _ _ (scalar double most (λ x. refl) (raw 8 bytes))
    (either (suc most) (nat_eq kind 8) _ _ _ _ (scalar binary most (λ x. refl) (bytes_of_length bytes))
    (either (suc most) (nat_le kind 10) _ _ _ _
    (keep-bind depth (suc most) (list_header bytes) _ _ (λ x.
    ap (λ (o : Option (Values × List ℕ)). map_value (list x.0.1) o) (elements-keep most (inner in_list x.0.1) (inner' in_list x.0.1) (h in_list x.0.1) x.0.0 x.1)
    ∙ around values_depth (list x.0.1) most (λ y. refl) (elements (inner' in_list x.0.1) x.0.0 x.1)))
    (either (suc most) (nat_eq kind 11) _ _ _ _
    (keep-bind depth (suc most) (map_header bytes) _ _ (λ x.
    ap (λ (o : Option (Values × List ℕ)). map_value map o) (entries-keep most (inner in_list x.0.1) (inner' in_list x.0.1) (inner in_list x.0.2) (inner' in_list x.0.2) (h in_list x.0.1) (h in_list x.0.2) x.0.0 x.1)
    ∙ around values_depth map most (λ y. refl) (entries (inner' in_list x.0.1) (inner' in_list x.0.2) x.0.0 x.1)))
    (ap (λ (o : Option (Fields × List ℕ)). map_value struct o) (fields_within-keep most (inner in_struct) (inner' in_struct) (h in_struct) (length bytes) (pos 0) bytes)
    ∙ around fields_depth struct most (λ y. refl) (fields_of (inner' in_struct) (pos 0) bytes))))))))))

none_kept : (v : Value) → 0 < depth v
none_kept (truth b) = omega arith
none_kept (number n) = omega arith
none_kept (double bytes) = omega arith
none_kept (binary bytes) = omega arith
none_kept (list kind vs) = omega arith
none_kept (map vs) = omega arith
none_kept (struct fs) = omega arith

keep-zero : (o : Option (Value × List ℕ)) → None ≡ keep depth 0 o
keep-zero None = refl
keep-zero (Some v) = sym (keep-none depth 0 v (none_kept v.0))

pub value_within-keep : (d e : ℕ) → d ≤ e → (context : Context) (kind : ℕ) → Keeps depth d (value_within d context kind) (value_within e context kind)
unfolding value_within
value_within-keep zero e le context kind bytes = keep-zero (value_within e context kind bytes)
value_within-keep (suc d) zero le context kind bytes = absurd (omega arith)
value_within-keep (suc d) (suc e) le context kind bytes =
    either (suc d) (is_kind kind) _ _ _ _ (value_with-keep d (value_within d) (value_within e) (λ c k. value_within-keep d e (omega arith) c k) context kind bytes) refl

-- what passing over a value looks at
pub value_within_no_deeper : (d : ℕ) (context : Context) (kind : ℕ) (bytes : List ℕ) → value_within d context kind bytes ≡ no_deeper d context kind bytes
unfolding value
value_within_no_deeper d context kind bytes =
    value_within-keep d (d + suc (length bytes)) (omega arith) context kind bytes
    ∙ ap (keep depth d) (value_within-enough (d + suc (length bytes)) (suc (length bytes)) context kind bytes (omega arith) (omega arith))
