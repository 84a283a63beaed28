-- Statistics tell exactly whether a bound can be met.
use Rattle.std.proofs.Common.{◌≡◌, ℕ, zero, suc, ◌+◌, ◌-◌, ◌<◌, ◌≤◌, pos, Bool, true, false, not, ◌&&◌, cond, List, [], ◌∷◌, length, inl, inr, refl, sym, ◌∙◌, arith, is_some, replicate}
use Rattle.std.specs.Prelude.{ℤ, int_le, Option, Some, None, IfSome, MatchOption, IsUtf8, count_by, unwrap_or, nat_lt, ◌==◌}
use Rattle.std.specs.List.{AllByRecursion, list_all, list_any}
use Rattle.std.specs.Option.{option_map_or}
use Rattle.std.proofs.lemmas.Bool.{false≢true, and_parts, and_from, or_cases, or_right, or_left, not-true, not_from_false, ltb-true, lt-ltb, eqb-true, eq-eqb, cond-true}
use Rattle.std.proofs.lemmas.List.{length-replicate}
use Rattle.std.proofs.lemmas.List.Sums.{sum_by-cons, count_by-le-length}
use Rattle.std.proofs.lemmas.Str.{IsUtf8-nil}
use Rattle.columns_core.specs.declared.cell.Cell.{Cell, Null, Int, Text, Bytes}
use Rattle.columns_core.specs.declared.data_type.DataType.{DataType, out-DataType}
use Rattle.columns_core.specs.declared.data_type.DataType.TheOpen.{DataType-F}
use Rattle.parquet_scan.specs.declared.bound.Scalar.{Scalar}
use Rattle.parquet_scan.specs.declared.bound.Scalar.TheVariants as scalar
use Rattle.parquet_scan.specs.declared.bound.Bound.{Bound}
use Rattle.parquet_scan.specs.Bound.{value_of, is_past, is_above, is_within, meets, has_value, keeps}
use Rattle.parquet_scan.specs.Exact.{is_byte, IsValueOf, IsItemOf, MayBeMet, KeepsExactly, TrueEndsKeep, is_one_of_type, is_end_of}
use Rattle.parquet_scan.specs.Request.{is_value_of}
use Rattle.columns_core.specs.Types.{Layer, number_range_at, is_text_at, takes_bytes_at, is_ordered_at, is_ordered}
use Rattle.parquet_scan.specs.Truth.{is_null, is_between, are_true_ends}
use Rattle.parquet_scan.proofs.Order.{kind, above_irrefl, above_asym, above_upto}

-- ---- cells and their values

abbrev cell_of : Scalar → Cell
cell_of (scalar.Int n) = Int n
cell_of (scalar.Text text) = Text text
cell_of (scalar.Bytes bytes) = Bytes bytes

value_of-cell_of : (v : Scalar) → value_of (cell_of v) ≡ Some v
value_of-cell_of (scalar.Int n) = refl
value_of-cell_of (scalar.Text text) = refl
value_of-cell_of (scalar.Bytes bytes) = refl

is_null-cell_of : (v : Scalar) → is_null (cell_of v) ≡ false
is_null-cell_of (scalar.Int n) = refl
is_null-cell_of (scalar.Text text) = refl
is_null-cell_of (scalar.Bytes bytes) = refl

-- a null meets no bound
met_is_not_null : (bound : Bound) (item : Cell) → meets bound item ≡ true → is_null item ≡ false
met_is_not_null bound Null p = absurd (false≢true p)
met_is_not_null bound _ p = refl

within_parts : (low high : Option Scalar) (v : Scalar) → is_within low high v ≡ true → (is_past low (Some v) ≡ false) × (is_past (Some v) high ≡ false)
within_parts low high v e = let p = and_parts (not (is_past low (Some v))) (not (is_past (Some v) high)) e in (not-true _ p.0, not-true _ p.1)

within_from : (low high : Option Scalar) (v : Scalar) → is_past low (Some v) ≡ false → is_past (Some v) high ≡ false → is_within low high v ≡ true
within_from low high v p q = and_from _ _ (not_from_false _ p) (not_from_false _ q)

-- what one item adds to a count
abbrev one_if : Bool → ℕ
one_if b = cond b 1 0

one_if-le : (b : Bool) → one_if b ≤ 1
one_if-le true = omega arith
one_if-le false = omega arith

-- fewer items are null than there are, where one meets a bound
fewer : (bound : Bound) (items : List Cell) → list_any (meets bound) items ≡ true → count_by is_null items < length items
fewer bound [] p = absurd (false≢true p)
fewer bound (item ∷ items) p =
    let step = sum_by-cons (λ x. one_if (is_null x)) item items in
    elim (or_cases (meets bound item) (list_any (meets bound) items) p) [
      | inl here ↦ (let alone : one_if (is_null item) ≡ 0 = rw (met_is_not_null bound item here) in
          omega (arith, step, alone, count_by-le-length is_null items))
      | inr later ↦ omega (arith, step, one_if-le (is_null item), fewer bound items later)
    ]

-- ---- values of one kind

record Between (V : Scalar → Type 0) (low high low' high' : Option Scalar) : Type 0 where
  value : Scalar
  is_value : V value
  within : is_within low high value ≡ true
  within' : is_within low' high' value ≡ true

module _ (V : Scalar → Type 0) (same : (a b : Scalar) → V a → V b → kind a ≡ kind b) where
  no_pass : (low high : Option Scalar) (v : Scalar) → IfSome low V → V v → IfSome high V
      → is_past low (Some v) ≡ false → is_past (Some v) high ≡ false → is_past low high ≡ false
  no_pass None high v a b c p q = refl
  no_pass (Some x) None v a b c p q = refl
  no_pass (Some x) (Some y) v a b c p q = above_upto x v y (same x v a b) (same v y b c) p q

  -- the greater of two ends, where one is known
  abbrev greatest : Option Scalar → Option Scalar → Option Scalar
  greatest None b = b
  greatest (Some a) None = Some a
  greatest (Some a) (Some b) = cond (is_above a b) (Some a) (Some b)

  abbrev least : Option Scalar → Option Scalar → Option Scalar
  least None b = b
  least (Some a) None = Some a
  least (Some a) (Some b) = cond (is_above a b) (Some b) (Some a)

  record IsTop (a b : Option Scalar) (v : Scalar) : Type 0 where
    is_value : V v
    first : is_past a (Some v) ≡ false
    second : is_past b (Some v) ≡ false
    below : (high : Option Scalar) → is_past a high ≡ false → is_past b high ≡ false → is_past (Some v) high ≡ false

  record IsBottom (a b : Option Scalar) (v : Scalar) : Type 0 where
    is_value : V v
    first : is_past (Some v) a ≡ false
    second : is_past (Some v) b ≡ false
    above : (low : Option Scalar) → is_past low a ≡ false → is_past low b ≡ false → is_past low (Some v) ≡ false

  -- is_past low (Some a) and is_past low (Some b) are what they say at a known end
  top_of : (a b : Scalar) → V a → V b → (t : Bool) → is_above a b ≡ t → MatchOption (cond t (Some a) (Some b)) ⊥ (IsTop (Some a) (Some b))
  top_of a b x y true e = record { is_value = x; first = above_irrefl a; second = above_asym a b e; below = λ high p q. p }
  top_of a b x y false e = record { is_value = y; first = e; second = above_irrefl b; below = λ high p q. q }

  abbrev Neither : Option Scalar → Option Scalar → Type 0
  Neither a b = (a ≡ None) × (b ≡ None)

  bottom_of : (a b : Scalar) → V a → V b → (t : Bool) → is_above a b ≡ t → MatchOption (cond t (Some b) (Some a)) ⊥ (IsBottom (Some a) (Some b))
  bottom_of a b x y true e = record { is_value = y; first = above_asym a b e; second = above_irrefl b; above = λ low p q. q }
  bottom_of a b x y false e = record { is_value = x; first = above_irrefl a; second = e; above = λ low p q. p }

  wider : {X : Type 0} (o : Option X) (P : Type 0) (Q : X → Type 0) → MatchOption o ⊥ Q → MatchOption o P Q
  wider None P Q h = absurd h
  wider (Some x) P Q h = h

  top : (a b : Option Scalar) → IfSome a V → IfSome b V → MatchOption (greatest a b) (Neither a b) (IsTop a b)
  top None None x y = (refl, refl)
  top None (Some b) x y = record { is_value = y; first = refl; second = above_irrefl b; below = λ high p q. q }
  top (Some a) None x y = record { is_value = x; first = above_irrefl a; second = refl; below = λ high p q. p }
  top (Some a) (Some b) x y = wider (greatest (Some a) (Some b)) _ _ (top_of a b x y (is_above a b) refl)

  bottom : (a b : Option Scalar) → IfSome a V → IfSome b V → MatchOption (least a b) (Neither a b) (IsBottom a b)
  bottom None None x y = (refl, refl)
  bottom None (Some b) x y = record { is_value = y; first = refl; second = above_irrefl b; above = λ low p q. q }
  bottom (Some a) None x y = record { is_value = x; first = above_irrefl a; second = refl; above = λ low p q. p }
  bottom (Some a) (Some b) x y = wider (least (Some a) (Some b)) _ _ (bottom_of a b x y (is_above a b) refl)

  -- Ends that do not cross leave room for a value.
  module _ (low high low' high' : Option Scalar) (d : Scalar) (is_default : V d)
      (v_low : IfSome low V) (v_high : IfSome high V) (v_low' : IfSome low' V) (v_high' : IfSome high' V)
      (p1 : is_past low high ≡ false) (p2 : is_past low high' ≡ false) (p3 : is_past low' high ≡ false) (p4 : is_past low' high' ≡ false) where
    from_bottom : (o : Option Scalar) → Neither low low' → MatchOption o (Neither high high') (IsBottom high high') → Between V low high low' high'
    from_bottom None n h = record {
      value = d;
      is_value = is_default;
      within = within_from low high d (rw n.0 refl) (rw h.0 refl);
      within' = within_from low' high' d (rw n.1 refl) (rw h.1 refl);
    }
    from_bottom (Some v) n h = record {
      value = v;
      is_value = h.is_value;
      within = within_from low high v (rw n.0 refl) h.first;
      within' = within_from low' high' v (rw n.1 refl) h.second;
    }

    from_top : (o : Option Scalar) → MatchOption o (Neither low low') (IsTop low low') → Between V low high low' high'
    from_top None n = from_bottom (least high high') n (bottom high high' v_high v_high')
    from_top (Some v) h = record {
      value = v;
      is_value = h.is_value;
      within = within_from low high v h.first (h.below high p1 p3);
      within' = within_from low' high' v h.second (h.below high' p2 p4);
    }

    between : Between V low high low' high'
    between = from_top (greatest low low') (top low low' v_low v_low')

-- ---- a list of nulls and of one value

abbrev copies : ℕ → Cell → List Cell → List Cell
copies zero item rest = rest
copies (suc n) item rest = item ∷ copies n item rest

length-copies : (n : ℕ) (item : Cell) (rest : List Cell) → length (copies n item rest) ≡ n + length rest
length-copies zero item rest = omega arith
length-copies (suc n) item rest = omega (arith, length-copies n item rest)

all-copies : (p : Cell → Bool) (n : ℕ) (item : Cell) (rest : List Cell) → p item ≡ true → list_all p rest ≡ true → list_all p (copies n item rest) ≡ true
all-copies p zero item rest here there = there
all-copies p (suc n) item rest here there = and_from _ _ here (all-copies p n item rest here there)

each-copies : (P : Cell → Type 0) (n : ℕ) (item : Cell) (rest : List Cell) → P item → AllByRecursion P rest → AllByRecursion P (copies n item rest)
each-copies P zero item rest here there = there
each-copies P (suc n) item rest here there = (here, each-copies P n item rest here there)

any-copies : (p : Cell → Bool) (n : ℕ) (item : Cell) (rest : List Cell) → list_any p rest ≡ true → list_any p (copies n item rest) ≡ true
any-copies p zero item rest there = there
any-copies p (suc n) item rest there = or_right _ _ (any-copies p n item rest there)

count-copies_yes : (p : Cell → Bool) (n : ℕ) (item : Cell) (rest : List Cell) → p item ≡ true → count_by p (copies n item rest) ≡ n + count_by p rest
count-copies_yes p zero item rest here = omega arith
count-copies_yes p (suc n) item rest here =
    let one : one_if (p item) ≡ 1 = rw here in
    omega (arith, sum_by-cons (λ x. one_if (p x)) item (copies n item rest), one, count-copies_yes p n item rest here)

count-copies_no : (p : Cell → Bool) (n : ℕ) (item : Cell) (rest : List Cell) → p item ≡ false → count_by p (copies n item rest) ≡ count_by p rest
count-copies_no p zero item rest here = refl
count-copies_no p (suc n) item rest here =
    let none : one_if (p item) ≡ 0 = rw here in
    omega (arith, sum_by-cons (λ x. one_if (p x)) item (copies n item rest), none, count-copies_no p n item rest here)

-- ---- the kind of a type's values

abbrev pub kind_at : Layer → ℕ
kind_at layer = cond (is_text_at layer) 1 (cond (is_some (number_range_at layer)) 0 2)

pub kind-int : (layer : Layer) (n : ℤ) → option_map_or (λ range. int_le range.0 n && int_le n range.1) (number_range_at layer) false ≡ true → 0 ≡ kind_at layer
kind-int DataType-F.Int8 n p = refl
kind-int DataType-F.Int16 n p = refl
kind-int DataType-F.Int32 n p = refl
kind-int DataType-F.Int64 n p = refl
kind-int DataType-F.UInt8 n p = refl
kind-int DataType-F.UInt16 n p = refl
kind-int DataType-F.UInt32 n p = refl
kind-int DataType-F.UInt64 n p = refl
kind-int DataType-F.Date32 n p = refl
kind-int DataType-F.Date64 n p = refl
kind-int (DataType-F.Time32 unit) n p = refl
kind-int (DataType-F.Time64 unit) n p = refl
kind-int (DataType-F.Duration unit) n p = refl
kind-int (DataType-F.Timestamp unit time_zone) n p = refl
kind-int (DataType-F.Decimal precision scale) n p = refl
kind-int _ n p = absurd (false≢true p)

pub kind-bytes : (layer : Layer) (n : ℕ) → takes_bytes_at layer n ≡ true → 2 ≡ kind_at layer
kind-bytes DataType-F.Binary n p = refl
kind-bytes DataType-F.LargeBinary n p = refl
kind-bytes (DataType-F.FixedSizeBinary size) n p = refl
kind-bytes _ n p = absurd (false≢true p)

kind-value : (data_type : DataType) (v : Scalar) → IsValueOf data_type v → kind v ≡ kind_at (out-DataType data_type)
kind-value data_type (scalar.Int n) h = kind-int (out-DataType data_type) n h
kind-value data_type (scalar.Text text) h = sym (cond-true _ _ _ h.0)
kind-value data_type (scalar.Bytes bytes) h = kind-bytes (out-DataType data_type) (length bytes) h.0

same_kind : (data_type : DataType) (a b : Scalar) → IsValueOf data_type a → IsValueOf data_type b → kind a ≡ kind b
same_kind data_type a b x y = kind-value data_type a x ∙ sym (kind-value data_type b y)

-- ---- each ordered type has a value

abbrev IsValueAt : Layer → Scalar → Type 0
IsValueAt layer (scalar.Int n) = option_map_or (λ range. int_le range.0 n && int_le n range.1) (number_range_at layer) false ≡ true
IsValueAt layer (scalar.Text text) = (is_text_at layer ≡ true) × IsUtf8 text
IsValueAt layer (scalar.Bytes bytes) = (takes_bytes_at layer (length bytes) ≡ true) × (list_all is_byte bytes ≡ true)

value_at : (data_type : DataType) (v : Scalar) → IsValueAt (out-DataType data_type) v → IsValueOf data_type v
value_at data_type (scalar.Int n) h = h
value_at data_type (scalar.Text text) h = h
value_at data_type (scalar.Bytes bytes) h = h

zeros : (n : ℕ) → list_all is_byte (replicate n 0) ≡ true
zeros zero = refl
zeros (suc n) = zeros n

some_value : (layer : Layer) → is_ordered_at layer (is_some (number_range_at layer)) (is_text_at layer) ≡ true → (v : Scalar) × IsValueAt layer v
some_value DataType-F.Int8 p = (scalar.Int (pos 0), refl)
some_value DataType-F.Int16 p = (scalar.Int (pos 0), refl)
some_value DataType-F.Int32 p = (scalar.Int (pos 0), refl)
some_value DataType-F.Int64 p = (scalar.Int (pos 0), refl)
some_value DataType-F.UInt8 p = (scalar.Int (pos 0), refl)
some_value DataType-F.UInt16 p = (scalar.Int (pos 0), refl)
some_value DataType-F.UInt32 p = (scalar.Int (pos 0), refl)
some_value DataType-F.UInt64 p = (scalar.Int (pos 0), refl)
some_value DataType-F.Date32 p = (scalar.Int (pos 0), refl)
some_value DataType-F.Date64 p = (scalar.Int (pos 0), refl)
some_value (DataType-F.Time32 unit) p = (scalar.Int (pos 0), refl)
some_value (DataType-F.Time64 unit) p = (scalar.Int (pos 0), refl)
some_value (DataType-F.Duration unit) p = (scalar.Int (pos 0), refl)
some_value (DataType-F.Timestamp unit time_zone) p = (scalar.Int (pos 0), refl)
some_value (DataType-F.Decimal precision scale) p = (scalar.Int (pos 0), refl)
some_value DataType-F.Utf8 p = (scalar.Text [], (refl, IsUtf8-nil))
some_value DataType-F.LargeUtf8 p = (scalar.Text [], (refl, IsUtf8-nil))
some_value DataType-F.Binary p = (scalar.Bytes [], (refl, refl))
some_value DataType-F.LargeBinary p = (scalar.Bytes [], (refl, refl))
some_value (DataType-F.FixedSizeBinary size) p = (scalar.Bytes (replicate size 0), (eq-eqb _ _ (length-replicate size 0), zeros size))
some_value _ p = absurd (false≢true p)

-- ---- items of which the ends are true

-- null, or a value of a kind
abbrev pub IsItemIn : (Scalar → Type 0) → Cell → Type 0
IsItemIn V item = MatchOption (value_of item) (is_null item ≡ true) V

module _ (V : Scalar → Type 0) (same : (a b : Scalar) → V a → V b → kind a ≡ kind b)
    (low high : Option Scalar) (nulls : Option ℕ) (rows : ℕ) (bound : Bound)
    (v_low : IfSome low V) (v_high : IfSome high V) (v_low' : IfSome bound.low V) (v_high' : IfSome bound.high V) where
  -- the value of an item that meets the bound
  met_at : (o : Option Scalar) (null : Bool) → option_map_or (is_within bound.low bound.high) o false ≡ true
      → option_map_or (is_within low high) o true ≡ true → MatchOption o (null ≡ true) V → Between V low high bound.low bound.high
  met_at None null p q r = absurd (false≢true p)
  met_at (Some v) null p q r = record { value = v; is_value = r; within = q; within' = p }

  found : (items : List Cell) → list_any (meets bound) items ≡ true → list_all (is_between low high) items ≡ true
      → AllByRecursion (IsItemIn V) items → Between V low high bound.low bound.high
  found [] p q r = absurd (false≢true p)
  found (item ∷ items) p q r =
      let true_of = and_parts (is_between low high item) (list_all (is_between low high) items) q in
      elim (or_cases (meets bound item) (list_any (meets bound) items) p) [
        | inl here ↦ met_at (value_of item) (is_null item) here true_of.0 r.0
        | inr later ↦ found items later true_of.1 r.1
      ]

  has_value_from : (nulls : Option ℕ) (n : ℕ) → n < rows → option_map_or (λ k. k == n) nulls true ≡ true → has_value nulls rows ≡ true
  has_value_from None n h e = and_from _ _ (lt-ltb 0 rows (omega arith)) refl
  has_value_from (Some k) n h e = and_from _ _ (lt-ltb 0 rows (omega arith)) (lt-ltb k rows (omega (arith, eqb-true k n e)))

  -- items of which the ends are true, as many as there are rows or fewer
  pub from_items : (items : List Cell) → length items ≤ rows → AllByRecursion (IsItemIn V) items → are_true_ends low high nulls items ≡ true
      → list_any (meets bound) items ≡ true → keeps low high nulls rows bound ≡ true
  from_items items count of_type true_of is_met =
      let parts = and_parts (list_all (is_between low high) items) (option_map_or (λ n. n == count_by is_null items) nulls true) true_of in
      let b = found items is_met parts.0 of_type in
      let w = within_parts low high b.value b.within in
      let w' = within_parts bound.low bound.high b.value b.within' in
      let known = has_value_from nulls (count_by is_null items) (omega (arith, fewer bound items is_met, count)) parts.1 in
      and_from _ _ (and_from _ _ (and_from _ _ (and_from _ _ known
      (not_from_false _ (no_pass V same low high b.value v_low b.is_value v_high w.0 w.1)))
      (not_from_false _ (no_pass V same low bound.high b.value v_low b.is_value v_high' w.0 w'.1)))
      (not_from_false _ (no_pass V same bound.low high b.value v_low' b.is_value v_high w'.0 w.1)))
      (not_from_false _ (no_pass V same bound.low bound.high b.value v_low' b.is_value v_high' w'.0 w'.1))

-- ---- both directions

module _ (data_type : DataType) (low high : Option Scalar) (nulls : Option ℕ) (rows : ℕ) (bound : Bound) (ordered : is_ordered data_type ≡ true)
    (v_low : IfSome low (IsValueOf data_type)) (v_high : IfSome high (IsValueOf data_type))
    (v_low' : IfSome bound.low (IsValueOf data_type)) (v_high' : IfSome bound.high (IsValueOf data_type)) where
  abbrev V : Scalar → Type 0
  V = IsValueOf data_type

  from_list : MayBeMet data_type low high nulls rows bound → keeps low high nulls rows bound ≡ true
  from_list m = from_items V (same_kind data_type) low high nulls rows bound v_low v_high v_low' v_high' m.items (omega (arith, m.count)) m.of_type m.are_true m.is_met

  below_rows : (nulls : Option ℕ) → has_value nulls rows ≡ true → unwrap_or nulls 0 < rows
  below_rows None h = ltb-true 0 rows (and_parts (nat_lt 0 rows) true h).0
  below_rows (Some k) h = ltb-true k rows (and_parts (nat_lt 0 rows) (nat_lt k rows) h).1

  nulls_counted : (nulls : Option ℕ) (n : ℕ) → n ≡ unwrap_or nulls 0 → option_map_or (λ k. k == n) nulls true ≡ true
  nulls_counted None n e = refl
  nulls_counted (Some k) n e = eq-eqb k n (sym e)

  -- nulls, and then a value between the ends
  the_list : has_value nulls rows ≡ true → Between V low high bound.low bound.high → MayBeMet data_type low high nulls rows bound
  the_list h b =
      let n = unwrap_or nulls 0 in
      let item = cell_of b.value in
      let values = copies (suc (rows - n - 1)) item [] in
      let fits : n < rows = below_rows nulls h in
      let between_ends : is_between low high item ≡ true = rw (value_of-cell_of b.value) b.within in
      let meets_it : meets bound item ≡ true = rw (value_of-cell_of b.value) b.within' in
      let typed : IsItemOf data_type item = rw (value_of-cell_of b.value) b.is_value in
      record {
        items = copies n Null values;
        count = omega (arith, length-copies n Null values, length-copies (suc (rows - n - 1)) item []);
        of_type = each-copies (IsItemOf data_type) n Null values refl (each-copies (IsItemOf data_type) (suc (rows - n - 1)) item [] typed tt);
        are_true = and_from _ _
            (all-copies (is_between low high) n Null values refl (all-copies (is_between low high) (suc (rows - n - 1)) item [] between_ends refl))
            (nulls_counted nulls (count_by is_null (copies n Null values))
            (omega (arith, count-copies_yes is_null n Null values refl, count-copies_no is_null (suc (rows - n - 1)) item [] (is_null-cell_of b.value))));
        is_met = any-copies (meets bound) n Null values (or_left _ _ meets_it);
      }

  to_list : keeps low high nulls rows bound ≡ true → MayBeMet data_type low high nulls rows bound
  to_list k =
      let a = and_parts (has_value nulls rows && not (is_past low high) && not (is_past low bound.high) && not (is_past bound.low high)) (not (is_past bound.low bound.high)) k in
      let b = and_parts (has_value nulls rows && not (is_past low high) && not (is_past low bound.high)) (not (is_past bound.low high)) a.0 in
      let c = and_parts (has_value nulls rows && not (is_past low high)) (not (is_past low bound.high)) b.0 in
      let d = and_parts (has_value nulls rows) (not (is_past low high)) c.0 in
      let default = some_value (out-DataType data_type) ordered in
      the_list d.0 (between V (same_kind data_type) low high bound.low bound.high default.0 (value_at data_type default.0 default.1)
      v_low v_high v_low' v_high' (not-true _ d.1) (not-true _ c.1) (not-true _ b.1) (not-true _ a.1))

pub keeps_exact : KeepsExactly
keeps_exact data_type low high nulls rows bound ordered v_low v_high v_low' v_high' =
    (to_list data_type low high nulls rows bound ordered v_low v_high v_low' v_high', from_list data_type low high nulls rows bound ordered v_low v_high v_low' v_high')

-- ---- ends that are true

-- that a text is UTF-8 is not needed for its kind
pub kind-of_value : (data_type : DataType) (v : Scalar) → is_value_of data_type v ≡ true → kind v ≡ kind_at (out-DataType data_type)
kind-of_value data_type (scalar.Int n) h = kind-int (out-DataType data_type) n h
kind-of_value data_type (scalar.Text text) h = sym (cond-true _ _ _ h)
kind-of_value data_type (scalar.Bytes bytes) h = kind-bytes (out-DataType data_type) (length bytes) h

abbrev HasType : DataType → Scalar → Type 0
HasType data_type v = is_value_of data_type v ≡ true

same_type : (data_type : DataType) (a b : Scalar) → HasType data_type a → HasType data_type b → kind a ≡ kind b
same_type data_type a b x y = kind-of_value data_type a x ∙ sym (kind-of_value data_type b y)

end_from : (data_type : DataType) (end : Option Scalar) → is_end_of data_type end ≡ true → IfSome end (HasType data_type)
end_from data_type None h = tt
end_from data_type (Some v) h = h

item_from : (data_type : DataType) (o : Option Scalar) (null : Bool) → option_map_or (is_value_of data_type) o null ≡ true → MatchOption o (null ≡ true) (HasType data_type)
item_from data_type None null h = h
item_from data_type (Some v) null h = h

items_from : (data_type : DataType) (items : List Cell) → list_all (is_one_of_type data_type) items ≡ true → AllByRecursion (IsItemIn (HasType data_type)) items
items_from data_type [] h = tt
items_from data_type (item ∷ items) h =
    let parts = and_parts (is_one_of_type data_type item) (list_all (is_one_of_type data_type) items) h in
    (item_from data_type (value_of item) (is_null item) parts.0, items_from data_type items parts.1)

pub true_ends_keep : TrueEndsKeep
true_ends_keep data_type low high nulls rows bound items low_of high_of low_of' high_of' count of_type =
    from_items (HasType data_type) (same_type data_type) low high nulls rows bound
    (end_from data_type low low_of) (end_from data_type high high_of) (end_from data_type bound.low low_of') (end_from data_type bound.high high_of')
    items count (items_from data_type items of_type)
