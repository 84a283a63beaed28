-- How the causes of parts are put together to those of a file.
use Rattle.std.proofs.Common.{◌≡◌, ℕ, zero, suc, ◌+◌, ◌<◌, Bool, true, false, not, List, [], ◌∷◌, ◌++◌, length, map, drop, get_or, refl, sym, subst, ◌∙◌, ap, arith, append_assoc, inl, inr}
use Rattle.std.specs.Prelude.{Option, Some, None, zip, filter, ◌&&◌, ◌||◌, ◌==◌, nat_lt, IfSome, if◌then◌else◌}
use Rattle.std.specs.List.{flat_map, list_all}
use Rattle.columns_core.specs.Causes.{Cause, Overflow, and_then, IsOneOf, IsWantOfMemory, cause_of}
use Rattle.columns_core.specs.declared.data_type.DataType.{DataType}
use Rattle.columns_core.specs.declared.error.Error.{Error}
use Rattle.columns_core.specs.declared.error.Error.TheVariants as error
use Rattle.parquet_meta.specs.declared.metadata.RowGroupMetaData.{RowGroupMetaData}
use Rattle.page_decoding.specs.Bytes.{IsCausedByChunks}
use Rattle.page_decoding.specs.Outcome.{Outcome, causes_in}
use Rattle.parquet_scan.specs.declared.bound.Bound.{Bound}
use Rattle.parquet_scan.specs.Counting.{are_pruned}
use Rattle.parquet_scan.specs.Request.{Request}
use Rattle.parquet_scan.specs.Rows.{group_counts, has_needed_indexes, prunes_pages}
use Rattle.std.proofs.lemmas.Bool.{lt-ltb, eqb-true}
use Rattle.std.proofs.lemmas.List.{drop_more}
use Rattle.parquet_base.specs.Intervals.{maximal_runs}
use Rattle.parquet_meta.specs.declared.metadata.ColumnChunkMetaData.{ColumnChunkMetaData}
use Rattle.parquet_meta.specs.Source.{IsReadFailure}
use Rattle.parquet_meta.proofs.FailureLemmas.{fails_more}
use Rattle.parquet_scan.specs.Causes.{causes_of_chunk, causes_of_read, chunk_read_causes, pair_causes}
use Rattle.parquet_scan.specs.Cells.{is_null_type}
use Rattle.parquet_scan.proofs.CauseLemmas.{ComesFrom, among_first, then_next}
use Rattle.page_decoding.proofs.RowLemmas.{one_of-left, one_of-right}

-- ---- pruning by pages

not_zero : (n : ℕ) (b : Bool) → (suc n == 0) ≡ b → (suc n == 0) ≡ false
not_zero n false e = e
not_zero n true e = let same : suc n ≡ 0 = eqb-true (suc n) 0 e in absurd (omega (arith, same))

some_bound : (bounds : List Bound) → not (length bounds == 0) ≡ nat_lt 0 (length bounds)
some_bound [] = refl
some_bound (bound ∷ bounds) = ap not (not_zero (length bounds) (suc (length bounds) == 0) refl) ∙ sym (lt-ltb 0 (suc (length bounds)) (omega arith))

all_counting : (counts has : RowGroupMetaData → Bool) (groups : List RowGroupMetaData)
    → list_all (λ (group : RowGroupMetaData × Bool). not group.1 || has group.0) (zip groups (map counts groups)) ≡ list_all has (filter counts groups)
all_counting counts has [] = refl
all_counting counts has (group ∷ groups) = by (counts group) (all_counting counts has groups) where
  by : (b : Bool) → list_all (λ (group : RowGroupMetaData × Bool). not group.1 || has group.0) (zip groups (map counts groups)) ≡ list_all has (filter counts groups)
      → ((not b || has group) && list_all (λ (group : RowGroupMetaData × Bool). not group.1 || has group.0) (zip groups (map counts groups))) ≡ list_all has (if b then group ∷ filter counts groups else filter counts groups)
  by true rest = ap (λ b. has group && b) rest
  by false rest = rest

pub same_pruning : (request : Request) (groups : List RowGroupMetaData) (counts : List Bool) → counts ≡ map (group_counts request) groups
    → are_pruned request.bounds request.fields groups counts ≡ prunes_pages request groups
same_pruning request groups counts e =
    ap (are_pruned request.bounds request.fields groups) e
    ∙ (λ i. some_bound request.bounds i && all_counting (group_counts request) (has_needed_indexes request) groups i)

-- ---- parts of a file that are read

-- an error by causes that are those of the whole
pub fails_same : (told : Option (List ℕ)) (before now : ℕ) (part whole : List ℕ → List Cause) (e : Error) → IfSome told (λ bytes. whole bytes ≡ part bytes) → IsReadFailure told before now part e → IsReadFailure told before now whole e
fails_same told before now part whole e same fails = fails_more told before before now part whole e (omega arith) (within told same) fails where
  within : (told : Option (List ℕ)) → IfSome told (λ bytes. whole bytes ≡ part bytes) → IfSome told (λ bytes. (o : Option Cause) → IsOneOf (part bytes) o → IsOneOf (whole bytes) o)
  within None same = tt
  within (Some bytes) same = λ o one. subst (λ causes. IsOneOf causes o) (sym same) one

-- one that is among the causes of an item is among those of all
one_of_all : {X : Type 0} (f : X → List Cause) (xs : List X) (i : ℕ) (d : X) (o : Option Cause) → i < length xs → IsOneOf (f (get_or xs i d)) o → IsOneOf (flat_map f xs) o
one_of_all f [] i d o h k = absurd (omega arith)
one_of_all f (x ∷ xs) zero d o h k = one_of-left (f x) (flat_map f xs) o k
one_of_all f (x ∷ xs) (suc i) d o h k = one_of-right (f x) (flat_map f xs) o (one_of_all f xs i d o (omega arith) k)

-- of an item of a list
pub in_item : {X : Type 0} (told : Option (List ℕ)) (f : List ℕ → X → List Cause) (xs : List X) (i : ℕ) (x : X) → i < length xs → x ≡ get_or xs i x
    → IfSome told (λ bytes. (o : Option Cause) → IsOneOf (f bytes x) o → IsOneOf (flat_map (f bytes) xs) o)
in_item None f xs i x h e = tt
in_item (Some bytes) f xs i x h e = λ o k. one_of_all (f bytes) xs i x o h (subst (λ y. IsOneOf (f bytes y) o) e k)

-- nothing is wrong with one more item
pub none_more : {X : Type 0} (told : Option (List ℕ)) (f : List ℕ → X → List Cause) (xs : List X) (i : ℕ) (x : X) → i < length xs → x ≡ get_or xs i x
    → IfSome told (λ bytes. flat_map (f bytes) xs ≡ flat_map (f bytes) (drop i xs)) → IfSome told (λ bytes. f bytes x ≡ []) → IfSome told (λ bytes. flat_map (f bytes) xs ≡ flat_map (f bytes) (drop (i + 1) xs))
none_more None f xs i x h at e own = tt
none_more (Some bytes) f xs i x h at e own =
    let left : drop i xs ≡ x ∷ drop (i + 1) xs = drop_more xs i x h ∙ ap (λ first. first ∷ drop (i + 1) xs) (sym at) in
    e ∙ ap (flat_map (f bytes)) left ∙ ap (λ front. front ++ flat_map (f bytes) (drop (i + 1) xs)) own

-- of an item that passes a test
pub in_filtered : {X : Type 0} (told : Option (List ℕ)) (f : List ℕ → X → List Cause) (test : X → Bool) (xs : List X) (i : ℕ) (d : X) → i < length xs → test (get_or xs i d) ≡ true
    → IfSome told (λ bytes. (o : Option Cause) → IsOneOf (f bytes (get_or xs i d)) o → IsOneOf (flat_map (f bytes) (filter test xs)) o)
in_filtered None f test xs i d h passes = tt
in_filtered {X} (Some bytes) f test xs i d h passes = λ o one. at xs i h passes o one where
  behind : (b : Bool) (x : X) (rest : List X) (o : Option Cause) → IsOneOf (flat_map (f bytes) rest) o → IsOneOf (flat_map (f bytes) (if b then x ∷ rest else rest)) o
  behind true x rest o one = one_of-right (f bytes x) (flat_map (f bytes) rest) o one
  behind false x rest o one = one

  at : (xs : List X) (i : ℕ) → i < length xs → test (get_or xs i d) ≡ true → (o : Option Cause) → IsOneOf (f bytes (get_or xs i d)) o → IsOneOf (flat_map (f bytes) (filter test xs)) o
  at [] i h passes o one = absurd (omega (arith, h))
  at (x ∷ xs) zero h passes o one = subst (λ b. IsOneOf (flat_map (f bytes) (if b then x ∷ filter test xs else filter test xs)) o) (sym passes) (one_of-left (f bytes x) (flat_map (f bytes) (filter test xs)) o one)
  at (x ∷ xs) (suc i) h passes o one = behind (test x) x (filter test xs) o (at xs i (omega (arith, h)) passes o one)

pair_in : {X Y : Type 0} (xs : List X) (ys : List Y) (i : ℕ) (x : X) (y : Y) (f : X × Y → List Cause) (o : Option Cause) → i < length xs → i < length ys
    → IsOneOf (f (get_or xs i x, get_or ys i y)) o → IsOneOf (flat_map f (zip xs ys)) o
pair_in [] ys i x y f o h k one = absurd (omega arith)
pair_in (first ∷ xs) [] i x y f o h k one = absurd (omega arith)
pair_in (first ∷ xs) (second ∷ ys) zero x y f o h k one = one_of-left (f (first, second)) (flat_map f (zip xs ys)) o one
pair_in (first ∷ xs) (second ∷ ys) (suc i) x y f o h k one = one_of-right (f (first, second)) (flat_map f (zip xs ys)) o (pair_in xs ys i x y f o (omega arith) (omega arith) one)

-- of an item of two lists side by side
pub in_pair : {X Y : Type 0} (told : Option (List ℕ)) (f : List ℕ → X × Y → List Cause) (xs : List X) (ys : List Y) (i : ℕ) (x : X) (y d : Y) → i < length xs → i < length ys → x ≡ get_or xs i x → y ≡ get_or ys i d
    → IfSome told (λ bytes. (o : Option Cause) → IsOneOf (f bytes (x, y)) o → IsOneOf (flat_map (f bytes) (zip xs ys)) o)
in_pair None f xs ys i x y d h k e e' = tt
in_pair {X} {Y} (Some bytes) f xs ys i x y d h k e e' = λ o one.
    let P : X × Y → Type 0 = λ pair. IsOneOf (f bytes pair) o in
    let same : (x, y) ≡ (get_or xs i x, get_or ys i d) = λ j. (e j, e' j) in
    pair_in xs ys i x d (f bytes) o h k (subst P same one)

-- no row passes a test that none passes
pub no_runs : (rows : ℕ) → maximal_runs (λ row. false) rows ≡ []
no_runs zero = refl
no_runs (suc rows) = no_runs rows

-- ---- a column

-- what is wrong with one that is carried, read as nulls or not
pub of_read : (told : Option (List ℕ)) (by_pages : Bool) (size : Option ℕ) (group : RowGroupMetaData) (rows : List ℕ) (data_type : DataType) (column : ColumnChunkMetaData) (nulls : Bool) → pair_causes column.descriptor.primitive_type data_type ≡ [] → is_null_type data_type ≡ nulls
    → IfSome told (λ bytes. causes_of_read by_pages size bytes group rows data_type column ≡ (if nulls then chunk_read_causes bytes group column else causes_of_chunk by_pages size bytes group rows data_type column))
of_read None by_pages size group rows data_type column nulls pair is = tt
of_read (Some bytes) by_pages size group rows data_type column nulls pair is =
    then_next (pair_causes column.descriptor.primitive_type data_type) (if is_null_type data_type then chunk_read_causes bytes group column else causes_of_chunk by_pages size bytes group rows data_type column) pair
    ∙ ap (λ b. if b then chunk_read_causes bytes group column else causes_of_chunk by_pages size bytes group rows data_type column) is

-- what is wrong with a first step is wrong with it and the next
pub in_step : (told : Option (List ℕ)) (first : List Cause) (next : List ℕ → List Cause) → IfSome told (λ bytes. (o : Option Cause) → IsOneOf first o → IsOneOf (and_then first (next bytes)) o)
in_step None first next = tt
in_step (Some bytes) first next = among_first first (next bytes)

-- want of memory may come at any time
pub fails_by_memory : (told : Option (List ℕ)) (before now : ℕ) (whole : List ℕ → List Cause) (e : Error) → IsWantOfMemory e → IsReadFailure told before now whole e
fails_by_memory told before now whole e memory = subst (IsReadFailure told before now whole) (sym memory) tt

-- an error that tells of causes which the whole has
pub fails_within : (told : Option (List ℕ)) (before now : ℕ) (part : List Cause) (whole : List ℕ → List Cause) (e : Error)
    → IfSome told (λ bytes. (o : Option Cause) → IsOneOf part o → IsOneOf (whole bytes) o) → ComesFrom part e → IsReadFailure told before now whole e
fails_within told before now part whole e within (inl memory) = fails_by_memory told before now whole e memory
fails_within told before now part whole (error.InvalidArgumentError p) within (inr one) = one
fails_within None before now part whole (error.NotYetImplemented p) within (inr one) = tt
fails_within (Some bytes) before now part whole (error.NotYetImplemented p) within (inr one) = within (cause_of (error.NotYetImplemented p)) one
fails_within None before now part whole (error.ExternalFormat p) within (inr one) = tt
fails_within (Some bytes) before now part whole (error.ExternalFormat p) within (inr one) = within (cause_of (error.ExternalFormat p)) one
fails_within None before now part whole (error.OutOfSpec p) within (inr one) = tt
fails_within (Some bytes) before now part whole (error.OutOfSpec p) within (inr one) = within (cause_of (error.OutOfSpec p)) one
fails_within None before now part whole error.Overflow within (inr one) = tt
fails_within (Some bytes) before now part whole error.Overflow within (inr one) = within (cause_of error.Overflow) one
fails_within told before now part whole error.Io within (inr one) = absurd one
fails_within told before now part whole error.OutOfMemory within (inr one) = absurd one

-- an error of rows in chunks, which tells of the whole
pub fails_chunks : (told : Option (List ℕ)) (before now : ℕ) (most size : Option ℕ) (wanted : List Outcome) (whole : List ℕ → List Cause) (e : Error)
    → IfSome told (λ bytes. (error : Error) → IsCausedByChunks most size wanted error → ComesFrom (whole bytes) error) → IsCausedByChunks most size wanted e → IsReadFailure told before now whole e
fails_chunks None before now most size wanted whole e tells caused = fails_within None before now (causes_in wanted ++ Overflow ∷ []) whole e tt (alone caused) where
  alone : IsCausedByChunks most size wanted e → ComesFrom (causes_in wanted ++ Overflow ∷ []) e
  alone (inl (inl memory)) = inl memory
  alone (inl (inr one)) = inr (one_of-left (causes_in wanted) (Overflow ∷ []) (cause_of e) one)
  alone (inr passes) =
      let first : IsOneOf (Overflow ∷ []) (Some Overflow) = (0, omega arith, refl) in
      inr (subst (IsOneOf (causes_in wanted ++ Overflow ∷ [])) (sym passes.0) (one_of-right (causes_in wanted) (Overflow ∷ []) (Some Overflow) first))
fails_chunks (Some bytes) before now most size wanted whole e tells caused = fails_within (Some bytes) before now (whole bytes) whole e (λ o one. one) (tells e caused)

-- an error of what was read, which fails by the same causes
pub fails_telling : (told : Option (List ℕ)) (before now : ℕ) (part : List Cause) (whole : List ℕ → List Cause) (e : Error) → IfSome told (λ bytes. whole bytes ≡ part) → ComesFrom part e → IsReadFailure told before now whole e
fails_telling told before now part whole e same k = fails_within told before now part whole e (within told same) k where
  within : (told : Option (List ℕ)) → IfSome told (λ bytes. whole bytes ≡ part) → IfSome told (λ bytes. (o : Option Cause) → IsOneOf part o → IsOneOf (whole bytes) o)
  within None same = tt
  within (Some bytes) same = λ o one. subst (λ causes. IsOneOf causes o) (sym same) one

-- one more item of a list that is made item by item
pub made_more : {X Z : Type 0} (told : Option (List ℕ)) (f : List ℕ → X → Z) (xs : List X) (i : ℕ) (x : X) (made : List Z) (z : Z) → i < length xs → x ≡ get_or xs i x
    → IfSome told (λ bytes. map (f bytes) xs ≡ made ++ map (f bytes) (drop i xs)) → IfSome told (λ bytes. f bytes x ≡ z) → IfSome told (λ bytes. map (f bytes) xs ≡ (made ++ z ∷ []) ++ map (f bytes) (drop (i + 1) xs))
made_more None f xs i x made z h at e own = tt
made_more (Some bytes) f xs i x made z h at e own =
    let left : drop i xs ≡ x ∷ drop (i + 1) xs = drop_more xs i x h ∙ ap (λ first. first ∷ drop (i + 1) xs) (sym at) in
    e ∙ ap (λ rest. made ++ map (f bytes) rest) left ∙ ap (λ first. made ++ first ∷ map (f bytes) (drop (i + 1) xs)) own ∙ sym (append_assoc made (z ∷ []) (map (f bytes) (drop (i + 1) xs)))

-- what the items so far gave stands in front of what those behind them give
pub given_more : {X Z : Type 0} (f : X → List Z) (xs : List X) (i : ℕ) (x : X) (before so_far now : List Z) → i < length xs → x ≡ get_or xs i x
    → before ++ flat_map f xs ≡ so_far ++ flat_map f (drop i xs) → now ≡ so_far ++ f x → before ++ flat_map f xs ≡ now ++ flat_map f (drop (i + 1) xs)
given_more f xs i x before so_far now h at e own =
    let rest = flat_map f (drop (i + 1) xs) in
    let left : drop i xs ≡ x ∷ drop (i + 1) xs = drop_more xs i x h ∙ ap (λ first. first ∷ drop (i + 1) xs) (sym at) in
    e ∙ ap (λ left. so_far ++ flat_map f left) left ∙ sym (append_assoc so_far (f x) rest) ∙ ap (λ front. front ++ rest) (sym own)

-- nothing is wrong with the whole where it is the part
pub none_as : (told : Option (List ℕ)) (whole part : List ℕ → List Cause) → IfSome told (λ bytes. whole bytes ≡ part bytes) → IfSome told (λ bytes. part bytes ≡ []) → IfSome told (λ bytes. whole bytes ≡ [])
none_as None whole part same none = tt
none_as (Some bytes) whole part same none = same ∙ none

-- nor where it is two parts
pub none_of_both : (told : Option (List ℕ)) (first second : List ℕ → List Cause) → IfSome told (λ bytes. first bytes ≡ []) → IfSome told (λ bytes. second bytes ≡ []) → IfSome told (λ bytes. first bytes ++ second bytes ≡ [])
none_of_both None first second none nothing = tt
none_of_both (Some bytes) first second none nothing = λ i. none i ++ nothing i

pub in_first : (told : Option (List ℕ)) (first second : List ℕ → List Cause) → IfSome told (λ bytes. (o : Option Cause) → IsOneOf (first bytes) o → IsOneOf (first bytes ++ second bytes) o)
in_first None first second = tt
in_first (Some bytes) first second = λ o one. one_of-left (first bytes) (second bytes) o one

pub in_second : (told : Option (List ℕ)) (first second : List ℕ → List Cause) → IfSome told (λ bytes. (o : Option Cause) → IsOneOf (second bytes) o → IsOneOf (first bytes ++ second bytes) o)
in_second None first second = tt
in_second (Some bytes) first second = λ o one. one_of-right (first bytes) (second bytes) o one
