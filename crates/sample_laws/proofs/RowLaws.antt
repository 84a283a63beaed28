-- Nothing is wrong with rows whose items are cells of few bytes.
use Rattle.std.proofs.Common.{◌≡◌, ℕ, zero, suc, ◌*◌, ◌≤◌, ◌<◌, Bool, true, false, cond, List, [], ◌∷◌, Option, Some, None, refl, arith, length, take, drop}
use Rattle.std.specs.Prelude.{All, filter, flat_map}
use Rattle.std.specs.Option.{option_map_or}
use Rattle.std.proofs.lemmas.List.{length-drop, length-take}
use Rattle.std.proofs.lemmas.List.Elements.{All-head, All-tail, All-cons, All-nil, All-take, All-drop, All-weaker}
use Rattle.std.proofs.lemmas.List.Sums.{sum_by-cons}
use Rattle.columns_core.specs.Causes.{Cause}
use Rattle.columns_core.specs.declared.data_type.DataType.{DataType}
use Rattle.parquet_base.specs.Pieces.{pieces, cut}
use Rattle.parquet_meta.specs.declared.metadata.PrimitiveType.{PrimitiveType}
use Rattle.flat_values.specs.Conversion.{Conversion, Item}
use Rattle.parquet_scan.specs.Causes.{bytes_of_rows, given_causes, item_bytes, piece_causes, row_causes}
use Rattle.sample_laws.proofs.PageLaws.{IsLight, IsReadBy, most}

-- ---- lists of causes

pub none_of_each : {X : Type 0} (f : X → List Cause) (xs : List X) → All (λ x. f x ≡ []) xs → flat_map f xs ≡ []
none_of_each f [] all = refl
none_of_each f (x ∷ xs) all = rw (All-head (λ y. f y ≡ []) x xs all, none_of_each f xs (All-tail (λ y. f y ≡ []) x xs all)) refl

pub none_of_some : {X : Type 0} (f : X → List Cause) (test : X → Bool) (xs : List X) → All (λ x. f x ≡ []) xs → flat_map f (filter test xs) ≡ []
none_of_some f test [] all = refl
none_of_some {X = X} f test (x ∷ xs) all = by_test (test x) (All-head (λ y. f y ≡ []) x xs all) (none_of_some f test xs (All-tail (λ y. f y ≡ []) x xs all)) where
  by_test : (b : Bool) → f x ≡ [] → flat_map f (filter test xs) ≡ [] → flat_map f (cond b (x ∷ filter test xs) (filter test xs)) ≡ []
  by_test true own others = rw (own, others) refl
  by_test false own others = others

-- ---- pieces of a list

-- a piece that is neither empty nor longer than its size
pub record IsPieceOf {X : Type 0} (Q : X → Type 0) (size : ℕ) (items : List X) : Type 0 where
  pub some : 0 < length items
  pub few : length items ≤ size
  pub all : All Q items

pieces-are : {X : Type 0} (Q : X → Type 0) (turns size : ℕ) (items : List X) → 0 < size → All Q items → All (IsPieceOf Q size) (pieces turns size items)
pieces-are Q zero size items some all = All-nil (IsPieceOf Q size)
pieces-are Q (suc turns) size [] some all = All-nil (IsPieceOf Q size)
pieces-are Q (suc turns) size (item ∷ items) some all =
    let long = length-take size (item ∷ items) in
    All-cons (IsPieceOf Q size) (take size (item ∷ items)) (pieces turns size (drop size (item ∷ items)))
    (record { some = omega (arith, long); few = omega (arith, long); all = All-take Q size (item ∷ items) all })
    (pieces-are Q turns size (drop size (item ∷ items)) some (All-drop Q size (item ∷ items) all))

pub cut-are : {X : Type 0} (Q : X → Type 0) (size : ℕ) (items : List X) → 0 < size → All Q items → All (IsPieceOf Q size) (cut (Some size) items)
cut-are Q size items some all = pieces-are Q (length items) size items some all

-- ---- rows

pub quiet_rows : (item : ℕ → Option Item) (rows : List ℕ) → ((row : ℕ) → IsLight (item row)) → row_causes item rows ≡ []
quiet_rows item [] light = refl
quiet_rows item (row ∷ rows) light = rw ((light row).quiet, quiet_rows item rows light) refl

pub few_bytes : (item : ℕ → Option Item) (rows : List ℕ) → ((row : ℕ) → IsLight (item row)) → bytes_of_rows item rows ≤ most * length rows
few_bytes item [] light = omega arith
few_bytes item (row ∷ rows) light =
    omega (arith, sum_by-cons (λ r. option_map_or item_bytes (item r) 0) row rows, (light row).short, few_bytes item rows light)

pieces-within : {X : Type 0} (turns size : ℕ) (items : List X) → All (λ piece. length piece ≤ length items) (pieces turns size items)
pieces-within {X = X} zero size items = All-nil (λ (piece : List X). length piece ≤ length items)
pieces-within {X = X} (suc turns) size [] = All-nil (λ (piece : List X). length piece ≤ 0)
pieces-within {X = X} (suc turns) size (item ∷ items) =
    All-cons (λ (piece : List X). length piece ≤ length (item ∷ items)) (take size (item ∷ items)) (pieces turns size (drop size (item ∷ items))) (omega (arith, length-take size (item ∷ items)))
    (All-weaker (λ (piece : List X). length piece ≤ length (drop size (item ∷ items))) (λ (piece : List X). length piece ≤ length (item ∷ items)) (λ piece le. omega (arith, length-drop size (item ∷ items), le))
    (pieces turns size (drop size (item ∷ items))) (pieces-within turns size (drop size (item ∷ items))))

-- a piece is no longer than the whole
pub cut-within : {X : Type 0} (size : Option ℕ) (items : List X) → All (λ piece. length piece ≤ length items) (cut size items)
cut-within {X = X} None [] = All-nil (λ (piece : List X). length piece ≤ 0)
cut-within {X = X} None (item ∷ items) = All-cons (λ (piece : List X). length piece ≤ length (item ∷ items)) (item ∷ items) [] (omega arith) (All-nil (λ (piece : List X). length piece ≤ length (item ∷ items)))
cut-within (Some size) items = pieces-within (length items) size items

-- Nothing is wrong with given rows, whatever chunks they are given in.
pub no_given_causes : (size : Option ℕ) (type : PrimitiveType) (data_type : DataType) (rule : Conversion) (item : ℕ → Option Item) (rows : List ℕ) → IsReadBy type data_type rule → ((row : ℕ) → IsLight (item row)) → length rows ≤ 20000
    → given_causes size data_type item rows ≡ []
no_given_causes size type data_type rule item rows read light few =
    let quiet : (piece : List ℕ) → length piece ≤ length rows → piece_causes data_type item piece ≡ [] =
    λ piece le. rw (read.roomy (bytes_of_rows item piece) (omega (arith, few_bytes item piece light, le))) refl in
    rw (quiet_rows item rows light) (none_of_each (piece_causes data_type item) (cut size rows) (All-weaker (λ piece. length piece ≤ length rows) (λ piece. piece_causes data_type item piece ≡ []) quiet (cut size rows) (cut-within size rows)))
