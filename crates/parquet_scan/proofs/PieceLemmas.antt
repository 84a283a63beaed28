-- Rows that are given in pieces, and the bytes of each piece.
use Rattle.std.proofs.Common.{◌≡◌, ℕ, zero, suc, ◌+◌, ◌*◌, ◌<◌, ◌≤◌, true, false, List, [], ◌∷◌, ◌++◌, length, map, take, drop, Option, Some, None, refl, sym, subst, ◌∙◌, ap, arith}
use Rattle.std.specs.Prelude.{All, flat_map, sum_by}
use Rattle.std.specs.Option.{option_map_or}
use Rattle.std.proofs.lemmas.Bool.{le-leb, leb-false, lt-leb, true≢false}
use Rattle.std.proofs.lemmas.List.{drop-drop, drop-map, length-drop, length-map, map-append, take-map}
use Rattle.std.proofs.lemmas.List.Elements.{All-head, All-tail}
use Rattle.std.proofs.lemmas.List.Sums.{sum_by-cons}
use Rattle.columns_core.specs.Causes.{Cause, IsOneOf, Overflow, unless}
use Rattle.columns_core.specs.declared.cell.Cell.{Cell}
use Rattle.columns_core.specs.declared.data_type.DataType.{DataType}
use Rattle.parquet_base.specs.Pieces.{cut, pieces}
use Rattle.page_decoding.specs.Bytes.{SomePasses, cell_bytes, chunk_at, fits_most, row_bytes}
use Rattle.page_decoding.specs.Outcome.{Outcome, Given, Refused, cells_in}
use Rattle.page_decoding.specs.Queue.{IsChunkSize, joined}
use Rattle.page_decoding.proofs.CutLemmas.{cut-joined}
use Rattle.page_decoding.proofs.RowLemmas.{one_of-left, one_of-right}
use Rattle.flat_values.specs.Conversion.{Item, Value, NotInRange, NotText}
use Rattle.flat_values.specs.MostBytes.{most_bytes}
use Rattle.flat_values.specs.NullChunks.{cut_rows}
use Rattle.flat_values.specs.Outcomes.{outcome_of}
use Rattle.flat_values.proofs.NullLemmas.{cuts_rows}
use Rattle.flat_values.proofs.OutcomeLemmas.{cells_in-given}
use Rattle.parquet_scan.specs.Causes.{bytes_of_rows, item_bytes, piece_causes}

-- ---- a list that is cut

pieces-map : {X Y : Type 0} (f : X → Y) (turns size : ℕ) (xs : List X) → pieces turns size (map f xs) ≡ map (map f) (pieces turns size xs)
pieces-map f zero size xs = refl
pieces-map f (suc turns) size [] = refl
pieces-map f (suc turns) size (x ∷ xs) =
    let first = take-map f size (x ∷ xs) in
    let rest = ap (pieces turns size) (drop-map f size (x ∷ xs)) ∙ pieces-map f turns size (drop size (x ∷ xs)) in
    λ i. first i ∷ rest i

pub cut-map : {X Y : Type 0} (f : X → Y) (size : Option ℕ) (xs : List X) → cut size (map f xs) ≡ map (map f) (cut size xs)
cut-map f None [] = refl
cut-map f None (x ∷ xs) = refl
cut-map f (Some size) xs = ap (λ turns. pieces turns size (map f xs)) (length-map xs f) ∙ pieces-map f (length xs) size xs

-- lists of one length are cut alike
pub cut-lengths : {X Y : Type 0} (size : Option ℕ) (xs : List X) (ys : List Y) → IsChunkSize size → length xs ≡ length ys → map length (cut size xs) ≡ map length (cut size ys)
cut-lengths size xs ys some e = cuts_rows size xs some ∙ ap (cut_rows size) e ∙ sym (cuts_rows size ys some)

-- ---- pieces of cells

joined-map : {X Y : Type 0} (f : X → Y) (xss : List (List X)) → joined (map (map f) xss) ≡ map f (joined xss)
joined-map f [] = refl
joined-map f (xs ∷ xss) = ap (λ rest. map f xs ++ rest) (joined-map f xss) ∙ sym (map-append f xs (joined xss))

lists-given : (cells : List (List Cell)) → map cells_in (map (map Given) cells) ≡ cells
lists-given [] = refl
lists-given (first ∷ rest) = λ i. cells_in-given first i ∷ lists-given rest i

-- Pieces of cells that are those of some rows are the pieces of all cells.
pub record IsGivenCut (size : Option ℕ) (wanted : List Outcome) (given : List (List Cell)) : Type 0 where
  pub cells : List Cell
  pub rows : map Given cells ≡ wanted
  pub cut : given ≡ cut size cells

pub given-cut : (size : Option ℕ) (wanted : List Outcome) (given : List (List Cell)) → IsChunkSize size → map (map Given) given ≡ cut size wanted → IsGivenCut size wanted given
given-cut size wanted given some e =
    let rows : map Given (joined given) ≡ wanted = sym (joined-map Given given) ∙ ap joined e ∙ cut-joined size wanted some in
    record {
      cells = joined given;
      rows = rows;
      cut = sym (lists-given given) ∙ ap (map cells_in) (e ∙ ap (cut size) (sym rows) ∙ cut-map Given size (joined given)) ∙ lists-given (cut size (joined given));
    }

-- What is so of the rows of all cells is so of each piece.
pub pieces-as : {X : Type 0} (f : Cell → X) (item : ℕ → X) (size : Option ℕ) (rows : List ℕ) (cells : List Cell) → map item rows ≡ map f cells → map (map item) (cut size rows) ≡ map (map f) (cut size cells)
pieces-as f item size rows cells e = sym (cut-map item size rows) ∙ ap (cut size) e ∙ cut-map f size cells

-- ---- the bytes of a piece

abbrev pub bytes_if_there : Option Item → ℕ
bytes_if_there item = option_map_or item_bytes item 0

pub bytes_as : (item : ℕ → Option Item) (rows : List ℕ) → bytes_of_rows item rows ≡ sum_by bytes_if_there (map item rows)
bytes_as item [] = refl
bytes_as item (row ∷ rows) =
    sum_by-cons (λ row. bytes_if_there (item row)) row rows ∙ ap (λ n. bytes_if_there (item row) + n) (bytes_as item rows) ∙ sym (sum_by-cons bytes_if_there (item row) (map item rows))

bytes_of_cells : (cells : List Cell) → sum_by bytes_if_there (map (λ cell. Some (Value cell)) cells) ≡ sum_by cell_bytes cells
bytes_of_cells [] = refl
bytes_of_cells (cell ∷ cells) =
    sum_by-cons bytes_if_there (Some (Value cell)) (map (λ cell. Some (Value cell)) cells) ∙ ap (λ n. cell_bytes cell + n) (bytes_of_cells cells) ∙ sym (sum_by-cons cell_bytes cell cells)

-- Pieces whose bytes fit have no cause.
pub pieces_fit : (data_type : DataType) (item : ℕ → Option Item) (rows : List (List ℕ)) (given : List (List Cell)) → map (map item) rows ≡ map (map (λ cell. Some (Value cell))) given
    → All (λ cells. fits_most (most_bytes data_type) (sum_by cell_bytes cells) ≡ true) given → flat_map (piece_causes data_type item) rows ≡ []
pieces_fit data_type item [] given e fit = refl
pieces_fit data_type item (piece ∷ rows) [] e fit = absurd cc
pieces_fit data_type item (piece ∷ rows) (cells ∷ given) e fit =
    let both = split (map item piece) (map (λ cell. Some (Value cell)) cells) (map (map item) rows) (map (map (λ cell. Some (Value cell))) given) e in
    let P : List Cell → Type 0 = λ cells. fits_most (most_bytes data_type) (sum_by cell_bytes cells) ≡ true in
    let bytes : bytes_of_rows item piece ≡ sum_by cell_bytes cells = bytes_as item piece ∙ ap (sum_by bytes_if_there) both.0 ∙ bytes_of_cells cells in
    let own : piece_causes data_type item piece ≡ [] = ap (λ n. unless (fits_most (most_bytes data_type) n) Overflow) bytes ∙ ap (λ b. unless b Overflow) (All-head P cells given fit) in
    λ i. own i ++ pieces_fit data_type item rows given both.1 (All-tail P cells given fit) i where
      split : (x y : List (Option Item)) (xs ys : List (List (Option Item))) → x ∷ xs ≡ y ∷ ys → (x ≡ y) × (xs ≡ ys)
      split x y xs ys e = (cc, cc)

-- ---- rows that have no more bytes than their items

-- Each of these has at most the bytes of the item at its place. Where there is none it has no bytes.
abbrev pub AreUnder : List Outcome → List (Option Item) → Type 0
AreUnder [] items = Unit {0}
AreUnder (outcome ∷ outcomes) [] = (row_bytes outcome ≡ 0) × AreUnder outcomes []
AreUnder (outcome ∷ outcomes) (item ∷ items) = (row_bytes outcome ≤ bytes_if_there item) × AreUnder outcomes items

under-nothing : (outcomes : List Outcome) (items : List (Option Item)) → AreUnder outcomes [] → AreUnder outcomes items
under-nothing [] items under = tt
under-nothing (outcome ∷ outcomes) [] under = under
under-nothing (outcome ∷ outcomes) (item ∷ items) under = (omega (arith, under.0), under-nothing outcomes items under.1)

-- behind which more items may stand
pub under-more : (outcomes : List Outcome) (items more : List (Option Item)) → AreUnder outcomes items → AreUnder outcomes (items ++ more)
under-more [] items more under = tt
under-more (outcome ∷ outcomes) [] more under = under-nothing (outcome ∷ outcomes) more under
under-more (outcome ∷ outcomes) (item ∷ items) more under = (under.0, under-more outcomes items more under.1)

under-sum : (outcomes : List Outcome) (items : List (Option Item)) → AreUnder outcomes items → sum_by row_bytes outcomes ≤ sum_by bytes_if_there items
under-sum [] items under = omega arith
under-sum (outcome ∷ outcomes) [] under = omega (arith, under.0, under-sum outcomes [] under.1, sum_by-cons row_bytes outcome outcomes)
under-sum (outcome ∷ outcomes) (item ∷ items) under =
    omega (arith, under.0, under-sum outcomes items under.1, sum_by-cons row_bytes outcome outcomes, sum_by-cons bytes_if_there item items)

nothing-taken : (n : ℕ) (outcomes : List Outcome) → AreUnder outcomes [] → AreUnder (take n outcomes) []
nothing-taken zero outcomes under = tt
nothing-taken (suc n) [] under = tt
nothing-taken (suc n) (outcome ∷ outcomes) under = (under.0, nothing-taken n outcomes under.1)

pub under-take : (n : ℕ) (outcomes : List Outcome) (items : List (Option Item)) → AreUnder outcomes items → AreUnder (take n outcomes) (take n items)
under-take zero outcomes items under = tt
under-take (suc n) [] items under = tt
under-take (suc n) (outcome ∷ outcomes) [] under = (under.0, nothing-taken n outcomes under.1)
under-take (suc n) (outcome ∷ outcomes) (item ∷ items) under = (under.0, under-take n outcomes items under.1)

nothing-left : (n : ℕ) (outcomes : List Outcome) → AreUnder outcomes [] → AreUnder (drop n outcomes) []
nothing-left zero outcomes under = under
nothing-left (suc n) [] under = tt
nothing-left (suc n) (outcome ∷ outcomes) under = nothing-left n outcomes under.1

under-drop : (n : ℕ) (outcomes : List Outcome) (items : List (Option Item)) → AreUnder outcomes items → AreUnder (drop n outcomes) (drop n items)
under-drop zero outcomes items under = under
under-drop (suc n) [] items under = tt
under-drop (suc n) (outcome ∷ outcomes) [] under = nothing-left n outcomes under.1
under-drop (suc n) (outcome ∷ outcomes) (item ∷ items) under = under-drop n outcomes items under.1

under-chunk : (size : Option ℕ) (k : ℕ) (outcomes : List Outcome) (items : List (Option Item)) → AreUnder outcomes items → AreUnder (chunk_at size k outcomes) (chunk_at size k items)
under-chunk None k outcomes items under = under
under-chunk (Some size) k outcomes items under = under-take size (drop (k * size) outcomes) (drop (k * size) items) (under-drop (k * size) outcomes items under)

-- the outcomes of items, in front of others
pub under-items : (items : List Item) (later : List Outcome) (rest : List (Option Item)) → AreUnder later rest → AreUnder (map outcome_of items ++ later) (map Some items ++ rest)
under-items [] later rest under = under
under-items (Value cell ∷ items) later rest under = (omega arith, under-items items later rest under)
under-items (NotInRange ∷ items) later rest under = (omega arith, under-items items later rest under)
under-items (NotText ∷ items) later rest under = (omega arith, under-items items later rest under)

-- one refusal
pub under-refused : (causes : List Cause) (items : List (Option Item)) → AreUnder (Refused causes ∷ []) items
under-refused causes [] = (refl, tt)
under-refused causes (item ∷ items) = (omega arith, tt)

-- ---- a chunk whose bytes do not fit

less-fits : (most : Option ℕ) (less more : ℕ) → less ≤ more → fits_most most less ≡ false → fits_most most more ≡ false
less-fits None less more h e = e
less-fits (Some most) less more h e = lt-leb more most (omega (arith, h, leb-false less most e))

none-fits : (most : Option ℕ) → fits_most most 0 ≡ true
none-fits None = refl
none-fits (Some most) = le-leb 0 most (omega arith)

chunk-map : {X Y : Type 0} (f : X → Y) (size : Option ℕ) (k : ℕ) (xs : List X) → chunk_at size k (map f xs) ≡ map f (chunk_at size k xs)
chunk-map f None k xs = refl
chunk-map f (Some size) k xs = ap (take size) (drop-map f (k * size) xs) ∙ take-map f size (drop (k * size) xs)

drop-none : {X : Type 0} (n : ℕ) → drop {A = X} n [] ≡ []
drop-none zero = refl
drop-none (suc n) = refl

take-none : {X : Type 0} (n : ℕ) → take {A = X} n [] ≡ []
take-none zero = refl
take-none (suc n) = refl

-- a chunk that is not empty is one of the pieces
chunk-among : (f : List ℕ → List Cause) (o : Option Cause) (turns size k from : ℕ) (rows : List ℕ) → 0 < size → length rows ≤ turns → from ≡ k * size → 0 < length (take size (drop from rows))
    → IsOneOf (f (take size (drop from rows))) o → IsOneOf (flat_map f (pieces turns size rows)) o
chunk-among f o turns size k from [] some enough at there one =
    absurd (omega (arith, there, ap length (ap (take size) (drop-none {X = ℕ} from) ∙ take-none {X = ℕ} size)))
chunk-among f o zero size k from (row ∷ rows) some enough at there one = absurd (omega (arith, enough))
chunk-among f o (suc turns) size zero from (row ∷ rows) some enough at there one =
    let first : from ≡ 0 = omega (arith, at) in
    one_of-left (f (take size (row ∷ rows))) (flat_map f (pieces turns size (drop size (row ∷ rows)))) o
    (subst (λ n. IsOneOf (f (take size (drop n (row ∷ rows)))) o) first one)
chunk-among f o (suc turns) size (suc k) from (row ∷ rows) some enough at there one =
    let split : from ≡ size + k * size = at ∙ omega arith in
    let later : drop from (row ∷ rows) ≡ drop (k * size) (drop size (row ∷ rows)) = ap (λ n. drop n (row ∷ rows)) split ∙ sym (drop-drop (k * size) size (row ∷ rows)) in
    one_of-right (f (take size (row ∷ rows))) (flat_map f (pieces turns size (drop size (row ∷ rows)))) o
    (chunk-among f o turns size k (k * size) (drop size (row ∷ rows)) some (omega (arith, length-drop size (row ∷ rows), enough, some)) refl
    (subst (λ rows. 0 < length (take size rows)) later there) (subst (λ rows. IsOneOf (f (take size rows)) o) later one))

chunk-in : (f : List ℕ → List Cause) (o : Option Cause) (size : Option ℕ) (k : ℕ) (rows : List ℕ) → IsChunkSize size → 0 < length (chunk_at size k rows) → IsOneOf (f (chunk_at size k rows)) o → IsOneOf (flat_map f (cut size rows)) o
chunk-in f o None k [] some there one = absurd (omega (arith, there))
chunk-in f o None k (row ∷ rows) some there one = one_of-left (f (row ∷ rows)) [] o one
chunk-in f o (Some size) k rows some there one = chunk-among f o (length rows) size k (k * size) rows some (omega arith) refl there one

some-rows : (data_type : DataType) (item : ℕ → Option Item) (rows : List ℕ) → fits_most (most_bytes data_type) (bytes_of_rows item rows) ≡ false → 0 < length rows
some-rows data_type item [] past = absurd (true≢false (sym (none-fits (most_bytes data_type)) ∙ past))
some-rows data_type item (row ∷ rows) past = omega arith

-- Where the bytes of a chunk of rows do not fit, nor do those of their items.
pub passes_in : (data_type : DataType) (item : ℕ → Option Item) (size : Option ℕ) (rows : List ℕ) (wanted : List Outcome) → IsChunkSize size → AreUnder wanted (map item rows) → SomePasses (most_bytes data_type) size wanted
    → IsOneOf (flat_map (piece_causes data_type item) (cut size rows)) (Some Overflow)
passes_in data_type item size rows wanted some under passes =
    let k = passes.0 in
    let piece = chunk_at size k rows in
    let more = under-sum (chunk_at size k wanted) (chunk_at size k (map item rows)) (under-chunk size k wanted (map item rows) under) in
    let bytes : sum_by bytes_if_there (chunk_at size k (map item rows)) ≡ bytes_of_rows item piece = ap (sum_by bytes_if_there) (chunk-map item size k rows) ∙ sym (bytes_as item piece) in
    let past = less-fits (most_bytes data_type) (sum_by row_bytes (chunk_at size k wanted)) (bytes_of_rows item piece) (omega (arith, more, bytes)) passes.1 in
    chunk-in (piece_causes data_type item) (Some Overflow) size k rows some (some-rows data_type item piece past)
    (subst (λ b. IsOneOf (unless b Overflow) (Some Overflow)) (sym past) first) where
      first : IsOneOf (Overflow ∷ []) (Some Overflow)
      first = (0, omega arith, refl)
