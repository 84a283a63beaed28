-- Rows that are written one after another.
use Rattle.std.proofs.Common.{◌≡◌, ℕ, ◌+◌, ◌<◌, ◌≤◌, Bool, List, [], ◌∷◌, ◌++◌, Option, Some, None, sym, ap, ◌∙◌, length, map, unwrap_or, option_map, append_assoc, append-nil}
use Rattle.std.specs.Prelude.{slice_get}
use Rattle.std.specs.List.{flat_map, slice_range}
use Rattle.std.proofs.lemmas.List.Concat.{flat_map-append}
use Rattle.std.proofs.lemmas.List.Elements.{filter_map-append}
use Rattle.std.proofs.lemmas.List.{map-append}
use Rattle.std.proofs.lemmas.Option.{unwrap_or-slice_get}
use Rattle.parquet_page.specs.Stored.{Stored, Truth}
use Rattle.parquet_plain.specs.Bodies.{present, truth_in}
use Rattle.parquet_plain.proofs.RowLemmas.{rows-last, rows-map, rows-none}

-- what is stored of rows from one up to another that are there
abbrev pub rows_stored : {T : Type 0} → (T → Stored) → List (Option T) → ℕ → ℕ → List Stored
rows_stored stored items from to = present (slice_range (map (option_map stored) items) from to)

pub none-stored : {T : Type 0} (stored : T → Stored) (items : List (Option T)) (at : ℕ) → rows_stored stored items at at ≡ []
none-stored stored items at = ap present (rows-none at (map (option_map stored) items))

-- one row more
pub next-stored : {T : Type 0} (stored : T → Stored) (items : List (Option T)) (from row : ℕ) (item : Option T) → from ≤ row → row < length items → slice_get items row ≡ Some item →
    rows_stored stored items from (row + 1) ≡ rows_stored stored items from row ++ present (option_map stored item ∷ [])
next-stored stored items from row item le lt own =
    ap present (rows-map (option_map stored) items from (row + 1))
    ∙ ap (λ (rows : List (Option _)). present (map (option_map stored) rows)) (rows-last items None from row le lt ∙ ap (λ (i : Option _). slice_range items from row ++ i ∷ []) (sym (unwrap_or-slice_get items row None) ∙ ap (λ (o : Option (Option _)). unwrap_or o None) own))
    ∙ ap present (map-append (option_map stored) (slice_range items from row) (item ∷ []))
    ∙ filter_map-append (λ (i : Option Stored). i) (map (option_map stored) (slice_range items from row)) (option_map stored item ∷ [])
    ∙ ap (λ (rows : List (Option Stored)). present rows ++ present (option_map stored item ∷ [])) (sym (rows-map (option_map stored) items from row))

-- The bytes of the rows from one on that are there stand behind the old ones.
pub record AreWritten {T : Type 0} (f : Stored → List ℕ) (stored : T → Stored) (items : List (Option T)) (start body : List ℕ) (from row : ℕ) : Type 0 where
  pub is : body ≡ start ++ flat_map f (rows_stored stored items from row)

-- one more row that is there
pub written_some : {T : Type 0} (f : Stored → List ℕ) (stored : T → Stored) (items : List (Option T)) (start body next : List ℕ) (from row : ℕ) (value : T) → from ≤ row → row < length items →
    slice_get items row ≡ Some (Some value) → next ≡ body ++ f (stored value) → AreWritten f stored items start body from row → AreWritten f stored items start next from (row + 1)
written_some f stored items start body next from row value le lt own more are =
    let rows : List Stored = rows_stored stored items from row in
    let own_bytes : List ℕ = f (stored value) in
    record {
      is = more ∙ ap (λ (bs : List ℕ). bs ++ own_bytes) are.is ∙ append_assoc start (flat_map f rows) own_bytes
          ∙ ap (λ (bs : List ℕ). start ++ (flat_map f rows ++ bs)) (sym (append-nil own_bytes))
          ∙ ap (λ (bs : List ℕ). start ++ bs) (sym (flat_map-append f rows (stored value ∷ [])))
          ∙ ap (λ (all : List Stored). start ++ flat_map f all) (sym (next-stored stored items from row (Some value) le lt own));
    }

-- one more that is not
pub written_none : {T : Type 0} (f : Stored → List ℕ) (stored : T → Stored) (items : List (Option T)) (start body next : List ℕ) (from row : ℕ) → from ≤ row → row < length items →
    slice_get items row ≡ Some None → next ≡ body → AreWritten f stored items start body from row → AreWritten f stored items start next from (row + 1)
written_none f stored items start body next from row le lt own same are =
    let rows : List Stored = rows_stored stored items from row in
    record {
      is = same ∙ are.is ∙ ap (λ (all : List Stored). start ++ flat_map f all) (sym (append-nil rows) ∙ sym (next-stored stored items from row None le lt own));
    }

-- ---- truth values

bits-next : (items : List (Option Bool)) (from row : ℕ) (item : Option Bool) → from ≤ row → row < length items → slice_get items row ≡ Some item →
    map truth_in (rows_stored Truth items from (row + 1)) ≡ map truth_in (rows_stored Truth items from row) ++ map truth_in (present (option_map Truth item ∷ []))
bits-next items from row item le lt own = ap (map truth_in) (next-stored Truth items from row item le lt own) ∙ map-append truth_in (rows_stored Truth items from row) (present (option_map Truth item ∷ []))

pub bit-more : (items : List (Option Bool)) (from row : ℕ) (truth : Bool) → from ≤ row → row < length items → slice_get items row ≡ Some (Some truth) →
    map truth_in (rows_stored Truth items from (row + 1)) ≡ map truth_in (rows_stored Truth items from row) ++ truth ∷ []
bit-more items from row truth le lt own = bits-next items from row (Some truth) le lt own

pub no-bit-more : (items : List (Option Bool)) (from row : ℕ) → from ≤ row → row < length items → slice_get items row ≡ Some None →
    map truth_in (rows_stored Truth items from (row + 1)) ≡ map truth_in (rows_stored Truth items from row)
no-bit-more items from row le lt own = bits-next items from row None le lt own ∙ append-nil (map truth_in (rows_stored Truth items from row))
