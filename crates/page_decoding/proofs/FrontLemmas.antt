-- The first item of a queue is given.
use Rattle.std.proofs.Common.{◌≡◌, ℕ, List, [], ◌∷◌, ◌++◌, subst, sym, arith}
use Rattle.std.specs.Prelude.{Option, Result, Ok, Err}
use Rattle.std.specs.List.{All}
use Rattle.std.proofs.lemmas.List.Elements.{All-drop}
use Rattle.columns_core.specs.declared.cell.Cell.{Cell}
use Rattle.columns_core.specs.declared.error.Error.{Error}
use Rattle.page_decoding.specs.declared.queue.MaybeNext.{MaybeNext}
use Rattle.page_decoding.specs.declared.queue.MaybeNext.TheVariants.{Some, None, More}
use Rattle.page_decoding.specs.Outcome.{Outcome}
use Rattle.page_decoding.specs.NextChunk.{GivesChunk, GivesFront, OnNoError, IfChunk, IfFault, OnMore, OnNone, front_of}

pub front-chunk : {X : Type 0} (shown : X → List Cell) (size : Option ℕ) (before old new : List Outcome) (result : MaybeNext (Result X Error)) → before ≡ old → GivesFront shown size old new result → GivesChunk shown size before new result
front-chunk shown size before old new (Some (Ok item)) e front = let P : List Outcome → Type 0 = λ xs. GivesFront shown size xs new (Some (Ok item)) in subst P (sym e) front
front-chunk shown size before old new (Some (Err error)) e front = tt
front-chunk shown size before old new None e front = let P : List Outcome → Type 0 = λ xs. (xs ≡ []) × (new ≡ []) in subst P (sym e) front
front-chunk shown size before old new More e front = absurd front

pub front-more : {X : Type 0} (N : Type 0) (shown : X → List Cell) (size : Option ℕ) (old new : List Outcome) (result : MaybeNext (Result X Error)) → GivesFront shown size old new result → OnMore result N
front-more N shown size old new (Some result) front = tt
front-more N shown size old new None front = tt
front-more N shown size old new More front = absurd front

pub front-cause : {X : Type 0} (F : Error → Type 0) (shown : X → List Cell) (size : Option ℕ) (old new : List Outcome) (result : MaybeNext (Result X Error)) → GivesFront shown size old new result → IfFault result F
front-cause F shown size old new (Some (Ok item)) front = tt
front-cause F shown size old new (Some (Err error)) front = absurd front
front-cause F shown size old new None front = tt
front-cause F shown size old new More front = tt

pub front-own : {X : Type 0} (P : X → Type 0) (old new : List X) (result : MaybeNext (Result X Error)) → old ≡ front_of result ++ new → All P old → OnNoError result (All P new)
front-own P old new (Some (Ok item)) e own = let Q : List _ → Type 0 = λ xs. All P xs in All-drop P 1 (item ∷ new) (subst Q e own)
front-own P old new (Some (Err error)) e own = tt
front-own P old new None e own = let Q : List _ → Type 0 = λ xs. All P xs in subst Q e own
front-own P old new More e own = let Q : List _ → Type 0 = λ xs. All P xs in subst Q e own

pub front-own_chunk : {X : Type 0} (P : X → Type 0) (old new : List X) (result : MaybeNext (Result X Error)) → old ≡ front_of result ++ new → All P old → IfChunk result P
front-own_chunk P old new (Some (Ok item)) e own = let Q : List _ → Type 0 = λ xs. All P xs in let all : All P (item ∷ new) = subst Q e own in all 0 item (omega arith)
front-own_chunk P old new (Some (Err error)) e own = tt
front-own_chunk P old new None e own = tt
front-own_chunk P old new More e own = tt

-- what holds of the items before the first was given, holds of it and the others
pub front-items : {X : Type 0} (P : List X → Type 0) (old new : List X) (result : MaybeNext (Result X Error)) → old ≡ front_of result ++ new → P old → OnNoError result (P (front_of result ++ new))
front-items P old new (Some (Ok item)) e before = subst P e before
front-items P old new (Some (Err error)) e before = tt
front-items P old new None e before = subst P e before
front-items P old new More e before = subst P e before

pub front-end : {X : Type 0} (N : Type 0) (result : MaybeNext (Result X Error)) → OnNone result ⊥ → OnNone result N
front-end N (Some result) some = tt
front-end N None some = absurd some
front-end N More some = tt
