-- Sections of several items, one behind another.
use Rattle.std.proofs.Common.{◌≡◌, ℕ, ◌+◌, ◌<◌, List, [], ◌∷◌, ◌++◌, ◌∙◌, ap, arith, drop, get_or, length, refl, subst, sym, take}
use Rattle.std.specs.Prelude.{Ok, Err, flat_map, sum_by}
use Rattle.std.proofs.lemmas.List.{take-append-drop, take_more}
use Rattle.std.proofs.lemmas.List.Concat.{flat_map-append}
use Rattle.std.proofs.lemmas.List.Sums.{sum_by-append}
use Rattle.columns_core.specs.Causes.{Cause, IsOneOf}
use Rattle.columns_core.specs.declared.error.Error.{Error}
use Rattle.parquet_meta.specs.declared.source.Source.{Ghosts}
use Rattle.page_decoding.proofs.RowLemmas.{one_of-left}
use Rattle.inspect_program.specs.Calls.{Section, Tells}
use Rattle.inspect_program.proofs.TellsLemmas.{IsSame, IsWithin, beside, tells_as, tells_both, tells_failed, tells_nothing, tells_then_failed}

module _ {X : Type 0} (causes : List ℕ → X → List Cause) (text : List ℕ → X → List ℕ) (size : X → ℕ) where
  -- the sections of items, one behind another
  abbrev pub of_each : List X → Section
  of_each items = record {
    causes = λ bytes. flat_map (causes bytes) items;
    text = λ bytes. flat_map (text bytes) items;
    length = sum_by size items;
  }

  each_beside : (front back : List X) → IsSame (beside (of_each front) (of_each back)) (of_each (front ++ back))
  each_beside front back = record {
    causes = λ bytes. flat_map-append (causes bytes) front back;
    text = λ bytes. flat_map-append (text bytes) front back;
    length = omega (arith, sum_by-append size front back);
  }

  each_within : (front back : List X) → IsWithin (of_each front) (of_each (front ++ back))
  each_within front back = record {
    causes = λ bytes o is. subst (λ (all : List Cause). IsOneOf all o) (sym (flat_map-append (causes bytes) front back)) (one_of-left (flat_map (causes bytes) front) (flat_map (causes bytes) back) o is);
    length = omega (arith, sum_by-append size front back);
  }

  module _ {S : Type 0} {g : Ghosts S} where
    -- no item
    pub none_told : {T : Type 0} (old : S) (t : List ℕ) (x : T) → Tells g old old (of_each []) t t (Ok x)
    none_told old t x = tells_nothing old (of_each []) t x (λ bytes. refl) (λ bytes. refl)

    -- items behind others
    pub more_told : {T U V : Type 0} {old mid new : S} {s t u : List ℕ} {x : T} {y : U} (z : V) (front back : List X)
        → Tells g old mid (of_each front) s t (Ok x) → Tells g mid new (of_each back) t u (Ok y) → Tells g old new (of_each (front ++ back)) s u (Ok z)
    more_told z front back first second = tells_as (Ok z) (each_beside front back) (tells_both z first second)

    -- items behind others fail, and others come behind them
    pub more_failed : {T U V : Type 0} {old mid new : S} {s t u : List ℕ} (v : List ℕ) {x : T} {e : Error} (front back rest : List X)
        → Tells g old mid (of_each front) s t (Ok x) → Tells {T = U} g mid new (of_each back) t u (Err e) → Tells {T = V} g old new (of_each ((front ++ back) ++ rest)) s v (Err e)
    more_failed {T} {U} {V} {old} {mid} {new} {s} {t} {u} v {x} {e} front back rest first second =
        let both : Tells {T = V} g old new (of_each (front ++ back)) s v (Err e) = tells_as {T = V} (Err e) (each_beside front back) (tells_then_failed {V = V} v first second) in
        tells_failed s v (each_within (front ++ back) rest) both

-- ---- items that a list gives, a part of the list behind another

module _ {X Y : Type 0} (kept : List Y → List X) (joined : (front back : List Y) → kept (front ++ back) ≡ kept front ++ kept back) where
  -- those of one more
  pub kept_more : (list : List Y) (i : ℕ) (y : Y) → i < length list → y ≡ get_or list i y → kept (take (i + 1) list) ≡ kept (take i list) ++ kept (y ∷ [])
  kept_more list i y within at =
      ap kept (take_more list i y within ∙ ap (λ last. take i list ++ last ∷ []) (sym at)) ∙ joined (take i list) (y ∷ [])

  -- and of all
  pub kept_all : (list : List Y) (i : ℕ) (y : Y) → i < length list → y ≡ get_or list i y → kept list ≡ (kept (take i list) ++ kept (y ∷ [])) ++ kept (drop (i + 1) list)
  kept_all list i y within at =
      ap kept (sym (take-append-drop (i + 1) list)) ∙ joined (take (i + 1) list) (drop (i + 1) list) ∙ ap (λ front. front ++ kept (drop (i + 1) list)) (kept_more list i y within at)
