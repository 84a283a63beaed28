-- What is made of each of a list that vectors show, and what is made next of what was found.
use Rattle.std.proofs.Common.{◌≡◌, ◌∙◌, ap, sym, refl, inl, inr, ℕ, suc, ◌+◌, ◌<◌, List, [], ◌∷◌, ◌++◌, length, map, drop, get_or, Option, Some, None, Ok, Err, Vec, Global}
use Rattle.std.specs.Prelude.{IfOk, IfErr, IfSome, Result}
use Rattle.std.proofs.lemmas.List.{length-map}
use Rattle.columns_core.specs.Refusals.{IsDamaged}
use Rattle.columns_core.specs.declared.error.Error.{Error}
use Rattle.columns_core.specs.declared.error.Error.TheVariants as error
use Rattle.parquet_base.specs.Reading.{◌>>=◌}
use Rattle.parquet_meta.specs.Lists.{all_of}
use Rattle.parquet_meta.specs.Source.{Finds}
use Rattle.parquet_encoding.proofs.StepLemmas.{some_is}
use Rattle.parquet_indexes.specs.PageMaps.{in_fields}
use Rattle.parquet_meta.proofs.ListLemmas.{IsMaking, item_and_others, one_and, making-ends, making-fails, making-goes_on}

-- ---- of each of a list

module _ {X A B : Type 0} (value : A → Option B) (view : X → A) (xs : List X) (i : ℕ) (x : X) where
  seen : i < length xs → x ≡ get_or xs i x → map view (drop i xs) ≡ view x ∷ map view (drop (i + 1) xs)
  seen h is = ap (map view) (item_and_others xs i x h is)

  pub made_next : (items : List B) (y : B) → i < length xs → x ≡ get_or xs i x → IsMaking value (map view xs) (map view (drop i xs)) items → value (view x) ≡ Some y
      → IsMaking value (map view xs) (map view (drop (i + 1) xs)) (items ++ y ∷ [])
  made_next items y h is making one = making-goes_on value (map view xs) (map view (drop i xs)) (map view (drop (i + 1) xs)) (view x) items y making (seen h is) one

  -- One that is damaged leaves none for all.
  pub damaged_next : (items : List B) (e : Error) → i < length xs → x ≡ get_or xs i x → IsMaking value (map view xs) (map view (drop i xs)) items → IsDamaged (value (view x)) e
      → IsDamaged (all_of value (map view xs)) e
  damaged_next items e h is making (inl memory) = inl memory
  damaged_next items e h is making (inr d) =
      inr (d.0, making-fails value (map view xs) (map view (drop i xs)) (map view (drop (i + 1) xs)) (view x) items making (seen h is) d.1)

pub made_all : {X A B : Type 0} (value : A → Option B) (view : X → A) (xs : List X) (items : List B) → IsMaking value (map view xs) (map view []) items → all_of value (map view xs) ≡ Some items
made_all value view xs items making = making-ends value (map view xs) [] items making refl

-- as many as there are
as_many : {A B : Type 0} (value : A → Option B) (xs : List A) (ys : List B) → all_of value xs ≡ Some ys → length ys ≡ length xs
unfolding all_of
as_many value [] [] e = refl
as_many value [] (y ∷ ys) e = absurd cc
as_many {A} {B} value (x ∷ xs) ys e = by (value x) (all_of value xs) (as_many value xs) e where
  by : (first : Option B) (others : Option (List B)) → ((behind : List B) → others ≡ Some behind → length behind ≡ length xs) → one_and first others ≡ Some ys → length ys ≡ suc (length xs)
  by None others one e = absurd cc
  by (Some y) None one e = absurd cc
  by (Some y) (Some behind) one e = ap length (sym (some_is (y ∷ behind) ys e)) ∙ ap suc (one behind refl)

-- of fields that vectors show
pub as_many_fields : {A B : Type 0} (value : List (List A) → Option (List (List B))) (fields : List (Vec (Vec A Global) Global)) (made : List (Vec (Vec B Global) Global))
    → all_of value (in_fields fields) ≡ Some (in_fields made) → length made ≡ length fields
as_many_fields {A} {B} value fields made e =
    sym (length-map made (λ (columns : Vec (Vec B Global) Global). map {A = Vec B Global} {B = List B} (λ pages. pages.items) columns.items))
    ∙ as_many value (in_fields fields) (in_fields made) e
    ∙ length-map fields (λ (columns : Vec (Vec A Global) Global). map {A = Vec A Global} {B = List A} (λ pages. pages.items) columns.items)

-- ---- of what was found

module _ {L A : Type 0} (spelled : List ℕ → Option L) (next : L → Option A) where
  none_next : (file : List ℕ) → spelled file ≡ None → (spelled file >>= next) ≡ None
  none_next file e = ap (λ found. found >>= next) e

  pub some_next : (file : List ℕ) (x : L) → spelled file ≡ Some x → (spelled file >>= next) ≡ next x
  some_next file x e = ap (λ found. found >>= next) e

  -- Where it is not found, neither is what is made of it.
  pub not_found : {X Y : Type 0} (view : X → L) (views : Y → A) (told : Option (List ℕ)) (before now : ℕ) (e : Error)
      → Finds view spelled told before now (Err e) → Finds views (λ file. spelled file >>= next) told before now (Err e)
  not_found view views None before now (error.ExternalFormat part) finds = tt
  not_found view views (Some file) before now (error.ExternalFormat part) finds = none_next file finds
  not_found view views told before now error.Io finds = finds
  not_found view views told before now error.OutOfMemory finds = tt
  not_found view views told before now (error.InvalidArgumentError part) finds = absurd finds
  not_found view views told before now (error.NotYetImplemented part) finds = absurd finds
  not_found view views told before now (error.OutOfSpec part) finds = absurd finds
  not_found view views told before now error.Overflow finds = absurd finds

  next_refused : {Y : Type 0} (views : Y → A) (told : Option (List ℕ)) (before now : ℕ) (x : L) (e : Error)
      → IfSome told (λ file. spelled file ≡ Some x) → IsDamaged (next x) e → Finds views (λ file. spelled file >>= next) told before now (Err e)
  next_refused views told before now x error.OutOfMemory is d = tt
  next_refused views None before now x (error.ExternalFormat part) is d = tt
  next_refused views (Some file) before now x (error.ExternalFormat part) is (inl memory) = absurd cc
  next_refused views (Some file) before now x (error.ExternalFormat part) is (inr d) = some_next file x is ∙ d.1
  next_refused views told before now x error.Io is (inl memory) = absurd cc
  next_refused views told before now x error.Io is (inr d) = absurd cc
  next_refused views told before now x (error.InvalidArgumentError part) is (inl memory) = absurd cc
  next_refused views told before now x (error.InvalidArgumentError part) is (inr d) = absurd cc
  next_refused views told before now x (error.NotYetImplemented part) is (inl memory) = absurd cc
  next_refused views told before now x (error.NotYetImplemented part) is (inr d) = absurd cc
  next_refused views told before now x (error.OutOfSpec part) is (inl memory) = absurd cc
  next_refused views told before now x (error.OutOfSpec part) is (inr d) = absurd cc
  next_refused views told before now x error.Overflow is (inl memory) = absurd cc
  next_refused views told before now x error.Overflow is (inr d) = absurd cc

  -- What is made of what was found is found.
  pub next_found : {Y : Type 0} (views : Y → A) (told : Option (List ℕ)) (before now : ℕ) (x : L) (result : Result Y Error)
      → IfSome told (λ file. spelled file ≡ Some x) → IfOk result (λ y. next x ≡ Some (views y)) → IfErr result (IsDamaged (next x)) → Finds views (λ file. spelled file >>= next) told before now result
  next_found views None before now x (Ok y) is ok err = tt
  next_found views (Some file) before now x (Ok y) is ok err = some_next file x is ∙ ok
  next_found views told before now x (Err e) is ok err = next_refused views told before now x e is err
