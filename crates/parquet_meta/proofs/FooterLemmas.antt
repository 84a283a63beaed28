-- The footer, from the end of the file.
use Rattle.std.proofs.Common.{◌≡◌, ℕ, ◌+◌, ◌-◌, ◌^◌, ◌<◌, ◌≤◌, Bool, true, false, cond, List, Option, Some, None, Err, sym, ap, ◌∙◌, arith, length, take, drop, nat_le, le-leb}
use Rattle.std.specs.Prelude.{IfSome, ◌&&◌}
use Rattle.std.specs.Option.{option_map_or}
use Rattle.std.proofs.lemmas.Bool.{lt-leb}
use Rattle.std.proofs.lemmas.List.{length-drop, take_all}
use Rattle.columns_core.specs.declared.error.Part.{Part}
use Rattle.parquet_base.specs.Reading.{◌>>=◌, given}
use Rattle.parquet_meta.specs.Fault.{IsFaultOf, error_of}
use Rattle.parquet_meta.specs.File.{meta_data_in, footer_length, footer_at, footer, most_taken}
use Rattle.parquet_meta.specs.Places.{bytes_at, part_at}
use Rattle.parquet_meta.specs.Source.{Finds}
use Rattle.parquet_meta.specs.declared.fault.Fault.{Fault}
use Rattle.parquet_meta.specs.declared.fault.Fault.TheVariants as faults
use Rattle.parquet_meta.specs.declared.metadata.FileMetaData.{FileMetaData}
use Rattle.parquet_meta.specs.declared.metadata.Place.{Place}

abbrev pub last_eight : ℕ → Place
last_eight size = record { offset = size - 8; length = 8 }

abbrev pub before_eight : ℕ → ℕ → Place
before_eight size n = record { offset = size - 8 - n; length = n }

-- a part that is there
part-there : (file : List ℕ) (place : Place) (bytes : List ℕ) → part_at file place ≡ Some bytes → bytes_at file place ≡ bytes
part-there file place bytes h = chosen (nat_le (place.offset + place.length) (length file)) h
  where
    chosen : (b : Bool) → cond b (Some (bytes_at file place)) None ≡ Some bytes → bytes_at file place ≡ bytes
    chosen true h = some-same (bytes_at file place) bytes h
      where
        some-same : (xs ys : List ℕ) → Some xs ≡ Some ys → xs ≡ ys
        some-same xs ys e = ap (λ (o : Option (List ℕ)). option_map_or (λ zs. zs) o xs) e
    chosen false h = ap (λ (o : Option (List ℕ)). option_map_or (λ zs. zs) o (bytes_at file place)) h

last-is : (file end : List ℕ) (size : ℕ) → size ≡ length file → 12 ≤ size → part_at file (last_eight size) ≡ Some end → drop (length file - 8) file ≡ end
last-is file end size is le there =
    sym (take_all 8 (drop (length file - 8) file) (omega (arith, length-drop (length file - 8) file, is)))
    ∙ ap (λ (n : ℕ). take 8 (drop (n - 8) file)) (sym is) ∙ part-there file (last_eight size) end there

at-is : (file end : List ℕ) (size : ℕ) (o : Option ℕ) → size ≡ length file → 12 ≤ size → part_at file (last_eight size) ≡ Some end → footer_length end ≡ o →
    footer_at file ≡ (o >>= λ n. given (nat_le n (size - 8)) (before_eight size n))
unfolding footer_at
at-is file end size o is le there found =
    ap (λ (xs : List ℕ). footer_length xs >>= λ n. given (nat_le 12 (length file) && nat_le n (length file - 8)) (before_eight (length file) n)) (last-is file end size is le there)
    ∙ ap (λ (o : Option ℕ). o >>= λ n. given (nat_le 12 (length file) && nat_le n (length file - 8)) (before_eight (length file) n)) found
    ∙ ap (λ (k : ℕ). o >>= λ n. given (nat_le 12 k && nat_le n (k - 8)) (before_eight k n)) (sym is)
    ∙ ap (λ (b : Bool). o >>= λ n. given (b && nat_le n (size - 8)) (before_eight size n)) (le-leb 12 size le)

nowhere : (file : List ℕ) → footer_at file ≡ None → footer file ≡ None
unfolding footer
nowhere file h = ap (λ (o : Option Place). o >>= λ place. meta_data_in (bytes_at file place)) h

pub no_length : (told : Option (List ℕ)) (size : ℕ) (end : List ℕ) → IfSome told (λ file. size ≡ length file) → 12 ≤ size → IfSome told (λ file. part_at file (last_eight size) ≡ Some end) →
    footer_length end ≡ None → IfSome told (λ file. footer file ≡ None)
no_length None size end is le there none = tt
no_length (Some file) size end is le there none = nowhere file (at-is file end size None is le there none)

pub too_long : (told : Option (List ℕ)) (size : ℕ) (end : List ℕ) (n : ℕ) → IfSome told (λ file. size ≡ length file) → 12 ≤ size → IfSome told (λ file. part_at file (last_eight size) ≡ Some end) →
    footer_length end ≡ Some n → size - 8 < n → IfSome told (λ file. footer file ≡ None)
too_long None size end n is le there found lt = tt
too_long (Some file) size end n is le there found lt =
    nowhere file (at-is file end size (Some n) is le there found ∙ ap (λ (b : Bool). given b (before_eight size n)) (lt-leb n (size - 8) lt))

pub placed : (told : Option (List ℕ)) (size : ℕ) (end : List ℕ) (n : ℕ) → IfSome told (λ file. size ≡ length file) → 12 ≤ size → IfSome told (λ file. part_at file (last_eight size) ≡ Some end) →
    footer_length end ≡ Some n → n ≤ size - 8 → IfSome told (λ file. footer_at file ≡ Some (before_eight size n))
placed None size end n is le there found fits = tt
placed (Some file) size end n is le there found fits = at-is file end size (Some n) is le there found ∙ ap (λ (b : Bool). given b (before_eight size n)) (le-leb n (size - 8) fits)

pub says : (told : Option (List ℕ)) (place : Place) (bytes : List ℕ) (r : Option FileMetaData) → IfSome told (λ file. footer_at file ≡ Some place) → IfSome told (λ file. part_at file place ≡ Some bytes) →
    meta_data_in bytes ≡ r → IfSome told (λ file. footer file ≡ r)
unfolding footer
says None place bytes r at there read = tt
says (Some file) place bytes r at there read =
    ap (λ (o : Option Place). o >>= λ place. meta_data_in (bytes_at file place)) at ∙ ap meta_data_in (part-there file place bytes there) ∙ read

pub refuses : (part : Part) (fault : Fault) (told : Option (List ℕ)) (before now : ℕ) (place : Place) (bytes : List ℕ) → IfSome told (λ file. footer_at file ≡ Some place) → IfSome told (λ file. part_at file place ≡ Some bytes) →
    IsFaultOf true fault (meta_data_in bytes) → Finds {X = FileMetaData} {A = FileMetaData} (λ metadata. metadata) footer told before now (Err (error_of part fault))
refuses part faults.Unspelled told before now place bytes at there none = says told place bytes None at there none
refuses part faults.OutOfMemory told before now place bytes at there want = tt

pub takes : (told : Option (List ℕ)) (place : Place) → IfSome told (λ file. footer_at file ≡ Some place) → place.length < 2 ^ 32 → place.length + 8 ≤ most_taken told
takes None place at lt = omega arith
takes (Some file) place at lt =
    let n : option_map_or (λ p. p.length) (footer_at file) 0 ≡ place.length = ap (λ (o : Option Place). option_map_or (λ p. p.length) o 0) at in
    omega (arith, n)
