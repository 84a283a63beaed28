-- Files that end alike.
use Rattle.std.proofs.Common.{◌≡◌, ℕ, ◌+◌, ◌-◌, Bool, true, false, List, Option, Some, None, refl, sym, ap, ◌∙◌, arith, length, take, drop, nat_le}
use Rattle.std.specs.Prelude.{◌&&◌}
use Rattle.std.specs.Option.{option_map_or}
use Rattle.std.proofs.lemmas.List.{length-drop, take_all, drop-drop}
use Rattle.parquet_base.specs.Reading.{◌>>=◌, given}
use Rattle.parquet_meta.specs.File.{meta_data_in, footer_length, footer_at, footer, footer_place}
use Rattle.parquet_meta.specs.Places.{bytes_at}
use Rattle.parquet_meta.specs.declared.metadata.FileMetaData.{FileMetaData}
use Rattle.parquet_meta.specs.declared.metadata.Place.{Place}
use Rattle.parquet_meta.proofs.FooterLemmas.{before_eight}

-- the footer's place by the size and the length that is told
abbrev place_by : ℕ → Option ℕ → Option Place
place_by size told = told >>= λ n. given (nat_le 12 size && nat_le n (size - 8)) (before_eight size n)

-- where the part begins that is looked at
abbrev start_by : ℕ → Option Place → ℕ
start_by size place = size - 8 - option_map_or (λ p. p.length) place 0

abbrev says_by : List ℕ → Option Place → Option FileMetaData
says_by file place = place >>= λ p. meta_data_in (bytes_at file p)

same_words : (size : ℕ) (told : Option ℕ) (first second : List ℕ) → drop (start_by size (place_by size told)) second ≡ drop (start_by size (place_by size told)) first →
    says_by second (place_by size told) ≡ says_by first (place_by size told)
same_words size None first second same = refl
same_words size (Some n) first second same = chosen (nat_le 12 size && nat_le n (size - 8)) same
  where
    chosen : (b : Bool) → drop (start_by size (given b (before_eight size n))) second ≡ drop (start_by size (given b (before_eight size n))) first →
        says_by second (given b (before_eight size n)) ≡ says_by first (given b (before_eight size n))
    chosen true p = ap (λ (xs : List ℕ). meta_data_in (take n xs)) p
    chosen false p = refl

-- all bytes behind the start are looked at
whole-end : (file : List ℕ) (size n : ℕ) → length file ≡ size → take (n + 8) (drop (size - 8 - n) file) ≡ drop (size - 8 - n) file
whole-end file size n is = take_all (n + 8) (drop (size - 8 - n) file) (omega (arith, length-drop (size - 8 - n) file, is))

last-of : (file : List ℕ) (size n : ℕ) → drop (size - 8) file ≡ drop (size - 8 - (size - 8 - n)) (drop (size - 8 - n) file)
last-of file size n =
    let all : size - 8 - n + (size - 8 - (size - 8 - n)) ≡ size - 8 = omega arith in
    ap (λ (k : ℕ). drop k file) (sym all) ∙ sym (drop-drop (size - 8 - (size - 8 - n)) (size - 8 - n) file)

pub same_ends : (first second : List ℕ) → length second ≡ length first → bytes_at second (footer_place first) ≡ bytes_at first (footer_place first) →
    (footer_place second ≡ footer_place first) × (footer second ≡ footer first)
unfolding footer_at footer
same_ends first second long same = (place, words)
  where
    n : ℕ
    n = option_map_or (λ p. p.length) (footer_at first) 0

    ends : drop (length first - 8 - n) second ≡ drop (length first - 8 - n) first
    ends = sym (whole-end second (length first) n long) ∙ same ∙ whole-end first (length first) n refl

    last : drop (length second - 8) second ≡ drop (length first - 8) first
    last =
        ap (λ (k : ℕ). drop (k - 8) second) long ∙ last-of second (length first) n
        ∙ ap (λ (xs : List ℕ). drop (length first - 8 - (length first - 8 - n)) xs) ends ∙ sym (last-of first (length first) n)

    at : footer_at second ≡ footer_at first
    at = ap (λ (k : ℕ). place_by k (footer_length (drop (length second - 8) second))) long ∙ ap (λ (xs : List ℕ). place_by (length first) (footer_length xs)) last

    place : footer_place second ≡ footer_place first
    place =
        ap (λ (k : ℕ). part_by k (footer_at second)) long ∙ ap (part_by (length first)) at
      where
        part_by : ℕ → Option Place → Place
        part_by size o = record { offset = start_by size o; length = option_map_or (λ p. p.length) o 0 + 8 }

    words : footer second ≡ footer first
    words = ap (says_by second) at ∙ same_words (length first) (footer_length (drop (length first - 8) first)) first second ends
