-- The items of the sample's rows have their places in the columns.
use Rattle.std.proofs.Common.{ℕ, zero, suc, ◌+◌, ◌^◌, ◌≤◌, ◌<◌, pos, Bool, true, false, cond, List, Some, None, refl, arith, length, map}
use Rattle.std.specs.Prelude.{All, decimal}
use Rattle.std.specs.List.{range_with_len}
use Rattle.std.proofs.lemmas.Fmt.{IsAscii-decimal, length-decimal-le}
use Rattle.std.proofs.lemmas.List.Elements.{All-cons, All-map, All-nil, All-weaker}
use Rattle.std.proofs.lemmas.Str.{IsUtf8-from_ascii, is_utf8-from_IsUtf8}
use Rattle.std.proofs.lemmas.Str.Ascii.{IsAscii-cons}
use Rattle.parquet_meta.specs.declared.metadata.Repetition.TheVariants.{Optional, Required}
use Rattle.parquet_page.specs.Stored.{Number, Octets}
use Rattle.parquet_sample.specs.Sample.{id_item, is_absent, name_item, name_text, qty_item, quantity}
use Rattle.sample_laws.proofs.KindLaws.{IsPlace}
use Rattle.sample_laws.proofs.RowLaws.{IsPieceOf}
use Rattle.sample_laws.proofs.SampleKinds.{IsBelow, IsShortText}

-- the sum of a row and a seed
abbrev pub IsRowNumber : ℕ → Type 0
IsRowNumber n = n < 2 ^ 33

-- the numbers of the rows of a group
abbrev pub IsGroup : List ℕ → Type 0
IsGroup ns = IsPieceOf IsRowNumber 20000 ns

pub range-small : (first n : ℕ) → first + n ≤ 2 ^ 33 → All IsRowNumber (range_with_len first n)
range-small first zero le = All-nil IsRowNumber
range-small first (suc n) le = All-cons IsRowNumber first (range_with_len (first + 1) n) (omega arith) (range-small (first + 1) n (omega arith))

pub ids-placed : (ns : List ℕ) → All IsRowNumber ns → All (IsPlace Required (IsBelow (2 ^ 63))) (map id_item ns)
ids-placed ns all = All-map (IsPlace Required (IsBelow (2 ^ 63))) id_item ns (All-weaker IsRowNumber (λ n. IsPlace Required (IsBelow (2 ^ 63)) (id_item n)) (λ n lt. record { number = n; is = refl; low = small n lt }) ns all) where
  small : (n : ℕ) → n < 2 ^ 33 → n < 2 ^ 63
  small n lt = omega arith

qty-placed : (n : ℕ) (b : Bool) → IsPlace Optional (IsBelow 1000) (cond b None (Some (Number (pos (quantity n)))))
qty-placed n true = tt
qty-placed n false = record { number = quantity n; is = refl; low = omega arith }

pub qtys-placed : (ns : List ℕ) → All IsRowNumber ns → All (IsPlace Optional (IsBelow 1000)) (map qty_item ns)
qtys-placed ns all = All-map (IsPlace Optional (IsBelow 1000)) qty_item ns (All-weaker IsRowNumber (λ n. IsPlace Optional (IsBelow 1000) (qty_item n)) (λ n lt. qty-placed n (is_absent n)) ns all)

name-short : (n : ℕ) → n < 2 ^ 33 → IsShortText (Octets (name_text n))
name-short n lt =
    let digits : length (decimal n) ≤ 10 = length-decimal-le 10 n (omega arith) (omega arith) (omega arith) in
    record {
      bytes = name_text n;
      is = refl;
      short = omega arith;
      text = is_utf8-from_IsUtf8 (name_text n) (IsUtf8-from_ascii (name_text n) (IsAscii-cons 114 (decimal n) (omega arith) (IsAscii-decimal n (omega arith))));
    }

pub names-placed : (ns : List ℕ) → All IsRowNumber ns → All (IsPlace Required IsShortText) (map name_item ns)
names-placed ns all = All-map (IsPlace Required IsShortText) name_item ns (All-weaker IsRowNumber (λ n. IsPlace Required IsShortText (name_item n)) name-short ns all)
