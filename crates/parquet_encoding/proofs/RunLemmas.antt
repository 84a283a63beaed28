-- Runs that begin at a place.
use Rattle.std.proofs.Common.{◌≡◌, ◌≢◌, ℕ, suc, ◌+◌, ◌-◌, ◌*◌, ◌/◌, ◌%◌, ◌^◌, ◌<◌, ◌≤◌, min, leb, true, false, List, ◌∷◌, length, take, drop, replicate, Option, None, refl, sym, ap, ◌∙◌, arith, inl, inr}
use Rattle.std.proofs.Math.Nat.{mul-add-div, div-add-mod, div-le_of_le-mul}
use Rattle.std.proofs.lemmas.Bool.{cases_lt, le-leb, lt-leb, eq-eqb}
use Rattle.std.proofs.lemmas.Bool.Decides.{eqb_tells}
use Rattle.std.proofs.lemmas.List.{length-drop, length-replicate, drop-drop, drop_all}
use Rattle.std.proofs.lemmas.Nat.{le-div}
use Rattle.std.proofs.Math.Seq.{drop-cons}
use Rattle.std.specs.Prelude.{get_or}
use Rattle.parquet_base.proofs.VarintLemmas.{short}
use Rattle.parquet_base.specs.Reading.{◌>>=◌}
use Rattle.parquet_base.specs.Bytes.{little_endian}
use Rattle.parquet_base.specs.Varint.{varint}
use Rattle.parquet_encoding.specs.Bits.{bits_at}
use Rattle.parquet_encoding.specs.Places.{VarintAt}
use Rattle.parquet_encoding.specs.Hybrid.{Groups, Copies, first_run, run_of, byte_width}
use Rattle.parquet_encoding.specs.HybridRun.{count_of, run_values, IsIn, Opens, OpensPacked, OpensRepeated}
use Rattle.parquet_encoding.specs.declared.run.OpenedRun.{OpenedRun}
use Rattle.parquet_encoding.specs.declared.run.HybridRun.TheVariants.{Packed, Repeated}
use Rattle.parquet_encoding.specs.declared.run.HybridRun.{HybridRun}
use Rattle.parquet_base.proofs.BytesLemmas.{AreBytes, AreBytes-drop, little_endian-take}
use Rattle.parquet_encoding.proofs.BitsLemmas.{bits_at-drop, packed-drop, length-packed}

-- ---- counting

-- eight values for each whole group, and those of the rest
pub eight_each : (size width : ℕ) → 0 < width → 8 * (size / width) + size % width * 8 / width ≡ 8 * size / width
eight_each size width positive =
    let split : width * (8 * (size / width)) + size % width * 8 ≡ 8 * size = omega (arith, div-add-mod size width) in
    sym (mul-add-div positive (8 * (size / width)) (size % width * 8)) ∙ ap (λ n. n / width) split

-- groups that lie in the room
pub all_lie : (groups room width : ℕ) → 0 < width → groups * width ≤ room → 8 * groups ≤ 8 * room / width
all_lie groups room width positive inside = le-div (8 * groups) (8 * room) width positive (omega arith)

-- groups that reach past it
pub some_lie : (groups room width : ℕ) → 0 < width → room ≤ groups * width → 8 * room / width ≤ 8 * groups
some_lie groups room width positive past = div-le_of_le-mul width (omega arith)

pub drop_capped : (body n : ℕ) (bytes : List ℕ) → drop (body + min n (length bytes - body)) bytes ≡ drop n (drop body bytes)
drop_capped body n bytes =
    elim (cases_lt (length bytes - body) n) [
      | inl cut ↦ drop_all (body + min n (length bytes - body)) bytes (omega arith) ∙ sym (drop_all n (drop body bytes) (omega (arith, length-drop body bytes)))
      | inr all ↦ let n-is : min n (length bytes - body) ≡ n = omega arith in ap (λ k. drop (body + k) bytes) n-is ∙ sym (drop-drop n body bytes)
    ]

-- ---- the first run

div-one-of : (n width : ℕ) → n / 2 ^ 0 % 2 ^ width ≡ n % 2 ^ width
div-one-of n width = ap (λ m. m % 2 ^ width) (omega arith)

after_varint : {A : Type 0} (bytes : List ℕ) (place : ℕ) (read : ℕ × ℕ) (f : ℕ × List ℕ → Option A) → VarintAt bytes place read → (varint (drop place bytes) >>= f) ≡ f (read.0, drop read.1 bytes)
after_varint bytes place read f at = ap (λ r. r >>= f) at.value

-- a header with its lowest bit
groups_header : (header : ℕ) → header % 2 ≡ 1 → run_of header ≡ Groups (header / 2)
groups_header header odd = rw (eq-eqb _ _ odd) refl

copies_header : (header : ℕ) → header % 2 ≢ 1 → run_of header ≡ Copies (header / 2)
copies_header header even = elim (eqb_tells (header % 2) 1) [ inl same ↦ absurd (even same.1) | inr other ↦ rw other.0 refl ]

-- a header of one byte
pub short_header : (bytes : List ℕ) (place header : ℕ) → place < length bytes → get_or bytes place 0 ≡ header → header < 128 → VarintAt bytes place (header, place + 1)
short_header bytes place header there is low =
    let next : suc place ≡ place + 1 = omega arith in
    let split : drop place bytes ≡ header ∷ drop (place + 1) bytes =
    drop-cons bytes place 0 there ∙ ap (λ byte. byte ∷ drop (suc place) bytes) is ∙ ap (λ n. header ∷ drop n bytes) next in
    record { value = ap varint split ∙ short header (drop (place + 1) bytes) low; after = omega arith; within = omega arith }

pub opens_packed : (bytes : List ℕ) (place width wanted header body : ℕ) (opened : OpenedRun) → AreBytes bytes → VarintAt bytes place (header, body) → header % 2 ≡ 1
    → OpensPacked bytes body width (header / 2) wanted opened → Opens bytes place width wanted opened
unfolding first_run
opens_packed bytes place width wanted header body opened fits at odd packs =
    let groups = header / 2 in
    let room = 8 * (length bytes - body) / width in
    let room-is : 8 * length (drop body bytes) / width ≡ room = ap (λ n. 8 * n / width) (length-drop body bytes) in
    let count-is : min (min (8 * groups) (8 * length (drop body bytes) / width)) wanted ≡ count_of opened.run = ap (λ n. min (min (8 * groups) n) wanted) room-is ∙ sym packs.count in
    let start : 8 * body + 0 ≡ 8 * body = omega arith in
    record {
      lies = packs.lies;
      is_first = after_varint bytes place (header, body) _ at
          ∙ rw (groups_header header odd, count-is, packed-drop bytes body width 0 (count_of opened.run) fits, start, ← packs.after, ← packs.values) refl;
      most = omega (arith, packs.count);
      after = omega (arith, at.after, packs.no_earlier);
      within = packs.within;
    }

-- copies lie nowhere
copies_lie : (bytes : List ℕ) (opened : OpenedRun) (value count : ℕ) → opened.run ≡ Repeated value count → IsIn bytes opened.run
copies_lie bytes opened value count is = rw is tt

copies_count : (opened : OpenedRun) (value count : ℕ) → opened.run ≡ Repeated value count → count_of opened.run ≡ count
copies_count opened value count is = ap count_of is

copies_values : (bytes : List ℕ) (opened : OpenedRun) (value count : ℕ) → opened.run ≡ Repeated value count → run_values opened.run bytes ≡ replicate count value
copies_values bytes opened value count is = ap (λ run. run_values run bytes) is

pub opens_repeated : (bytes : List ℕ) (place width wanted header body : ℕ) (opened : OpenedRun) → AreBytes bytes → VarintAt bytes place (header, body) → header % 2 ≢ 1
    → OpensRepeated bytes body width (header / 2) wanted opened → Opens bytes place width wanted opened
unfolding first_run
opens_repeated bytes place width wanted header body opened fits at even repeats =
    let size = byte_width width in
    let value = bits_at bytes (8 * body + 0) (8 * size) in
    let count = min (header / 2) wanted in
    let there : leb size (length (drop body bytes)) ≡ true = le-leb _ _ (omega (arith, length-drop body bytes, repeats.end, repeats.within)) in
    let value-is : little_endian (take size (drop body bytes)) ≡ value =
    little_endian-take size (drop body bytes) (AreBytes-drop body bytes fits) ∙ sym (div-one-of (little_endian (drop body bytes)) (8 * size)) ∙ bits_at-drop bytes body 0 (8 * size) fits in
    let end : drop opened.end bytes ≡ drop size (drop body bytes) = ap (λ n. drop n bytes) repeats.end ∙ sym (drop-drop size body bytes) in
    record {
      lies = copies_lie bytes opened value count repeats.run;
      is_first = after_varint bytes place (header, body) _ at ∙ rw (copies_header header even, there, value-is, ← end, copies_values bytes opened value count repeats.run) refl;
      most = omega (arith, copies_count opened value count repeats.run);
      after = omega (arith, at.after, repeats.end);
      within = repeats.within;
    }

pub no_header : (bytes : List ℕ) (place width wanted : ℕ) → varint (drop place bytes) ≡ None → first_run width wanted (drop place bytes) ≡ None
unfolding first_run
no_header bytes place width wanted e = rw e refl

pub no_value : (bytes : List ℕ) (place width wanted header body : ℕ) → VarintAt bytes place (header, body) → header % 2 ≢ 1 → length bytes < body + byte_width width → first_run width wanted (drop place bytes) ≡ None
unfolding first_run
no_value bytes place width wanted header body at even short =
    let size = byte_width width in
    let missing : leb size (length (drop body bytes)) ≡ false = lt-leb _ _ (omega (arith, length-drop body bytes)) in
    after_varint bytes place (header, body) _ at ∙ rw (copies_header header even, missing) refl

pub length-run_values : (bytes : List ℕ) (run : HybridRun) → length (run_values run bytes) ≡ count_of run
length-run_values bytes (Packed run) = length-packed bytes run.width (8 * run.place + run.bit) run.count
length-run_values bytes (Repeated value count) = length-replicate count value
