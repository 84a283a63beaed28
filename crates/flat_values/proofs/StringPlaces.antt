-- Byte strings that stand each behind its length, before the first.
use Rattle.std.proofs.Common.{◌≡◌, ℕ, true, false, List, [], map, Option, Some, None, refl, sym, ap, ◌∙◌, arith}
use Rattle.std.specs.Prelude.{is_some, IsSome, option_map, unwrap_or}
use Rattle.std.proofs.lemmas.Bool.{true≢false}
use Rattle.std.proofs.lemmas.Simd.{map-map}
use Rattle.columns_core.specs.Causes.{ExternalFormat, IsOneOf, NotYetImplemented, and_then, unless}
use Rattle.parquet_encoding.specs.Places.{bytes_in}
use Rattle.parquet_encoding.specs.Plain.{plain_bytes}
use Rattle.parquet_meta.specs.declared.metadata.PhysicalType.TheVariants.{ByteArray}
use Rattle.parquet_page.specs.Stored.{Octets}
use Rattle.parquet_page.specs.Content.{DataContent}
use Rattle.parquet_page.specs.Opened.{page_causes}
use Rattle.parquet_page.specs.Values.{Plain, plain_values}
use Rattle.flat_values.specs.FlatLeft.{read_encoding}
use Rattle.flat_values.specs.PlainStrings.{is_plain_encoding, string_causes}

-- what stands at the places is what is found
pub strings-opened : (bytes : List ℕ) (count : ℕ) (left : Option (List (ℕ × ℕ))) → option_map (map (bytes_in bytes)) left ≡ plain_bytes bytes count → true ≡ is_some (plain_bytes bytes count)
    → (plain_values ByteArray bytes count ≡ Some (map (λ at. Octets (bytes_in bytes at)) (unwrap_or left []))) × IsSome left
unfolding plain_values
strings-opened bytes count None e there = absurd (true≢false (there ∙ ap is_some (sym e)))
strings-opened bytes count (Some places) e there = (ap (option_map (map Octets)) (sym e) ∙ ap Some (map-map Octets (bytes_in bytes) places), refl)

some-mapped : {A B : Type 0} (f : A → B) (o : Option A) → is_some (option_map f o) ≡ is_some o
some-mapped f None = refl
some-mapped f (Some x) = refl

pub strings-missing : (bytes : List ℕ) (count : ℕ) → is_some (plain_bytes bytes count) ≡ false → IsOneOf (unless (is_some (plain_values ByteArray bytes count)) ExternalFormat) (Some ExternalFormat)
unfolding plain_values
strings-missing bytes count none =
    let all = ap (λ b. unless b ExternalFormat) (some-mapped (map Octets) (plain_bytes bytes count) ∙ none) in
    rw all (0, omega arith, refl)

-- ---- pages that are refused

-- of a page in plain values what is wrong with it is what is wrong with any page
pub plain-causes : (page : DataContent) → read_encoding false page ≡ Some Plain → string_causes page ≡ page_causes None false None page
plain-causes page read = ap (λ encoding. and_then (unless (is_plain_encoding encoding) NotYetImplemented) (page_causes None false None page)) read
