-- Pages as places in bytes.
use Rattle.std.specs.Prelude.{◌≡◌, ℕ, ◌<◌, ◌≤◌, List, length, drop, slice_range, Option, Some}
use Rattle.parquet_base.specs.declared.interval.Interval.{Interval}
use Rattle.parquet_meta.specs.declared.metadata.PrimitiveType.{PrimitiveType}
use Rattle.parquet_meta.specs.declared.page_header.PageKind.{PageKind}
use Rattle.parquet_meta.specs.declared.page_header.PageKind.TheVariants as kind
use Rattle.parquet_page.specs.Chunk.{page_at}
use Rattle.parquet_page.specs.Content.{Content, DataOf, DictOf}
use Rattle.parquet_page.specs.declared.found.FoundPage.{FoundPage}

abbrev pub found_body : List ℕ → FoundPage → List ℕ
found_body bytes found = slice_range bytes found.body found.end

pub record IsInside (bytes : List ℕ) (found : FoundPage) : Type 0 where
  pub order : found.body ≤ found.end
  pub within : found.end ≤ length bytes

pub record FoundAt (bytes : List ℕ) (place : ℕ) (found : FoundPage) : Type 0 where
  pub value : page_at (drop place bytes) ≡ Some (record { kind = found.kind; body = found_body bytes found }, drop found.end bytes)
  pub after : place < found.end
  pub inside : IsInside bytes found

-- what is lent of a page of a kind
abbrev pub kind_content : PrimitiveType → Option (List Interval) → PageKind → List ℕ → Content
kind_content type selected (kind.Data header) body = DataOf (record { header = header; body = body; type = type; selected = selected })
kind_content type selected (kind.Dictionary num_values encoding) body = DictOf (record { body = body; num_values = num_values })

abbrev pub found_content : PrimitiveType → Option (List Interval) → List ℕ → FoundPage → Content
found_content type selected bytes found = kind_content type selected found.kind (found_body bytes found)
