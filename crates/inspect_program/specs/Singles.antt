-- How often the paths of columns begin with a name.
use Rattle.std.specs.Prelude.{◌≡◌, ℕ, List, count_by, unwrap_or}
use Rattle.std.specs.BTreeMap.{BTreeMap, get_by}
use Rattle.std.specs.Borrow.{Bor}
use Rattle.std.specs.Cmp.Lexicographic.{slice_cmp}
use Rattle.std.specs.Ordering.{nat_cmp}
use Rattle.parquet_meta.specs.declared.metadata.ColumnDescriptor.{ColumnDescriptor}
use Rattle.inspect_program.specs.Guess.{is_begun}

-- how many columns the map has for a name
abbrev pub begun_count : BTreeMap (Bor (List ℕ)) ℕ → List ℕ → ℕ
begun_count counts name = unwrap_or (get_by (λ (key : Bor (List ℕ)). slice_cmp nat_cmp name key.now) counts) 0

-- The map tells of each name how many columns have a path that begins with it.
abbrev pub IsCountOf : List ColumnDescriptor → BTreeMap (Bor (List ℕ)) ℕ → Type 0
IsCountOf columns counts = (name : List ℕ) → begun_count counts name ≡ count_by (is_begun name) columns
