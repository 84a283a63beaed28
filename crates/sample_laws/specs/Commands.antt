-- What a command line asks of a sample.
use Rattle.std.specs.Prelude.{ℕ, IsSomeAnd, List, Option, String}
use Rattle.std.specs.declared.alloc.Global.{Global}
use Rattle.parquet_scan.specs.Request.{Request}
use Rattle.sample_laws.specs.Laws.{IsGoodFor}
use Rattle.scan_program.specs.Sampled.{told_by}

-- The words name bytes that are good for the request, whatever bytes the source tells.
abbrev pub IsAlwaysGoodFor : Request → List (String Global) → Type 0
IsAlwaysGoodFor request words = (told : Option (List ℕ)) → IsSomeAnd (told_by words told) (IsGoodFor request)
