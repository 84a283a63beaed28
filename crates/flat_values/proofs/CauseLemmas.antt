-- What errors tell of, where rows stand in front.
use Rattle.std.proofs.Common.{ℕ, List, inl}
use Rattle.std.specs.Prelude.{Option, None, Result, Ok, Err, IfErr}
use Rattle.columns_core.specs.Causes.{IsWantOfMemory}
use Rattle.columns_core.specs.declared.error.Error.{Error}
use Rattle.page_decoding.specs.Bytes.{IsCausedByChunks}
use Rattle.page_decoding.specs.Outcome.{Outcome}

pub memory-told : {T : Type 0} (result : Result T Error) (most : Option ℕ) (rows : List Outcome) → IfErr result IsWantOfMemory → IfErr result (IsCausedByChunks most None rows)
memory-told (Ok value) most rows memory = tt
memory-told (Err error) most rows memory = inl (inl memory)
