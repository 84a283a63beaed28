use Rattle.std.proofs.Common.{◌≡◌, List, [], ◌∷◌, ◌++◌, ◌∙◌, ap, arith}
use Rattle.std.proofs.lemmas.Grind.{common_steps}
use Rattle.columns_core.specs.declared.array.Array.{Array}
use Rattle.columns_core.specs.declared.array.Array.TheVariants.{Int64}
use Rattle.parquet_meta.specs.Lists.{all_of}
use Rattle.put_program.proofs.LineLemmas.{is_left}
use Rattle.put_program.proofs.ProgramLemmas.{one_chunk}
use Rattle.put_program.proofs.program.chunks_of.Goals as goal

pub returns-clause-held : goal.returns-clause-held
returns-clause-held c =
    let none : List (List Array) = c.new-chunks.result.items in
    let pushed : c.push.new.self.items ≡ none ++ c.in_ok-chunk_of.field-0 ∷ [] = c.in_ok-push.ensures.items in
    let first : none ++ c.in_ok-chunk_of.field-0 ∷ [] ≡ [] ++ c.in_ok-chunk_of.field-0 ∷ [] = ap (λ chunks. chunks ++ c.in_ok-chunk_of.field-0 ∷ []) c.new-chunks.ensures.items in
    let made : [] ++ c.in_ok-chunk_of.field-0 ∷ [] ≡ (Int64 c.in_ok-column.column ∷ []) ∷ [] = ap (λ (chunk : List Array). chunk ∷ []) c.in_ok-chunk_of.ensures.chunk in
    one_chunk c.args.text.now c.in_ok-column.column c.push.new.self.items
    (is_left c.args.text.now c.is_empty.result c.is_empty.ensures c.if-is_empty.false) c.in_ok-column.ensures.typed c.in_ok-column.ensures.told (pushed ∙ first ∙ made)

pub returns-then-is_empty-clause-held : goal.returns-then-is_empty-clause-held
unfolding all_of
returns-then-is_empty-clause-held c = grind (arith, common_steps)
