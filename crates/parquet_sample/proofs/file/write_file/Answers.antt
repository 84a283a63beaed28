use Rattle.std.proofs.Common.{ℕ, List, ◌++◌, ap, ◌∙◌}
use Rattle.parquet_sample.proofs.FileLemmas.{have_columns, sample-is}
use Rattle.parquet_sample.proofs.file.write_file.Goals as goal
use Rattle.parquet_write.specs.Parts.{starts_of}
use Rattle.parquet_write.specs.Told.{end_of_file_bytes}
use Rattle.parquet_write.specs.declared.facts.Bases.{Bases}
use Rattle.parquet_write.specs.declared.parts.Parts.{Parts}

pub write_end_of_file-requires : goal.write_end_of_file-requires
write_end_of_file-requires c = record {
  even = have_columns (starts_of c.in_ok-parts.parts) c.args.first c.args.rows c.deref.result.now c.deref-2.result.now (c.deref.ensures.value ∙ c.in_ok-columns.ensures) (c.deref-2.ensures.value ∙ c.in_ok-groups.ensures.told);
}

pub returns : goal.returns
returns c =
    let now : Parts = c.write_groups.new.parts in
    let front : List ℕ = (now.chunks.items ++ now.indexes.items) ++ now.locations.items in
    record {
      written = c.in_ok-write_end_of_file.ensures.written
          ∙ ap (λ (bs : List ℕ). bs ++ end_of_file_bytes c.deref.result.now (c.in_ok-bytes.field-0).bases c.deref-2.result.now) c.in_ok-bytes.ensures.bytes
          ∙ ap (λ (own : Bases). front ++ end_of_file_bytes c.deref.result.now own c.deref-2.result.now) c.in_ok-bytes.ensures.bases
          ∙ sample-is c.args.first c.args.rows c.in_ok-parts.parts now c.deref.result.now c.deref-2.result.now c.in_ok-parts.ensures c.in_ok-groups.ensures.adds
          (c.deref-2.ensures.value ∙ c.in_ok-groups.ensures.told) (c.deref.ensures.value ∙ c.in_ok-columns.ensures);
    }
