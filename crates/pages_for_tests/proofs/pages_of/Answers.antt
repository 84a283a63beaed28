use Rattle.std.proofs.Common.{◌≡◌, ◌∙◌, ap, subst, sym}
use Rattle.std.proofs.lemmas.Result.{IfOk-weaker}
use Rattle.parquet_page.specs.Content.{DataContent}
use Rattle.parquet_page.specs.Lending.{DataPagesAre}
use Rattle.parquet_page.specs.Lent.{Lent}
use Rattle.parquet_page.proofs.ReaderLemmas.{chunk_pages_are}
use Rattle.parquet_meta.specs.Indexes.{type_of}
use Rattle.pages_for_tests.proofs.pages_of.Goals as goal

pub returns-clause-typed : goal.returns-clause-typed
returns-clause-typed c =
    let P : DataContent → Type 0 = λ page. page.type.physical_type ≡ c.args.physical in
    let Q : Lent → Type 0 = λ lent. DataPagesAre P lent.pages in
    let type = c.column-column.result.descriptor.primitive_type in
    IfOk-weaker c.new.result _ _
    (λ reader lends. subst Q (sym lends) (chunk_pages_are P type (λ page e. ap (λ t. t.physical_type) e ∙ ap type_of c.column-column.ensures) c.column-column.result.num_values c.in_ok-chunk_of.field-0.items)) c.new.ensures.lends
