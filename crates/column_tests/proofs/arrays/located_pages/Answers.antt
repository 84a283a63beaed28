use Rattle.std.proofs.Common.{◌≡◌, ◌∙◌, ap, subst, sym}
use Rattle.std.proofs.lemmas.Result.{IfOk-weaker}
use Rattle.parquet_meta.specs.Indexes.{type_of}
use Rattle.parquet_page.specs.Content.{DataContent}
use Rattle.parquet_page.specs.Lent.{Lent}
use Rattle.page_decoding.specs.Column.{DataPagesAre}
use Rattle.flat_values.proofs.ReaderLemmas.{located_pages_are}
use Rattle.column_tests.proofs.arrays.located_pages.Goals as goal

pub returns : goal.returns
returns c =
    let P : DataContent → Type 0 = λ page. page.type.physical_type ≡ c.args.physical in
    let Q : Lent → Type 0 = λ lent. DataPagesAre P lent.pages in
    let type = c.column-column.result.descriptor.primitive_type in
    IfOk-weaker c.new.result _ _
    (λ reader lends. subst Q (sym lends) (located_pages_are P type (λ page e. ap (λ t. t.physical_type) e ∙ ap type_of c.column-column.ensures) _ _)) c.new.ensures.lends
