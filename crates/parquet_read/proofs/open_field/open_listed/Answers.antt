use Rattle.std.proofs.Common.{◌≡◌, ◌∙◌, ◌++◌, ℕ, Vec, Global, Bor, List, [], ◌∷◌, Option, Some, map, ap, subst}
use Rattle.std.specs.Prelude.{IfOk}
use Rattle.parquet_meta.specs.declared.metadata.ColumnChunkMetaData.{ColumnChunkMetaData}
use Rattle.parquet_page.specs.declared.page.FilteredPage.{FilteredPage}
use Rattle.flat_values.specs.ColumnLeft.{ColumnLeft}
use Rattle.parquet_read.specs.Opening.{ChunkBytes, field_left}
use Rattle.parquet_read.specs.RowGroup.{iter_left}
use Rattle.parquet_read.proofs.open_field.open_listed.Goals as goal

abbrev Held : Type 0
Held = Bor ColumnChunkMetaData × Vec ℕ Global

abbrev bytes_of : Held → ChunkBytes
bytes_of chunk = (chunk.0.now, chunk.1.items)

abbrev items : Vec FilteredPage Global → List FilteredPage
items one = one.items

pub returns-clause-begins : goal.returns-clause-begins
returns-clause-begins c =
    let held : Held = (c.args.column, c.args.bytes) in
    let data_type = c.args.field.data_type in
    let size = c.args.chunk_size in
    let rows = c.args.rows in
    let chunks : map bytes_of c.push.new.self.items ≡ bytes_of held ∷ [] = ap (map bytes_of) (c.in_ok-push.ensures.items ∙ ap (λ (l : List Held). l ++ held ∷ []) c.new-columns.ensures.items) in
    let lists : map items c.push-2.new.self.items ≡ c.args.pages ∷ [] =
    ap (map items) (c.in_ok-push-2.ensures.items ∙ ap (λ (l : List (Vec FilteredPage Global)). l ++ c.into_vec.result ∷ []) c.new-lists.ensures.items) ∙ ap (λ (l : List FilteredPage). l ∷ []) c.into_vec.ensures in
    let same = ap (λ (l : List ChunkBytes). field_left data_type size rows (Some (map items c.push-2.new.self.items)) l) chunks
    ∙ ap (λ (l : List (List FilteredPage)). field_left data_type size rows (Some l) (bytes_of held ∷ [])) lists in
    subst (λ (o : Option ColumnLeft). IfOk c.to_deserializer.result (λ arrays. Some (iter_left arrays) ≡ o)) same c.to_deserializer.ensures.begins
