use Rattle.std.proofs.Common.{◌≡◌, ◌+◌, List, ℕ, subst, sym, length, map, take, Vec, Global}
use Rattle.std.specs.Prelude.{filter, zip, IfErr, IfOk, OnOk}
use Rattle.columns_core.specs.Array.{cells}
use Rattle.parquet_base.specs.Pieces.{cut}
use Rattle.parquet_page.specs.Lent.{Lent, is_wanted}
use Rattle.parquet_page.specs.Located.{dictionary_in}
use Rattle.page_decoding.specs.Bytes.{IsCausedByChunks}
use Rattle.page_decoding.specs.Column.{DataPagesAre}
use Rattle.page_decoding.specs.Outcome.{Given}
use Rattle.flat_values.specs.MostBytes.{most_bytes}
use Rattle.parquet_scan.specs.Decoded.{column_rows, pages_for}
use Rattle.parquet_scan.proofs.located.decode_located.Goals as goal
use Rattle.flat_values.proofs.ReaderLemmas.{located_pages_are}

pub decode_column-requires-clause-typed : goal.decode_column-requires-clause-typed
decode_column-requires-clause-typed g c =
    let stored = c.args.typed.column.now.descriptor.primitive_type in
    let items : Vec ℕ Global → List ℕ = λ body. body.items in
    subst (λ (lent : Lent). DataPagesAre (λ page. page.type ≡ stored) lent.pages) (sym c.in_ok-reader.ensures.lends)
    (located_pages_are (λ page. page.type ≡ stored) stored (λ page same. same) (dictionary_in c.args.parts.before.items) (zip (filter is_wanted c.args.parts.pages.items) (map items c.args.parts.bodies.items)))

pub returns-clause-chunks : goal.returns-clause-chunks
returns-clause-chunks g c =
    let stored = c.args.typed.column.now.descriptor.primitive_type in
    subst (λ (lent : Lent). IfOk c.decode_column.result (λ found. map (λ array. map Given (cells array)) found.0.items ≡ cut c.args.chunk_size (take c.args.num_rows (column_rows stored c.args.typed.data_type.now lent.pages lent.causes))))
    c.in_ok-reader.ensures.lends c.decode_column.ensures.chunks

pub returns-clause-cause : goal.returns-clause-cause
returns-clause-cause g c =
    let stored = c.args.typed.column.now.descriptor.primitive_type in
    subst (λ (lent : Lent). IfErr c.decode_column.result (IsCausedByChunks (most_bytes c.args.typed.data_type.now) c.args.chunk_size (take c.args.num_rows (column_rows stored c.args.typed.data_type.now lent.pages lent.causes))))
    c.in_ok-reader.ensures.lends c.decode_column.ensures.cause

pub returns-clause-lent : goal.returns-clause-lent
returns-clause-lent g c =
    let stored = c.args.typed.column.now.descriptor.primitive_type in
    subst (λ (lent : Lent). OnOk c.decode_column.result (c.decode_column.new.steps ≡ c.args.steps.now + length (pages_for stored c.args.typed.data_type.now c.args.num_rows lent.pages))) c.in_ok-reader.ensures.lends c.decode_column.ensures.lent
