-- The pages that a reader lends are of the column's type.
pub use Rattle.parquet_page.proofs.ReaderLemmas.{chunk_pages_are, located_pages_are}
