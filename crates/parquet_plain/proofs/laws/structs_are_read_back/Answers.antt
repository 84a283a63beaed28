use Rattle.parquet_plain.proofs.StructLemmas.{page_header-written, locations-written, column_index-written}
use Rattle.parquet_plain.proofs.laws.structs_are_read_back.Goals as goal

pub returns : goal.returns
returns c = record { headers = page_header-written; locations = locations-written; indexes = column_index-written }
