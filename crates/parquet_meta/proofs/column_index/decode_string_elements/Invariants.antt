use Rattle.parquet_meta.specs.Meaning.{byte_string}
use Rattle.parquet_meta.proofs.Rules.{IsReadingList}
use Rattle.parquet_meta.proofs.column_index.decode_string_elements.Given as goal

abbrev pub invariant-elements : goal.invariant-elements
invariant-elements l = IsReadingList byte_string l.kind l.count l.fn.compact l.counter l.strings l.compact
