use Rattle.parquet_meta.specs.Meaning.{truth_element}
use Rattle.parquet_meta.proofs.Rules.{IsReadingList}
use Rattle.parquet_meta.proofs.column_index.decode_truth_elements.Given as goal

abbrev pub invariant-elements : goal.invariant-elements
invariant-elements l = IsReadingList truth_element l.kind l.count l.fn.compact l.counter l.truths.items l.compact
