use Rattle.std.proofs.Common.{map}
use Rattle.parquet_read.proofs.AskedLemmas.{IsAsked, whole_of}
use Rattle.parquet_read.proofs.asked.ask_whole.Given as goal

abbrev pub invariant-fields : goal.invariant-fields
invariant-fields l = IsAsked l.asked.items (map whole_of l.field-iterator.rest.items) (map whole_of l.fn.fields.items)
