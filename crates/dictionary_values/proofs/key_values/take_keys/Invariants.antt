use Rattle.std.proofs.Common.{Some}
use Rattle.columns_core.specs.declared.cell.Cell.{Int}
use Rattle.flat_values.specs.KeysLeft.{IsAmongKeys, keys}
use Rattle.flat_values.specs.Outcomes.{entry_outcome}
use Rattle.flat_values.proofs.TakeLemmas.{Turn}
use Rattle.dictionary_values.specs.KeysGiven.{numbers_below}
use Rattle.dictionary_values.proofs.key_values.take_keys.Given as goal

-- the keys so far were added
abbrev pub invariant-loop-left : goal.invariant-loop-left
invariant-loop-left g l = record {
  among : IsAmongKeys l.bytes l.place;
  turn : Turn (λ key. Int (g.K.DictionaryKey.number key)) (entry_outcome (Some (numbers_below l.limit))) l.fn.found.items l.found.items l.count l.left (keys l.fn.place l.bytes) (keys l.place l.bytes);
}

abbrev pub decreases-loop-left : goal.decreases-loop-left
decreases-loop-left g l = l.left
