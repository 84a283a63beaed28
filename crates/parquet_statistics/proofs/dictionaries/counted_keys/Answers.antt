use Rattle.parquet_statistics.proofs.CountedLemmas.{counted_more}
use Rattle.parquet_statistics.proofs.dictionaries.counted_keys.Goals as goal

pub loop-place-preserved : goal.loop-place-preserved
loop-place-preserved g c =
    counted_more g.K.DictionaryKey.number c.loop-place.keys.items c.push.new.self.items c.in-Some.key c.loop-place.place c.in_ok-push-in-Some.ensures.items c.loop-place.invariant c.in-Some.ensures.key
