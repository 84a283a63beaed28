use Rattle.std.proofs.Common.{◌∙◌, ap, get_or, refl}
use Rattle.std.specs.Prelude.{◌||◌, nat_le}
use Rattle.std.proofs.lemmas.List.{take_all}
use Rattle.parquet_page.specs.Values.{has_key_past}
use Rattle.flat_values.proofs.KeyLemmas.{none_greater, one_greater}
use Rattle.flat_values.proofs.keys.greatest.Goals as goal

pub loop-key-init : goal.loop-key-init
loop-key-init c entries = none_greater entries

pub loop-key-preserved : goal.loop-key-preserved
loop-key-preserved c entries =
    let key = get_or c.args.keys.now c.loop-key.key-index 0 in
    ap (nat_le entries) c.greater-most.ensures ∙ one_greater entries c.loop-key.most key c.loop-key.key-index c.args.keys.now c.loop-key-test.true refl (c.loop-key.invariant entries)

pub returns : goal.returns
returns c entries =
    c.loop-key.invariant entries ∙ ap (λ keys. nat_le entries 0 || has_key_past entries keys) (take_all c.loop-key.key-index c.args.keys.now c.loop-key-test.false)
