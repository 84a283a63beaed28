use Rattle.std.proofs.Common.{◌≡◌, ◌∙◌, get_or, arith}
use Rattle.std.proofs.lemmas.List.{get_or_default}
use Rattle.columns_core.proofs.PackingLemmas.{set_above}
use Rattle.columns_core.proofs.packing.or_bits.Goals as goal

pub returns-clause-added : goal.returns-clause-added
returns-clause-added c =
    let bytes = c.args.bytes.now.items in
    let read : c.index_mut.result.now ≡ get_or bytes c.args.at 0 = c.index_mut.ensures.value ∙ get_or_default bytes c.args.at c.index_mut.result.now 0 c.requires.at in
    set_above bytes c.args.at c.args.shift c.args.bits c.index_mut.result.now c.requires.at read (omega (arith, read, c.requires.free)) c.requires.fits
