use Rattle.std.proofs.Common.{sym, subst}
use Rattle.columns_core.specs.Joined.{AreTextItems}
use Rattle.columns_core.proofs.TextLemmas.{text-items}
use Rattle.columns_core.proofs.utf8.Utf8Array.of_texts.Goals as goal

pub invariant_of-result : goal.invariant_of-result
invariant_of-result g c = subst AreTextItems (sym c.new.ensures) (text-items c.args.offsets c.args.values.items c.args.validity c.requires.fit c.requires.texts)
