use Rattle.std.proofs.Common.{◌∙◌, sym}
use Rattle.binary_values.proofs.AsciiLemmas.{ascii-both}
use Rattle.binary_values.proofs.short_strings.both.Goals as goal

pub returns : goal.returns
returns c = ascii-both c.args.seen c.args.window (c.fits-seen.0 ∙ sym c.fits-window.0)
