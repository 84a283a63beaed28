use Rattle.std.proofs.Common.{◌≡◌, drop, map}
use Rattle.scan_program.specs.Parsed.{as_written, items_behind, split_items}
use Rattle.scan_program.proofs.items.items_of.Given as goal

-- the items so far stand in front of those of the texts that are left
abbrev pub invariant-loop-text : goal.invariant-loop-text
invariant-loop-text l =
    split_items (map (λ text. text.now) l.texts)
    ≡ items_behind l.items.fields.items (map as_written l.items.ends.items) (map (λ text. text.now) (drop l.text-index l.texts))
