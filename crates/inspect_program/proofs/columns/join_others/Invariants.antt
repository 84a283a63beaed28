use Rattle.std.proofs.Common.{◌≡◌, ◌++◌, codes, drop}
use Rattle.std.specs.Prelude.{flat_map}
use Rattle.inspect_program.proofs.columns.join_others.Given as goal

-- the path and the names that are left are the whole
abbrev pub invariant-loop-name : goal.invariant-loop-name
invariant-loop-name l =
    l.path.items ++ flat_map (λ name. codes "." ++ name) (drop l.name-index l.names)
    ≡ l.initial.path.items ++ flat_map (λ name. codes "." ++ name) l.names
