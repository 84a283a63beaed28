-- Equality of values: it holds exactly where they are the same.
use Rattle.std.specs.Prelude.{Bool, true, false, ◌&&◌, ◌==◌}
use base.Stored.{Coded, Gv, gnil, gnum, gcons}

-- two trees of numbers are the same
unfoldable pub same_tree : Gv → Gv → Bool
same_tree gnil gnil = true
same_tree (gnum m) (gnum n) = m == n
same_tree (gcons a b) (gcons c d) = same_tree a c && same_tree b d
same_tree _ _ = false

-- two values are the same, seen by the trees that stand for them
unfoldable pub is_same : {T : Type 0} → Coded T → T → T → Bool
is_same coded a b = same_tree (coded.code a) (coded.code b)
