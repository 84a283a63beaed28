-- Pieces that are added to a text one behind another.
use Rattle.std.proofs.Common.{◌≡◌, ℕ, List, ◌++◌, ◌∙◌, ap, append_assoc}
use Rattle.std.specs.Prelude.{Result, Ok, Err}
use Rattle.pq_common.specs.Texts.{AddsText}

-- The last piece is added behind the first ones.
pub added_behind : {T E : Type 0} (before front first last new : List ℕ) (r : Result T E) → front ≡ before ++ first → AddsText last front r new → AddsText (first ++ last) before r new
added_behind before front first last new (Ok x) is adds = adds ∙ ap (λ text. text ++ last) is ∙ append_assoc before first last
added_behind before front first last new (Err e) is adds = tt
