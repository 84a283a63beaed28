use Rattle.std.proofs.Common.{◌≡◌, ℕ, List, not, refl, ap, ◌∙◌, decimal}
use Rattle.std.specs.Cmp.Lexicographic.{slice_cmp}
use Rattle.std.specs.Ordering.{is_gt, is_le, nat_cmp}
use Rattle.std.specs.declared.cmp.Ordering.{Ordering}
use Rattle.std.specs.declared.cmp.Ordering.TheVariants.{Less, Equal, Greater}
use Rattle.parquet_sample.proofs.number_ends.is_at_most.Goals as goal

le-is : (o : Ordering) → is_le o ≡ not (is_gt o)
le-is Less = refl
le-is Equal = refl
le-is Greater = refl

pub returns : goal.returns
returns c =
    c.is_le.ensures ∙ le-is c.cmp.result
    ∙ ap (λ (o : Ordering). not (is_gt o))
    (c.cmp.ensures ∙ ap (λ (a : List ℕ). slice_cmp nat_cmp a c.as_bytes-2.result.now) (c.as_bytes.ensures.value ∙ c.format.ensures.text)
    ∙ ap (λ (b : List ℕ). slice_cmp nat_cmp (decimal c.args.first) b) (c.as_bytes-2.ensures.value ∙ c.format-2.ensures.text))
