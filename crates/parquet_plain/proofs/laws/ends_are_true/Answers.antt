use Rattle.std.proofs.Common.{◌≡◌, Bool, true, List, ◌∷◌}
use Rattle.std.specs.Prelude.{All}
use Rattle.std.proofs.lemmas.List.Elements.{All-cons}
use Rattle.parquet_page.specs.Stored.{Stored}
use Rattle.parquet_plain.specs.Columns.{greatest, least}
use Rattle.parquet_plain.specs.Orders.{IsNumber, IsOrder, numbers_at_most}
use Rattle.parquet_plain.proofs.NumberOrder.{int64_end-back, numbers_order}
use Rattle.parquet_plain.proofs.OrderLemmas.{greatest-is, int32_end-back, least-is}
use Rattle.parquet_plain.proofs.laws.ends_are_true.Goals as goal

bounds : (P : Stored → Type 0) (at_most : Stored → Stored → Bool) → IsOrder P at_most → (item : Stored) (items : List Stored) → P item → All P items →
    All (λ v. at_most (least at_most item items) v ≡ true) (item ∷ items) × All (λ v. at_most v (greatest at_most item items) ≡ true) (item ∷ items)
bounds P at_most order item items p all =
    let low = least-is P at_most order item items p all in
    let high = greatest-is P at_most order item items p all in
    (All-cons (λ v. at_most (least at_most item items) v ≡ true) item items low.1 low.2, All-cons (λ v. at_most v (greatest at_most item items) ≡ true) item items high.1 high.2)

pub returns : goal.returns
returns c = record { numbers = bounds IsNumber numbers_at_most numbers_order; back = (int32_end-back, int64_end-back) }
