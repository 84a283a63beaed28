use Rattle.flat_values.proofs.OrderLemmas.{keeps_order, keeps_order_of_words}
use Rattle.flat_values.proofs.laws.timestamps_keep_their_order.Goals as goal

pub returns : goal.returns
returns c = record { numbers = keeps_order; words = keeps_order_of_words }
