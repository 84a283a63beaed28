use Rattle.std.proofs.Common.{◌≡◌, ℕ, List, Option, ◌++◌, ap, ◌∙◌}
use Rattle.std.specs.List.{slice_range}
use Rattle.std.proofs.lemmas.Result.{IfOk-weaker}
use Rattle.parquet_page.specs.Stored.{Stored}
use Rattle.parquet_plain.specs.Bodies.{body_bytes, levels_of, present, values_bytes}
use Rattle.parquet_write.proofs.pages.write_body.Goals as goal

pub returns : goal.returns
unfolding body_bytes
returns g c =
    let rows : List (Option Stored) = slice_range (g.I.Items.items c.args.items.now) c.args.from c.args.to in
    let values : List ℕ = values_bytes (g.I.Items.type_ c.args.items.now) (present rows) in
    let front : c.write_levels_of.new.room.body.items ≡ levels_of c.args.repetition rows =
    c.in_ok-write_levels_of.ensures ∙ ap (λ (bs : List ℕ). bs ++ levels_of c.args.repetition rows) c.clear.ensures.items in
    IfOk-weaker c.write_values.result _ _ (λ x written. written ∙ ap (λ (bs : List ℕ). bs ++ values) front) c.write_values.ensures
