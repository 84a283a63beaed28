use Rattle.std.proofs.Common.{◌≡◌, ◌^◌, ◌-◌, true, List, Option, ap, subst, arith}
use Rattle.std.specs.Prelude.{option_map}
use Rattle.parquet_base.specs.declared.interval.Interval.{Interval}
use Rattle.parquet_base.proofs.ShapeLemmas.{shape-wider}
use Rattle.parquet_page.specs.Content.{fit_in}
use Rattle.page_decoding.proofs.filtered_validity.before_all.Goals as goal

pub new-requires : goal.new-requires
new-requires c =
    let P : Option (List Interval) → Type 0 = λ o. fit_in c.args.count o ≡ true in
    shape-wider 0 c.in-Some.rows.now c.args.count (2 ^ 64 - 1) (omega arith) (subst P (ap (option_map (λ rows. rows.now)) c.in-Some.is) c.requires)
