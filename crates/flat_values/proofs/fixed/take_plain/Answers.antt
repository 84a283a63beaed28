use Rattle.std.proofs.Common.{◌∙◌, ◌*◌, ◌%◌, ◌++◌, length, map, take, ap}
use Rattle.std.specs.Prelude.{min}
use Rattle.std.proofs.Math.Nat.{mul-mod_left}
use Rattle.parquet_encoding.specs.Places.{bytes_in}
use Rattle.parquet_encoding.specs.PlainLeft.{fixed_values, value_size}
use Rattle.flat_values.proofs.FixedPlaceLemmas.{cut_part}
use Rattle.flat_values.proofs.fixed.take_plain.Goals as goal

pub extend_from_plain-requires : goal.extend_from_plain-requires
extend_from_plain-requires c =
    let count = min c.args.count (length (fixed_values c.args.place c.args.bytes.now)) in
    ap (λ n. n % c.args.items.now.size) (c.take.ensures.whole ∙ ap (λ size. count * size) c.requires.size) ∙ mul-mod_left count c.args.items.now.size

pub returns-clause-added : goal.returns-clause-added
returns-clause-added c =
    let values = fixed_values c.args.place c.args.bytes.now in
    let old = c.args.items.now in
    c.in_ok-extend_from_plain.ensures.ok
    ∙ ap (λ own. record { size = old.size; items = old.items ++ own })
    (cut_part old.size (value_size c.args.place) (min c.args.count (length values)) c.take.result.now (map (bytes_in c.args.bytes.now) (take c.args.count values)) c.requires.some c.requires.size c.take.ensures.whole c.take.ensures.values)
