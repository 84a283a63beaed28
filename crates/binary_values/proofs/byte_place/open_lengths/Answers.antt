use Rattle.std.proofs.Common.{◌∙◌, ap, map}
use Rattle.std.specs.Prelude.{option_map}
use Rattle.parquet_encoding.proofs.PlaceLemmas.{lengths_stand}
use Rattle.parquet_encoding.specs.DeltaLength.{delta_length}
use Rattle.parquet_encoding.specs.JoinedLeft.{joined_left}
use Rattle.parquet_encoding.specs.Places.{bytes_in}
use Rattle.binary_values.proofs.PlaceLemmas.{opened}
use Rattle.binary_values.proofs.byte_place.open_lengths.Goals as goal

pub returns-in-Ok-clause-values : goal.returns-in-Ok-clause-values
returns-in-Ok-clause-values c =
    let bytes = c.args.bytes.now in
    (opened (bytes_in bytes) (delta_length bytes c.args.count) (joined_left c.in-Ok.place bytes) (ap (option_map (map (bytes_in bytes))) c.in-Ok.ensures.values ∙ lengths_stand c.args.count bytes) c.in-Ok.ensures.exact).0

pub returns-in-Ok-clause-spelled : goal.returns-in-Ok-clause-spelled
returns-in-Ok-clause-spelled c =
    let bytes = c.args.bytes.now in
    (opened (bytes_in bytes) (delta_length bytes c.args.count) (joined_left c.in-Ok.place bytes) (ap (option_map (map (bytes_in bytes))) c.in-Ok.ensures.values ∙ lengths_stand c.args.count bytes) c.in-Ok.ensures.exact).1
