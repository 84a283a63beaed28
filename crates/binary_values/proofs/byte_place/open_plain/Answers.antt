use Rattle.std.proofs.Common.{◌∙◌, ap, map}
use Rattle.std.specs.Prelude.{option_map}
use Rattle.parquet_encoding.proofs.PlaceLemmas.{bytes_stand}
use Rattle.parquet_encoding.specs.Places.{bytes_in}
use Rattle.parquet_encoding.specs.Plain.{plain_bytes}
use Rattle.parquet_encoding.specs.PlainLeft.{strings_left}
use Rattle.binary_values.proofs.PlaceLemmas.{opened}
use Rattle.binary_values.proofs.byte_place.open_plain.Goals as goal

pub returns-in-Ok-clause-values : goal.returns-in-Ok-clause-values
returns-in-Ok-clause-values c =
    let bytes = c.args.bytes.now in
    (opened (bytes_in bytes) (plain_bytes bytes c.args.count) (strings_left c.in-Ok.place bytes) (ap (option_map (map (bytes_in bytes))) c.in-Ok.ensures.values ∙ bytes_stand c.args.count bytes) c.in-Ok.ensures.exact).0

pub returns-in-Ok-clause-spelled : goal.returns-in-Ok-clause-spelled
returns-in-Ok-clause-spelled c =
    let bytes = c.args.bytes.now in
    (opened (bytes_in bytes) (plain_bytes bytes c.args.count) (strings_left c.in-Ok.place bytes) (ap (option_map (map (bytes_in bytes))) c.in-Ok.ensures.values ∙ bytes_stand c.args.count bytes) c.in-Ok.ensures.exact).1
