use Rattle.std.proofs.Common.{◌∙◌, ap, map, sym}
use Rattle.std.specs.Prelude.{is_ok, is_some, option_map}
use Rattle.columns_core.specs.Causes.{ExternalFormat, unless}
use Rattle.parquet_encoding.proofs.PlaceLemmas.{bytes_stand}
use Rattle.parquet_encoding.specs.Places.{bytes_in}
use Rattle.parquet_encoding.specs.PlainLeft.{strings_left}
use Rattle.flat_values.proofs.StringPlaces.{strings-missing, strings-opened}
use Rattle.flat_values.proofs.string_states.open_strings.Goals as goal

pub returns-in-Ok-clause-values : goal.returns-in-Ok-clause-values
returns-in-Ok-clause-values c =
    let bytes = c.args.bytes.now in
    (strings-opened bytes c.args.count (strings_left c.in-Ok.place bytes) (ap (option_map (map (bytes_in bytes))) c.in-Ok.ensures.values ∙ bytes_stand c.args.count bytes) c.in-Ok.ensures.exact).0

pub returns-in-Ok-clause-over : goal.returns-in-Ok-clause-over
returns-in-Ok-clause-over c =
    let bytes = c.args.bytes.now in
    (strings-opened bytes c.args.count (strings_left c.in-Ok.place bytes) (ap (option_map (map (bytes_in bytes))) c.in-Ok.ensures.values ∙ bytes_stand c.args.count bytes) c.in-Ok.ensures.exact).1

pub returns-in-Ok-clause-ok : goal.returns-in-Ok-clause-ok
returns-in-Ok-clause-ok c =
    let bytes = c.args.bytes.now in
    ap (λ o. unless (is_some o) ExternalFormat) (strings-opened bytes c.args.count (strings_left c.in-Ok.place bytes) (ap (option_map (map (bytes_in bytes))) c.in-Ok.ensures.values ∙ bytes_stand c.args.count bytes) c.in-Ok.ensures.exact).0

pub returns-in-Err-clause-cause : goal.returns-in-Err-clause-cause
returns-in-Err-clause-cause c = strings-missing c.args.bytes.now c.args.count (sym c.try_new.ensures.exact ∙ ap is_ok c.in-Err.is)
