use Rattle.std.proofs.Common.{◌∙◌, ◌*◌, ◌%◌, ℕ, List, length, map, take, ap, subst, sym}
use Rattle.std.specs.Prelude.{min}
use Rattle.std.proofs.Math.Nat.{mul-mod_left}
use Rattle.parquet_encoding.specs.Places.{bytes_in}
use Rattle.parquet_encoding.specs.PlainLeft.{fixed_values, value_size}
use Rattle.parquet_page.specs.Stored.{Octets}
use Rattle.flat_values.specs.Added.{Adds}
use Rattle.flat_values.specs.Outcomes.{stored_outcome}
use Rattle.flat_values.proofs.FixedPlaceLemmas.{cut_part}
use Rattle.flat_values.proofs.fixed_numbers.take_plain.Goals as goal

pub extend_strings-requires-clause-whole : goal.extend_strings-requires-clause-whole
extend_strings-requires-clause-whole g c =
    let count = min c.args.count (length (fixed_values c.args.place c.args.bytes.now)) in
    ap (λ n. n % c.size-size.result) (c.take.ensures.whole ∙ ap (λ size. count * size) (c.requires.size ∙ sym c.size-size.ensures.size)) ∙ mul-mod_left count c.size-size.result

pub returns-clause-added : goal.returns-clause-added
returns-clause-added g c =
    let values = fixed_values c.args.place c.args.bytes.now in
    let taken = map (bytes_in c.args.bytes.now) (take c.args.count values) in
    let strings = cut_part c.size-size.result (value_size c.args.place) (min c.args.count (length values)) c.take.result.now taken c.size-size.ensures.some (c.requires.size ∙ sym c.size-size.ensures.size) c.take.ensures.whole c.take.ensures.values in
    let P : List (List ℕ) → Type 0 = λ found. Adds g.T.NativeType.cell c.args.values.now.items c.extend_strings.new.values.items (map (λ value. stored_outcome (g.C.ConvertFixed.rule c.args.rule) (Octets value)) found) in
    subst P strings c.in_ok-extend_strings.ensures
