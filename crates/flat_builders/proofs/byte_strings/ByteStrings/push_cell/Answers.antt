use Rattle.std.proofs.Common.{◌≡◌, ap, ◌∙◌}
use Rattle.std.specs.Prelude.{IsTrue, IsUtf8}
use Rattle.flat_builders.specs.Strings.{string_cell}
use Rattle.flat_builders.proofs.KeptLemmas.{Seen, all_fit, pushed, refused, same_text, typed}
use Rattle.flat_builders.proofs.byte_strings.ByteStrings.push_cell.Goals as goal

pub returns-in-Some : goal.returns-in-Some
returns-in-Some g c =
    let held = c.args.self.now in
    let new = c.push-in-Some.new.self in
    let string = c.in-Some.bytes.now in
    let cell = c.args.cell.now in
    let result = c.push-in-Some.result in
    let found = c.push-in-Some.ensures in
    let large = g.O.Offset.is_large in
    let most = g.O.Offset.greatest in
    let text : c.self.inside.is_text ≡ held.0 = ap (λ (column : Seen). column.0) c.self.view_is in
    let is : cell ≡ string_cell held.0 string = c.in-Some.ensures.some.0 ∙ ap (λ own. string_cell own string) text in
    let judged : IsTrue held.0 → IsUtf8 string = λ h. c.in-Some.ensures.some.1 (text ∙ h) in
    record {
      ok = pushed held new cell string large most result is judged found.ok;
      text = same_text held new cell string large most result is judged found.ok found.same;
      typed = typed held new cell string large most result is judged found.ok;
      fits = all_fit held new cell string large most result is judged found.fits;
      same = found.same;
      err = refused held new cell string large most result is judged found.err;
    }
