use Rattle.std.proofs.Common.{◌≡◌, ◌∙◌, ◌++◌, ℕ, List, drop, ap, ap₂, arith, inl, inr, length, map, subst, sym, take}
use Rattle.std.specs.Prelude.{nat_abs, sum_by}
use Rattle.std.specs.Str.{IsAscii}
use Rattle.std.proofs.lemmas.List.{length-append, take_all, take-append-le}
use Rattle.columns_core.specs.Offsets.{AreOffsets, parts}
use Rattle.columns_core.proofs.OffsetLemmas.{more_ends}
use Rattle.binary_values.specs.JoinedStrings.{cut_into}
use Rattle.binary_values.proofs.AsciiLemmas.{ascii-more, none-behind}
use Rattle.binary_values.proofs.EndLemmas.{parts-joined}
use Rattle.columns_core.proofs.PartLemmas.{sum-parts}
use Rattle.binary_values.proofs.strings.Strings.push_joined.Goals as goal
use Rattle.binary_values.proofs.strings.Strings.push_joined.Goals.{then-are_ascii, else-are_ascii}

pub invariant_of-self-in-Ok : goal.invariant_of-self-in-Ok
invariant_of-self-in-Ok g c =
    let values = c.self.inside.values.items in
    let joined = c.args.joined.now in
    let ends = c.in-Ok.ensures in
    let AsciiFrom : ℕ → Type 0 = λ from. IsAscii (drop from c.extend_from_slice.new.self.items) in (
      subst AreOffsets (sym ends.ok) (more_ends c.self.inside.offsets c.args.lengths.now c.self.invariant.0).0,
      omega (arith, ends.last, c.self.invariant.1, c.requires.sum, ap length c.in_ok-extend_from_slice.ensures.items, length-append values joined),
      ends.fits c.self.invariant.2,
      elim c.if-are_ascii.branch [
        | then-are_ascii w ↦ subst AsciiFrom (sym w.self-is) (subst (λ (bytes : List ℕ). IsAscii (drop c.self.inside.ascii_from bytes)) (sym c.in_ok-extend_from_slice.ensures.items) (ascii-more c.self.inside.ascii_from values joined c.self.invariant.3 (c.requires.ascii w.if-are_ascii.true)))
        | else-are_ascii w ↦ subst AsciiFrom (sym w.self-is) (none-behind c.extend_from_slice.new.self.items w.len-self-inside.result (omega (arith, w.len-self-inside.ensures)))
      ],
    )

pub returns-after-are_ascii-clause-ok : goal.returns-after-are_ascii-clause-ok
returns-after-are_ascii-clause-ok g c =
    let offsets = c.self.inside.offsets in
    let values = c.self.inside.values.items in
    let joined = c.args.joined.now in
    ap₂ parts c.in-Ok.ensures.ok c.in_ok-extend_from_slice.ensures.items ∙ parts-joined c.args.lengths.now offsets values joined c.self.invariant.0 c.self.invariant.1 c.requires.sum
    ∙ ap (λ xs. xs ++ cut_into (map nat_abs c.args.lengths.now) joined) c.self.view_is

pub returns-after-are_ascii-clause-fits : goal.returns-after-are_ascii-clause-fits
returns-after-are_ascii-clause-fits g c =
    let sum = sum-parts c.self.inside.offsets c.self.inside.values.items c.self.invariant.0 c.self.invariant.1 in
    omega (arith, c.in-Ok.ensures.last, c.in-Ok.ensures.fits c.self.invariant.2, c.requires.sum, sum, c.self.invariant.1, ap (sum_by length) c.self.view_is)

pub returns-in-Err-clause-err : goal.returns-in-Err-clause-err
returns-in-Err-clause-err g c =
    let offsets = c.self.inside.offsets in
    let values = c.self.inside.values.items in
    let joined = c.args.joined.now in
    let held : c.len-before.result ≡ length values = omega (arith, c.len-before.ensures) in
    let kept : take (length values) (values ++ joined) ≡ values = take-append-le (length values) values joined (omega arith) ∙ take_all (length values) values (omega arith) in
    let sum = sum-parts offsets values c.self.invariant.0 c.self.invariant.1 in (
      ap (λ o. parts o c.truncate.new.self.items) c.in-Err.ensures.err.0
          ∙ ap (parts offsets) (c.truncate.ensures.items ∙ ap (λ n. take n c.extend_from_slice.new.self.items) held ∙ ap (take (length values)) c.in_ok-extend_from_slice.ensures.items ∙ kept)
          ∙ c.self.view_is,
      elim c.in-Err.ensures.err.1 [
        | inl memory ↦ inl memory
        | inr past ↦ inr (past.0, omega (arith, past.1, c.requires.sum, sum, c.self.invariant.1, ap (sum_by length) c.self.view_is))
      ],
    )
