use Rattle.std.proofs.Common.{◌≡◌, ◌∙◌, ◌+◌, ◌++◌, ◌∷◌, [], length, ap, subst, arith}
use Rattle.std.specs.Prelude.{if◌then◌else◌}
use Rattle.parquet_base.specs.Bytes.{little_endian}
use Rattle.columns_core.specs.Bits.{low_bits, IsPacked}
use Rattle.columns_core.proofs.BitLemmas.{length-low_bits, one_bit}
use Rattle.columns_core.proofs.PackingLemmas.{view_appended}
use Rattle.columns_core.proofs.mutable_bitmap.MutableBitmap.push.Goals as goal

pub invariant_of-self-2 : goal.invariant_of-self-2
invariant_of-self-2 c =
    let s = c.self.inside in
    let long : s.length + 1 ≡ c.in_ok-length.length = omega (arith, ap length c.self.view_is, length-low_bits (little_endian s.bytes.items) s.length, c.in_ok-length.ensures.ok.0) in
    subst (λ n. IsPacked c.push_bit.new.out.items n) long c.in_ok-push_bit.ensures.packed

pub returns-clause-ok : goal.returns-clause-ok
returns-clause-ok c =
    let s = c.self.inside in
    let old = s.bytes.items in
    let long : c.in_ok-length.length ≡ s.length + 1 = omega (arith, ap length c.self.view_is, length-low_bits (little_endian old) s.length, c.in_ok-length.ensures.ok.0) in
    view_appended old c.push_bit.new.out.items s.length 1 c.in_ok-length.length (if c.args.value then 1 else 0) c.self.invariant c.in_ok-push_bit.ensures.added long
    ∙ ap (λ bits. low_bits (little_endian old) s.length ++ bits) (one_bit c.args.value) ∙ ap (λ bits. bits ++ c.args.value ∷ []) c.self.view_is
