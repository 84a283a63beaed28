use Rattle.std.proofs.Common.{◌≡◌, ◌∙◌, ◌+◌, ◌-◌, ◌^◌, ◌++◌, length, replicate, ap, subst, arith}
use Rattle.std.specs.Prelude.{if◌then◌else◌}
use Rattle.parquet_base.specs.Bytes.{little_endian}
use Rattle.columns_core.specs.Bits.{low_bits, IsPacked}
use Rattle.columns_core.proofs.BitLemmas.{length-low_bits, constant}
use Rattle.columns_core.proofs.PackingLemmas.{view_appended}
use Rattle.columns_core.proofs.mutable_bitmap.MutableBitmap.extend_constant.Goals as goal

pub invariant_of-self-2 : goal.invariant_of-self-2
invariant_of-self-2 c =
    let s = c.self.inside in
    let long : s.length + c.args.additional ≡ c.in_ok-length.length = omega (arith, ap length c.self.view_is, length-low_bits (little_endian s.bytes.items) s.length, c.in_ok-length.ensures.ok.0) in
    subst (λ n. IsPacked c.extend_with.new.out.items n) long c.in_ok-extend_with.ensures.packed

pub returns-clause-ok : goal.returns-clause-ok
returns-clause-ok c =
    let s = c.self.inside in
    let old = s.bytes.items in
    let long : c.in_ok-length.length ≡ s.length + c.args.additional = omega (arith, ap length c.self.view_is, length-low_bits (little_endian old) s.length, c.in_ok-length.ensures.ok.0) in
    view_appended old c.extend_with.new.out.items s.length c.args.additional c.in_ok-length.length (if c.args.value then 2 ^ c.args.additional - 1 else 0) c.self.invariant c.in_ok-extend_with.ensures.added long
    ∙ ap (λ bits. low_bits (little_endian old) s.length ++ bits) (constant c.args.additional c.args.value) ∙ ap (λ bits. bits ++ replicate c.args.additional c.args.value) c.self.view_is

pub extend_with-requires-clause-counted : goal.extend_with-requires-clause-counted
extend_with-requires-clause-counted c =
    let s = c.self.inside in
    omega (arith, ap length c.self.view_is, length-low_bits (little_endian s.bytes.items) s.length, c.in_ok-length.ensures.ok.0, c.in_ok-length.ensures.ok.1)
