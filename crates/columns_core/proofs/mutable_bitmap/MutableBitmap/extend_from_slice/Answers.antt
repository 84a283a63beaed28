use Rattle.std.proofs.Common.{◌≡◌, ◌∙◌, ◌+◌, ◌/◌, ◌%◌, ◌^◌, ◌++◌, length, ap, subst, arith}
use Rattle.parquet_base.specs.Bytes.{little_endian}
use Rattle.columns_core.specs.Bits.{low_bits, bits_of, IsPacked}
use Rattle.columns_core.proofs.BitLemmas.{length-low_bits, low_bits-mod}
use Rattle.columns_core.proofs.PackingLemmas.{view_appended}
use Rattle.columns_core.proofs.mutable_bitmap.MutableBitmap.extend_from_slice.Goals as goal

pub invariant_of-self-2 : goal.invariant_of-self-2
invariant_of-self-2 c =
    let s = c.self.inside in
    let long : s.length + c.args.len ≡ c.in_ok-length.length = omega (arith, ap length c.self.view_is, length-low_bits (little_endian s.bytes.items) s.length, c.in_ok-length.ensures.ok.0) in
    subst (λ n. IsPacked c.extend_packed.new.out.items n) long c.in_ok-extend_packed.ensures.packed

pub returns-clause-ok : goal.returns-clause-ok
returns-clause-ok c =
    let s = c.self.inside in
    let old = s.bytes.items in
    let long : c.in_ok-length.length ≡ s.length + c.args.len = omega (arith, ap length c.self.view_is, length-low_bits (little_endian old) s.length, c.in_ok-length.ensures.ok.0) in
    view_appended old c.extend_packed.new.out.items s.length c.args.len c.in_ok-length.length (little_endian c.args.bytes.now / 2 ^ c.args.offset % 2 ^ c.args.len) c.self.invariant c.in_ok-extend_packed.ensures.added long
    ∙ ap (λ bits. low_bits (little_endian old) s.length ++ bits) (low_bits-mod (little_endian c.args.bytes.now / 2 ^ c.args.offset) c.args.len) ∙ ap (λ bits. bits ++ bits_of c.args.bytes.now c.args.offset c.args.len) c.self.view_is
