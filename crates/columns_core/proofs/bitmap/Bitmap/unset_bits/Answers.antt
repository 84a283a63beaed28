use Rattle.std.proofs.Common.{ap, arith}
use Rattle.std.specs.List.{count_by}
use Rattle.std.specs.Prelude.{not}
use Rattle.std.specs.Int.Count.{ones}
use Rattle.std.proofs.lemmas.Nat.{ones-le}
use Rattle.parquet_base.specs.Bytes.{little_endian}
use Rattle.columns_core.proofs.BitLemmas.{unset_and_ones}
use Rattle.columns_core.proofs.bitmap.Bitmap.unset_bits.Goals as goal

pub count_ones-set-requires : goal.count_ones-set-requires
count_ones-set-requires c =
    let same = ap (λ list. ones (little_endian list)) c.as_slice.ensures.value in
    let most = ones-le c.self.inside.length (little_endian c.self.inside.bytes.items) c.self.invariant.below in
    omega (arith, most, same)

pub overflow_sub-result : goal.overflow_sub-result
overflow_sub-result c =
    let same = ap (λ list. ones (little_endian list)) c.as_slice.ensures.value in
    let most = ones-le c.self.inside.length (little_endian c.self.inside.bytes.items) c.self.invariant.below in
    omega (arith, c.count_ones-set.ensures, most, same)

pub returns : goal.returns
returns c =
    let same = ap (λ list. ones (little_endian list)) c.as_slice.ensures.value in
    let split = unset_and_ones (little_endian c.self.inside.bytes.items) c.self.inside.length c.self.invariant.below in
    let seen = ap (count_by not) c.self.view_is in
    omega (arith, c.count_ones-set.ensures, same, split, seen)
