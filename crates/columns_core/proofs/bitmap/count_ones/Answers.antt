use Rattle.std.proofs.Common.{drop, subst, sym, ap, ◌∙◌, arith, add-one}
use Rattle.std.specs.Int.{w64, from_le_bytes}
use Rattle.std.specs.Int.Count.{ones}
use Rattle.std.proofs.lemmas.List.{drop_all}
use Rattle.parquet_base.specs.Bytes.{little_endian}
use Rattle.parquet_base.proofs.BytesLemmas.{AreBytes, AreBytes-drop}
use Rattle.columns_core.proofs.BitLemmas.{ones-step, ones-word, no_ones}
use Rattle.columns_core.proofs.bitmap.count_ones.Goals as goal

pub loop-word-init : goal.loop-word-init
loop-word-init c = (λ i. omega (arith, c.type_inv.bytes i), omega arith)

pub overflow_add-set : goal.overflow_add-set
overflow_add-set c =
    let word = ap ones (c.from_le_bytes.ensures ∙ ap (from_le_bytes w64) c.in-Some.ensures.cases.0) in
    omega (arith, c.loop-word.invariant.1, ones-word c.loop-word.rest.now c.loop-word.invariant.0, word, c.requires)

pub loop-word-preserved : goal.loop-word-preserved
loop-word-preserved c =
    let word = ap ones (c.from_le_bytes.ensures ∙ ap (from_le_bytes w64) c.in-Some.ensures.cases.0) in
    let behind = ap (λ list. ones (little_endian list)) c.in-Some.ensures.cases.1 in
    (subst AreBytes (sym c.in-Some.ensures.cases.1) (AreBytes-drop 8 c.loop-word.rest.now c.loop-word.invariant.0), omega (arith, c.loop-word.invariant.1, ones-word c.loop-word.rest.now c.loop-word.invariant.0, word, behind))

pub overflow_add-set-in-loop-byte : goal.overflow_add-set-in-loop-byte
overflow_add-set-in-loop-byte c =
    omega (arith, c.loop-byte.invariant, ones-step c.loop-word.rest.now c.loop-byte.byte-index c.loop-word.invariant.0, c.requires)

pub loop-byte-preserved : goal.loop-byte-preserved
loop-byte-preserved c =
    let next = ap (λ k. ones (little_endian (drop k c.loop-word.rest.now))) (add-one c.loop-byte.byte-index) in
    omega (arith, c.loop-byte.invariant, ones-step c.loop-word.rest.now c.loop-byte.byte-index c.loop-word.invariant.0, next)

pub returns : goal.returns
returns c =
    let none = ap (λ list. ones (little_endian list)) (drop_all c.loop-byte.byte-index c.loop-word.rest.now c.loop-byte-test.false) ∙ no_ones in
    omega (arith, c.loop-byte.invariant, none)
