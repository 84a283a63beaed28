use Rattle.std.proofs.Common.{◌<◌, ◌^◌, Some, sym, ap, ◌∙◌, arith, ℕ}
use Rattle.parquet_meta.proofs.FooterLemmas as at_end
use Rattle.parquet_meta.proofs.read.read_metadata.Goals as goal

pub returns-in_default-footer_length-clause-footer : goal.returns-in_default-footer_length-clause-footer
returns-in_default-footer_length-clause-footer g c =
    at_end.no_length (g.S.Source.told c.args.source.now) c.in-Ok.size _ c.in-Ok.ensures.size c.if-size-lt-LEAST_SIZE.false (rw c.size.ensures.same at c.in_ok-end.ensures.part)
    (sym (rw c.as_slice.ensures.value at c.footer_length.ensures) ∙ c.in_default-footer_length.is)

pub returns-then-before_end-length-clause-footer : goal.returns-then-before_end-length-clause-footer
returns-then-before_end-length-clause-footer g c =
    at_end.too_long (g.S.Source.told c.args.source.now) c.in-Ok.size _ c.from-length.result c.in-Ok.ensures.size c.if-size-lt-LEAST_SIZE.false (rw c.size.ensures.same at c.in_ok-end.ensures.part)
    (sym (rw c.as_slice.ensures.value at c.in-Some.ensures) ∙ ap (λ (n : ℕ). Some n) (sym c.from-length.ensures)) c.if-before_end-length.true

pub returns-in_err-bytes-clause-taken : goal.returns-in_err-bytes-clause-taken
returns-in_err-bytes-clause-taken g c =
    let at = at_end.placed (g.S.Source.told c.args.source.now) c.in-Ok.size _ c.from-length.result c.in-Ok.ensures.size c.if-size-lt-LEAST_SIZE.false (rw c.size.ensures.same at c.in_ok-end.ensures.part)
    (sym (rw c.as_slice.ensures.value at c.in-Some.ensures) ∙ ap (λ (n : ℕ). Some n) (sym c.from-length.ensures)) c.if-before_end-length.false in
    let few : c.from-length.result < 2 ^ 32 = omega (arith, c.from-length.ensures) in
    omega (arith, at_end.takes (g.S.Source.told c.args.source.now) (at_end.before_eight c.in-Ok.size c.from-length.result) at few, c.size.ensures.taken, c.in_ok-end.ensures.taken, c.in_err-bytes.ensures.taken)

pub returns-in-Ok-meta_data_in-clause-footer : goal.returns-in-Ok-meta_data_in-clause-footer
returns-in-Ok-meta_data_in-clause-footer g c =
    let at = at_end.placed (g.S.Source.told c.args.source.now) c.in-Ok.size _ c.from-length.result c.in-Ok.ensures.size c.if-size-lt-LEAST_SIZE.false (rw c.size.ensures.same at c.in_ok-end.ensures.part)
    (sym (rw c.as_slice.ensures.value at c.in-Some.ensures) ∙ ap (λ (n : ℕ). Some n) (sym c.from-length.ensures)) c.if-before_end-length.false in
    at_end.says (g.S.Source.told c.args.source.now) (at_end.before_eight c.in-Ok.size c.from-length.result) _ _ at (rw (c.in_ok-end.ensures.keeps.same, c.size.ensures.same) at c.in_ok-bytes.ensures.part)
    c.in-Ok-meta_data_in.ensures

pub returns-in-Ok-meta_data_in-clause-taken : goal.returns-in-Ok-meta_data_in-clause-taken
returns-in-Ok-meta_data_in-clause-taken g c =
    let at = at_end.placed (g.S.Source.told c.args.source.now) c.in-Ok.size _ c.from-length.result c.in-Ok.ensures.size c.if-size-lt-LEAST_SIZE.false (rw c.size.ensures.same at c.in_ok-end.ensures.part)
    (sym (rw c.as_slice.ensures.value at c.in-Some.ensures) ∙ ap (λ (n : ℕ). Some n) (sym c.from-length.ensures)) c.if-before_end-length.false in
    let few : c.from-length.result < 2 ^ 32 = omega (arith, c.from-length.ensures) in
    omega (arith, at_end.takes (g.S.Source.told c.args.source.now) (at_end.before_eight c.in-Ok.size c.from-length.result) at few, c.size.ensures.taken, c.in_ok-end.ensures.taken, c.in_ok-bytes.ensures.taken)

pub returns-clause-footer : goal.returns-clause-footer
returns-clause-footer g c =
    let at = at_end.placed (g.S.Source.told c.args.source.now) c.in-Ok.size _ c.from-length.result c.in-Ok.ensures.size c.if-size-lt-LEAST_SIZE.false (rw c.size.ensures.same at c.in_ok-end.ensures.part)
    (sym (rw c.as_slice.ensures.value at c.in-Some.ensures) ∙ ap (λ (n : ℕ). Some n) (sym c.from-length.ensures)) c.if-before_end-length.false in
    rw c.at.ensures
    (at_end.refuses _ c.in-Err.fault (g.S.Source.told c.args.source.now) _ _ (at_end.before_eight c.in-Ok.size c.from-length.result) _ at (rw (c.in_ok-end.ensures.keeps.same, c.size.ensures.same) at c.in_ok-bytes.ensures.part)
    c.in-Err.ensures)

pub returns-clause-taken : goal.returns-clause-taken
returns-clause-taken g c =
    let at = at_end.placed (g.S.Source.told c.args.source.now) c.in-Ok.size _ c.from-length.result c.in-Ok.ensures.size c.if-size-lt-LEAST_SIZE.false (rw c.size.ensures.same at c.in_ok-end.ensures.part)
    (sym (rw c.as_slice.ensures.value at c.in-Some.ensures) ∙ ap (λ (n : ℕ). Some n) (sym c.from-length.ensures)) c.if-before_end-length.false in
    let few : c.from-length.result < 2 ^ 32 = omega (arith, c.from-length.ensures) in
    omega (arith, at_end.takes (g.S.Source.told c.args.source.now) (at_end.before_eight c.in-Ok.size c.from-length.result) at few, c.size.ensures.taken, c.in_ok-end.ensures.taken, c.in_ok-bytes.ensures.taken)
