use Rattle.std.proofs.Common.{◌≡◌, ◌-◌, ◌<◌, ◌∙◌, sym, ap, length, drop, unwrap_or, [], arith, FitsSigned, rules}
use Rattle.std.specs.Int.{w64}
use Rattle.std.specs.Prelude.{is_some, option_map}
use Rattle.parquet_base.specs.Reading.{after}
use Rattle.parquet_encoding.specs.DeltaBinary.{blocks, running_sums, delta_binary}
use Rattle.parquet_encoding.specs.DeltaLeft.{delta_left}
use Rattle.parquet_encoding.specs.DeltaWalk.{deltas_behind, deltas_left}
use Rattle.parquet_encoding.proofs.StepLemmas.{not_ok}
use Rattle.parquet_encoding.proofs.SumLemmas.{same_number}
use Rattle.parquet_encoding.proofs.DeltaWalkLemmas.{length-blocks}
use Rattle.parquet_encoding.proofs.HeaderLemmas.{read_of, all_deltas, read_is, other_total, after_read, is_some-after, none_read, all_read, length-read}
use Rattle.parquet_encoding.proofs.delta_binary.DeltaBinary.try_new.Goals as goal

pub returns-then-header-count-clause-exact : goal.returns-then-header-count-clause-exact
returns-then-header-count-clause-exact c = sym (ap is_some (other_total c.args.bytes.now c.in_ok-header.header c.args.count c.in_ok-header.ensures.ok c.if-header-count.true))

pub returns-in_err-end-clause-exact : goal.returns-in_err-end-clause-exact
returns-in_err-end-clause-exact c =
    let bytes = c.args.bytes.now in
    let h = c.in_ok-header.header in
    let at = c.in_ok-header.ensures.ok in
    let behind : deltas_behind c.new-deltas.result bytes ≡ all_deltas h c.args.count bytes =
    c.new-deltas.ensures.behind bytes at.within ∙ ap (λ n. blocks (length bytes) h.size h.parts n (drop h.start bytes)) c.saturating_sub.ensures in
    not_ok _ c.from_residual-in_err-end.ensures.0
    ∙ sym (ap is_some (read_is bytes h c.args.count at c.if-header-count.false ∙ ap (read_of h.first c.args.count) (sym behind ∙ c.in_err-end.ensures.err)))

pub returns-then-count-eq0-clause-end : goal.returns-then-count-eq0-clause-end
returns-then-count-eq0-clause-end c =
    let bytes = c.args.bytes.now in
    let h = c.in_ok-header.header in
    let at = c.in_ok-header.ensures.ok in
    let behind : deltas_behind c.new-deltas.result bytes ≡ all_deltas h c.args.count bytes =
    c.new-deltas.ensures.behind bytes at.within ∙ ap (λ n. blocks (length bytes) h.size h.parts n (drop h.start bytes)) c.saturating_sub.ensures in
    ap after (read_is bytes h c.args.count at c.if-header-count.false) ∙ after_read h.first c.args.count (all_deltas h c.args.count bytes) ∙ ap after (sym behind) ∙ c.in_ok-end.ensures.ok

pub returns-else-count-eq0-clause-end : goal.returns-else-count-eq0-clause-end
returns-else-count-eq0-clause-end c =
    let bytes = c.args.bytes.now in
    let h = c.in_ok-header.header in
    let at = c.in_ok-header.ensures.ok in
    let behind : deltas_behind c.new-deltas.result bytes ≡ all_deltas h c.args.count bytes =
    c.new-deltas.ensures.behind bytes at.within ∙ ap (λ n. blocks (length bytes) h.size h.parts n (drop h.start bytes)) c.saturating_sub.ensures in
    ap after (read_is bytes h c.args.count at c.if-header-count.false) ∙ after_read h.first c.args.count (all_deltas h c.args.count bytes) ∙ ap after (sym behind) ∙ c.in_ok-end.ensures.ok

pub returns-then-count-eq0-clause-exact : goal.returns-then-count-eq0-clause-exact
returns-then-count-eq0-clause-exact c = sym (is_some-after (delta_binary c.args.count c.args.bytes.now) _ (returns-then-count-eq0-clause-end c))

pub returns-else-count-eq0-clause-exact : goal.returns-else-count-eq0-clause-exact
returns-else-count-eq0-clause-exact c = sym (is_some-after (delta_binary c.args.count c.args.bytes.now) _ (returns-else-count-eq0-clause-end c))

pub returns-then-count-eq0-clause-values : goal.returns-then-count-eq0-clause-values
unfolding delta_left
returns-then-count-eq0-clause-values c =
    let bytes = c.args.bytes.now in
    let h = c.in_ok-header.header in
    let at = c.in_ok-header.ensures.ok in
    let o = all_deltas h c.args.count bytes in
    let read = read_is bytes h c.args.count at c.if-header-count.false in
    let there = is_some-after o _ (sym (after_read h.first c.args.count o) ∙ sym (ap after read) ∙ returns-then-count-eq0-clause-end c) in
    none_read h.first c.args.count o c.if-count-eq0.true there ∙ sym (ap (option_map (λ read. read.0)) read)

pub returns-then-count-eq0-clause-counted : goal.returns-then-count-eq0-clause-counted
unfolding delta_left
returns-then-count-eq0-clause-counted c = sym c.if-count-eq0.true

pub returns-else-count-eq0-clause-values : goal.returns-else-count-eq0-clause-values
unfolding delta_left
returns-else-count-eq0-clause-values c =
    let bytes = c.args.bytes.now in
    let h = c.in_ok-header.header in
    let at = c.in_ok-header.ensures.ok in
    let fits : FitsSigned w64 h.first = search rules in
    let o = all_deltas h c.args.count bytes in
    let left : deltas_left c.new-deltas.result bytes ≡ option_map (λ read. read.0) o =
    c.new-deltas.ensures.left bytes at.within ∙ ap (λ n. option_map (λ read. read.0) (blocks (length bytes) h.size h.parts n (drop h.start bytes))) c.saturating_sub.ensures in
    let positive : 0 < c.args.count = omega arith in
    ap (λ v. option_map (running_sums v) (deltas_left c.new-deltas.result bytes)) (same_number h.first fits)
    ∙ ap (option_map (running_sums h.first)) left
    ∙ all_read h.first c.args.count o positive (λ read e. length-blocks (length bytes) h.size h.parts (c.args.count - 1) (drop h.start bytes) read e)
    ∙ sym (ap (option_map (λ read. read.0)) (read_is bytes h c.args.count at c.if-header-count.false))

pub returns-else-count-eq0-clause-counted : goal.returns-else-count-eq0-clause-counted
returns-else-count-eq0-clause-counted c =
    let bytes = c.args.bytes.now in
    let h = c.in_ok-header.header in
    let at = c.in_ok-header.ensures.ok in
    let o = all_deltas h c.args.count bytes in
    let read = read_is bytes h c.args.count at c.if-header-count.false in
    let there = is_some-after o _ (sym (after_read h.first c.args.count o) ∙ sym (ap after read) ∙ returns-else-count-eq0-clause-end c) in
    ap (λ values. length (unwrap_or values [])) (returns-else-count-eq0-clause-values c ∙ ap (option_map (λ read. read.0)) read)
    ∙ length-read h.first c.args.count o there (λ read e. length-blocks (length bytes) h.size h.parts (c.args.count - 1) (drop h.start bytes) read e)
