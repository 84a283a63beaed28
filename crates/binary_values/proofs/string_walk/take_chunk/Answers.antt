use Rattle.std.proofs.Common.{◌∙◌, ◌++◌, [], ap, arith, inl, inr, length, map, take, unwrap_or}
use Rattle.std.specs.Prelude.{sum_by}
use Rattle.std.proofs.lemmas.List.Sums.{sum_by-append}
use Rattle.parquet_encoding.specs.Places.{bytes_in}
use Rattle.parquet_page.proofs.RefusalLemmas.{passed_on}
use Rattle.binary_values.proofs.JoinedLemmas.{cut-of}
use Rattle.binary_values.proofs.string_walk.take_chunk.Goals as goal

pub push_joined-requires-clause-sum : goal.push_joined-requires-clause-sum
push_joined-requires-clause-sum g c =
    let left = unwrap_or (g.W.StringWalk.places c.args.walk c.args.bytes.now) [] in
    (cut-of (bytes_in c.args.bytes.now) (take (length c.args.lengths.now) left) c.join_short.new.lengths _ c.in-Some.ensures.lengths c.in-Some.ensures.joined).sum

pub returns-in_err-push_joined-in-Some-clause-err : goal.returns-in_err-push_joined-in-Some-clause-err
returns-in_err-push_joined-in-Some-clause-err g c =
    let left = unwrap_or (g.W.StringWalk.places c.args.walk c.args.bytes.now) [] in
    let cut = cut-of (bytes_in c.args.bytes.now) (take (length c.args.lengths.now) left) c.join_short.new.lengths _ c.in-Some.ensures.lengths c.in-Some.ensures.joined in
    passed_on c.from_residual.result _ _ c.from_residual.ensures.1 (
    elim c.in_err-push_joined-in-Some.ensures.err.1 [
      | inl memory ↦ inl memory
      | inr past ↦ inr (past.0, omega (arith, past.1, cut.bytes))
    ])

pub returns-in_ok-push_joined-in-Some-clause-added : goal.returns-in_ok-push_joined-in-Some-clause-added
returns-in_ok-push_joined-in-Some-clause-added g c =
    let left = unwrap_or (g.W.StringWalk.places c.args.walk c.args.bytes.now) [] in
    let cut = cut-of (bytes_in c.args.bytes.now) (take (length c.args.lengths.now) left) c.join_short.new.lengths _ c.in-Some.ensures.lengths c.in-Some.ensures.joined in
    c.in_ok-push_joined-in-Some.ensures.ok ∙ ap (λ more. c.args.strings.now ++ more) cut.strings

pub returns-in_ok-push_joined-in-Some-clause-fits : goal.returns-in_ok-push_joined-in-Some-clause-fits
returns-in_ok-push_joined-in-Some-clause-fits g c =
    let f = bytes_in c.args.bytes.now in
    let left = unwrap_or (g.W.StringWalk.places c.args.walk c.args.bytes.now) [] in
    let items = take (length c.args.lengths.now) left in
    let cut = cut-of f items c.join_short.new.lengths _ c.in-Some.ensures.lengths c.in-Some.ensures.joined in
    let is = c.in_ok-push_joined-in-Some.ensures.ok ∙ ap (λ more. c.args.strings.now ++ more) cut.strings in
    omega (arith, c.in_ok-push_joined-in-Some.ensures.fits, ap (sum_by length) is, sum_by-append length c.args.strings.now (map f items), cut.bytes)
