use Rattle.std.proofs.Common.{◌≡◌, ◌++◌, ◌∙◌, ap, length, take, drop, arith}
use Rattle.std.proofs.lemmas.List.{length-take, take_all}
use Rattle.parquet_encoding.specs.HybridRun.{count_of, run_values}
use Rattle.parquet_encoding.specs.HybridLeft.{hybrid_left}
use Rattle.parquet_encoding.proofs.RunLemmas.{length-run_values}
use Rattle.parquet_encoding.proofs.HybridLeftLemmas.{gives_whole}
use Rattle.parquet_encoding.proofs.hybrid.HybridRle.fill_run.Goals as goal

pub returns : goal.returns
unfolding hybrid_left
returns c =
    let s = c.args.self.now in
    let bytes = c.args.bytes.now in
    let out = c.args.out.now in
    let opened = c.in-Some.opened in
    let count = c.len-count.result in
    let own = run_values opened.run bytes in
    let none : count_of s.run ≡ 0 = omega arith in
    let whole = gives_whole s.run s.width bytes s.behind s.next count opened none c.requires.spelled (omega arith) (c.in-Some.ensures.opens s.behind (omega arith)) c.len-count.ensures in
    let room : length (take count out) ≡ count = length-take count out ∙ omega (arith, c.in-Some.ensures.most) in
    let part : c.unpack.new.out ≡ own = c.unpack.ensures ∙ take_all _ own (omega (arith, room, length-run_values bytes opened.run)) in
    record {
      ended = λ zero. absurd (omega (arith, zero, c.in-Some.ensures.some));
      few = whole.few;
      room = omega (arith, c.in-Some.ensures.most);
      values = ap (λ front. front ++ drop count out) (part ∙ whole.values);
      rest = whole.rest;
    }
