use Rattle.std.proofs.Common.{◌≡◌, ◌+◌, ◌-◌, ◌≤◌, ◌∙◌, ◌++◌, ℕ, List, ap, sym, arith, drop, length, length-drop, take}
use Rattle.std.proofs.lemmas.List.{length-take, length-take-le, take-take}
use Rattle.std.proofs.lemmas.Simd.{take_more_put_chunk}
use Rattle.std.proofs.Math.Seq.{take-append-add}
use lib.Lanes.{put_chunk}
use Rattle.parquet_encoding.specs.Places.{bytes_in}
use Rattle.binary_values.proofs.short_strings.write_short.Goals as goal

-- what was copied is the front of what stands there
front : (bytes window : List ℕ) (start long : ℕ) → start + long ≤ length bytes → take long window ≡ take long (take (length bytes - start) (drop start bytes)) → take long window ≡ bytes_in bytes (start, long)
front bytes window start long within is =
    let own : start + long - start ≡ long = omega arith in
    is ∙ take-take long (length bytes - start) (drop start bytes) (omega arith) ∙ ap (λ n. take n (drop start bytes)) (sym own)

pub returns-clause-copied : goal.returns-clause-copied
returns-clause-copied c =
    front c.args.bytes.now c.first_bytes-window.result c.args.start c.args.long c.requires.within
    (c.first_bytes-window.ensures.front c.args.long (omega arith) (omega (arith, c.requires.within, length-take (length c.args.bytes.now - c.args.start) (drop c.args.start c.args.bytes.now), length-drop c.args.start c.args.bytes.now)))

pub returns-clause-written : goal.returns-clause-written
returns-clause-written c =
    let block = c.args.block.now in
    let window = c.first_bytes-window.result in
    let end = c.args.end in
    let long = c.args.long in
    let size : length window ≡ 16 = c.first_bytes-window.ensures.counted in
    let held : length (take end block) ≡ end = length-take-le end block (omega (arith, c.requires.room)) in
    sym (take-take (end + long) (end + 16) (put_chunk end block window) (omega arith))
    ∙ ap (take (end + long)) (take_more_put_chunk end block window (end + 16) (omega (arith, size)) c.requires.room)
    ∙ ap (λ n. take (n + long) (take end block ++ window)) (sym held) ∙ take-append-add (take end block) window long
    ∙ ap (λ more. take end block ++ more) (returns-clause-copied c)
