use Rattle.std.proofs.Common.{◌≡◌, ◌<◌, ◌∙◌, [], length, map, ap, sym, arith}
use Rattle.std.specs.VecDeque.{deque_len}
use Rattle.std.proofs.lemmas.List.{get_or-map, length-map}
use Rattle.parquet_scan.proofs.TurnedLemmas.{first_count}
use Rattle.parquet_scan.proofs.chunks.chunk_count.Goals as goal

pub returns-in-len1-up : goal.returns-in-len1-up
returns-in-len1-up c =
    let columns = c.args.columns.now in
    let first = c.first-item.result in
    let some : 0 < length columns = omega (arith, c.in-len1-up.len_at_least) in
    let own : deque_len first ≡ length first.items = omega arith in
    c.len.ensures ∙ own ∙ first_count (map (λ column. column.items) columns) (length first.items) (omega (arith, some, length-map columns (λ column. column.items)))
    (ap (λ column. length column.items) c.first-item.is ∙ ap length (sym (get_or-map (λ column. column.items) columns 0 first [] some)))
