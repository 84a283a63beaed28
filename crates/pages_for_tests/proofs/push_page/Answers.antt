use Rattle.std.proofs.Common.{◌≡◌, ◌∙◌, ◌+◌, ◌++◌, ap, arith, length, sym}
use Rattle.pages_for_tests.specs.Pages.{bytes_of_page, size}
use Rattle.pages_for_tests.proofs.PageLemmas.{five_parts, four_parts, last_if, last_part, three_parts}
use Rattle.pages_for_tests.proofs.push_page.Goals as goal

pub returns-in_ok-extend_from_slice-in-First-2 : goal.returns-in_ok-extend_from_slice-in-First-2
returns-in_ok-extend_from_slice-in-First-2 c =
    let old = c.args.chunk.now.items in
    let whole = ap (λ bytes. old ++ bytes) (sym (ap bytes_of_page c.in-First.is)) in
    let is = rw (c.in_ok-extend_from_slice-in-First-2.ensures.items, c.in_ok-extend_from_slice-in-First.ensures.items, c.in_ok-push_head-in-First.ensures, c.size_of.ensures, c.twice.ensures, c.twice-in-First.ensures) at c.push_body.ensures in
    last_part c.push_body.result c.push_body.new.chunk.items _ (old ++ bytes_of_page c.args.page) is (four_parts old _ _ _ _ ∙ whole)

pub returns-in_ok-extend_from_slice-in-Second-3 : goal.returns-in_ok-extend_from_slice-in-Second-3
returns-in_ok-extend_from_slice-in-Second-3 c =
    let old = c.args.chunk.now.items in
    let levels = c.in-Second.levels.now in
    let none : size (length levels + 0) ≡ size (length levels) = ap size (omega arith) in
    let whole = ap (λ bytes. old ++ bytes) (sym (ap bytes_of_page c.in-Second.is)) in
    let is = rw (c.in_ok-extend_from_slice-in-Second-3.ensures.items, c.in_ok-extend_from_slice-in-Second-2.ensures.items, c.in_ok-extend_from_slice-in-Second.ensures.items, c.in_ok-push_head-in-Second.ensures, c.size_of-in-Second.ensures, c.twice-in-Second.ensures, c.twice-in-Second-2.ensures, c.size_of-in-Second-2.ensures ∙ none) at c.push_body-in-Second.ensures in
    last_part c.push_body-in-Second.result c.push_body-in-Second.new.chunk.items _ (old ++ bytes_of_page c.args.page) is (five_parts old _ _ _ _ _ ∙ whole)

pub returns-in_ok-extend_from_slice-in-Entries : goal.returns-in_ok-extend_from_slice-in-Entries
returns-in_ok-extend_from_slice-in-Entries c =
    let old = c.args.chunk.now.items in
    let entries = c.in-Entries.entries.now in
    let none : size (length entries + 0) ≡ size (length entries) = ap size (omega arith) in
    let whole = ap (λ bytes. old ++ bytes) (sym (ap bytes_of_page c.in-Entries.is)) in
    let is = rw (c.in_ok-extend_from_slice-in-Entries.ensures.items, c.in_ok-push_head-in-Entries.ensures, c.size_of-in-Entries.ensures ∙ none, c.twice-in-Entries.ensures) at c.extend_from_slice-in-Entries-2.ensures.items in
    last_if c.extend_from_slice-in-Entries-2.result c.extend_from_slice-in-Entries-2.new.self.items _ _ (old ++ bytes_of_page c.args.page) is (three_parts old _ _ _ ∙ whole)
