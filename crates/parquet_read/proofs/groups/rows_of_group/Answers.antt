use Rattle.std.proofs.Common.{◌≡◌, ◌∙◌, List, Option, true, map, ap, subst, sym}
use Rattle.std.specs.List.{list_all}
use Rattle.parquet_page.specs.Lent.{are_well_shaped}
use Rattle.parquet_read.specs.Asked.{are_shaped_pages}
use Rattle.parquet_read.specs.Groups.{rows_of_group, rows_of_lists}
use Rattle.parquet_read.proofs.ListLemmas.{Lists, Own, lists_shown, own_shown}
use Rattle.parquet_read.proofs.groups.rows_of_group.Goals as goal

pub returns-in-Some : goal.returns-in-Some
returns-in-Some c = λ shaped.
    let own = subst (λ (l : List Own). list_all (list_all are_well_shaped) (map own_shown l) ≡ true → c.rows_of_lists.result ≡ rows_of_lists (map own_shown l)) c.deref.ensures.value c.rows_of_lists.ensures in
    own (subst (λ (pages : Option Lists). are_shaped_pages (lists_shown pages) ≡ true) c.in-Some.is shaped)
    ∙ sym (ap (λ (pages : Option Lists). rows_of_group c.args.group.now (lists_shown pages)) c.in-Some.is)
