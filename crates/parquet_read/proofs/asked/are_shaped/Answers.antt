use Rattle.std.proofs.Common.{◌∙◌, List, Option, ap, sym}
use Rattle.std.specs.List.{list_all}
use Rattle.parquet_read.specs.Asked.{are_shaped_pages}
use Rattle.parquet_read.proofs.ListLemmas.{Lists, Own, lists_shown, own_shaped, shaped_alike}
use Rattle.parquet_read.proofs.asked.are_shaped.Goals as goal

pub returns-in-Some : goal.returns-in-Some
returns-in-Some c =
    c.are_shaped_lists.ensures ∙ ap (λ (l : List Own). list_all own_shaped l) c.deref.ensures.value ∙ shaped_alike c.in-Some.lists.items
    ∙ sym (ap (λ (pages : Option Lists). are_shaped_pages (lists_shown pages)) c.in-Some.is)
