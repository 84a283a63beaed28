use Rattle.std.proofs.Common.{◌∙◌, List, Option, Some, ap, map, sym}
use Rattle.parquet_read.specs.Asked.{have_one_list}
use Rattle.parquet_read.proofs.ListLemmas.{Lists, Own, lists_shown, own_shown}
use Rattle.parquet_read.proofs.asked.has_one_list_each.Goals as goal

pub returns-in-Some : goal.returns-in-Some
returns-in-Some c =
    c.has_one_list.ensures ∙ ap (λ (l : List Own). have_one_list c.args.fields (Some (map own_shown l))) c.deref.ensures.value
    ∙ sym (ap (λ (pages : Option Lists). have_one_list c.args.fields (lists_shown pages)) c.in-Some.is)
